-- What beginning and laying promise: what holds between two turns of the order goes on to hold, and the rules' tests came out so. A refusal leaves
-- the job's memory as it is: the questions that have begun are run against it once more.
use Rattle.std.specs.Prelude.{◌≡◌, Bool, true, false, List, ◌∷◌, ℕ, suc, ◌+◌, ◌*◌, ◌≤◌, ◌<◌, length, get_or, Result, Ok, Err}
use Rattle.std.proofs.Math.Option.{none, some}
use Rattle.answers.specs.Ask.{Trail, lookup}
use Rattle.answers.specs.Theory.Fuel.{begun}
use Rattle.rules.specs.Bytes.{Text}
use Rattle.rules.specs.Sizes.{max_unresolved, max_records, max_text, max_room}
use Rattle.rules.specs.Refusals.{placed}
use Rattle.rules.specs.Values.{Answer}
use Rattle.rules.specs.Sheet.{trail_size, trail_text_size, trail_fits}
use Rattle.theory_order.specs.Clauses.{Task, questions_of, bar_of}
use Rattle.sheet_kept.specs.Kept.{Held, named}
use Rattle.sheet_sizes.specs.Clauses.{EntryFitsIs}
use Rattle.sheet_sizes.specs.declared.Sizes.{Sizes}
use Rattle.read_numbering.specs.Clauses.{item_of}
use Rattle.text_chars.specs.declared.Refusal.{Refusal}
use Rattle.eval_writer.specs.declared.Out.{Out}
use Rattle.eval_store.specs.Values.Contracts.{Full}
use Rattle.eval_store.specs.Entries.Contracts.{TrailIs}
use Rattle.eval_state.specs.Memories.{begun_at, job_table, job_bytes}
use Rattle.eval_state.specs.State.{State}
use Rattle.eval_state.specs.Later.{Later}
use Rattle.eval_state.specs.Clauses.{Finished}
use Rattle.eval_trail.specs.declared.Progress.{Progress}

abbrev pub mark_of : Bool → ℕ
mark_of true = 1
mark_of false = 0

-- What holds between two turns, of a task, a stack of questions that have begun, a trail and a count: all of them stand in the job's
-- memory and in the caller's buffers, which are as long as the task's rooms.
pub record Holding (t : Task) (key : ℕ → Text) (items : ℕ) (T B trail text : List ℕ) (p : Progress) (stack : List ℕ) (S : Trail Answer) (n : ℕ) : Type 0 where
  pub state : State t.setting key items T B S
  pub marks : (b : ℕ) → b < max_unresolved → get_or T (begun_at + b) 0 ≡ mark_of (begun S stack b)
  -- what is not used yet
  pub rest : List ℕ
  pub more : List ℕ
  pub laid : TrailIs S trail text rest more
  pub used : p.used.0 ≡ trail_size S
  pub texts : p.text.0 ≡ trail_text_size S
  pub count : p.begun ≡ n
  pub trail-room : length trail ≡ t.trail_room
  pub text-room : length text ≡ t.text_room

-- ---- the first byte of an unresolved value

abbrev pub PlaceAsked : ℕ → Type 0
PlaceAsked b = b < max_unresolved

pub record PlaceIs (T : List ℕ) (b r : ℕ) : Type 0 where
  pub is : r ≡ get_or T (8 * (item_of T b + 1) + 6) 0

-- ---- `begin`: 10 first, then 12

pub record BeginAsked (T : List ℕ) (b : ℕ) : Type 0 where
  pub number : b < max_unresolved
  pub table : job_table ≤ length T

abbrev pub Begins : (t : Task) (key : ℕ → Text) (items : ℕ) (T T' B trail text : List ℕ) (stack : List ℕ) (S : Trail Answer) (n b : ℕ) → Result Progress Refusal → Type 0
Begins t key items T T' B trail text stack S n b (Ok q) =
    (bar_of t stack n b ≡ none) × Holding t key items T' B trail text q (b ∷ stack) S (suc n) × Later T B S T' B S
Begins t key items T T' B trail text stack S n b (Err x) = (bar_of t stack n b ≡ some (placed x.number x.place.0)) × (T' ≡ T)

pub record BeginIs (b : ℕ) (p : Progress) (budget : ℕ) (T T' : List ℕ) (r : Result Progress Refusal) : Type 0 where
  pub is : (t : Task) (key : ℕ → Text) (items : ℕ) (B trail text stack : List ℕ) (S : Trail Answer) (n : ℕ) → budget ≡ t.budget → b < questions_of t
      → lookup S b ≡ none → Holding t key items T B trail text p stack S n → Begins t key items T T' B trail text stack S n b r

-- ---- laying

abbrev pub sizes : ℕ → ℕ → Sizes
sizes r t = record { rec = record { 0 = r }; text = record { 0 = t } }

-- an answer that was written up to o
pub record RoomAsked (p : Progress) (o : Out) : Type 0 where
  pub used : p.used.0 ≤ max_room
  pub texts : p.text.0 ≤ max_room
  pub records-small : o.rec.0 ≤ max_records
  pub texts-small : o.text.0 ≤ max_text

pub record RoomIs (p : Progress) (o : Out) (trail text : List ℕ) (r : Bool) : Type 0 where
  pub is : EntryFitsIs (sizes (length trail) (length text)) (sizes p.used.0 p.text.0) (sizes o.rec.0 o.text.0) r

pub record MoreIs (p : Progress) (o : Out) (r : Progress) : Type 0 where
  pub used : r.used.0 ≡ p.used.0 + 3 + o.rec.0
  pub texts : r.text.0 ≡ p.text.0 + o.text.0
  pub count : r.begun ≡ p.begun

-- an answer's entry is laid, or it does not fit
abbrev pub Lays : (t : Task) (key : ℕ → Text) (items : ℕ) (T T' B B' trail text stack : List ℕ) (S : Trail Answer) (n b : ℕ) (a : Answer) → Result Progress Refusal → Type 0
Lays t key items T T' B B' trail text stack S n b a (Ok q) =
    (trail_fits t.trail_room t.text_room ((b, a) ∷ S) ≡ true) × Holding t key items T' B' trail text q stack ((b, a) ∷ S) n
    × Later T B S T' B' ((b, a) ∷ S)
Lays t key items T T' B B' trail text stack S n b a (Err x) =
    (trail_fits t.trail_room t.text_room ((b, a) ∷ S) ≡ false) × (x.number ≡ 14) × (x.place.0 ≡ 0) × (T' ≡ T) × (B' ≡ B)

pub record LayAsked (T B room : List ℕ) (o : Out) (b : ℕ) (p : Progress) (trail text : List ℕ) : Type 0 where
  pub full : Full room o
  pub number : b < max_unresolved
  pub table : job_table ≤ length T
  pub bytes : job_bytes ≤ length B
  pub used : p.used.0 ≤ max_room
  pub texts : p.text.0 ≤ max_room
  pub trail-room : length trail ≤ max_room
  pub text-room : length text ≤ max_room

pub record LayIs (room : List ℕ) (o : Out) (b : ℕ) (p : Progress) (T T' B B' trail trail' text text' : List ℕ) (r : Result Progress Refusal) : Type 0 where
  pub is : (t : Task) (key : ℕ → Text) (items : ℕ) (stack : List ℕ) (S : Trail Answer) (n : ℕ) (v : Held) → Holding t key items T B trail text p (b ∷ stack) S n
      → Finished key items T room o v → Lays t key items T T' B B' trail' text' stack S n b (some (named key v)) r

-- a question that is undefined has no texts
pub record NoneAsked (T : List ℕ) (b : ℕ) (p : Progress) (trail text : List ℕ) : Type 0 where
  pub number : b < max_unresolved
  pub table : job_table ≤ length T
  pub used : p.used.0 ≤ max_room
  pub texts : p.text.0 ≤ max_room
  pub trail-room : length trail ≤ max_room

pub record NoneIs (b : ℕ) (p : Progress) (T T' trail trail' text : List ℕ) (r : Result Progress Refusal) : Type 0 where
  pub is : (t : Task) (key : ℕ → Text) (items : ℕ) (B stack : List ℕ) (S : Trail Answer) (n : ℕ) → Holding t key items T B trail text p (b ∷ stack) S n
      → Lays t key items T T' B B trail' text stack S n b none r
