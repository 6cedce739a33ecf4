-- What the newest question comes to.
use Rattle.std.specs.Prelude.{◌≡◌, ℕ, ◌+◌, ◌-◌, ◌≤◌, ◌<◌, List, [], length, get_or, set}
use Rattle.std.proofs.Math.Option.{none}
use Rattle.answers.specs.Ask.{Trail, lookup, run, value}
use Rattle.answers.specs.Theory.AheadTurns.{fate, fate_of, awaits}
use Rattle.rules.specs.Bytes.{Text}
use Rattle.rules.specs.Sizes.{max_unresolved}
use Rattle.rules.specs.Tree.{Pieces}
use Rattle.rules.specs.Values.{Answer}
use Rattle.rules.specs.Settled.{Given}
use Rattle.rules.specs.Unresolved.{Unresolved}
use Rattle.rules.specs.Documents.{Setting, rule_of}
use Rattle.theory_order.specs.Skeletons.{Needed, needs_of, needs_of_all}
use Rattle.doc_items.specs.Room.{capacity, bytes_room}
use Rattle.eval_writer.specs.Clauses.{Room}
use Rattle.eval_value_laws.specs.Clauses.{Left}
use Rattle.eval_results.specs.Sizes.Outcomes.{OutcomeWithin}
use Rattle.eval_results.specs.declared.sizes.Outcome.{Outcome}
use Rattle.eval_state.specs.State.{State}
use Rattle.eval_concat.specs.Steps.Contracts.{RefusedWith}
use Rattle.eval_trail.specs.Turns.Contracts.{list_room, pieces_at, newest_piece}
use Rattle.eval_question_laws.specs.Clauses.{Asked, Questioned}
use Rattle.eval_unresolved.specs.Pieces.Contracts.{Behind}
use Rattle.eval_unresolved.specs.Clauses.{ValueDone}

-- ---- where a question goes on

module _ (x : Setting) (u : Unresolved) (T : List ℕ) (item m : ℕ) (ss : List Needed) where
  -- at the piece at item m: those from there on need ss
  pub record GoesAt : Type 0 where
    pub rest : Pieces
    pub behind : Behind T (item + 1) u.pieces m rest
    pub needs : needs_of x.document.root x.environment u.openness rest ≡ ss

  -- it has just begun, or goes on there
  pub data Goes : Type 0 where
    begins : m ≡ 0 → needs_of_all x.document.root x.environment u.openness u.pieces ≡ ss → Goes
    further : 0 < m → m ≤ capacity → GoesAt → Goes

pub record FromAsked (n item : ℕ) : Type 0 where
  pub some : 0 < n
  pub few : n ≤ max_unresolved
  pub item-low : item < capacity

pub record FromIs (T L : List ℕ) (n item r : ℕ) : Type 0 where
  pub is : (x : Setting) (key : ℕ → Text) (items : ℕ) (B E : List ℕ) (S : Trail Answer) (base b : ℕ) (u : Unresolved) (ss : List Needed)
      → Questioned x key items T B E S base item b u → Goes x u T item (newest_piece L n) ss → GoesAt x u T item r ss

-- ---- what it comes to

pub record NewestAsked (B E w room L : List ℕ) (base n item : ℕ) : Type 0 where
  pub asked : Asked B E w room base item
  pub some : 0 < n
  pub few : n ≤ max_unresolved
  pub long : list_room ≤ length L

module _ (x : Setting) (key : ℕ → Text) (items : ℕ) (T room : List ℕ) (S : Trail Answer) (b : ℕ) (u : Unresolved) (item p : ℕ) (ss : List Needed) where
  -- it awaits question d, and goes on at the piece at item p
  pub record Awaits (d : ℕ) : Type 0 where
    pub further : List Needed
    pub is : fate (lookup S) ss (rule_of x b) ≡ awaits d further
    pub goes : Goes x u T item p further

  -- its pieces miss nothing, and its rules come to such
  pub record Runs (C : Given Answer → Type 0) : Type 0 where
    pub looked : fate (lookup S) ss (rule_of x b) ≡ fate_of (run (lookup S) (rule_of x b))
    pub comes : C (run (lookup S) (rule_of x b))
    pub goes : Goes x u T item p []

  abbrev pub NewestCase : Outcome → Type 0
  NewestCase (Outcome.Done e) = Runs (λ g. ValueDone key items T room g e)
  NewestCase Outcome.Undefined = Runs (λ g. g ≡ value none)
  NewestCase (Outcome.Needs d) = Awaits d
  NewestCase (Outcome.Refused number place) = Runs (λ g. RefusedWith g number place.0)

pub record NewestIs (T E : List ℕ) (base n item : ℕ) (w w' B B' L L' : List ℕ) (r : Outcome) (after : List ℕ) : Type 0 where
  pub left : Left base w w'
  pub bytes : length B' ≡ length B
  pub beside : (j d : ℕ) → j < bytes_room → get_or B' j d ≡ get_or B j d
  pub whole : Room after
  pub within : OutcomeWithin r
  pub piece : ℕ
  pub list : L' ≡ set L (pieces_at + (n - 1)) piece
  pub is : (x : Setting) (key : ℕ → Text) (items : ℕ) (S : Trail Answer) (b : ℕ) (u : Unresolved) (ss : List Needed)
      → Questioned x key items T B E S base item b u → Goes x u T item (newest_piece L n) ss
      → State x key items T B' S × NewestCase x key items T after S b u item piece ss r
