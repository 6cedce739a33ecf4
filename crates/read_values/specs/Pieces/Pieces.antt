-- What a piece makes of a value, and what a value's end promises.
use Rattle.std.specs.Prelude.{Result, Ok, Err, Some, None, ◌≡◌, ℕ, ◌+◌, ◌*◌, ◌-◌, ◌≤◌, ◌<◌, Bool, true, false, List, ◌⊎◌, length}
use Rattle.std.specs.declared.option.Option.{Option as Maybe}
use Rattle.rules.specs.Sizes.{max_document}
use Rattle.rules.specs.Refusals.{Refusal, placed, number_of, place_of, not_allowed, Scan, ok, refused, Read, got}
use Rattle.rules.specs.Tree.{Node, Pieces, no_pieces}
use Rattle.rules.specs.Reading.{judge_value, parted}
use Rattle.text_chars.specs.declared.DocAt.{DocAt}
use Rattle.text_chars.specs.declared.Refusal.{Refusal as Refused}
use Rattle.read_values.specs.Runs.{piece_room, RunOf, AddIs, Comes}
use Rattle.read_values.specs.declared.Run.{Run}
use Rattle.read_values.specs.declared.pieces.Listed.{Listed}
use Rattle.read_values.specs.declared.pieces.Valued.{Valued}
use Rattle.read_values.specs.declared.pieces.PieceItem.{PieceItem}
use Rattle.read_values.specs.declared.pieces.ValueStep.{ValueStep}

-- a reading is refused by this number at this place
abbrev pub Refuses : {A : Type 0} → Read A → ℕ → DocAt → Type 0
Refuses m k p = (x : Refusal) × (m ≡ refused x) × (k ≡ number_of x) × (p.0 ≡ place_of x)

abbrev pub ScanRefuses : {A : Type 0} → Scan A → ℕ → DocAt → Type 0
ScanRefuses m k p = (x : Refusal) × (m ≡ refused x) × (k ≡ number_of x) × (p.0 ≡ place_of x)

-- ---- behind a member

abbrev pub Behind : ℕ → List ℕ → ℕ → ℕ → Result Listed Refused → Type 0
Behind closing s at items (Ok v) =
    (v.items ≡ items) × (at ≤ v.next.at.0) × (v.next.at.0 ≤ length s) × ((p : ℕ) × (parted closing s at ≡ ok p v.next.at.0))
Behind closing s at items (Err e) = ScanRefuses (parted closing s at) e.number e.place

pub record AfterMemberIs (closing : ℕ) (s : List ℕ) (at items : ℕ) (r : Result Listed Refused) : Type 0 where
  pub is : Behind closing s at items r

-- ---- the end of a value

pub record FinishValueAsked (s : List ℕ) (at start used : ℕ) : Type 0 where
  pub short : length s ≤ max_document
  pub inside : at ≤ length s
  pub forward : start ≤ used

-- a value's text stands from its start up to what is used
abbrev pub Finished : List ℕ → ℕ → Pieces → ℕ → ℕ → ℕ → Result Valued Refused → Type 0
Finished s at ps items start used (Ok v) =
    (v.next.at.0 ≡ at) × (v.items ≡ items) × ((b : Bool) × (node : Node) × Comes ps v.kind b node × (judge_value ps at items ≡ got node at items)
    × (b ≡ true → (v.text.0 ≡ start) × (v.size.0 ≡ used - start)) × (b ≡ false → (v.text.0 ≡ 0) × (v.size.0 ≡ 0)))
Finished s at ps items start used (Err e) =
    ((ps ≡ no_pieces) × (e.number ≡ number_of (not_allowed s at)) × (e.place.0 ≡ place_of (not_allowed s at)))
    ⊎ ((e.number ≡ 11) × (judge_value ps at items ≡ refused (placed 11 e.place.0)))

pub record FinishIs (s : List ℕ) (at : ℕ) (run : Run) (items start used : ℕ) (r : Result Valued Refused) : Type 0 where
  pub is : (ps : Pieces) → RunOf run ps → Finished s at ps items start used r

-- ---- an array or an object that is a piece

abbrev pub Nested : Result Listed Refused → ℕ → Result (Maybe PieceItem) Refused → Type 0
Nested (Ok v) kind (Ok (Some f)) =
    (f.next ≡ v.next) × (f.items ≡ v.items) × (f.kind ≡ kind) × (f.text.0 ≡ 0) × (f.size.0 ≡ 0) × (f.number ≡ 0)
Nested (Ok v) kind (Ok None) = ⊥
Nested (Ok v) kind (Err e) = ⊥
Nested (Err e) kind r = r ≡ Err e

pub record ContainerPieceIs (r : Result Listed Refused) (kind : ℕ) (p : Result (Maybe PieceItem) Refused) : Type 0 where
  pub is : Nested r kind p

-- ---- one piece more

pub record AddPieceAsked (run : Run) (f : PieceItem) : Type 0 where
  pub few : run.count ≤ piece_room
  pub end : f.next.at.0 ≤ max_document
  pub at : f.text.0 < 65536
  pub size : f.size.0 < 65536

pub record AddPieceIs (run : Run) (place : ℕ) (f : PieceItem) (r : ValueStep) : Type 0 where
  pub next : r.next ≡ f.next
  pub items : r.items ≡ f.items
  pub run-is : AddIs run f.kind place r.run
  pub simple : f.kind ≤ 5 → r.used.0 ≡ f.text.0 + f.size.0
  pub other : 5 < f.kind → r.used.0 ≡ 2 * f.next.at.0
