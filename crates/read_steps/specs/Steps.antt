-- What the reader's steps that call no other reader promise.
use Rattle.std.specs.Prelude.{Result, Ok, Err, Some, None, ◌≡◌, ℕ, ◌+◌, ◌*◌, ◌-◌, ◌≤◌, ◌<◌, true, List, length, take}
use Rattle.std.specs.declared.option.Option.{Option}
use Rattle.std.proofs.Math.Seq.{slice}
use Rattle.rules.specs.Sizes.{max_document, max_items, max_path}
use Rattle.rules.specs.Refusals.{ok}
use Rattle.rules.specs.Pieces.{Token, starts_simple, simple_at, scalar_text}
use Rattle.text_chars.specs.declared.DocAt.{DocAt}
use Rattle.text_chars.specs.declared.TextAt.{TextAt}
use Rattle.text_chars.specs.declared.TextLen.{TextLen}
use Rattle.text_chars.specs.declared.Refusal.{Refusal}
use Rattle.text_bytes.specs.Clauses.{WriteIs}
use Rattle.doc_items.specs.Codes.{code_of}
use Rattle.doc_items.specs.Writing.{ItemAsked, ItemIs}
use Rattle.doc_items.specs.declared.Item.{Item}
use Rattle.read_values.specs.Fields.Keys.{PutAsked, PutIs}
use Rattle.read_values.specs.declared.Run.{Run}
use Rattle.read_values.specs.Pieces.Pieces.{ScanRefuses, AfterMemberIs, AddPieceAsked, AddPieceIs}
use Rattle.read_values.specs.declared.pieces.Listed.{Listed}
use Rattle.read_values.specs.declared.pieces.Valued.{Valued}
use Rattle.read_values.specs.declared.pieces.PieceItem.{PieceItem}
use Rattle.read_values.specs.declared.pieces.ValueStep.{ValueStep}

-- ---- pieces

pub record ScalarPieceAsked (s : List ℕ) (at items : ℕ) (text : List ℕ) : Type 0 where
  pub short : length s ≤ max_document
  pub inside : at < length s
  pub begins : starts_simple s at ≡ true
  pub few : items < max_items
  pub room : length s ≤ length text + at

abbrev pub Plain : List ℕ → ℕ → ℕ → ℕ → List ℕ → Result (Option PieceItem) Refusal → Type 0
Plain s at w items after (Ok (Some f)) =
    (t : Token) × (simple_at s at ≡ ok t f.next.at.0) × (f.items ≡ items + 1) × (f.kind ≡ code_of t.scalar) × (f.text.0 ≡ w)
    × (f.size.0 ≡ length (scalar_text t.scalar)) × (take f.size.0 after ≡ scalar_text t.scalar) × (f.number ≡ 0)
    × (at < f.next.at.0) × (f.next.at.0 ≤ length s) × (f.size.0 + at ≤ f.next.at.0)
Plain s at w items after (Ok None) = ⊥
Plain s at w items after (Err e) = ScanRefuses (simple_at s at) e.number e.place

pub record ScalarPieceIs (s : List ℕ) (at w items : ℕ) (before after : List ℕ) (r : Result (Option PieceItem) Refusal) : Type 0 where
  pub is : Plain s at w items after r
  pub kept : length after ≡ length before

-- ---- a piece's item

abbrev pub piece_item : ℕ → ℕ → ℕ → ℕ → PieceItem → Item
piece_item place from used items f = record {
  kind = 16 + f.kind;
  size = f.items - items;
  key = record { 0 = used };
  keylen = record { 0 = place - from };
  text = f.text;
  textlen = f.size;
  place = record { 0 = place };
  number = f.number;
}

pub record PutPieceAsked (s : List ℕ) (place from used items : ℕ) (f : PieceItem) (table text : List ℕ) : Type 0 where
  pub short : length s ≤ max_document
  pub inside : place ≤ length s
  pub forward : from ≤ place
  pub more : items ≤ f.items
  pub few : f.items ≤ max_items
  pub kind : f.kind ≤ 10
  pub key : used < 65536
  pub at : f.text.0 < 65536
  pub size : f.size.0 < 65536
  pub number : f.number ≤ max_path
  pub table-room : 8 ≤ length table
  pub text-room : place - from ≤ length text

pub record PutPieceIs (s : List ℕ) (place from used items : ℕ) (f : PieceItem) (table text table' text' : List ℕ) : Type 0 where
  pub item : ItemIs 0 (piece_item place from used items f) table table'
  pub gap : WriteIs (slice from place s) text text' (place - from)

-- ---- what a piece makes of a value

abbrev pub Placeable : List ℕ → ℕ → ℕ → ℕ → Run → ℕ → List ℕ → List ℕ → Result (Option PieceItem) Refusal → Type 0
Placeable s place from used run items table text (Ok (Some f)) = PutPieceAsked s place from used items f table text × AddPieceAsked run f
Placeable s place from used run items table text (Ok None) = Unit {0}
Placeable s place from used run items table text (Err e) = Unit {0}

pub record FinishPieceAsked (s : List ℕ) (place from used : ℕ) (run : Run) (items : ℕ) (r : Result (Option PieceItem) Refusal) (table text : List ℕ) : Type 0 where
  pub is : Placeable s place from used run items table text r

abbrev pub Placed : List ℕ → ℕ → ℕ → ℕ → Run → ℕ → List ℕ → List ℕ → List ℕ → List ℕ → Result (Option ValueStep) Refusal
    → Result (Option PieceItem) Refusal → Type 0
Placed s place from used run items table text table' text' q (Ok (Some f)) =
    PutPieceIs s place from used items f table text table' text' × ((v : ValueStep) × (q ≡ Ok (Some v)) × AddPieceIs run place f v)
Placed s place from used run items table text table' text' q (Ok None) = (q ≡ Ok None) × (table' ≡ table) × (text' ≡ text)
Placed s place from used run items table text table' text' q (Err e) = (q ≡ Err e) × (table' ≡ table) × (text' ≡ text)

pub record FinishPieceIs (s : List ℕ) (place from used : ℕ) (run : Run) (items : ℕ) (r : Result (Option PieceItem) Refusal) (table text table' text' : List ℕ) (q : Result (Option ValueStep) Refusal) : Type 0 where
  pub is : Placed s place from used run items table text table' text' q r

-- ---- what a value makes of a field

abbrev pub Nameable : List ℕ → ℕ → ℕ → ℕ → List ℕ → List ℕ → Result Valued Refusal → Type 0
Nameable s place items count marks table (Ok v) =
    (length s ≤ max_document) × (place ≤ max_document) × (items ≤ v.items) × (v.next.at.0 ≤ length s)
    × PutAsked marks table count (v.items - items) (2 * place) v.kind v.text.0 v.size.0
Nameable s place items count marks table (Err e) = Unit {0}

pub record FinishFieldAsked (s : List ℕ) (place items count : ℕ) (marks : List ℕ) (v : Result Valued Refusal) (table : List ℕ) : Type 0 where
  pub is : Nameable s place items count marks table v

abbrev pub Named : List ℕ → ℕ → ℕ → ℕ → ℕ → List ℕ → List ℕ → List ℕ → Result Listed Refusal → Result Valued Refusal → Type 0
Named s place closing items count marks table table' q (Ok v) =
    PutIs marks table table' count (v.items - items) (2 * place) v.kind v.text.0 v.size.0 × AfterMemberIs closing s v.next.at.0 v.items q
Named s place closing items count marks table table' q (Err e) = (q ≡ Err e) × (table' ≡ table)

pub record FinishFieldIs (s : List ℕ) (place closing items count : ℕ) (marks : List ℕ) (v : Result Valued Refusal) (table table' : List ℕ) (q : Result Listed Refusal) : Type 0 where
  pub is : Named s place closing items count marks table table' q v

-- ---- what a value makes of an element

abbrev pub element_item : ℕ → ℕ → ℕ → TextAt → TextLen → DocAt → Item
element_item items n kind text size place = record {
  kind = kind;
  size = n - items;
  key = record { 0 = 0 };
  keylen = record { 0 = 0 };
  text = text;
  textlen = size;
  place = place;
  number = 0;
}

abbrev pub Listable : List ℕ → ℕ → ℕ → List ℕ → Result Valued Refusal → Type 0
Listable s place items table (Ok v) =
    (length s ≤ max_document) × (items ≤ v.items) × (v.next.at.0 ≤ length s)
    × ItemAsked 0 (element_item items v.items v.kind v.text v.size (record { 0 = place })) table
Listable s place items table (Err e) = Unit {0}

pub record FinishElementAsked (s : List ℕ) (place items : ℕ) (v : Result Valued Refusal) (table : List ℕ) : Type 0 where
  pub is : Listable s place items table v

abbrev pub Lists : List ℕ → ℕ → ℕ → List ℕ → List ℕ → Result Listed Refusal → Result Valued Refusal → Type 0
Lists s place items table table' q (Ok v) =
    ItemIs 0 (element_item items v.items v.kind v.text v.size (record { 0 = place })) table table' × AfterMemberIs 93 s v.next.at.0 v.items q
Lists s place items table table' q (Err e) = (q ≡ Err e) × (table' ≡ table)

pub record FinishElementIs (s : List ℕ) (place items : ℕ) (v : Result Valued Refusal) (table table' : List ℕ) (q : Result Listed Refusal) : Type 0 where
  pub is : Lists s place items table table' q v
