-- What the reader of a substitution promises of it as a piece.
use Rattle.std.specs.Prelude.{Result, Ok, Err, Some, None, ◌≡◌, ℕ, ◌+◌, ◌*◌, ◌≤◌, ◌<◌, List, length, take}
use Rattle.std.specs.declared.option.Option.{Option}
use Rattle.rules.specs.Sizes.{max_document, max_items, max_path}
use Rattle.rules.specs.Bytes.{byte_at}
use Rattle.rules.specs.Refusals.{ok}
use Rattle.rules.specs.Paths.{substitution_at}
use Rattle.rules.specs.Tree.{Substitution}
use Rattle.doc_items.specs.Codes.{reference_code, path_texts, path_bytes}
use Rattle.read_values.specs.Pieces.Pieces.{ScanRefuses}
use Rattle.text_chars.specs.declared.Refusal.{Refusal}
use Rattle.read_values.specs.declared.pieces.PieceItem.{PieceItem}

pub record ReferencePieceAsked (s : List ℕ) (at items : ℕ) (text : List ℕ) : Type 0 where
  pub short : length s ≤ max_document
  pub inside : at + 1 < length s
  pub first : byte_at s at ≡ 36
  pub second : byte_at s (at + 1) ≡ 123
  pub few : items < max_items
  pub room : 2 * length s ≤ length text + 2 * at

abbrev pub Linked : List ℕ → ℕ → ℕ → ℕ → List ℕ → Result (Option PieceItem) Refusal → Type 0
Linked s at w items after (Ok (Some f)) =
    (x : Substitution) × (substitution_at s at ≡ ok x f.next.at.0) × (x.place ≡ at) × (f.items ≡ items + 1)
    × (f.kind ≡ reference_code x.optional) × (f.text.0 ≡ w) × (f.number ≡ length x.path) × (f.number ≤ max_path)
    × (f.size.0 ≡ length (path_texts x.path)) × (take (f.size.0 + 2 * f.number) after ≡ path_bytes x.path)
    × (at < f.next.at.0) × (f.next.at.0 ≤ length s) × (f.size.0 + 2 * f.number + 2 * at ≤ 2 * f.next.at.0)
Linked s at w items after (Ok None) = ⊥
Linked s at w items after (Err e) = ScanRefuses (substitution_at s at) e.number e.place

pub record ReferencePieceIs (s : List ℕ) (at w items : ℕ) (before after : List ℕ) (r : Result (Option PieceItem) Refusal) : Type 0 where
  pub is : Linked s at w items after r
  pub kept : length after ≡ length before
