-- One law for each answer behind a member.
use Rattle.std.specs.Prelude.{Result, Ok, Err}
use mathlib.Core.Path.{◌≡◌, refl}
use mathlib.Core.List.{List}
use Prim.Native.Nat.{ℕ}
use lib.ListN.{length}
use Rattle.rules.specs.Reading as rules
use Rattle.text_chars.specs.declared.Refusal.{Refusal}
use Rattle.text_chars.specs.declared.Cursor.{Cursor}
use Rattle.read_grammar.specs.Decisions.{Placed, PlaceIs}
use Rattle.read_values.specs.Pieces.Pieces.{AfterMemberIs}

module _ {s : List ℕ} {at closing items : ℕ} {r : Result Cursor Refusal} (h : PlaceIs (rules.parted closing s at) s at r) where
  pub behind-done : {c : Cursor} → r ≡ Ok c → AfterMemberIs closing s at items (Ok (record { next = c; items = items }))
  behind-done {c} e =
      let t : Placed (rules.parted closing s at) (length s) at (Ok c) = rw e at h.is in
      record { is = (refl, t.2, t.3, (t.0, t.1)) }

  pub behind-refused : {x : Refusal} → r ≡ Err x → AfterMemberIs closing s at items (Err x)
  behind-refused {x} e =
      let t : Placed (rules.parted closing s at) (length s) at (Err x) = rw e at h.is in record { is = t }

pub ruleset behinds = (behind-done, behind-refused)
