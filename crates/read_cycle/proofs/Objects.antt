-- Objects as containers, and the contracts of their readers by those of containers.
use Rattle.std.specs.Prelude.{Result, Ok, Err}
use mathlib.Core.Path.{◌≡◌, refl}
use Prim.Native.Nat.{ℕ}
use mathlib.Core.List.{List}
use native.Mathlib.Omega.{arith}
use Rattle.rules.specs.Refusals.{got, read_then}
use Rattle.rules.specs.Tree.{Fields}
use Rattle.rules.specs.Reading.{FieldRead, fields_of, field_at, object_at, value_in}
use Rattle.theory.specs.ValueSteps.{field-forward}
use Rattle.text_chars.specs.declared.Refusal.{Refusal}
use Rattle.read_grammar.specs.Limits.Limits.{nesting_of}
use Rattle.read_values.specs.declared.pieces.Listed.{Listed}
use Rattle.read_cycle.specs.Clauses.{Object, AField, ObjectIs, FieldIs}
use Rattle.read_cycle.proofs.Members as M
use Rattle.read_cycle.proofs.Lists.{fields_held, one_field}
use Rattle.read_cycle.proofs.Containers.{Container, WholeRead, OneRead, WholeIs, MemberIs, containers}

pub by_members : (closing : ℕ) (s : List ℕ) (left at items : ℕ) → object_at (value_in s) closing s (nesting_of left) at items
    ≡ read_then (M.members_in closing (field_at (value_in s) s (nesting_of left)) s at items) (λ ms end n. got (fields_of ms) end n)
unfolding object_at
by_members closing s left at items = refl

abbrev pub object_like : ℕ → Container
object_like closing = record {
  Member = FieldRead;
  Whole = Fields;
  holding = fields_held;
  closing = closing;
  member_at = λ s left. field_at (value_in s) s (nesting_of left);
  whole_at = λ s left. object_at (value_in s) closing s (nesting_of left);
  whole = fields_of;
  by_members = by_members closing;
  forward = λ s left h. field-forward s (nesting_of left) (omega arith);
}

module _ {closing : ℕ} {s : List ℕ} {at left items : ℕ} {table text table' text' : List ℕ} {r : Result Listed Refusal} where
  pub object-is : WholeIs (object_like closing) s at left items table text table' text' r → ObjectIs closing s at left items table text table' text' r
  object-is h = record { is = go r h.is; kept_table = h.kept_table; kept-text = h.kept-text }
    where
      go : (r : Result Listed Refusal) → WholeRead (object_like closing) s at left items table' text' r → Object s at left items table' text' closing r
      go (Ok u) v = (fields_of v.0, v.1, v.2, v.3)
      go (Err e) v = v

  pub field_is : FieldIs closing s at left items table text table' text' r → MemberIs (object_like closing) s at left items table text table' text' r
  field_is h = record { is = go r h.is; kept_table = h.kept_table; kept-text = h.kept-text }
    where
      go : (r : Result Listed Refusal) → AField s at left items table' text' closing r → OneRead (object_like closing) s at left items table' text' r
      go (Ok u) v = record { member = v.0; is = v.1; reached = v.2; held = rw (one_field v.0) v.3 }
      go (Err e) v = v

pub ruleset objects = (containers, object-is, field_is)
