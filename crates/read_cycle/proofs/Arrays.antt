-- Arrays as containers, and the contracts of their readers by those of containers.
use Rattle.std.specs.Prelude.{Result, Ok, Err}
use mathlib.Core.Path.{◌≡◌, refl}
use Prim.Native.Nat.{ℕ}
use mathlib.Core.List.{List}
use native.Mathlib.Omega.{arith}
use Rattle.rules.specs.Refusals.{got, read_then}
use Rattle.rules.specs.Tree.{Node, Elements}
use Rattle.rules.specs.Reading.{elements_from, element_at, array_at, value_in}
use Rattle.theory.specs.ValueSteps.{element-forward}
use Rattle.text_chars.specs.declared.Refusal.{Refusal}
use Rattle.read_grammar.specs.Limits.Limits.{nesting_of}
use Rattle.read_values.specs.declared.pieces.Listed.{Listed}
use Rattle.read_cycle.specs.Clauses.{Array, AnElement, ArrayIs, ElementIs}
use Rattle.read_cycle.proofs.Members as M
use Rattle.read_cycle.proofs.Lists.{elements_held, one-element}
use Rattle.read_cycle.proofs.Containers.{Container, WholeRead, OneRead, WholeIs, MemberIs, containers}

pub by_members : (s : List ℕ) (left at items : ℕ) → array_at (value_in s) s (nesting_of left) at items
    ≡ read_then (M.members_in 93 (element_at (value_in s) s (nesting_of left)) s at items) (λ ms end n. got (elements_from ms) end n)
unfolding array_at
by_members s left at items = refl

abbrev pub array_like : Container
array_like = record {
  Member = Node;
  Whole = Elements;
  holding = elements_held;
  closing = 93;
  member_at = λ s left. element_at (value_in s) s (nesting_of left);
  whole_at = λ s left. array_at (value_in s) s (nesting_of left);
  whole = elements_from;
  by_members = by_members;
  forward = λ s left h. element-forward s (nesting_of left) (omega arith) (omega arith);
}

module _ {s : List ℕ} {at left items : ℕ} {table text table' text' : List ℕ} {r : Result Listed Refusal} where
  pub array-is : WholeIs array_like s at left items table text table' text' r → ArrayIs s at left items table text table' text' r
  array-is h = record { is = go r h.is; kept_table = h.kept_table; kept-text = h.kept-text }
    where
      go : (r : Result Listed Refusal) → WholeRead array_like s at left items table' text' r → Array s at left items table' text' r
      go (Ok u) v = (elements_from v.0, v.1, v.2, v.3)
      go (Err e) v = v

  pub element-is : ElementIs s at left items table text table' text' r → MemberIs array_like s at left items table text table' text' r
  element-is h = record { is = go r h.is; kept_table = h.kept_table; kept-text = h.kept-text }
    where
      go : (r : Result Listed Refusal) → AnElement s at left items table' text' r → OneRead array_like s at left items table' text' r
      go (Ok u) v = record { member = v.0; is = v.1; reached = v.2; held = rw (one-element v.0) v.3 }
      go (Err e) v = v

pub ruleset arrays = (containers, array-is, element-is)
