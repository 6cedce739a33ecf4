-- One law for each answer of the functions that test an environment.
use mathlib.Core.Path.{◌≡◌, refl, sym, ◌∙◌}
use mathlib.Core.Bool.{Bool, true, false}
use mathlib.Core.List.{List, [], ◌∷◌}
use mathlib.Core.Option.{Option, none, some}
use Prim.Native.Nat.{ℕ, suc, ◌+◌, ◌-◌, ◌≤◌, ◌<◌}
use native.Mathlib.Omega.{arith}
use lib.Dec.{leb}
use lib.ListN.{length, drop, drop_of_length-le}
use lib.Seq.{slice}
use borrow.Author.Tests.{le-leb, lt-leb, leb-true, leb-false}
use Rattle.rules.specs.Sizes.{max_environment}
use Rattle.rules.specs.Utf8.{ill_formed}
use Rattle.rules.specs.Environment.{Variable, with_variable, name_from, at_most, entries_of}
use Rattle.text_chars.specs.Cursor.{ill_at}
use Rattle.text_chars.specs.declared.DocAt.{DocAt}
use Rattle.std.specs.Prelude.{Some, None, Option as Maybe}
use Rattle.text_environment.specs.Clauses.{is_some, entries, entry, EntryAt, EntryIs}
use Rattle.text_chars.specs.Clash.{clash}
use Rattle.text_environment.specs.declared.Parts.{Parts}

-- one entry counts one
one_more : (n : ℕ) (e : Variable) (o : Option (List Variable)) → 0 < n → is_some (at_most n (with_variable e o)) ≡ is_some (at_most (n - 1) o)
one_more n e none h = refl
one_more n e (some es) h = go (leb (length es) (n - 1)) refl
  where
    go : (t : Bool) → leb (length es) (n - 1) ≡ t
        → is_some (elim (leb (suc (length es)) n) [ true ↦ some (e ∷ es) | false ↦ none ]) ≡ is_some (elim t [ true ↦ some es | false ↦ none ])
    go true q = rw (le-leb (suc (length es)) n (omega (arith, leb-true (length es) (n - 1) q)))
    go false q = rw (lt-leb (suc (length es)) n (omega (arith, leb-false (length es) (n - 1) q)))

one-many : (e : Variable) (o : Option (List Variable)) → is_some (at_most 0 (with_variable e o)) ≡ false
one-many e none = refl
one-many e (some es) = rw (lt-leb (suc (length es)) 0 (omega arith), at_most)

-- So many entries may still stand from a place on.
pub record Counting (s : List ℕ) (at left : ℕ) : Type 0 where
  pub is : is_some (entries 64 s 0) ≡ is_some (entries left s at)
  pub to : at ≤ length s
  pub few : left ≤ 64

pub count-start : {s : List ℕ} → Counting s 0 64
count-start = record { is = refl; to = omega arith; few = omega arith }

module _ {s : List ℕ} {at left : ℕ} (C : Counting s at left) where
  pub count-end : length s ≤ at → true ≡ is_some (entries 64 s 0)
  unfolding name_from
  count-end h = sym (C.is ∙ rw (drop_of_length-le s h) (rw (le-leb 0 left (omega arith), at_most)))

  module _ {r : Maybe Parts} (h : EntryIs s at r) where
    pub count-broken : r ≡ None → false ≡ is_some (entries 64 s 0)
    count-broken e = let i : EntryAt s at None = rw e at h.is in sym (C.is ∙ rw i)

    module _ {p : Parts} (e : r ≡ Some p) where
      abbrev here : Variable
      here = entry s (slice at p.equals.0 s) (p.equals.0 + 1) p.zero.0

      i : EntryAt s at (Some p)
      i = rw e at h.is

      pub count-many : left ≡ 0 → false ≡ is_some (entries 64 s 0)
      count-many l = sym (C.is ∙ rw (l, i.3) (one-many here (name_from [] (drop (p.zero.0 + 1) s))))

      pub count-more : (left ≡ 0 → ⊥) → Counting s (p.zero.0 + 1) (left - 1)
      count-more l = record {
        is = C.is ∙ rw i.3 (one_more left here (name_from [] (drop (p.zero.0 + 1) s)) (omega (arith, l)));
        to = omega (arith, i.2);
        few = omega (arith, C.few);
      }

-- the whole environment
module _ (s : List ℕ) where
  pub valid-long : max_environment < length s → false ≡ is_some (entries_of s)
  unfolding entries_of
  valid-long h = rw (lt-leb (length s) max_environment h, entries_of)

  module _ {r : Maybe DocAt} (u : r ≡ ill_at (ill_formed s)) (h : length s ≤ max_environment) where
    pub valid-ill : {p : DocAt} → r ≡ Some p → false ≡ is_some (entries_of s)
    unfolding entries_of
    valid-ill {p} e = go (ill_formed s) refl (sym u ∙ e)
      where
        go : (o : Option ℕ) → ill_formed s ≡ o → ill_at o ≡ Some p → false ≡ is_some (entries_of s)
        go none q z = clash (cc)
        go (some place) q z = rw (le-leb (length s) max_environment h, q, entries_of)

    pub valid-formed : {f : Bool} → r ≡ None → f ≡ is_some (entries 64 s 0) → f ≡ is_some (entries_of s)
    unfolding entries_of
    valid-formed {f} e k = go (ill_formed s) refl (sym u ∙ e)
      where
        go : (o : Option ℕ) → ill_formed s ≡ o → ill_at o ≡ None → f ≡ is_some (entries_of s)
        go none q z = rw (le-leb (length s) max_environment h, q, entries_of) k
        go (some place) q z = clash (cc)

pub ruleset counts = (count-start, count-end, count-broken, count-many, count-more)

pub ruleset valids = (valid-long, valid-ill, valid-formed)
