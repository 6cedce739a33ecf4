-- What the answers say, for the callers: of an environment that is by its rule, and of an entry.
use Rattle.std.specs.Prelude.{◌≡◌, refl, ℕ, ◌+◌, ◌-◌, ◌≤◌, ◌<◌, Bool, true, false, List, [], leb, length, Option as Maybe, Some}
use Rattle.std.proofs.Common.{sym, ◌∙◌, arith, Fits, leb-true}
use Rattle.std.proofs.Math.Option.{Option, none, some}
use Rattle.std.specs.Int.{w64}
use Rattle.rules.specs.Sizes.{max_entries, max_environment}
use Rattle.rules.specs.Utf8.{ill_formed}
use Rattle.rules.specs.Environment.{Variable, name_from, at_most, entries_of}
use Rattle.text_chars.specs.Clash.{clash}
use Rattle.text_environment.specs.Clauses.{is_some, EntryAt, EntryIs}
use Rattle.text_environment.specs.declared.Parts.{Parts}

-- ---- an environment that is by its rule, or not

module _ (s : List ℕ) {f : Bool} (h : f ≡ is_some (entries_of s)) where
  pub valid-is : f ≡ true → (es : List Variable) × (entries_of s ≡ some es)
  valid-is e = go (entries_of s) (sym h ∙ e)
    where
      go : (o : Option (List Variable)) → is_some o ≡ true → (es : List Variable) × (o ≡ some es)
      go none q = clash (cc)
      go (some es) q = (es, refl)

  pub invalid-is : f ≡ false → entries_of s ≡ none
  invalid-is e = go (entries_of s) (sym h ∙ e)
    where
      go : (o : Option (List Variable)) → is_some o ≡ false → o ≡ none
      go none q = refl
      go (some es) q = clash (cc)

-- it is short enough to be asked, and its entries are what its bytes are read as
pub accepted-is : (s : List ℕ) (es : List Variable) → entries_of s ≡ some es → (length s ≤ max_environment) × (name_from [] s ≡ some es)
unfolding entries_of
accepted-is s es e = long (leb (length s) max_environment) refl e
  where
    few : (es' : List Variable) (t : Bool) → elim t [ true ↦ some es' | false ↦ none ] ≡ some es → some es' ≡ some es
    few es' true q = q
    few es' false q = clash (cc)

    count : (o : Option (List Variable)) → at_most max_entries o ≡ some es → o ≡ some es
    count none q = clash (cc)
    count (some es') q = few es' (leb (length es') max_entries) q

    ill : (o : Option ℕ) → elim o [ some place ↦ none | none ↦ at_most max_entries (name_from [] s) ] ≡ some es → name_from [] s ≡ some es
    ill none q = count (name_from [] s) q
    ill (some place) q = clash (cc)

    long : (t : Bool) → leb (length s) max_environment ≡ t
        → elim t [ false ↦ none | true ↦ elim (ill_formed s) [ some place ↦ none | none ↦ at_most max_entries (name_from [] s) ] ] ≡ some es
        → (length s ≤ max_environment) × (name_from [] s ≡ some es)
    long false l q = clash (cc)
    long true l q = (leb-true (length s) max_environment l, ill (ill_formed s) q)

-- ---- an entry's places, in order

module _ {s : List ℕ} {at : ℕ} {r : Maybe Parts} (h : EntryIs s at r) {p : Parts} (e : r ≡ Some p) where
  ordered : (at < p.equals.0) × (p.equals.0 < p.zero.0) × (p.zero.0 < length s)
  ordered = let i : EntryAt s at (Some p) = rw e at h.is in (i.0, i.1, i.2)

  pub name-from : at ≤ p.equals.0
  name-from = omega (arith, ordered.0)

  pub name-inside : p.equals.0 ≤ length s
  name-inside = omega (arith, ordered.1, ordered.2)

  pub equals-fits : length s ≤ max_environment → Fits w64 (p.equals.0 + 1)
  equals-fits l = record { fits = omega (arith, name-inside) }

  pub zero-fits : length s ≤ max_environment → Fits w64 (p.zero.0 + 1)
  zero-fits l = record { fits = omega (arith, ordered.2) }

  pub equals-zero : p.equals.0 ≤ p.zero.0
  equals-zero = omega (arith, ordered.1)

  pub equals-before : 1 ≤ p.zero.0 - p.equals.0
  equals-before = omega (arith, ordered.1)

  pub zero-less : length s - (p.zero.0 + 1) < length s - at
  zero-less = omega (arith, ordered)

pub ruleset places = (arith, name-from, name-inside, equals-fits, zero-fits, equals-zero, equals-before, zero-less)
