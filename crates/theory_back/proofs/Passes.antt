-- The look-back in two passes: both come to the same, and what the first counted is within the path.
use Rattle.std.specs.Prelude.{◌≡◌}
use Rattle.std.proofs.Math.Path.{refl, ap}
use Rattle.std.proofs.Common.{sym, ◌∙◌, arith, drop-drop}
use Prim.Native.Nat.{ℕ, ◌+◌, ◌≤◌, ◌<◌}
use mathlib.Core.List.{List, [], ◌∷◌}
use Rattle.std.proofs.Math.Option.{none, some}
use Rattle.std.proofs.Math.ListN.{length, drop}
use Rattle.answers.specs.Theory.Sound.{clash}
use Rattle.rules.specs.Bytes.{Text, same}
use Rattle.rules.specs.Tree.{Key, Fields, no_fields, Root, fields, elements, root_node}
use Rattle.theory_text.specs.Choices.{by-test}
use Rattle.theory_back.specs.Descent.{down_node, down_fields}
use Rattle.theory_back.specs.LookBack.{Left, next_key, onward, look_back, carried}
use Rattle.theory_back.specs.Passes.{below_one, looks_back}
use Rattle.theory_back.proofs.Descent.{keeps-node, keeps-entered}
use Rattle.theory_back.proofs.LookBack.{look-carried}

-- ---- how many elements

-- what is left is the path without so many elements
abbrev Counts : List Text → Left ℕ → Type 0
Counts p none = Unit {0}
Counts p (some s) = s.0 ≡ drop s.1 p

drop-one : (j : Text) (js p : List Text) (n : ℕ) → j ∷ js ≡ drop n p → js ≡ drop (n + 1) p
drop-one j js p n e = ap (drop 1) e ∙ drop-drop 1 n p

counts-next : (p q : List Text) (n : ℕ) (earlier : Fields) (k : Key) → q ≡ drop n p → Counts p (next_key below_one q n earlier k)
unfolding next_key
counts-next p [] n earlier k e = tt
counts-next p (j ∷ js) n earlier k e = by-test (Counts p) (same k.text j) (λ z. drop-one j js p n e) (λ z. tt)

counts-onward : (p : List Text) (x : Left ℕ) (earlier : Fields) (k : Key) → Counts p x → Counts p (onward below_one x earlier k)
unfolding onward
counts-onward p none earlier k c = tt
counts-onward p (some s) earlier k c = counts-next p s.0 s.1 earlier k c

pub looks-counts : (root : Root) (p : List Text) (b : ℕ) (rest : List Text) (own : ℕ) → looks_back root p b ≡ some (rest, own) → rest ≡ drop own p
looks-counts root p b rest own e =
    let c = keeps-node none (onward below_one) (Counts p) tt (counts-onward p) (some (p, 0)) 0 (root_node root) b refl in
    subst-counts c
  where
    subst-counts : Counts p (looks_back root p b) → rest ≡ drop own p
    subst-counts c = rw e at c

-- ---- both passes come to the same

module _ {L : Type 0} (below : Text → Fields → L → L) (root : Root) (p : List Text) (l : L) (b : ℕ) where
  abbrev rest_of : Left (Unit {0}) → List Text
  rest_of none = []
  rest_of (some s) = s.0

  abbrev nothing : {M : Type 0} → M → Unit {0}
  nothing m = tt

  abbrev below_none : Text → Fields → Unit {0} → Unit {0}
  below_none k earlier u = tt

  both : carried {M = Unit {0}} nothing (look_back below root p l b) ≡ carried {M = Unit {0}} nothing (looks_back root p b)
  both =
      look-carried below below_none nothing (λ k e m. refl) root p l b
      ∙ sym (look-carried below_one below_none nothing (λ k e m. refl) root p 0 b)

  -- the first pass looks forward: so does the second
  pub forward-both : looks_back root p b ≡ none → look_back below root p l b ≡ none
  forward-both e = go (look_back below root p l b) (both ∙ ap (carried nothing) e)
    where
      go : (x : Left L) → carried {M = Unit {0}} nothing x ≡ none → x ≡ none
      go none z = refl
      go (some s) z = clash (cc z)

  -- the first pass counts `own` elements: the second has layers, and what is left is the path behind them
  pub back-both : (rest : List Text) (own : ℕ) → looks_back root p b ≡ some (rest, own) → (m : L) × (look_back below root p l b ≡ some (drop own p, m))
  back-both rest own e = go (look_back below root p l b) (both ∙ ap (carried nothing) e)
    where
      go : (x : Left L) → carried {M = Unit {0}} nothing x ≡ some (rest, tt) → (m : L) × (x ≡ some (drop own p, m))
      go none z = clash (cc z)
      go (some s) z =
          let q : s.0 ≡ rest = ap (λ (y : Left (Unit {0})). rest_of y) z in
          (s.1, ap (λ (r : List Text). some (r, s.1)) (q ∙ looks-counts root p b rest own e))

-- ---- each field takes an element: the second pass has done when it has gone as far as the first counted

module _ {L : Type 0} (below : Text → Fields → L → L) where
  abbrev Shorter : ℕ → Left L → Type 0
  Shorter n none = Unit {0}
  Shorter n (some s) = length s.0 < n

  shorter-next : (n : ℕ) (q : List Text) (l : L) (earlier : Fields) (k : Key) → length q ≤ n → Shorter n (next_key below q l earlier k)
  unfolding next_key
  shorter-next n [] l earlier k h = tt
  shorter-next n (j ∷ js) l earlier k h = by-test (Shorter n) (same k.text j) (λ z. omega arith) (λ z. tt)

  shorter-onward : (n : ℕ) (x : Left L) (earlier : Fields) (k : Key) → Shorter n x → Shorter n (onward below x earlier k)
  unfolding onward
  shorter-onward n none earlier k h = tt
  shorter-onward n (some s) earlier k h = shorter-next n s.0 s.1 earlier k (omega arith)

  pub shorter : (q : List Text) (l : L) (from : ℕ) (fs : Fields) (b : ℕ) (rest : List Text) (m : L)
      → down_fields none (onward below) (some (q, l)) no_fields from fs b ≡ some (rest, m) → length rest < length q
  unfolding onward
  shorter q l from fs b rest m e =
      rw e at (keeps-entered none (onward below) (Shorter (length q)) tt (shorter-onward (length q)) (some (q, l))
      (λ earlier k. shorter-next (length q) q l earlier k (omega arith)) no_fields from fs b)

-- ---- what was counted is within the path

abbrev Sums : List Text → Left ℕ → Type 0
Sums p none = Unit {0}
Sums p (some s) = length s.0 + s.1 ≡ length p

sums_next : (p q : List Text) (n : ℕ) (earlier : Fields) (k : Key) → length q + n ≡ length p → Sums p (next_key below_one q n earlier k)
unfolding next_key
sums_next p [] n earlier k e = tt
sums_next p (j ∷ js) n earlier k e = by-test (Sums p) (same k.text j) (λ z. omega (arith, e)) (λ z. tt)

sums-onward : (p : List Text) (x : Left ℕ) (earlier : Fields) (k : Key) → Sums p x → Sums p (onward below_one x earlier k)
unfolding onward
sums-onward p none earlier k c = tt
sums-onward p (some s) earlier k c = sums_next p s.0 s.1 earlier k c

pub looks-within : (root : Root) (p : List Text) (b : ℕ) (rest : List Text) (own : ℕ) → looks_back root p b ≡ some (rest, own)
    → length rest + own ≡ length p
looks-within root p b rest own e =
    rw e at (keeps-node none (onward below_one) (Sums p) tt (sums-onward p) (some (p, 0)) 0 (root_node root) b (omega arith))

-- and it is one at least
abbrev Some : Left ℕ → Type 0
Some none = Unit {0}
Some (some s) = 0 < s.1

some_next : (q : List Text) (n : ℕ) (earlier : Fields) (k : Key) → Some (next_key below_one q n earlier k)
unfolding next_key
some_next [] n earlier k = tt
some_next (j ∷ js) n earlier k = by-test Some (same k.text j) (λ z. omega arith) (λ z. tt)

some-onward : (x : Left ℕ) (earlier : Fields) (k : Key) → Some x → Some (onward below_one x earlier k)
unfolding onward
some-onward none earlier k c = tt
some-onward (some s) earlier k c = some_next s.0 s.1 earlier k

some-root : (root : Root) (p : List Text) (b : ℕ) → Some (looks_back root p b)
unfolding down_node onward
some-root (fields fs) p b =
    keeps-entered none (onward below_one) Some tt some-onward (some (p, 0)) (λ earlier k. some_next p 0 earlier k) no_fields 0 fs b
some-root (elements es) p b = tt

pub looks-some : (root : Root) (p : List Text) (b : ℕ) (rest : List Text) (own : ℕ) → looks_back root p b ≡ some (rest, own) → 0 < own
looks-some root p b rest own e = rw e at (some-root root p b)
