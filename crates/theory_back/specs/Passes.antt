-- The look-back in two passes, as the code does it: first how many elements the open field's path has (or that it looks forward), then the layers
-- before the field. That both come to
-- the same is shown in proofs/Passes.antt.
use Rattle.std.specs.Prelude.{◌≡◌, true, false, get_or}
use Rattle.std.proofs.Math.Path.{refl, ap}
use Rattle.std.proofs.Common.{◌∙◌, arith, drop-cons}
use Prim.Native.Nat.{ℕ, zero, suc, ◌+◌, ◌≤◌, ◌<◌}
use mathlib.Core.List.{List, [], ◌∷◌}
use Rattle.std.proofs.Math.Option.{none, some}
use Rattle.std.proofs.Math.ListN.{length, drop}
use Rattle.answers.specs.Theory.Sound.{clash}
use Rattle.rules.specs.Bytes.{Text, same}
use Rattle.rules.specs.Tree.{Key, Fields, Root}
use Rattle.theory_text.specs.Choices.{by-test}
use Rattle.theory_back.specs.LookBack.{Left, next_key, onward, look_back}

-- ---- how many elements

-- one key more
abbrev pub below_one : Text → Fields → ℕ → ℕ
below_one k earlier n = n + 1

abbrev pub looks_back : Root → List Text → ℕ → Left ℕ
looks_back root p b = look_back below_one root p 0 b

-- how many are left
pub dropped : (q : List Text) (n : ℕ) → n ≤ length q → length (drop n q) + n ≡ length q
dropped q zero h = omega arith
dropped [] (suc n) h = absurd (omega arith)
dropped (x ∷ q) (suc n) h = omega (arith, dropped q n (omega arith))

-- ---- one element

module _ {L : Type 0} (below : Text → Fields → L → L) (l : L) (earlier : Fields) (k : Key) where
  next-same : (j : Text) (js : List Text) → same k.text j ≡ true → next_key below (j ∷ js) l earlier k ≡ some (js, below j earlier l)
  unfolding next_key
  next-same j js h =
      by-test (λ y. y ≡ some (js, below j earlier l)) (same k.text j) (λ e. refl) (λ e. clash (cc (e, h)))

  next-other : (j : Text) (js : List Text) → same k.text j ≡ false → next_key below (j ∷ js) l earlier k ≡ none
  unfolding next_key
  next-other j js h = by-test (λ y. y ≡ none) (same k.text j) (λ e. clash (cc (e, h))) (λ e. refl)

  module _ (p : List Text) (i : ℕ) (m : i < length p) where
    at-element : drop i p ≡ get_or p i [] ∷ drop (i + 1) p
    at-element = drop-cons p i [] m ∙ ap (λ n. get_or p i [] ∷ drop n p) (next-is i)
      where
        next-is : (n : ℕ) → suc n ≡ n + 1
        next-is n = omega arith

    -- the key is the path's element
    pub onward-same : same k.text (get_or p i []) ≡ true
        → onward below (some (drop i p, l)) earlier k ≡ some (drop (i + 1) p, below (get_or p i []) earlier l)
    unfolding onward
    onward-same h = ap (λ q. next_key below q l earlier k) at-element ∙ next-same (get_or p i []) (drop (i + 1) p) h

    -- it is not
    pub onward-other : same k.text (get_or p i []) ≡ false → onward below (some (drop i p, l)) earlier k ≡ none
    unfolding onward
    onward-other h = ap (λ q. next_key below q l earlier k) at-element ∙ next-other (get_or p i []) (drop (i + 1) p) h

  -- the path has ended
  pub onward-end : (p : List Text) (i : ℕ) → length p ≤ i → onward below (some (drop i p, l)) earlier k ≡ none
  unfolding onward next_key
  onward-end p i m = ap (λ q. next_key below q l earlier k) (past p i m)
    where
      past : (q : List Text) (j : ℕ) → length q ≤ j → drop j q ≡ []
      past [] zero h = refl
      past [] (suc j) h = refl
      past (x ∷ q) zero h = absurd (omega arith)
      past (x ∷ q) (suc j) h = past q j (omega arith)

pub onward-off : {L : Type 0} (below : Text → Fields → L → L) (earlier : Fields) (k : Key) → onward below none earlier k ≡ none
unfolding onward
onward-off below earlier k = refl
