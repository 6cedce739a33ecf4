-- Layers that fit: their unresolved values have numbers below N; and, where it is strict, they are at most j high and no key stands twice
-- in a finished object. What counts of a key's layers fits one lower.
use Rattle.std.specs.Prelude.{◌≡◌, ℕ, pred, ◌≤◌, Bool, true, false}
use Rattle.std.proofs.Math.Path.{refl}
use Rattle.std.proofs.Common.{sym, ◌∙◌, arith}
use mathlib.Core.List.{List, [], ◌∷◌, reverse}
use Rattle.std.proofs.Math.Option.{Option, none, some}
use Rattle.answers.specs.Ask.{Out, value, missing, or_missing, run}
use Rattle.answers.specs.Theory.Sound.{clash}
use Rattle.rules.specs.Bytes.{Text}
use Rattle.rules.specs.Tree.{simple, array, object, unresolved}
use Rattle.rules.specs.Values.{Value, scalar, array_of, object_of, Answer}
use Rattle.rules.specs.Layers.{Work, Layer, written, settled, Layers, end, layer, wait, deeper, layers_of, Counted, nothing, one, merged, of_objects, of_other, take_value, take_answer, take_layer, gather}
use Rattle.theory.specs.Ends.{When, WithinSize, nested}
use Rattle.theory.specs.Reach.{Each, each-reverse, Low, AllLow, deeper-low}
use Rattle.rules.specs.NamedValues.{DistinctAnswer}
use Rattle.theory.specs.DistinctAnswers.{DistinctLayer, DistinctLayers, deeper-distinct}
use Rattle.rules.specs.Settled.{Given}
use Rattle.theory_order.specs.Settle.{key_in}
use Rattle.theory_order.specs.Settling.{key-gathers}

-- an answer as a trail that is laid holds it
abbrev pub Proper : Answer → Type 0
Proper a = WithinSize a × DistinctAnswer a

-- a layer that is no unresolved value
abbrev pub Plain : Layer → Type 0
Plain (settled v) = Unit {0}
Plain (written (simple x)) = Unit {0}
Plain (written (array es)) = Unit {0}
Plain (written (object fs)) = Unit {0}
Plain (written (unresolved b ps)) = ⊥

-- a layer that is an object
abbrev pub Object : Layer → Type 0
Object (settled (scalar x)) = ⊥
Object (settled (array_of vs)) = ⊥
Object (settled (object_of ms)) = Unit {0}
Object (written (simple x)) = ⊥
Object (written (array es)) = ⊥
Object (written (object fs)) = Unit {0}
Object (written (unresolved b ps)) = ⊥

module _ (strict : Bool) (N : ℕ) where
  abbrev pub Fit : ℕ → Layer → Type 0
  Fit j l = Low strict N j l × When strict (DistinctLayer l)

  abbrev pub FitObject : ℕ → Layer → Type 0
  FitObject j o = Fit j o × Object o

  -- one layer that counts is no unresolved value; those that merge are objects
  abbrev pub FitCounted : ℕ → Counted → Type 0
  FitCounted j nothing = Unit {0}
  FitCounted j (one l) = Fit j l × Plain l
  FitCounted j (merged os) = Each (FitObject j) os

  abbrev FitLayers : ℕ → Layers → Type 0
  FitLayers j ls = AllLow strict N j ls × When strict (DistinctLayers ls)

  pub fit-objects : (j : ℕ) (os : List Layer) → Each (FitObject j) os → Each (Fit j) os
  fit-objects j [] f = tt
  fit-objects j (o ∷ os) f = (f.0.0, fit-objects j os f.1)

  pub fit-layers : (j : ℕ) (os : List Layer) → Each (Fit j) os → FitLayers j (layers_of os)
  unfolding layers_of
  fit-layers j [] f = (tt, λ _. tt)
  fit-layers j (o ∷ os) f = let (low, distinct) = fit-layers j os f.1 in ((f.0.0, low), λ s. (f.0.1 s, distinct s))

  pub fit-deeper : (j : ℕ) (k : Text) (ls : Layers) → FitLayers j ls → FitLayers (pred j) (deeper k ls)
  fit-deeper j k ls f = (deeper-low strict N j k ls f.0, λ s. deeper-distinct k ls (f.1 s))

  -- ---- what counts of layers, where the answers that are known are proper

  module _ (known : ℕ → Option Answer) (proper : (b : ℕ) (a : Answer) → known b ≡ some a → When strict (Proper a)) (j : ℕ) where
    abbrev FitGiven : Given Counted → Type 0
    FitGiven (value c) = FitCounted j c
    FitGiven (Out.refused x) = Unit {0}
    FitGiven (missing b) = Unit {0}

    fit-end : (os : List Layer) → Each (FitObject j) os → FitCounted j (of_objects os)
    unfolding of_objects
    fit-end [] f = tt
    fit-end (o ∷ os) f = f

    module _ (os : List Layer) (g : Each (FitObject j) os) where
      fit-other : (l : Layer) → Fit j l → Plain l → FitCounted j (of_other l (reverse os))
      unfolding of_other
      fit-other l f q = go (reverse os) (each-reverse (FitObject j) os g)
        where
          go : (ps : List Layer) → Each (FitObject j) ps → FitCounted j (of_other l ps)
          go [] h = (f, q)
          go (p ∷ ps) h = h

      module _ (go : List Layer → Work Counted) (on : (ps : List Layer) → Each (FitObject j) ps → FitGiven (run known (go ps))) where
        fit-value : (v : Value) → Fit j (settled v) → FitGiven (run known (take_value v os go))
        unfolding take_value
        fit-value (scalar x) f = fit-other (settled (scalar x)) f tt
        fit-value (array_of vs) f = fit-other (settled (array_of vs)) f tt
        fit-value (object_of ms) f = on (settled (object_of ms) ∷ os) ((f, tt), g)

        fit-layer : (l : Layer) → Fit j l → FitGiven (run known (take_layer l os go))
        unfolding take_layer take_answer
        fit-layer (settled v) f = fit-value v f
        fit-layer (written (simple x)) f = fit-other (written (simple x)) f tt
        fit-layer (written (array es)) f = fit-other (written (array es)) f tt
        fit-layer (written (object fs)) f = on (written (object fs) ∷ os) ((f, tt), g)
        fit-layer (written (unresolved b ps)) f = answer-fit (known b) refl
          where
            answer-fit : (o : Option Answer) → known b ≡ o → FitGiven (or_missing b (λ a. run known (take_answer a os go)) o)
            answer-fit none e = tt
            answer-fit (some none) e = on os g
            answer-fit (some (some v)) e =
                let fine = proper b (some v) e in
                fit-value v (λ s. omega (arith, nested v (fine s).0, f.0.1 s), λ s. (fine s).1)

    fit-gather : (ls : Layers) → FitLayers j ls → (os : List Layer) → Each (FitObject j) os → FitGiven (run known (gather ls os))
    unfolding gather
    fit-gather end f os g = fit-end (reverse os) (each-reverse (FitObject j) os g)
    fit-gather (wait b h) f os g = go (known b) refl (λ a low distinct. fit-gather (h a) (low, distinct) os g)
      where
        go : (o : Option Answer) → known b ≡ o
            → ((a : Answer) → AllLow strict N j (h a) → When strict (DistinctLayers (h a)) → FitGiven (run known (gather (h a) os)))
            → FitGiven (or_missing b (λ a. run known (gather (h a) os)) o)
        go none e ih = tt
        go (some a) e ih = ih a (f.0.1 a (λ s. (proper b a e s).0)) (λ s. f.1 s a (proper b a e s).1)
    fit-gather (layer l ls) f os g =
        fit-layer os g (λ ps. gather ls ps) (λ ps h. fit-gather ls (f.0.1, λ s. (f.1 s).1) ps h) l (f.0.0, λ s. (f.1 s).0)

  module _ (known : ℕ → Option Answer) (proper : (b : ℕ) (a : Answer) → known b ≡ some a → When strict (Proper a)) where
    pub fit-key : (j : ℕ) (os : List Layer) (k : Text) (c : Counted) → Each (Fit j) os → key_in os k known ≡ value c → FitCounted (pred j) c
    fit-key j os k c f e =
        let ls = layers_of os in
        let fits = fit-gather known proper (pred j) (deeper k ls) (fit-deeper j k ls (fit-layers j os f)) [] tt in
        rw (sym (key-gathers os k known) ∙ e) at fits

-- ---- higher, and not strict

pub fit-up : (N i j : ℕ) → i ≤ j → (l : Layer) → Fit true N i l → Fit true N j l
fit-up N i j le (written n) f = ((f.0.0, λ _. omega (arith, f.0.1 refl)), f.1)
fit-up N i j le (settled v) f = (λ _. omega (arith, f.0 refl), f.1)

pub all_up : (N i j : ℕ) → i ≤ j → (os : List Layer) → Each (Fit true N i) os → Each (Fit true N j) os
all_up N i j le [] f = tt
all_up N i j le (o ∷ os) f = (fit-up N i j le o f.0, all_up N i j le os f.1)

pub fit-loose : (strict : Bool) (N i j : ℕ) (os : List Layer) → Each (Fit strict N i) os → Each (Fit false N j) os
fit-loose strict N i j [] f = tt
fit-loose strict N i j (written n ∷ os) f = (((f.0.0.0, λ s. clash (cc)), λ s. clash (cc)), fit-loose strict N i j os f.1)
fit-loose strict N i j (settled v ∷ os) f = ((λ s. clash (cc), λ s. clash (cc)), fit-loose strict N i j os f.1)

-- what fits strictly is low either way
pub fit_low : (strict : Bool) (N j : ℕ) (os : List Layer) → Each (Fit true N j) os → AllLow strict N j (layers_of os)
fit_low true N j os f = (fit-layers true N j os f).0
fit_low false N j os f = (fit-layers false N j os (fit-loose true N j j os f)).0
