-- Where the key of the field that an unresolved value is the whole value of is none of the path's elements, it looks forward.
use Rattle.std.specs.Prelude.{◌≡◌, refl, ℕ, true}
use Rattle.std.proofs.Common.{ap, ◌∙◌}
use mathlib.Core.List.{List, [], ◌∷◌}
use Rattle.std.proofs.Math.Option.{Option, none, some}
use Rattle.answers.specs.Theory.Sound.{clash}
use Rattle.rules.specs.Bytes.{Text, same}
use Rattle.rules.specs.Tree.{Key, Fields, no_fields, Root, fields, elements, root_node}
use Rattle.rules.specs.Layers.{has_key}
use Rattle.theory_text.specs.Choices.{by-test}
use Rattle.theory.specs.Layout.{same-eq, same_refl}
use Rattle.theory_back.specs.Descent.{down_node}
use Rattle.theory_back.specs.LookBack.{Left, next_key, onward, look_back}
use Rattle.theory_back.specs.OwnKey.{key_onward, own_key, Apart}
use Rattle.theory_back.proofs.Descent.{keeps-entered, seen-node}

key-first : (j : Text) (js : List Text) → has_key j (j ∷ js) ≡ true
unfolding has_key
key-first j js = rw (has_key, same_refl j)

key-later : (i j : Text) (js : List Text) → has_key i js ≡ true → has_key i (j ∷ js) ≡ true
unfolding has_key
key-later i j js h = by-test (λ t. t ≡ true) (same i j) (λ e. refl) (λ e. h)

module _ {L : Type 0} (below : Text → Fields → L → L) (p : List Text) where
  -- the descent that carries the key beside what is left of the path
  abbrev Both : Type 0
  Both = Option Text × Left L

  abbrev both_onward : Both → Fields → Key → Both
  both_onward x earlier k = (some k.text, onward below x.1 earlier k)

  -- the elements of one path are among another's
  abbrev Among : List Text → Type 0
  Among q = (j : Text) → has_key j q ≡ true → has_key j p ≡ true

  abbrev Owned : Option Text → Left L → Type 0
  Owned o none = Unit {0}
  Owned none (some s) = ⊥
  Owned (some k) (some s) = (has_key k p ≡ true) × Among s.0

  owned-next : (q : List Text) (l : L) (earlier : Fields) (k : Key) → Among q → Owned (some k.text) (next_key below q l earlier k)
  unfolding next_key
  owned-next [] l earlier k a = tt
  owned-next (j ∷ js) l earlier k a =
      by-test (Owned (some k.text)) (same k.text j)
      (λ z. (ap (λ i. has_key i p) (same-eq k.text j z) ∙ a j (key-first j js), λ i h. a i (key-later i j js h))) (λ z. tt)

  owned-onward : (x : Both) (earlier : Fields) (k : Key) → Owned x.0 x.1 → Owned (some k.text) (onward below x.1 earlier k)
  unfolding onward
  owned-onward x earlier k o = go x.0 x.1 o
    where
      go : (i : Option Text) (y : Left L) → Owned i y → Owned (some k.text) (onward below y earlier k)
      go i none o = tt
      go none (some s) o = absurd o
      go (some i) (some s) o = owned-next s.0 s.1 earlier k o.1

  abbrev both_at : Root → L → ℕ → Both
  both_at root l b = down_node (none, none) both_onward (none, some (p, l)) 0 (root_node root) b

  owned-root : (root : Root) (l : L) (b : ℕ) → Owned (both_at root l b).0 (both_at root l b).1
  unfolding down_node onward
  owned-root (fields fs) l b =
      keeps-entered {X = Both} (none, none) both_onward (λ x. Owned x.0 x.1) tt owned-onward (none, some (p, l))
      (λ earlier k. owned-next p l earlier k (λ j h. h)) no_fields 0 fs b
  owned-root (elements es) l b = tt

  -- where the own key is none of them, it looks forward
  pub own-key : (root : Root) (l : L) (b : ℕ) → Apart (own_key root b) p → look_back below root p l b ≡ none
  own-key root l b h = go (own_key root b) (look_back below root p l b) h owned
    where
      first : (both_at root l b).0 ≡ own_key root b
      first =
          seen-node {X = Both} {Y = Option Text} (none, none) both_onward none key_onward (λ x. x.0) refl (λ x e k. refl)
          (none, some (p, l)) 0 (root_node root) b

      second : (both_at root l b).1 ≡ look_back below root p l b
      second =
          seen-node {X = Both} {Y = Left L} (none, none) both_onward none (onward below) (λ x. x.1) refl (λ x e k. refl)
          (none, some (p, l)) 0 (root_node root) b

      owned : Owned (own_key root b) (look_back below root p l b)
      owned = rw (← first, ← second) (owned-root root l b)

      go : (o : Option Text) (x : Left L) → Apart o p → Owned o x → x ≡ none
      go o none a w = refl
      go none (some s) a w = absurd w
      go (some k) (some s) a w = clash (cc (w.0, a))
