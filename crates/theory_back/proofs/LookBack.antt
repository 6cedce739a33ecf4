-- The look-back that is decided on the way down is the rules' own, with the lazy layers and with the settled ones.
use Rattle.std.specs.Prelude.{◌≡◌, ℕ, Bool}
use Rattle.std.proofs.Math.Path.{refl, ap}
use Rattle.std.proofs.Common.{◌∙◌}
use mathlib.Core.List.{List, [], ◌∷◌, ◌++◌}
use Rattle.std.proofs.Math.Bool.{true, false}
use Rattle.std.proofs.Math.Option.{Option, none, some}
use Rattle.rules.specs.Bytes.{Text, same}
use Rattle.rules.specs.Tree.{Key, Node, Fields, Root, root_node}
use Rattle.rules.specs.Layers.{Layers, end, deeper, walk_path}
use Rattle.rules.specs.Unresolved.{Openness, field_openness, behind, forward, layers_for}
use Rattle.rules.specs.Values.{Answer}
use Rattle.theory.specs.Layout.{same-eq}
use Rattle.rules.specs.Settled.{flat, named_in}
use Rattle.theory.specs.Settled.{flat-named, flat-deeper, flat_walk}
use Rattle.theory.specs.SettledAnswers.{layers_in, flat-layers-for}
use Rattle.theory_back.specs.Descent.{down_node}
use Rattle.theory_back.specs.Openness.{root_openness, openness_node, openness_at}
use Rattle.theory_back.specs.LookBack.{Left, next_key, onward, look_back, carried, below_lazy, left_behind, left_of, layers_by, below_in, settled_by, look_back_in}
use Rattle.theory_back.proofs.Descent.{seen-node}

-- ---- one carrier for another

module _ {L M : Type 0} (below : Text → Fields → L → L) (below' : Text → Fields → M → M) (φ : L → M)
    (belows : (k : Text) (earlier : Fields) (l : L) → φ (below k earlier l) ≡ below' k earlier (φ l)) where
  next-carried : (p : List Text) (l : L) (earlier : Fields) (k : Key) → carried φ (next_key below p l earlier k) ≡ next_key below' p (φ l) earlier k
  unfolding next_key
  next-carried [] l earlier k = refl
  next-carried (j ∷ js) l earlier k = go (same k.text j)
    where
      go : (t : Bool) → carried φ (elim t as (λ _. Left L) [ true ↦ some (js, below j earlier l) | false ↦ none ])
          ≡ elim t as (λ _. Left M) [ true ↦ some (js, below' j earlier (φ l)) | false ↦ none ]
      go true = ap (λ (m : M). some (js, m)) (belows j earlier l)
      go false = refl

  onward-carried : (x : Left L) (earlier : Fields) (k : Key) → carried φ (onward below x earlier k) ≡ onward below' (carried φ x) earlier k
  unfolding onward
  onward-carried none earlier k = refl
  onward-carried (some s) earlier k = next-carried s.0 s.1 earlier k

  pub look-carried : (root : Root) (p : List Text) (l : L) (b : ℕ) → carried φ (look_back below root p l b) ≡ look_back below' root p (φ l) b
  look-carried root p l b =
      seen-node none (onward below) none (onward below') (carried φ) refl onward-carried (some (p, l)) 0 (root_node root) b

-- ---- the lazy layers

abbrev behind_next : List Text → Option (List Text) → Option (List Text)
behind_next ys none = none
behind_next ys (some rest) = behind ys rest

behind_more : (xs ys p : List Text) → behind (xs ++ ys) p ≡ behind_next ys (behind xs p)
unfolding behind
behind_more [] ys p = refl
behind_more (x ∷ xs) ys [] = refl
behind_more (x ∷ xs) ys (j ∷ js) = go (same x j) (behind_more xs ys js)
  where
    go : (t : Bool) → behind (xs ++ ys) js ≡ behind_next ys (behind xs js)
        → ◌≡◌ {A = Option (List Text)} (elim t [ true ↦ behind (xs ++ ys) js | false ↦ none ])
        (behind_next ys (elim t as (λ _. Option (List Text)) [ true ↦ behind xs js | false ↦ none ]))
    go true e = e
    go false e = refl

left-next : (p : List Text) (ls : Layers) (earlier : Fields) (k : Key)
    → left_behind (behind (k.text ∷ []) p) (below_lazy k.text earlier ls) ≡ next_key below_lazy p ls earlier k
unfolding behind next_key
left-next [] ls earlier k = refl
left-next (j ∷ js) ls earlier k = go (same k.text j) refl
  where
    go : (t : Bool) → same k.text j ≡ t
        → left_behind (elim t as (λ _. Option (List Text)) [ true ↦ some js | false ↦ none ]) (below_lazy k.text earlier ls)
        ≡ elim t as (λ _. Left Layers) [ true ↦ some (js, below_lazy j earlier ls) | false ↦ none ]
    go true e = ap (λ (i : Text). some (js, below_lazy i earlier ls)) (same-eq k.text j e)
    go false e = refl

left-enters : (p : List Text) (openness : Openness) (earlier : Fields) (k : Key)
    → left_of p (field_openness openness earlier k) ≡ onward below_lazy (left_of p openness) earlier k
unfolding field_openness onward
left-enters p none earlier k = refl
left-enters p (some h) earlier k =
    ap (λ (o : Option (List Text)). left_behind o (below_lazy k.text earlier h.before)) (behind_more h.path (k.text ∷ []) p)
    ∙ go (behind h.path p)
  where
    go : (o : Option (List Text)) → left_behind (behind_next (k.text ∷ []) o) (below_lazy k.text earlier h.before)
        ≡ onward below_lazy (left_behind o h.before) earlier k
    go none = refl
    go (some rest) = left-next rest h.before earlier k

-- the descent carries what is left of the path behind the open field's
pub left-node : (p : List Text) (openness : Openness) (from : ℕ) (n : Node) (b : ℕ)
    → left_of p (openness_node openness from n b) ≡ down_node none (onward below_lazy) (left_of p openness) from n b
left-node p openness from n b =
    seen-node none field_openness none (onward below_lazy) (left_of p) refl (left-enters p) openness from n b

pub left-root : (root : Root) (p : List Text) (b : ℕ) → left_of p (openness_at root b) ≡ look_back below_lazy root p end b
unfolding behind
left-root root p b = left-node p root_openness 0 (root_node root) b

layers-left : (root : Root) (p : List Text) (openness : Openness) → layers_for root openness p ≡ layers_by root p (left_of p openness)
unfolding layers_for
layers-left root p none = refl
layers-left root p (some h) = go (behind h.path p)
  where
    go : (o : Option (List Text)) → ◌≡◌ {A = Layers} (elim o [ none ↦ forward root p | some rest ↦ walk_path rest h.before ])
        (layers_by root p (left_behind o h.before))
    go none = refl
    go (some rest) = refl

-- the layers of a substitution's path at the unresolved value b
pub layers-look : (root : Root) (p : List Text) (b : ℕ) → layers_for root (openness_at root b) p ≡ layers_by root p (look_back below_lazy root p end b)
layers-look root p b = layers-left root p (openness_at root b) ∙ ap (layers_by root p) (left-root root p b)

-- ---- with the answers known: deeper, then the literal's earlier fields

module _ (known : ℕ → Option Answer) where
  below-flat : (k : Text) (earlier : Fields) (ls : Layers) → flat known (below_lazy k earlier ls) ≡ below_in known k earlier (flat known ls)
  below-flat k earlier ls = flat-named known k earlier (deeper k ls) ∙ ap (named_in known k earlier) (flat-deeper known k ls)

  flat-by : (root : Root) (p : List Text) (x : Left Layers) → flat known (layers_by root p x) ≡ settled_by known root p (carried (flat known) x)
  unfolding layers_for layers_in
  flat-by root p none = flat-layers-for known root none p
  flat-by root p (some s) = flat_walk known s.0 s.1

  pub look-flat : (root : Root) (p : List Text) (b : ℕ) → carried (flat known) (look_back below_lazy root p end b) ≡ look_back_in known root p b
  unfolding flat
  look-flat root p b = look-carried below_lazy (below_in known) (flat known) below-flat root p end b

  -- the settled layers of a substitution's path at the unresolved value b
  pub settled-look : (root : Root) (p : List Text) (b : ℕ) → flat known (layers_for root (openness_at root b) p) ≡ settled_by known root p (look_back_in known root p b)
  settled-look root p b =
      ap (flat known) (layers-look root p b)
      ∙ flat-by root p (look_back below_lazy root p end b) ∙ ap (settled_by known root p) (look-flat root p b)
