-- The items inside a node: each that is no piece ends within it. And the items of an object's fields hang on kinds and sizes alone.
use Rattle.std.specs.Prelude.{◌≡◌, Bool, ℕ, ◌+◌, ◌*◌, ◌≤◌, ◌<◌}
use Rattle.std.proofs.Math.Path.{refl, ap}
use Rattle.std.proofs.Common.{sym, ◌∙◌, arith}
use Rattle.std.proofs.Math.Bool.{true, false, cond}
use mathlib.Core.List.{List, ◌∷◌}
use Rattle.rules.specs.Bytes.{Text, same}
use Rattle.rules.specs.Tree.{Node, simple, array, object, unresolved, Elements, no-elements, element, Fields, no_fields, field, Pieces, no_pieces, node_piece, substituted}
use Rattle.doc_items.specs.Codes.{reference_code}
use Rattle.doc_items.specs.Holds.{Seams, Sized, Shown, ElementsAt, FieldsAt, PiecesAt}
use Rattle.eval_keys.specs.Texts.{by_less, by_equal}
use Rattle.eval_root_index.specs.Links.{Every}
use Rattle.eval_root_index.specs.Documents.{member-kind, places_of}

module _ (g h : ℕ → ℕ) (lo hi : ℕ) (N : ℕ → ℕ → Type 0) where
  abbrev Ends : ℕ → ℕ → Type 0
  Ends c end = Sized g h lo hi N c end

  ends_more : (c e end : ℕ) → e ≤ end → Ends c e → Ends c end
  ends_more c e end l s = (s.0, omega (arith, s.1))

  piece_kind : (n : Node) (k o z m i end : ℕ) → Shown g h lo hi N 16 k o z m i end n → 16 ≤ k
  piece_kind (simple x) k o z m i end s = omega (arith, s.0)
  piece_kind (array es) k o z m i end s = omega (arith, s.0)
  piece_kind (object fs) k o z m i end s = omega (arith, s.0)
  piece_kind (unresolved b ps) k o z m i end s = omega (arith, s.0)

  module _ (c : ℕ) (kind : g (8 * c) < 16) where
    no-seam : (i j : ℕ) → i ≤ c → c < j → Seams g h lo hi N i j → ⊥
    no-seam i j l u s = omega (arith, s.1 c l u)

    mutual
      pub in-node : (n : Node) (role k o z m i end : ℕ) → i ≤ c → c < end → Shown g h lo hi N role k o z m i end n → Ends c end
      in-node (simple x) role k o z m i end l u s = absurd (no-seam i end l u s.2)
      in-node (array es) role k o z m i end l u s = in-elements es i end l u s.1
      in-node (object fs) role k o z m i end l u s = in-fields fs i end l u s.1
      in-node (unresolved b ps) role k o z m i end l u s = in-pieces ps i end l u s.2

      in-elements : (es : Elements) (i end : ℕ) → i ≤ c → c < end → ElementsAt g h lo hi N i end es → Ends c end
      in-elements no-elements i end l u s = absurd (no-seam i end l u s)
      in-elements (element n es) i end l u s =
          let j = s.0 in
          let e = j + g (8 * j + 1) in
          by_less (Ends c end) c j (λ p. absurd (no-seam i j l p s.1))
          (λ p. by_equal (Ends c end) j c (λ q. rw q at s.2)
          (λ q. by_less (Ends c end) c e
          (λ r. ends_more c e end s.2.1 (in-node n 0 (g (8 * j)) (g (8 * j + 4)) (g (8 * j + 5)) (g (8 * j + 7)) (j + 1) e (omega arith) r s.3))
          (λ r. in-elements es e end r u s.4)))

      in-fields : (fs : Fields) (i end : ℕ) → i ≤ c → c < end → FieldsAt g h lo hi N i end fs → Ends c end
      in-fields no_fields i end l u s = absurd (no-seam i end l u s)
      in-fields (field key n fs) i end l u s =
          let j = s.0 in
          let e = j + g (8 * j + 1) in
          by_less (Ends c end) c j (λ p. absurd (no-seam i j l p s.1))
          (λ p. by_equal (Ends c end) j c (λ q. rw q at s.2)
          (λ q. by_less (Ends c end) c e
          (λ r. ends_more c e end s.2.1 (in-node n 0 (g (8 * j)) (g (8 * j + 4)) (g (8 * j + 5)) (g (8 * j + 7)) (j + 1) e (omega arith) r s.5))
          (λ r. in-fields fs e end r u s.6)))

      in-pieces : (ps : Pieces) (i end : ℕ) → i ≤ c → c < end → PiecesAt g h lo hi N i end ps → Ends c end
      in-pieces no_pieces i end l u s = absurd (omega (arith, s))
      in-pieces (node_piece place gap n ps) i end l u s =
          let e = i + g (8 * i + 1) in
          by_equal (Ends c end) i c
          (λ q. let z = piece_kind n (g (8 * i)) (g (8 * i + 4)) (g (8 * i + 5)) (g (8 * i + 7)) (i + 1) e s.3 in
          let y : g (8 * i) ≡ g (8 * c) = ap (λ (a : ℕ). g (8 * a)) q in absurd (omega arith))
          (λ q. by_less (Ends c end) c e
          (λ r. ends_more c e end s.0.1 (in-node n 16 (g (8 * i)) (g (8 * i + 4)) (g (8 * i + 5)) (g (8 * i + 7)) (i + 1) e (omega arith) r s.3))
          (λ r. in-pieces ps e end r u s.4))
      in-pieces (substituted gap x ps) i end l u s =
          let e = i + g (8 * i + 1) in
          let y : g (8 * i) ≡ 16 + reference_code x.optional = s.3.kind in
          let w : g (8 * i + 1) ≡ 1 = s.4 in
          by_equal (Ends c end) i c (λ q. let z : g (8 * i) ≡ g (8 * c) = ap (λ (a : ℕ). g (8 * a)) q in absurd (omega arith))
          (λ q. in-pieces ps e end (omega arith) u s.5)

-- ---- the items of fields

module _ (g h : ℕ → ℕ) (lo hi : ℕ) (N : ℕ → ℕ → Type 0) where
  pub places-low : (t : Text) (fs : Fields) (i end top : ℕ) → end ≤ top → (s : FieldsAt g h lo hi N i end fs)
      → Every (λ j. j < top) (places_of g h lo hi N t fs i end s)
  unfolding places_of
  places-low t no_fields i end top l s = tt
  places-low t (field k n fs) i end top l s =
      let j = s.0 in
      let a : 1 ≤ g (8 * j + 1) = s.2.0 in
      let b : j + g (8 * j + 1) ≤ end = s.2.1 in
      go j (places_of g h lo hi N t fs (j + g (8 * j + 1)) end s.6) (same k.text t) (omega arith) (places-low t fs (j + g (8 * j + 1)) end top l s.6)
    where
      go : (j : ℕ) (rest : List ℕ) (b : Bool) → j < top → Every (λ i. i < top) rest → Every (λ i. i < top) (cond b (j ∷ rest) rest)
      go j rest true u r = (u, r)
      go j rest false u r = r

module _ (g h : ℕ → ℕ) (lo hi : ℕ) (N : ℕ → ℕ → Type 0) (g' h' : ℕ → ℕ) (lo' hi' : ℕ) (N' : ℕ → ℕ → Type 0) (top : ℕ)
    (kinds : (i : ℕ) → i < top → g' (8 * i) ≡ g (8 * i)) (sizes : (i : ℕ) → i < top → g' (8 * i + 1) ≡ g (8 * i + 1)) where
  pub places_same : (t : Text) (fs : Fields) (i end i' end' : ℕ) → i' ≡ i → end' ≡ end → end ≤ top → (s : FieldsAt g h lo hi N i end fs)
      (s' : FieldsAt g' h' lo' hi' N' i' end' fs) → places_of g h lo hi N t fs i end s ≡ places_of g' h' lo' hi' N' t fs i' end' s'
  unfolding places_of
  places_same t no_fields i end i' end' a b l s s' = refl
  places_same t (field k n fs) i end i' end' a b l s s' =
      let j = s.0 in
      let j' = s'.0 in
      let u : 1 ≤ g (8 * j + 1) = s.2.0 in
      let v : j + g (8 * j + 1) ≤ end = s.2.1 in
      let u' : 1 ≤ g' (8 * j' + 1) = s'.2.0 in
      let v' : j' + g' (8 * j' + 1) ≤ end' = s'.2.1 in
      let low : i ≤ j = s.1.0 in
      let low' : i' ≤ j' = s'.1.0 in
      let x = member-kind g h lo hi N n (g (8 * j)) (g (8 * j + 4)) (g (8 * j + 5)) (g (8 * j + 7)) (j + 1) (j + g (8 * j + 1)) s.5 in
      let x' = member-kind g' h' lo' hi' N' n (g' (8 * j')) (g' (8 * j' + 4)) (g' (8 * j' + 5)) (g' (8 * j' + 7)) (j' + 1) (j' + g' (8 * j' + 1)) s'.5 in
      let y = kinds j (omega arith) in
      let y' = kinds j' (omega arith) in
      let e : j ≡ j' = by_less (j ≡ j') j j' (λ p. absurd (omega (arith, s'.1.1 j (omega arith) p)))
      (λ p. by_less (j ≡ j') j' j (λ q. absurd (omega (arith, s.1.1 j' (omega arith) q))) (λ q. omega arith)) in
      let w = sizes j (omega arith) in
      let d : g' (8 * j' + 1) ≡ g' (8 * j + 1) = ap (λ (a : ℕ). g' (8 * a + 1)) (sym e) in
      let rest = places_same t fs (j + g (8 * j + 1)) end (j' + g' (8 * j' + 1)) end' (omega arith) b l s.6 s'.6 in
      ap (λ (r : List ℕ). cond (same k.text t) (j ∷ r) r) rest
      ∙ ap (λ (a : ℕ). cond (same k.text t) (a ∷ places_of g' h' lo' hi' N' t fs (j' + g' (8 * j' + 1)) end' s'.6) (places_of g' h' lo' hi' N' t fs (j' + g' (8 * j' + 1)) end' s'.6)) e
