-- A tree stands in any table and text part that have the same numbers and bytes, the items so many further on.
use Rattle.std.specs.Prelude.{◌≡◌, ℕ, ◌+◌, ◌*◌, ◌-◌, ◌≤◌, ◌<◌, [], ◌∷◌, length}
use Rattle.std.proofs.Common.{sym, ap, ◌∙◌, arith}
use Rattle.rules.specs.Bytes.{Text}
use Rattle.rules.specs.Tree.{Substitution, Node, simple, array, object, unresolved, Elements, no-elements, element, Fields, no_fields, field, Pieces, no_pieces, node_piece, substituted}
use Rattle.doc_items.specs.Holds.{Spells, TextAt, Seams, ReferenceAt, Shown, ElementsAt, FieldsAt, PiecesAt}

-- ---- texts

pub move-spells : {h h' : ℕ → ℕ} (o : ℕ) (t : Text) → ((p : ℕ) → o ≤ p → p < o + length t → h p ≡ h' p) → Spells h o t → Spells h' o t
move-spells o [] e s = tt
move-spells o (b ∷ bs) e s =
    (sym (e o (omega arith) (omega arith)) ∙ s.0, move-spells (o + 1) bs (λ p k l. e p (omega arith) (omega arith)) s.1)

-- the numbers of the items from one up to another are those of the items so many further on
abbrev pub Agree : (g g' : ℕ → ℕ) (further first end : ℕ) → Type 0
Agree g g' d i end = (k : ℕ) → 8 * i ≤ k → k < 8 * end → g k ≡ g' (k + 8 * d)

-- the bounds grow, and the bytes inside them stay
pub record Grown (h h' : ℕ → ℕ) (lo hi lo' hi' : ℕ) : Type 0 where
  pub low : lo' ≤ lo
  pub high : hi ≤ hi'
  pub text : (p : ℕ) → lo ≤ p → p < hi → h p ≡ h' p

module _ {h h' : ℕ → ℕ} {lo hi lo' hi' : ℕ} (M : Grown h h' lo hi lo' hi') where
  pub move-text : {o z o' z' : ℕ} {t : Text} → o' ≡ o → z' ≡ z → TextAt h lo hi o z t → TextAt h' lo' hi' o' z' t
  move-text {o} {z} {o'} {z'} {t} a b x = record {
    from = omega (arith, x.from, M.low);
    upto = omega (arith, x.upto, M.high);
    size = b ∙ x.size;
    bytes = rw a (move-spells o t (λ p k l. M.text p (omega (arith, x.from)) (omega (arith, x.upto, x.size))) x.bytes);
  }

module _ (N : ℕ → ℕ → Type 0) (g g' : ℕ → ℕ) {h h' : ℕ → ℕ} {lo hi lo' hi' : ℕ} (M : Grown h h' lo hi lo' hi') (d : ℕ) where
  move-reference : {k o z m k' o' z' m' : ℕ} {x : Substitution} → k' ≡ k → o' ≡ o → z' ≡ z → m' ≡ m
      → ReferenceAt g h lo hi N k o z m x → ReferenceAt g' h' lo' hi' N k' o' z' m' x
  move-reference a b c e r = record {
    kind = a ∙ r.kind;
    count = e ∙ r.count;
    size = c ∙ r.size;
    path = move-text M b (omega arith) r.path;
  }

  -- a column of an item
  column : (i end j c : ℕ) → Agree g g' d i end → i ≤ j → j < end → c < 8 → g' (8 * (j + d) + c) ≡ g (8 * j + c)
  column i end j c a k l u =
      let e : 8 * (j + d) + c ≡ 8 * j + c + 8 * d = omega arith in
      ap g' e ∙ sym (a (8 * j + c) (omega arith) (omega arith))

  first : (i end j : ℕ) → Agree g g' d i end → i ≤ j → j < end → g' (8 * (j + d)) ≡ g (8 * j)
  first i end j a k l =
      let e : 8 * (j + d) ≡ 8 * j + 8 * d = omega arith in
      ap g' e ∙ sym (a (8 * j) (omega arith) (omega arith))

  move-seams : (i end j : ℕ) → Agree g g' d i end → j ≤ end → Seams g h lo hi N i j → Seams g' h' lo' hi' N (i + d) (j + d)
  move-seams i end j a l s =
      (omega (arith, s.0), λ k u v. seam k (k - d) (omega arith) (s.1 (k - d) (omega arith) (omega arith)) (omega arith) (omega arith))
    where
      seam : (k m : ℕ) → k ≡ m + d → 16 ≤ g (8 * m) → i ≤ m → m < j → 16 ≤ g' (8 * k)
      seam k m e q u v = let f = first i end m a u (omega arith) in rw e (omega arith)

  mutual
    pub move-shown : (n : Node) (role k o z m i end k' o' z' m' i' end' : ℕ) → k' ≡ k → o' ≡ o → z' ≡ z → m' ≡ m → i' ≡ i + d → end' ≡ end + d
        → Agree g g' d i end → Shown g h lo hi N role k o z m i end n → Shown g' h' lo' hi' N role k' o' z' m' i' end' n
    move-shown (simple x) role k o z m i end k' o' z' m' i' end' a b c e p q f s =
        (a ∙ s.0, move-text M b c s.1, rw (p, q) (move-seams i end end f (omega arith) s.2))
    move-shown (array es) role k o z m i end k' o' z' m' i' end' a b c e p q f s =
        (a ∙ s.0, rw (p, q) (move-elements es i end f s.1))
    move-shown (object fs) role k o z m i end k' o' z' m' i' end' a b c e p q f s = (a ∙ s.0, rw (p, q) (move-fields fs i end f s.1))
    move-shown (unresolved u ps) role k o z m i end k' o' z' m' i' end' a b c e p q f s =
        (a ∙ s.0, rw e s.1, rw (p, q) (move-pieces ps i end f s.2))

    pub move-elements : (es : Elements) (i end : ℕ) → Agree g g' d i end → ElementsAt g h lo hi N i end es → ElementsAt g' h' lo' hi' N (i + d) (end + d) es
    move-elements no-elements i end a s = move-seams i end end a (omega arith) s
    move-elements (element n es) i end a s =
        let j = s.0 in
        let z : i ≤ j = s.1.0 in
        let y : 1 ≤ g (8 * j + 1) = s.2.0 in
        let x : j + g (8 * j + 1) ≤ end = s.2.1 in
        let w = column i end j 1 a z (omega arith) (omega arith) in
        let rest = move-elements es (j + g (8 * j + 1)) end (λ k u v. a k (omega arith) v) s.4 in
        let next : j + d + g' (8 * (j + d) + 1) ≡ j + g (8 * j + 1) + d = omega arith in (
          j + d,
          move-seams i end j a (omega arith) s.1,
          (omega arith, omega arith),
          move-shown n 0 (g (8 * j)) (g (8 * j + 4)) (g (8 * j + 5)) (g (8 * j + 7)) (j + 1) (j + g (8 * j + 1)) (g' (8 * (j + d)))
              (g' (8 * (j + d) + 4)) (g' (8 * (j + d) + 5)) (g' (8 * (j + d) + 7)) (j + d + 1) (j + d + g' (8 * (j + d) + 1))
              (first i end j a z (omega arith)) (column i end j 4 a z (omega arith) (omega arith)) (column i end j 5 a z (omega arith) (omega arith))
              (column i end j 7 a z (omega arith) (omega arith)) (omega arith) next (λ k u v. a k (omega arith) (omega arith)) s.3,
          rw next rest,
        )

    pub move-fields : (fs : Fields) (i end : ℕ) → Agree g g' d i end → FieldsAt g h lo hi N i end fs → FieldsAt g' h' lo' hi' N (i + d) (end + d) fs
    move-fields no_fields i end a s = move-seams i end end a (omega arith) s
    move-fields (field key n fs) i end a s =
        let j = s.0 in
        let z : i ≤ j = s.1.0 in
        let y : 1 ≤ g (8 * j + 1) = s.2.0 in
        let x : j + g (8 * j + 1) ≤ end = s.2.1 in
        let w = column i end j 1 a z (omega arith) (omega arith) in
        let rest = move-fields fs (j + g (8 * j + 1)) end (λ k u v. a k (omega arith) v) s.6 in
        let next : j + d + g' (8 * (j + d) + 1) ≡ j + g (8 * j + 1) + d = omega arith in (
          j + d,
          move-seams i end j a (omega arith) s.1,
          (omega arith, omega arith),
          move-text M (column i end j 2 a z (omega arith) (omega arith)) (column i end j 3 a z (omega arith) (omega arith)) s.3,
          column i end j 6 a z (omega arith) (omega arith) ∙ s.4,
          move-shown n 0 (g (8 * j)) (g (8 * j + 4)) (g (8 * j + 5)) (g (8 * j + 7)) (j + 1) (j + g (8 * j + 1)) (g' (8 * (j + d)))
              (g' (8 * (j + d) + 4)) (g' (8 * (j + d) + 5)) (g' (8 * (j + d) + 7)) (j + d + 1) (j + d + g' (8 * (j + d) + 1))
              (first i end j a z (omega arith)) (column i end j 4 a z (omega arith) (omega arith)) (column i end j 5 a z (omega arith) (omega arith))
              (column i end j 7 a z (omega arith) (omega arith)) (omega arith) next (λ k u v. a k (omega arith) (omega arith)) s.5,
          rw next rest,
        )

    pub move-pieces : (ps : Pieces) (i end : ℕ) → Agree g g' d i end → PiecesAt g h lo hi N i end ps → PiecesAt g' h' lo' hi' N (i + d) (end + d) ps
    move-pieces no_pieces i end a s = ap (λ n. n + d) s
    move-pieces (node_piece place gap n ps) i end a s =
        let y : 1 ≤ g (8 * i + 1) = s.0.0 in
        let x : i + g (8 * i + 1) ≤ end = s.0.1 in
        let z : i ≤ i = omega arith in
        let w = column i end i 1 a z (omega arith) (omega arith) in
        let rest = move-pieces ps (i + g (8 * i + 1)) end (λ k u v. a k (omega arith) v) s.4 in
        let next : i + d + g' (8 * (i + d) + 1) ≡ i + g (8 * i + 1) + d = omega arith in (
          (omega arith, omega arith),
          move-text M (column i end i 2 a z (omega arith) (omega arith)) (column i end i 3 a z (omega arith) (omega arith)) s.1,
          column i end i 6 a z (omega arith) (omega arith) ∙ s.2,
          move-shown n 16 (g (8 * i)) (g (8 * i + 4)) (g (8 * i + 5)) (g (8 * i + 7)) (i + 1) (i + g (8 * i + 1)) (g' (8 * (i + d)))
              (g' (8 * (i + d) + 4)) (g' (8 * (i + d) + 5)) (g' (8 * (i + d) + 7)) (i + d + 1) (i + d + g' (8 * (i + d) + 1))
              (first i end i a z (omega arith)) (column i end i 4 a z (omega arith) (omega arith)) (column i end i 5 a z (omega arith) (omega arith))
              (column i end i 7 a z (omega arith) (omega arith)) (omega arith) next (λ k u v. a k (omega arith) (omega arith)) s.3,
          rw next rest,
        )
    move-pieces (substituted gap x ps) i end a s =
        let y : 1 ≤ g (8 * i + 1) = s.0.0 in
        let v : i + g (8 * i + 1) ≤ end = s.0.1 in
        let z : i ≤ i = omega arith in
        let w = column i end i 1 a z (omega arith) (omega arith) in
        let rest = move-pieces ps (i + g (8 * i + 1)) end (λ k u v. a k (omega arith) v) s.5 in
        let next : i + d + g' (8 * (i + d) + 1) ≡ i + g (8 * i + 1) + d = omega arith in (
          (omega arith, omega arith),
          move-text M (column i end i 2 a z (omega arith) (omega arith)) (column i end i 3 a z (omega arith) (omega arith)) s.1,
          column i end i 6 a z (omega arith) (omega arith) ∙ s.2,
          move-reference (first i end i a z (omega arith)) (column i end i 4 a z (omega arith) (omega arith))
              (column i end i 5 a z (omega arith) (omega arith)) (column i end i 7 a z (omega arith) (omega arith)) s.3,
          w ∙ s.4,
          rw next rest,
        )
