-- Members behind members, pieces behind pieces, and what the pieces of one value come to.
use Rattle.std.specs.Prelude.{◌≡◌, refl, ℕ, ◌+◌, ◌*◌, ◌≤◌, ◌<◌, Bool, true, false, [], ◌∷◌, ◌++◌, ltb, length}
use Rattle.std.proofs.Math.Option.{none}
use Rattle.std.proofs.Common.{arith, ltb-true, ltb-false}
use Rattle.answers.specs.Theory.Sound.{clash}
use Rattle.rules.specs.Bytes.{Text}
use Rattle.rules.specs.Tree.{simple, array, object, unresolved, Elements, no-elements, element, Fields, no_fields, field, Pieces, no_pieces, node_piece, substituted, join_elements, join_fields}
use Rattle.rules.specs.Reading.{simple_kind, array_kind, object_kind, kind_of, same_kind, has_substitution, unlike, elements_joined, fields_joined}
use Rattle.doc_items.specs.Codes.{code_of}
use Rattle.doc_items.specs.Holds.{Spells, Seams, ElementsAt, FieldsAt, PiecesAt}

-- ---- texts

pub spells-join : (h : ℕ → ℕ) (o : ℕ) (t u : Text) → Spells h o t → Spells h (o + length t) u → Spells h o (t ++ u)
spells-join h o [] u s v = let e : o + 0 ≡ o = omega arith in rw e at v
spells-join h o (b ∷ bs) u s v =
    let e : o + (length (b ∷ bs)) ≡ o + 1 + length bs = omega arith in
    (s.0, spells-join h (o + 1) bs u s.1 (rw e at v))

-- no piece is an unresolved value: it is a value's pieces that are resolved or not
abbrev pub Simples : Pieces → Type 0
Simples no_pieces = Unit {0}
Simples (node_piece place gap (simple x) ps) = Simples ps
Simples (node_piece place gap (array es) ps) = Simples ps
Simples (node_piece place gap (object fs) ps) = Simples ps
Simples (node_piece place gap (unresolved b qs) ps) = ⊥
Simples (substituted gap x ps) = Simples ps

-- pieces behind pieces
unfoldable pub join_pieces : Pieces → Pieces → Pieces
join_pieces no_pieces qs = qs
join_pieces (node_piece place gap n ps) qs = node_piece place gap n (join_pieces ps qs)
join_pieces (substituted gap x ps) qs = substituted gap x (join_pieces ps qs)

module _ (g h : ℕ → ℕ) (lo hi : ℕ) (N : ℕ → ℕ → Type 0) where
  -- ---- members

  pub seams-join : (i j k : ℕ) → Seams g h lo hi N i j → Seams g h lo hi N j k → Seams g h lo hi N i k
  seams-join i j k s t = (omega (arith, s.0, t.0), λ m u v. go m u v (ltb m j) refl)
    where
      go : (m : ℕ) → i ≤ m → m < k → (b : Bool) → ltb m j ≡ b → 16 ≤ g (8 * m)
      go m u v true e = s.1 m u (ltb-true m j e)
      go m u v false e = t.1 m (ltb-false m j e) v

  -- one piece that parts members
  pub seam : (i : ℕ) → 16 ≤ g (8 * i) → Seams g h lo hi N i (i + 1)
  seam i h = (omega arith, λ k u v. let e : k ≡ i = omega arith in rw e h)

  pub no-seam : (i : ℕ) → Seams g h lo hi N i i
  no-seam i = (omega arith, λ k u v. absurd (omega arith))

  pub elements-forward : (es : Elements) (i end : ℕ) → ElementsAt g h lo hi N i end es → i ≤ end
  elements-forward no-elements i end s = s.0
  elements-forward (element n es) i end s = let a = s.1.0 in let b = s.2.1 in omega arith

  pub fields-forward : (fs : Fields) (i end : ℕ) → FieldsAt g h lo hi N i end fs → i ≤ end
  fields-forward no_fields i end s = s.0
  fields-forward (field k n fs) i end s = let a = s.1.0 in let b = s.2.1 in omega arith

  after-seams : (i j end : ℕ) (es : Elements) → Seams g h lo hi N i j → ElementsAt g h lo hi N j end es → ElementsAt g h lo hi N i end es
  after-seams i j end no-elements s t = seams-join i j end s t
  after-seams i j end (element n es) s t = (t.0, seams-join i j t.0 s t.1, t.2, t.3, t.4)

  after-seams-fields : (i j end : ℕ) (fs : Fields) → Seams g h lo hi N i j → FieldsAt g h lo hi N j end fs → FieldsAt g h lo hi N i end fs
  after-seams-fields i j end no_fields s t = seams-join i j end s t
  after-seams-fields i j end (field k n fs) s t = (t.0, seams-join i j t.0 s t.1, t.2, t.3, t.4, t.5, t.6)

  pub elements-join : (i j end : ℕ) (es fs : Elements) → ElementsAt g h lo hi N i j es → ElementsAt g h lo hi N j end fs
      → ElementsAt g h lo hi N i end (join_elements es fs)
  unfolding join_elements
  elements-join i j end no-elements fs s t = after-seams i j end fs s t
  elements-join i j end (element n es) fs s t =
      let f = elements-forward fs j end t in
      let b = s.2.1 in
      (s.0, s.1, (s.2.0, omega arith), s.3, elements-join (s.0 + g (8 * s.0 + 1)) j end es fs s.4 t)

  pub fields_join : (i j end : ℕ) (es fs : Fields) → FieldsAt g h lo hi N i j es → FieldsAt g h lo hi N j end fs
      → FieldsAt g h lo hi N i end (join_fields es fs)
  unfolding join_fields
  fields_join i j end no_fields fs s t = after-seams-fields i j end fs s t
  fields_join i j end (field k n es) fs s t =
      let f = fields-forward fs j end t in
      let b = s.2.1 in
      (s.0, s.1, (s.2.0, omega arith), s.3, s.4, s.5, fields_join (s.0 + g (8 * s.0 + 1)) j end es fs s.6 t)

  -- ---- pieces

  pub pieces-forward : (ps : Pieces) (i end : ℕ) → PiecesAt g h lo hi N i end ps → i ≤ end
  pieces-forward no_pieces i end s = omega (arith, s)
  pieces-forward (node_piece place gap n ps) i end s = let b = s.0.1 in omega arith
  pieces-forward (substituted gap x ps) i end s = let b = s.0.1 in omega arith

  pub pieces-join : (i j end : ℕ) (ps qs : Pieces) → PiecesAt g h lo hi N i j ps → PiecesAt g h lo hi N j end qs → PiecesAt g h lo hi N i end (join_pieces ps qs)
  unfolding join_pieces
  pieces-join i j end no_pieces qs s t = rw s t
  pieces-join i j end (node_piece place gap n ps) qs s t =
      let f = pieces-forward qs j end t in
      let b = s.0.1 in
      ((s.0.0, omega arith), s.1, s.2, s.3, pieces-join (i + g (8 * i + 1)) j end ps qs s.4 t)
  pieces-join i j end (substituted gap x ps) qs s t =
      let f = pieces-forward qs j end t in
      let b = s.0.1 in
      ((s.0.0, omega arith), s.1, s.2, s.3, s.4, pieces-join (i + g (8 * i + 1)) j end ps qs s.5 t)

  -- ---- the pieces of a value without a substitution, where all are arrays or all are objects

  pub pieces-elements : (ps : Pieces) (i end : ℕ) → has_substitution ps ≡ false → unlike array_kind ps ≡ none
      → PiecesAt g h lo hi N i end ps → ElementsAt g h lo hi N i end (elements_joined ps)
  unfolding has_substitution unlike kind_of same_kind elements_joined
  pieces-elements no_pieces i end u v s = rw s (no-seam end)
  pieces-elements (node_piece place gap (simple x) ps) i end u v s = clash (cc (v))
  pieces-elements (node_piece place gap (object fs) ps) i end u v s = clash (cc (v))
  pieces-elements (node_piece place gap (unresolved b qs) ps) i end u v s = clash (cc (v))
  pieces-elements (node_piece place gap (array es) ps) i end u v s =
      let k : g (8 * i) ≡ 16 + 6 = s.3.0 in
      let rest = pieces-elements ps (i + g (8 * i + 1)) end u v s.4 in
      after-seams i (i + 1) end (join_elements es (elements_joined ps)) (seam i (omega arith))
      (elements-join (i + 1) (i + g (8 * i + 1)) end es (elements_joined ps) s.3.1 rest)
  pieces-elements (substituted gap x ps) i end u v s = clash (cc (u))

  pub pieces-fields : (ps : Pieces) (i end : ℕ) → has_substitution ps ≡ false → unlike object_kind ps ≡ none
      → PiecesAt g h lo hi N i end ps → FieldsAt g h lo hi N i end (fields_joined ps)
  unfolding has_substitution unlike kind_of same_kind fields_joined
  pieces-fields no_pieces i end u v s = rw s (no-seam end)
  pieces-fields (node_piece place gap (simple x) ps) i end u v s = clash (cc (v))
  pieces-fields (node_piece place gap (array es) ps) i end u v s = clash (cc (v))
  pieces-fields (node_piece place gap (unresolved b qs) ps) i end u v s = clash (cc (v))
  pieces-fields (node_piece place gap (object fs) ps) i end u v s =
      let k : g (8 * i) ≡ 16 + 7 = s.3.0 in
      let rest = pieces-fields ps (i + g (8 * i + 1)) end u v s.4 in
      after-seams-fields i (i + 1) end (join_fields fs (fields_joined ps)) (seam i (omega arith))
      (fields_join (i + 1) (i + g (8 * i + 1)) end fs (fields_joined ps) s.3.1 rest)
  pieces-fields (substituted gap x ps) i end u v s = clash (cc (u))

  -- simple pieces have nothing but pieces in them
  pub pieces-seams : (ps : Pieces) (i end : ℕ) → has_substitution ps ≡ false → unlike simple_kind ps ≡ none
      → PiecesAt g h lo hi N i end ps → Simples ps → Seams g h lo hi N i end
  unfolding has_substitution unlike kind_of same_kind
  pieces-seams no_pieces i end u v s q = rw s (no-seam end)
  pieces-seams (node_piece place gap (simple x) ps) i end u v s q =
      let k : g (8 * i) ≡ 16 + code_of x = s.3.0 in
      seams-join i (i + 1) end (seam i (omega arith))
      (seams-join (i + 1) (i + g (8 * i + 1)) end s.3.2 (pieces-seams ps (i + g (8 * i + 1)) end u v s.4 q))
  pieces-seams (node_piece place gap (array es) ps) i end u v s q = clash (cc (v))
  pieces-seams (node_piece place gap (object fs) ps) i end u v s q = clash (cc (v))
  pieces-seams (node_piece place gap (unresolved b qs) ps) i end u v s q = absurd q
  pieces-seams (substituted gap x ps) i end u v s q = clash (cc (u))
