-- A table and a text part hold one tree at most: so what the reader promises leaves no choice.
use Rattle.std.specs.Prelude.{◌≡◌, refl, ℕ, ◌+◌, ◌*◌, ◌/◌, ◌%◌, ◌≤◌, ◌<◌, Bool, true, false, List, [], ◌∷◌, ◌++◌, ltb, eqb, length}
use Rattle.std.proofs.Common.{sym, ap, ◌∙◌, arith, ltb-true, ltb-false}
use Rattle.rules.specs.Bytes.{Text}
use Rattle.rules.specs.Pieces.{scalar_text}
use Rattle.rules.specs.Tree.{Scalar, null, boolean, number, string, Key, Substitution, Node, simple, array, object, unresolved, Elements, no-elements, element, Fields, no_fields, field, Pieces, no_pieces, node_piece, substituted}
use Rattle.doc_items.specs.Codes.{code_of, reference_code, path_texts, path_ends, path_bytes}
use Rattle.doc_items.specs.Holds.{Spells, TextAt, Seams, ReferenceAt, Shown, ElementsAt, FieldsAt, PiecesAt}

-- ---- texts

spells_one : (h : ℕ → ℕ) (o : ℕ) (t u : Text) → Spells h o t → Spells h o u → length t ≡ length u → t ≡ u
spells_one h o [] [] s v e = refl
spells_one h o [] (b ∷ u) s v e = absurd (omega arith)
spells_one h o (a ∷ t) [] s v e = absurd (omega arith)
spells_one h o (a ∷ t) (b ∷ u) s v e =
    let p : a ≡ b = sym s.0 ∙ v.0 in
    let q : t ≡ u = spells_one h (o + 1) t u s.1 v.1 (omega arith) in
    rw (p, q) refl

text-one : {h : ℕ → ℕ} {lo hi o z : ℕ} {t u : Text} → TextAt h lo hi o z t → TextAt h lo hi o z u → t ≡ u
text-one {h} {lo} {hi} {o} {z} {t} {u} x y = spells_one h o t u x.bytes y.bytes (sym x.size ∙ y.size)

-- ---- simple values

-- the simple value of a kind and a text
unfoldable decoded : ℕ → Text → Scalar
decoded k t =
    elim (eqb k 1) [
      | true ↦ null
      | false ↦ elim (eqb k 2) [
        | true ↦ boolean false
        | false ↦ elim (eqb k 3) [ true ↦ boolean true | false ↦ elim (eqb k 4) [ true ↦ number t | false ↦ string t ] ]
      ]
    ]

decoded-is : (x : Scalar) → decoded (code_of x) (scalar_text x) ≡ x
unfolding decoded scalar_text
decoded-is null = refl
decoded-is (boolean false) = refl
decoded-is (boolean true) = refl
decoded-is (number t) = refl
decoded-is (string t) = refl

scalar-one : (x y : Scalar) → code_of x ≡ code_of y → scalar_text x ≡ scalar_text y → x ≡ y
scalar-one x y e f = sym (decoded-is x) ∙ ap (λ (k : ℕ). decoded k (scalar_text x)) e ∙ ap (decoded (code_of y)) f ∙ decoded-is y

code-small : (x : Scalar) → code_of x ≤ 5
code-small null = omega arith
code-small (boolean false) = omega arith
code-small (boolean true) = omega arith
code-small (number t) = omega arith
code-small (string t) = omega arith

-- ---- paths

split_one : (t u r s : List ℕ) → length t ≡ length u → t ++ r ≡ u ++ s → (t ≡ u) × (r ≡ s)
split_one [] [] r s e f = (refl, f)
split_one [] (b ∷ u) r s e f = absurd (omega arith)
split_one (a ∷ t) [] r s e f = absurd (omega arith)
split_one (a ∷ t) (b ∷ u) r s e f =
    let p : a ≡ b = cc (f) in
    let (q, w) = split_one t u r s (omega arith) (cc (f)) in
    (rw (p, q) refl, w)

whole : (n : ℕ) → n / 256 * 256 + n % 256 ≡ n
whole n = omega arith

ends-one : (from : ℕ) (ts us : List Text) → length ts ≡ length us → path_ends from ts ≡ path_ends from us → path_texts ts ≡ path_texts us → ts ≡ us
unfolding path_ends path_texts
ends-one from [] [] e f g = refl
ends-one from [] (u ∷ us) e f g = absurd (omega arith)
ends-one from (t ∷ ts) [] e f g = absurd (omega arith)
ends-one from (t ∷ ts) (u ∷ us) e f g =
    let a : (from + length t) / 256 ≡ (from + length u) / 256 = cc (f) in
    let b : (from + length t) % 256 ≡ (from + length u) % 256 = cc (f) in
    let same : from + length t ≡ from + length u = sym (whole (from + length t)) ∙ rw (a, b) (whole (from + length u)) in
    let (p, q) = split_one t u (path_texts ts) (path_texts us) (omega arith) g in
    let r : path_ends (from + length t) ts ≡ path_ends (from + length u) us = cc (f) in
    let r' : path_ends (from + length t) ts ≡ path_ends (from + length t) us = r ∙ ap (λ (n : ℕ). path_ends n us) (sym same) in
    let w = ends-one (from + length t) ts us (omega arith) r' q in
    rw (p, w) refl

path-one : (p q : List Text) → length p ≡ length q → length (path_texts p) ≡ length (path_texts q) → path_bytes p ≡ path_bytes q → p ≡ q
path-one p q e f g =
    let (a, b) = split_one (path_texts p) (path_texts q) (path_ends 0 p) (path_ends 0 q) f g in
    ends-one 0 p q e b a

optional-one : (a b : Bool) → reference_code a ≡ reference_code b → a ≡ b
optional-one false false e = refl
optional-one true true e = refl
optional-one false true e = absurd (omega arith)
optional-one true false e = absurd (omega arith)

reference-large : (b : Bool) → 9 ≤ reference_code b
reference-large false = omega arith
reference-large true = omega arith

module _ (g h : ℕ → ℕ) (lo hi : ℕ) where
  -- an unresolved value's number is its item's
  abbrev Same : ℕ → ℕ → Type 0
  Same m b = m ≡ b

  reference-one : {k o z m place : ℕ} {x y : Substitution} → ReferenceAt g h lo hi Same k o z m x → ReferenceAt g h lo hi Same k o z m y
      → place ≡ x.place → place ≡ y.place → x ≡ y
  reference-one {k} {o} {z} {m} {place} {x} {y} r s p q =
      let a : x.optional ≡ y.optional = optional-one x.optional y.optional (omega (arith, r.kind, s.kind)) in
      let b : x.path ≡ y.path =
      path-one x.path y.path (sym r.count ∙ s.count) (sym r.size ∙ s.size) (text-one r.path s.path) in
      build x.place y.place x.optional y.optional x.path y.path (sym p ∙ q) a b
    where
      build : (p q : ℕ) (a b : Bool) (t u : List Text) → p ≡ q → a ≡ b → t ≡ u
          → ◌≡◌ {A = Substitution} (record { place = p; optional = a; path = t }) (record { place = q; optional = b; path = u })
      build p q a b t u e f w = rw (e, f, w) refl

  -- ---- trees

  member-small : (n : Node) (k o z m i end : ℕ) → Shown g h lo hi Same 0 k o z m i end n → k < 16
  member-small (simple x) k o z m i end s = omega (arith, s.0, code-small x)
  member-small (array es) k o z m i end s = omega (arith, s.0)
  member-small (object fs) k o z m i end s = omega (arith, s.0)
  member-small (unresolved b ps) k o z m i end s = omega (arith, s.0)

  piece-small : (n : Node) (k o z m i end : ℕ) → Shown g h lo hi Same 16 k o z m i end n → k < 25
  piece-small (simple x) k o z m i end s = omega (arith, s.0, code-small x)
  piece-small (array es) k o z m i end s = omega (arith, s.0)
  piece-small (object fs) k o z m i end s = omega (arith, s.0)
  piece-small (unresolved b ps) k o z m i end s = omega (arith, s.0)

  -- a literal piece is no substitution
  mixed : {A : Type 0} (n : Node) (x : Substitution) (k o z m i end : ℕ) → Shown g h lo hi Same 16 k o z m i end n → ReferenceAt g h lo hi Same k o z m x → A
  mixed n x k o z m i end s r = let a = piece-small n k o z m i end s in absurd (omega (arith, r.kind, reference-large x.optional))

  -- the first member behind some seams is where the seams end
  first_one : (i j k : ℕ) → Seams g h lo hi Same i j → g (8 * j) < 16 → Seams g h lo hi Same i k → g (8 * k) < 16 → j ≡ k
  first_one i j k s a t b = go (ltb j k) refl (ltb k j) refl
    where
      go : (p : Bool) → ltb j k ≡ p → (q : Bool) → ltb k j ≡ q → j ≡ k
      go true e q f = let z = t.1 j s.0 (ltb-true j k e) in absurd (omega arith)
      go false e true f = let z = s.1 k t.0 (ltb-true k j f) in absurd (omega arith)
      go false e false f = omega (arith, ltb-false j k e, ltb-false k j f)

  no_member : {A : Type 0} (i j end : ℕ) → Seams g h lo hi Same i end → i ≤ j → j < end → g (8 * j) < 16 → A
  no_member i j end s a b c = let z = s.1 j a b in absurd (omega arith)

  key_one : (k l : Key) → k.text ≡ l.text → k.place ≡ l.place → k ≡ l
  key_one k l e f = build k.text l.text k.place l.place e f
    where
      build : (t u : Text) (p q : ℕ) → t ≡ u → p ≡ q → ◌≡◌ {A = Key} (record { text = t; place = p }) (record { text = u; place = q })
      build t u p q a b = rw (a, b) refl

  mutual
    pub node-one : (n n' : Node) (role k o z m i end : ℕ) → Shown g h lo hi Same role k o z m i end n → Shown g h lo hi Same role k o z m i end n' → n ≡ n'
    node-one (simple x) (simple y) role k o z m i end s t =
        ap simple (scalar-one x y (omega (arith, s.0, t.0)) (text-one s.1 t.1))
    node-one (simple x) (array fs) role k o z m i end s t = absurd (omega (arith, s.0, t.0, code-small x))
    node-one (simple x) (object fs) role k o z m i end s t = absurd (omega (arith, s.0, t.0, code-small x))
    node-one (simple x) (unresolved b ps) role k o z m i end s t = absurd (omega (arith, s.0, t.0, code-small x))
    node-one (array es) (simple y) role k o z m i end s t = absurd (omega (arith, s.0, t.0, code-small y))
    node-one (array es) (array fs) role k o z m i end s t = ap array (elements-one es fs i end s.1 t.1)
    node-one (array es) (object fs) role k o z m i end s t = absurd (omega (arith, s.0, t.0))
    node-one (array es) (unresolved b ps) role k o z m i end s t = absurd (omega (arith, s.0, t.0))
    node-one (object fs) (simple y) role k o z m i end s t = absurd (omega (arith, s.0, t.0, code-small y))
    node-one (object fs) (array es) role k o z m i end s t = absurd (omega (arith, s.0, t.0))
    node-one (object fs) (object es) role k o z m i end s t = ap object (fields-one fs es i end s.1 t.1)
    node-one (object fs) (unresolved b ps) role k o z m i end s t = absurd (omega (arith, s.0, t.0))
    node-one (unresolved b ps) (simple y) role k o z m i end s t = absurd (omega (arith, s.0, t.0, code-small y))
    node-one (unresolved b ps) (array es) role k o z m i end s t = absurd (omega (arith, s.0, t.0))
    node-one (unresolved b ps) (object fs) role k o z m i end s t = absurd (omega (arith, s.0, t.0))
    node-one (unresolved b ps) (unresolved c qs) role k o z m i end s t =
        let e : b ≡ c = sym s.1 ∙ t.1 in
        let f = pieces-one ps qs i end s.2 t.2 in
        rw (e, f) refl

    elements-one : (es fs : Elements) (i end : ℕ) → ElementsAt g h lo hi Same i end es → ElementsAt g h lo hi Same i end fs → es ≡ fs
    elements-one no-elements no-elements i end s t = refl
    elements-one no-elements (element n fs) i end s t =
        let j = t.0 in
        let a = t.1.0 in
        let b = t.2.0 in
        let c = t.2.1 in
        no_member i j end s a (omega arith) (member-small n (g (8 * j)) (g (8 * j + 4)) (g (8 * j + 5)) (g (8 * j + 7)) (j + 1) (j + g (8 * j + 1)) t.3)
    elements-one (element n es) no-elements i end s t =
        let j = s.0 in
        let a = s.1.0 in
        let b = s.2.0 in
        let c = s.2.1 in
        no_member i j end t a (omega arith) (member-small n (g (8 * j)) (g (8 * j + 4)) (g (8 * j + 5)) (g (8 * j + 7)) (j + 1) (j + g (8 * j + 1)) s.3)
    elements-one (element n es) (element n' fs) i end s t =
        let j = s.0 in
        let l = t.0 in
        let e : j ≡ l =
        first_one i j l s.1 (member-small n (g (8 * j)) (g (8 * j + 4)) (g (8 * j + 5)) (g (8 * j + 7)) (j + 1) (j + g (8 * j + 1)) s.3) t.1
        (member-small n' (g (8 * l)) (g (8 * l + 4)) (g (8 * l + 5)) (g (8 * l + 7)) (l + 1) (l + g (8 * l + 1)) t.3) in
        let a : Shown g h lo hi Same 0 (g (8 * j)) (g (8 * j + 4)) (g (8 * j + 5)) (g (8 * j + 7)) (j + 1) (j + g (8 * j + 1)) n' = rw e t.3 in
        let b : ElementsAt g h lo hi Same (j + g (8 * j + 1)) end fs = rw e t.4 in
        let p = node-one n n' 0 (g (8 * j)) (g (8 * j + 4)) (g (8 * j + 5)) (g (8 * j + 7)) (j + 1) (j + g (8 * j + 1)) s.3 a in
        let q = elements-one es fs (j + g (8 * j + 1)) end s.4 b in
        rw (p, q) refl

    fields-one : (es fs : Fields) (i end : ℕ) → FieldsAt g h lo hi Same i end es → FieldsAt g h lo hi Same i end fs → es ≡ fs
    fields-one no_fields no_fields i end s t = refl
    fields-one no_fields (field k n fs) i end s t =
        let j = t.0 in
        let a = t.1.0 in
        let b = t.2.0 in
        let c = t.2.1 in
        no_member i j end s a (omega arith) (member-small n (g (8 * j)) (g (8 * j + 4)) (g (8 * j + 5)) (g (8 * j + 7)) (j + 1) (j + g (8 * j + 1)) t.5)
    fields-one (field k n es) no_fields i end s t =
        let j = s.0 in
        let a = s.1.0 in
        let b = s.2.0 in
        let c = s.2.1 in
        no_member i j end t a (omega arith) (member-small n (g (8 * j)) (g (8 * j + 4)) (g (8 * j + 5)) (g (8 * j + 7)) (j + 1) (j + g (8 * j + 1)) s.5)
    fields-one (field k n es) (field k' n' fs) i end s t =
        let j = s.0 in
        let l = t.0 in
        let e : j ≡ l =
        first_one i j l s.1 (member-small n (g (8 * j)) (g (8 * j + 4)) (g (8 * j + 5)) (g (8 * j + 7)) (j + 1) (j + g (8 * j + 1)) s.5) t.1
        (member-small n' (g (8 * l)) (g (8 * l + 4)) (g (8 * l + 5)) (g (8 * l + 7)) (l + 1) (l + g (8 * l + 1)) t.5) in
        let x : TextAt h lo hi (g (8 * j + 2)) (g (8 * j + 3)) k'.text = rw e t.3 in
        let y : g (8 * j + 6) ≡ k'.place = rw e t.4 in
        let a : Shown g h lo hi Same 0 (g (8 * j)) (g (8 * j + 4)) (g (8 * j + 5)) (g (8 * j + 7)) (j + 1) (j + g (8 * j + 1)) n' = rw e t.5 in
        let b : FieldsAt g h lo hi Same (j + g (8 * j + 1)) end fs = rw e t.6 in
        let r = key_one k k' (text-one s.3 x) (sym s.4 ∙ y) in
        let p = node-one n n' 0 (g (8 * j)) (g (8 * j + 4)) (g (8 * j + 5)) (g (8 * j + 7)) (j + 1) (j + g (8 * j + 1)) s.5 a in
        let q = fields-one es fs (j + g (8 * j + 1)) end s.6 b in
        rw (r, p, q) refl

    pieces-one : (ps qs : Pieces) (i end : ℕ) → PiecesAt g h lo hi Same i end ps → PiecesAt g h lo hi Same i end qs → ps ≡ qs
    pieces-one no_pieces no_pieces i end s t = refl
    pieces-one no_pieces (node_piece place gap n qs) i end s t = let a = t.0.0 in let b = t.0.1 in absurd (omega (arith, s))
    pieces-one no_pieces (substituted gap x qs) i end s t = let a = t.0.0 in let b = t.0.1 in absurd (omega (arith, s))
    pieces-one (node_piece place gap n ps) no_pieces i end s t = let a = s.0.0 in let b = s.0.1 in absurd (omega (arith, t))
    pieces-one (substituted gap x ps) no_pieces i end s t = let a = s.0.0 in let b = s.0.1 in absurd (omega (arith, t))
    pieces-one (node_piece place gap n ps) (substituted gap' x qs) i end s t = mixed n x (g (8 * i)) (g (8 * i + 4)) (g (8 * i + 5)) (g (8 * i + 7)) (i + 1) (i + g (8 * i + 1)) s.3 t.3
    pieces-one (substituted gap x ps) (node_piece place gap' n qs) i end s t = mixed n x (g (8 * i)) (g (8 * i + 4)) (g (8 * i + 5)) (g (8 * i + 7)) (i + 1) (i + g (8 * i + 1)) t.3 s.3
    pieces-one (node_piece place gap n ps) (node_piece place' gap' n' qs) i end s t =
        let a = text-one s.1 t.1 in
        let b : place ≡ place' = sym s.2 ∙ t.2 in
        let p = node-one n n' 16 (g (8 * i)) (g (8 * i + 4)) (g (8 * i + 5)) (g (8 * i + 7)) (i + 1) (i + g (8 * i + 1)) s.3 t.3 in
        let q = pieces-one ps qs (i + g (8 * i + 1)) end s.4 t.4 in
        rw (a, b, p, q) refl
    pieces-one (substituted gap x ps) (substituted gap' y qs) i end s t =
        let a = text-one s.1 t.1 in
        let p : x ≡ y = reference-one s.3 t.3 s.2 t.2 in
        let q = pieces-one ps qs (i + g (8 * i + 1)) end s.5 t.5 in
        rw (a, p, q) refl
