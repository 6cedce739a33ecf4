-- The root's fields of a document that stands in memory (doc_items' Holds): from a text's number come those with that key.
use Rattle.std.specs.Prelude.{◌≡◌, Bool, ℕ, ◌+◌, ◌*◌, ◌≤◌, ◌<◌, length}
use Rattle.std.proofs.Math.Path.{refl}
use Rattle.std.proofs.Common.{sym, ◌∙◌, arith, lt-ltb}
use Rattle.std.proofs.Math.Bool.{true, false, cond}
use mathlib.Core.List.{List, [], ◌∷◌}
use Rattle.rules.specs.Bytes.{Text, same}
use Rattle.rules.specs.Tree.{Scalar, null, boolean, number, string, Node, simple, array, object, unresolved, Fields, no_fields, field, Root, fields, elements, root_node}
use Rattle.doc_items.specs.Room.{capacity}
use Rattle.doc_items.specs.Codes.{code_of}
use Rattle.doc_items.specs.Holds.{Shown, FieldsAt, NodeAt}
use Rattle.doc_items.specs.Parts.{numbers, letters}
use Rattle.eval_keys.specs.Columns.{keys_at, firsts_at, key_at, first_at, next_at}
use Rattle.eval_keys.specs.Numbers.{Numbered, number_of}
use Rattle.eval_keys.specs.Clauses.{NumberKeysIs}
use Rattle.eval_keys.specs.Uses.{number-upto, number_small, numbered-kept}
use Rattle.eval_keys.specs.Documents.{key-tells, number-below, node_stays}
use Rattle.eval_root_index.specs.Links.{Every, Listed, Follows, Rises, rises-less, with_key, every_map, with-same, listed_same, listed-inside}
use Rattle.eval_root_index.specs.Clauses.{LinkRootIs}

-- linking leaves all before the two columns as it is
pub link-below : {items : ℕ} {T T' : List ℕ} → LinkRootIs items T T' → (j : ℕ) → j < firsts_at → numbers T' j ≡ numbers T j
link-below w j l = w.kept j (λ u v. omega arith)

-- ---- the fields of an object

code-small : (x : Scalar) → code_of x < 16
code-small null = omega arith
code-small (boolean false) = omega arith
code-small (boolean true) = omega arith
code-small (number t) = omega arith
code-small (string t) = omega arith

module _ (g h : ℕ → ℕ) (lo hi : ℕ) (N : ℕ → ℕ → Type 0) where
  pub member-kind : (n : Node) (k o z m i end : ℕ) → Shown g h lo hi N 0 k o z m i end n → k < 16
  member-kind (simple x) k o z m i end s = omega (arith, s.0, code-small x)
  member-kind (array es) k o z m i end s = omega (arith, s.0)
  member-kind (object fs) k o z m i end s = omega (arith, s.0)
  member-kind (unresolved b ps) k o z m i end s = omega (arith, s.0)

  -- their items
  unfoldable pub places : (fs : Fields) (i end : ℕ) → FieldsAt g h lo hi N i end fs → List ℕ
  places no_fields i end s = []
  places (field k n fs) i end s = s.0 ∷ places fs (s.0 + g (8 * s.0 + 1)) end s.6

  -- those of the fields whose key is a text
  unfoldable pub places_of : Text → (fs : Fields) (i end : ℕ) → FieldsAt g h lo hi N i end fs → List ℕ
  unfolding same
  places_of t no_fields i end s = []
  places_of t (field k n fs) i end s =
      let rest = places_of t fs (s.0 + g (8 * s.0 + 1)) end s.6 in cond (same k.text t) (s.0 ∷ rest) rest

  pub places-listed : (fs : Fields) (i end : ℕ) (s : FieldsAt g h lo hi N i end fs) → Listed g i end (places fs i end s)
  unfolding places
  places-listed no_fields i end s = s
  places-listed (field k n fs) i end s =
      let j = s.0 in (
        s.1,
        s.2,
        member-kind n (g (8 * j)) (g (8 * j + 4)) (g (8 * j + 5)) (g (8 * j + 7)) (j + 1) (j + g (8 * j + 1)) s.5,
        places-listed fs (j + g (8 * j + 1)) end s.6,
      )

  -- they rise
  pub places-rise : (t : Text) (fs : Fields) (i end : ℕ) (s : FieldsAt g h lo hi N i end fs) → Rises i (places_of t fs i end s)
  unfolding places_of
  places-rise t no_fields i end s = tt
  places-rise t (field k n fs) i end s =
      let j = s.0 in
      let a = s.1.0 in
      let b = s.2.0 in
      let rest = places_of t fs (j + g (8 * j + 1)) end s.6 in
      let rises : Rises (j + 1) rest = rises-less (j + 1) (j + g (8 * j + 1)) rest (omega arith) (places-rise t fs (j + g (8 * j + 1)) end s.6) in
      go j rest a rises (same k.text t)
    where
      go : (j : ℕ) (rest : List ℕ) → i ≤ j → Rises (j + 1) rest → (b : Bool) → Rises i (cond b (j ∷ rest) rest)
      go j rest a r true = (a, r)
      go j rest a r false = rises-less i (j + 1) rest (omega arith) r

  -- and stand before the end
  pub places-inside : (t : Text) (fs : Fields) (i end : ℕ) (s : FieldsAt g h lo hi N i end fs) → Every (λ j. j < end) (places_of t fs i end s)
  unfolding places_of
  places-inside t no_fields i end s = tt
  places-inside t (field k n fs) i end s =
      let a = s.2.0 in
      let b = s.2.1 in
      go s.0 (places_of t fs (s.0 + g (8 * s.0 + 1)) end s.6) (omega arith) (places-inside t fs (s.0 + g (8 * s.0 + 1)) end s.6) (same k.text t)
    where
      go : (j : ℕ) (rest : List ℕ) → j < end → Every (λ m. m < end) rest → (b : Bool) → Every (λ m. m < end) (cond b (j ∷ rest) rest)
      go j rest a r true = (a, r)
      go j rest a r false = r

-- ---- a document whose keys are numbered and linked

module _ {X T : List ℕ} {n hi : ℕ} (N : Numbered X T n) (room : hi ≤ length X) (M : ℕ → ℕ → Type 0) where
  abbrev Standing : ℕ → ℕ → Fields → Type 0
  Standing i end fs = FieldsAt (numbers T) (letters 0 X) 0 hi M i end fs

  abbrev items : (fs : Fields) (i end : ℕ) → Standing i end fs → List ℕ
  items = places (numbers T) (letters 0 X) 0 hi M

  abbrev items_of : Text → (fs : Fields) (i end : ℕ) → Standing i end fs → List ℕ
  items_of = places_of (numbers T) (letters 0 X) 0 hi M

  -- the fields with a text's number are those with the text
  pub places-with : (t : Text) (fs : Fields) (i end : ℕ) → 1 ≤ i → end ≤ n → (s : Standing i end fs)
      → with_key (key_at T) (number_of X T n t) (items fs i end s) ≡ items_of t fs i end s
  unfolding places places_of with_key
  places-with t no_fields i end low high s = refl
  places-with t (field k node fs) i end low high s =
      let j = s.0 in
      let a = s.1.0 in
      let b = s.2.0 in
      let c = s.2.1 in
      let kind = member-kind (numbers T) (letters 0 X) 0 hi M node (numbers T (8 * j)) (numbers T (8 * j + 4)) (numbers T (8 * j + 5)) (numbers T (8 * j + 7))
      (j + 1) (j + numbers T (8 * j + 1)) s.5 in
      let here = key-tells N room j (omega arith) (omega arith) kind s.3 t in
      let rest = places-with t fs (j + numbers T (8 * j + 1)) end (omega arith) high s.6 in
      rw (here, rest) refl

-- From a text's number come the root's fields whose key is the text, in order; of an array there are none.
abbrev pub RootLinked : List ℕ → List ℕ → ℕ → ℕ → (ℕ → ℕ → Type 0) → Root → Type 0
RootLinked X T items hi M (fields fs) =
    (s : FieldsAt (numbers T) (letters 0 X) 0 hi M (0 + 1) (0 + numbers T 1) fs) (t : Text)
    → Follows (next_at T) (first_at T (number_of X T (items + 1) t)) (places_of (numbers T) (letters 0 X) 0 hi M t fs (0 + 1) (0 + numbers T 1) s)
RootLinked X T items hi M (elements es) = (k : ℕ) → k < capacity → first_at T k ≡ 0

-- A document in memory with its keys' numbers; M as in Holds.
pub record Keyed (X T : List ℕ) (items hi : ℕ) (M : ℕ → ℕ → Type 0) (root : Root) : Type 0 where
  pub shown : NodeAt (numbers T) (letters 0 X) 0 hi M 0 0 (root_node root)
  pub whole : numbers T 1 ≡ items + 1
  pub numbered : Numbered X T (items + 1)
  pub linked : RootLinked X T items hi M root

up_to : (g : ℕ → ℕ) (i end end' : ℕ) (js : List ℕ) → end ≡ end' → Listed g i end js → Listed g i end' js
up_to g i end end' js e x = rw e at x

-- After `number_keys` and `link_root` a document that stood in memory is one.
module _ {X T T₁ T₂ : List ℕ} {items hi : ℕ} (few : items < capacity) (room : hi ≤ length X) (whole : numbers T 1 ≡ items + 1)
    (W : NumberKeysIs X items T T₁) (L : LinkRootIs items T₁ T₂) where
  stays : (j : ℕ) → j < 8 * capacity → numbers T₂ j ≡ numbers T j
  stays j l = link-below L j (omega arith) ∙ number-below W j (omega arith)

  numbered-on : Numbered X T₂ (items + 1)
  numbered-on = numbered-kept T₂ (omega arith) (link-below L) W.numbered

  one : numbers T₂ 1 ≡ items + 1
  one = stays 1 (omega arith) ∙ whole

  kind-on : numbers T₁ 0 ≡ numbers T 0
  kind-on = number-below W 0 (omega arith)

  linked_on : (M : ℕ → ℕ → Type 0) (root : Root) → NodeAt (numbers T) (letters 0 X) 0 hi M 0 0 (root_node root) → RootLinked X T₂ items hi M root
  linked_on M (elements es) x = λ k l. L.none (λ e. let z = kind-on in omega (arith, x.0)) k l
  linked_on M (fields fs) x = λ s t. go s t
    where
      go : (s : FieldsAt (numbers T₂) (letters 0 X) 0 hi M (0 + 1) (0 + numbers T₂ 1) fs) (t : Text)
          → Follows (next_at T₂) (first_at T₂ (number_of X T₂ (items + 1) t)) (places_of (numbers T₂) (letters 0 X) 0 hi M t fs (0 + 1) (0 + numbers T₂ 1) s)
      go s t =
          let js = places (numbers T₂) (letters 0 X) 0 hi M fs (0 + 1) (0 + numbers T₂ 1) s in
          let end : 0 + numbers T₂ 1 ≡ items + 1 = let e = one in omega arith in
          let listed : Listed (numbers T₂) 1 (items + 1) js =
          up_to (numbers T₂) 1 (0 + numbers T₂ 1) (items + 1) js end (places-listed (numbers T₂) (letters 0 X) 0 hi M fs (0 + 1) (0 + numbers T₂ 1) s) in
          let back : Listed (numbers T₁) 1 (items + 1) js =
          listed_same (numbers T₂) (numbers T₁) 1 (items + 1) js (λ k u. sym (link-below L k (omega arith))) listed in
          let stand = listed-inside (numbers T₁) 1 (items + 1) js back in
          let keys : Every (λ j. key_at T₁ j < capacity) js =
          every_map (λ j u. let l = u.1 in
          let v = number-upto W.numbered j u.0 (lt-ltb (numbers T₁ (8 * j)) 16 u.2) u.1 in omega arith) js stand in
          let same_keys : Every (λ j. key_at T₂ j ≡ key_at T₁ j) js = every_map (λ j u. let l = u.1 in link-below L (keys_at + j) (omega arith)) js stand in
          let k = number_of X T₂ (items + 1) t in
          let small : k < capacity = let l = number_small X T₂ (items + 1) t (omega arith) in omega arith in
          let chain : Follows (next_at T₂) (first_at T₂ k) (with_key (key_at T₁) k js) = (L.is (kind-on ∙ x.0) js back keys).at k small in
          rw (sym (places-with numbered-on room M t fs (0 + 1) (0 + numbers T₂ 1) (omega arith) (let e = one in omega arith) s) ∙ with-same (key_at T₁) (key_at T₂) k js same_keys) chain

  pub document-keyed : (M : ℕ → ℕ → Type 0) (root : Root) → NodeAt (numbers T) (letters 0 X) 0 hi M 0 0 (root_node root) → Keyed X T₂ items hi M root
  document-keyed M root x = record {
    shown = node_stays (numbers T) (numbers T₂) (letters 0 X) 0 hi M 0 0 (root_node root) stays (omega arith) (let e = whole in omega arith) x;
    whole = one;
    numbered = numbered-on;
    linked = linked_on M root x;
  }
