-- The key of the field that an unresolved value is the whole value of: the one that its item names. So the test in front of a look-back may be made
-- at the item, without going down to it.
use Rattle.std.specs.Prelude.{◌≡◌, refl, ℕ, suc, ◌+◌, ◌≤◌, ◌<◌, false, List, [], ◌∷◌, ltb, length, get_or}
use Rattle.std.proofs.Common.{sym, subst, ◌∙◌, arith, ltb-true, ltb-false, ne_eqb}
use Rattle.std.proofs.Math.Option.{Option, none, some}
use Rattle.rules.specs.Bytes.{Text, same}
use Rattle.rules.specs.Tree.{Node, simple, array, object, unresolved, Fields, no_fields, field, Root, root_node}
use Rattle.rules.specs.Layers.{has_key}
use Rattle.rules.specs.Unresolved.{with_field}
use Rattle.theory_text.specs.Choices.{by-test}
use Rattle.doc_items.specs.Codes.{unresolved_item, as_member, kind_at, key_at, keylen_at, text_at, textlen_at, number_at, next_at}
use Rattle.doc_items.specs.Holds.{TextAt}
use Rattle.doc_items.specs.Parts.{numbers}
use Rattle.theory_back.specs.Descent.{count_node, down_node, down_fields, down-piece}
use Rattle.theory_back.specs.Numbers.{FromNode, FromFields}
use Rattle.theory_back.specs.OwnKey.{key_onward, own_key, Apart}
use Rattle.eval_keys.specs.Columns as columns
use Rattle.eval_keys.specs.Texts.{by_less}
use Rattle.eval_look_back.specs.Ranges.{NodeIn, FieldsIn, no-seam, in-member, inside-node, in-fields, in-pieces}
use Rattle.eval_look_back.specs.Steps.{asked, node-here}
use Rattle.eval_look_back.specs.Clauses.{HasKeyIs, PathIs, AskedAt}

module _ (g h : ℕ → ℕ) (lo hi bound : ℕ) (t : ℕ) (kind : kind_at g t ≡ unresolved_item) where
  abbrev b : ℕ
  b = asked g h lo hi bound t kind

  -- a key that is found is that of the item
  abbrev pub OwnAt : Option Text → Type 0
  OwnAt none = Unit {0}
  OwnAt (some k) = TextAt h lo hi (key_at g t) (keylen_at g t) k

  -- the item's own field, or one with the item inside it
  own-field : (j from : ℕ) (k : Text) (n : Node) → TextAt h lo hi (key_at g j) (keylen_at g j) k → NodeIn g h lo hi bound as_member j n → FromNode from n → j ≤ t
      → (j < t → OwnAt (down_node none key_onward (some k) from n b)) → OwnAt (down_node none key_onward (some k) from n b)
  own-field j from k n x w f l inner = by_less _ j t inner (λ d.
      let e : j ≡ t = omega arith in
      subst OwnAt (sym (node-here g h lo hi bound t kind none key_onward (some k) from j n e w f))
      (subst (λ (i : ℕ). TextAt h lo hi (key_at g i) (keylen_at g i) k) e x))

  mutual
    unfolding down_node

    own-node : (x : Option Text) (i from : ℕ) (n : Node) → NodeIn g h lo hi bound as_member i n → FromNode from n → i < t → t < next_at g i
        → OwnAt (down_node none key_onward x from n b)
    own-node x i from (simple s) w f l u = tt
    own-node x i from (array es) w f l u = tt
    own-node x i from (object fs) w f l u = own-fields x no_fields (i + 1) (next_at g i) from fs w.1 f (omega arith) u
    own-node x i from (unresolved c ps) w f l u =
        let q = in-pieces g h lo hi bound t kind (i + 1) (next_at g i) (suc from) ps w.2 f.1 (omega arith) u in
        subst OwnAt (sym (down-piece none key_onward x from c ps b (omega (arith, q.0)))) tt

    own-fields : (x : Option Text) (earlier : Fields) (i end from : ℕ) (fs : Fields) → FieldsIn g h lo hi bound i end fs → FromFields from fs → i ≤ t → t < end
        → OwnAt (down_fields none key_onward x earlier from fs b)
    own-fields x earlier i end from no_fields w f l u = tt
    own-fields x earlier i end from (field key n fs) w f l u =
        let j = w.0 in
        by-test OwnAt (ltb b (from + count_node n))
        (λ e. by_less _ t j (λ d. absurd (no-seam g h lo hi bound t kind i j w.1 l d)) (λ d.
        by_less _ t (next_at g j)
        (λ v. own-field j from key.text n w.3 w.5 f.0 d (λ a. own-node (some key.text) j from n w.5 f.0 a v))
        (λ v. let q = in-fields g h lo hi bound t kind (next_at g j) end (from + count_node n) fs w.6 f.1 v u in
        absurd (omega (arith, ltb-true b (from + count_node n) e, q.0)))))
        (λ e. by_less _ t j (λ d. absurd (no-seam g h lo hi bound t kind i j w.1 l d)) (λ d.
        by_less _ t (next_at g j)
        (λ v. let q = in-member g h lo hi bound t kind j from n w.5 f.0 d (λ a.
        inside-node g h lo hi bound t kind as_member (kind_at g j) (text_at g j) (textlen_at g j) (number_at g j) (j + 1) (next_at g j) from n w.5 f.0 (omega arith) v) in
        absurd (omega (arith, ltb-false b (from + count_node n) e, q.1)))
        (λ v. own-fields x (with_field earlier key n) (next_at g j) end (from + count_node n) fs w.6 f.1 v u)))

pub own_at : {T : List ℕ} {item : ℕ} {h : ℕ → ℕ} {lo hi bound : ℕ} {root : Root} (a : AskedAt T item h lo hi bound root) → 0 < item
    → OwnAt (numbers T) h lo hi bound item a.kind (own_key root (number_at (numbers T) item))
own_at {T} {item} {h} {lo} {hi} {bound} {root} a l =
    own-node (numbers T) h lo hi bound item a.kind none 0 0 (root_node root) a.shown a.from l (omega (arith, a.inside))

has-none : (k : Text) (p : List Text) → ((i : ℕ) → i < length p → same k (get_or p i []) ≡ false) → has_key k p ≡ false
unfolding has_key
has-none k [] n = refl
has-none k (j ∷ p) n = by-test (λ y. y ≡ false) (same k j) (λ e. sym e ∙ n 0 (omega arith)) (λ e. has-none k p (λ i l. n (suc i) (omega arith)))

-- the number of the item's key is none of the path's: so is the key
pub apart : {T keys : List ℕ} {count item : ℕ} {h : ℕ → ℕ} {lo hi bound : ℕ} {root : Root} {p : List Text}
    → HasKeyIs keys count (columns.key_at T item) false → (a : AskedAt T item h lo hi bound root) → PathIs T keys count h lo hi bound root p → 0 < item
    → Apart (own_key root (number_at (numbers T) item)) p
apart {T} {keys} {count} {item} {h} {lo} {hi} {bound} {root} {p} w a q l = go (own_key root (number_at (numbers T) item)) (own_at a l)
  where
    kind : kind_at (numbers T) item ≡ unresolved_item
    kind = a.kind

    go : (o : Option Text) → OwnAt (numbers T) h lo hi bound item a.kind o → Apart o p
    go none x = tt
    go (some k) x = has-none k p (λ i m.
        sym (q.tells i m item k l a.inside (omega arith) x)
        ∙ ne_eqb (columns.key_at T item) (get_or keys i 0) (λ e. w.absent refl i (omega (arith, q.long)) (sym e)))
