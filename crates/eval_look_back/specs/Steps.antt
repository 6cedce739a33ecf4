-- The descent in a table of items, as a loop has it: from literal to literal, by the field around an item.
use Rattle.std.specs.Prelude.{◌≡◌, ℕ, suc, ◌+◌, ◌≤◌, ◌<◌}
use Rattle.std.proofs.Math.Path.{refl, sym, ap}
use Rattle.std.proofs.Common.{subst, ◌∙◌, arith}
use Rattle.rules.specs.Tree.{Key, Node, simple, array, object, unresolved, Fields, no_fields, Root, root_node}
use Rattle.doc_items.specs.Codes.{object_item, unresolved_item, as_member, kind_at, size_at, number_at, next_at}
use Rattle.theory_back.specs.Descent.{count_fields, down_node, down_fields, step-around, down-here, down-piece, off-node}
use Rattle.theory_back.proofs.Descent.{keeps-entered}
use Rattle.theory_back.specs.Numbers.{FromNode, FromFields}
use Rattle.eval_keys.specs.Texts.{by_equal}
use Rattle.eval_look_back.specs.Ranges.{code-small, NodeIn, FieldsIn, in-pieces}
use Rattle.eval_look_back.specs.Passing.{Found, from_found, around-found}

module _ (g h : ℕ → ℕ) (lo hi bound : ℕ) (t : ℕ) (kind : kind_at g t ≡ unresolved_item) where
  -- the item's number
  abbrev pub asked : ℕ
  asked = number_at g t

  -- ---- what an item's kind says of its node

  -- an object: its fields stand behind its item
  pub record Literal (from i : ℕ) (n : Node) : Type 0 where
    pub fields : Fields
    pub is : n ≡ object fields
    pub shown : FieldsIn g h lo hi bound (i + 1) (next_at g i) fields
    pub numbers : FromFields from fields

  pub literal-at : (from i : ℕ) (n : Node) → NodeIn g h lo hi bound as_member i n → FromNode from n → kind_at g i ≡ object_item → Literal from i n
  literal-at from i (simple x) s f k = absurd (omega (arith, s.0, code-small x))
  literal-at from i (array es) s f k = absurd (omega (arith, s.0))
  literal-at from i (object fs) s f k = record { fields = fs; is = refl; shown = s.1; numbers = f }
  literal-at from i (unresolved c ps) s f k = absurd (omega (arith, s.0))

  module _ {X : Type 0} (off : X) (enter : X → Fields → Key → X) where
    -- the item itself
    pub node-here : (x : X) (from i : ℕ) (n : Node) → i ≡ t → NodeIn g h lo hi bound as_member i n → FromNode from n → down_node off enter x from n asked ≡ x
    node-here x from i (simple s) e w f =
        let k : kind_at g i ≡ unresolved_item = subst (λ (j : ℕ). kind_at g j ≡ unresolved_item) (sym e) kind in absurd (omega (arith, w.0, code-small s))
    node-here x from i (array es) e w f =
        let k : kind_at g i ≡ unresolved_item = subst (λ (j : ℕ). kind_at g j ≡ unresolved_item) (sym e) kind in absurd (omega (arith, w.0))
    node-here x from i (object fs) e w f =
        let k : kind_at g i ≡ unresolved_item = subst (λ (j : ℕ). kind_at g j ≡ unresolved_item) (sym e) kind in absurd (omega (arith, w.0))
    node-here x from i (unresolved c ps) e w f =
        let number : asked ≡ from = sym (ap (λ (j : ℕ). number_at g j) e) ∙ w.1.0 ∙ f.0 in
        ap (down_node off enter x from (unresolved c ps)) number ∙ down-here off enter x from c ps

    -- inside another value than an object: it is closed
    pub node-other : (x : X) (from i : ℕ) (n : Node) → i < t → t < next_at g i → NodeIn g h lo hi bound as_member i n → FromNode from n
        → (kind_at g i ≡ object_item → ⊥) → down_node off enter x from n asked ≡ off
    unfolding down_node
    node-other x from i (simple s) l u w f k = refl
    node-other x from i (array es) l u w f k = refl
    node-other x from i (object fs) l u w f k = let z : kind_at g i ≡ object_item = omega (arith, w.0) in absurd (k z)
    node-other x from i (unresolved c ps) l u w f k =
        let q = in-pieces g h lo hi bound t kind (i + 1) (next_at g i) (suc from) ps w.2 f.1 (omega arith) u in
        down-piece off enter x from c ps asked (omega (arith, q.0))

    -- ---- the loop

    -- at a literal: what comes of the descent from there is what comes of the whole
    pub record Down (result x : X) (literal : ℕ) : Type 0 where
      pub from : ℕ
      pub fields : Fields
      pub shown : FieldsIn g h lo hi bound (literal + 1) (next_at g literal) fields
      pub numbers : FromFields from fields
      pub is : down_fields off enter x no_fields from fields asked ≡ result
      pub low : literal < t
      pub high : t < next_at g literal

    abbrev pub Field : (result x : X) (literal : ℕ) → Down result x literal → ℕ → Type 0
    Field result x literal d at = Found g h lo hi bound (literal + 1) (next_at g literal) d.fields at

    -- the field around the item
    module _ (result x : X) (literal : ℕ) (d : Down result x literal) (at : ℕ) (w : Field result x literal d at)
        (l : at ≤ t) (u : t < next_at g at) where
      abbrev pub next : X
      next = enter x w.earlier w.key

      abbrev from' : ℕ
      from' = d.from + count_fields w.earlier

      numbers' : FromNode from' w.node
      numbers' = from_found g h lo hi bound (literal + 1) (next_at g literal) d.fields d.from d.numbers t kind at w l u

      entered : down_node off enter next from' w.node asked ≡ result
      unfolding down_node
      entered =
          let a = around-found g h lo hi bound (literal + 1) (next_at g literal) d.fields d.from d.numbers t kind at w l u in
          sym (step-around off enter x d.from d.fields asked a) ∙ d.is

      -- it is the item's own
      pub down-end : at ≡ t → result ≡ next
      down-end e = sym entered ∙ node-here next from' at w.node e w.here.node numbers'

      -- its key is not the path's next
      pub down-gives-up : ((earlier : Fields) (k : Key) → enter off earlier k ≡ off) → next ≡ off → result ≡ off
      down-gives-up stays e =
          sym entered ∙ ap (λ y. down_node off enter y from' w.node asked) e ∙ off-node off enter stays from' w.node asked

    -- at any item on the way, before it is known what it is
    pub record On (result x : X) (i : ℕ) : Type 0 where
      pub from : ℕ
      pub node : Node
      pub shown : NodeIn g h lo hi bound as_member i node
      pub numbers : FromNode from node
      pub is : down_node off enter x from node asked ≡ result
      pub low : i < t
      pub high : t < next_at g i

    -- at the root's item
    abbrev pub on-start : (root : Root) (result x : X) → down_node off enter x 0 (root_node root) asked ≡ result → NodeIn g h lo hi bound as_member 0 (root_node root)
        → FromNode 0 (root_node root) → 0 < t → t < size_at g 0 → On result x 0
    on-start root result x e s f l u =
        record { from = 0; node = root_node root; shown = s; numbers = f; is = e; low = l; high = omega arith }

    pub on-other : (result x : X) (i : ℕ) → On result x i → (kind_at g i ≡ object_item → ⊥) → result ≡ off
    on-other result x i o k = sym o.is ∙ node-other x o.from i o.node o.low o.high o.shown o.numbers k

    pub on-literal : (result x : X) (i : ℕ) → On result x i → kind_at g i ≡ object_item → Down result x i
    unfolding down_node
    on-literal result x i o k =
        let a = literal-at o.from i o.node o.shown o.numbers k in
        record {
          from = o.from;
          fields = a.fields;
          shown = a.shown;
          numbers = a.numbers;
          is = sym (ap (λ n. down_node off enter x o.from n asked) a.is) ∙ o.is;
          low = o.low;
          high = o.high;
        }

    -- those fields are its node's
    pub on-fields : (result x : X) (i : ℕ) (o : On result x i) (k : kind_at g i ≡ object_item) → o.node ≡ object (on-literal result x i o k).fields
    unfolding on-literal
    on-fields result x i o k = (literal-at o.from i o.node o.shown o.numbers k).is

    pub on-field : (result x : X) (literal : ℕ) (d : Down result x literal) (at : ℕ) (w : Field result x literal d at) → at < t
        → t < next_at g at → On result (enter x w.earlier w.key) at
    on-field result x literal d at w m u =
        let l : at ≤ t = omega arith in
        record {
          from = from' result x literal d at w l u;
          node = w.node;
          shown = w.here.node;
          numbers = numbers' result x literal d at w l u;
          is = entered result x literal d at w l u;
          low = m;
          high = u;
        }

    pub on-node : (result x : X) (literal : ℕ) (d : Down result x literal) (at : ℕ) (w : Field result x literal d at) (m : at < t) (u : t < next_at g at)
        → (on-field result x literal d at w m u).node ≡ w.node
    unfolding on-field
    on-node result x literal d at w m u = refl

    -- where no field may be entered any more
    pub on-end : (result x : X) (i : ℕ) → On result x i → ((earlier : Fields) (k : Key) → enter x earlier k ≡ off)
        → ((earlier : Fields) (k : Key) → enter off earlier k ≡ off) → result ≡ off
    unfolding down_node
    on-end result x i o none-enters stays = by_equal _ (kind_at g i) 7 (λ k. ended (on-literal result x i o k)) (λ k. on-other result x i o k)
      where
        ended : Down result x i → result ≡ off
        ended d =
            sym d.is ∙ keeps-entered off enter (λ y. y ≡ off) refl (λ y earlier k e. ap (λ z. enter z earlier k) e ∙ stays earlier k)
            x none-enters no_fields d.from d.fields asked
