-- The second pass: the layers before the field, level by level, until the item is reached. Nothing is tested in it: the first pass has found
-- that the path looks back, so the fields on the way have its elements as their keys.
use Rattle.std.specs.Prelude.{◌≡◌, ℕ, ◌+◌, ◌≤◌, ◌<◌, List, [], Bool, drop, get_or}
use Rattle.std.proofs.Math.Path.{refl, sym, ap, subst}
use Rattle.std.proofs.Common.{◌∙◌, arith}
use Rattle.std.proofs.Math.Bool.{true, false}
use Rattle.std.proofs.Math.Option.{none, some}
use Rattle.std.proofs.Math.ListN.{length}
use Rattle.answers.specs.Theory.Sound.{clash}
use Rattle.rules.specs.Bytes.{Text, same}
use Rattle.rules.specs.Tree.{Key, Node, object, Fields, field, Root, root_node, join_fields}
use Rattle.doc_items.specs.Codes.{object_item, unresolved_item, as_member, kind_at, size_at, number_at, next_at}
use Rattle.theory_back.specs.Numbers.{FromNode}
use Rattle.theory_back.specs.LookBack.{Left, onward, look_back}
use Rattle.theory_back.specs.Passes.{looks_back, dropped, onward-same, onward-other, onward-off}
use Rattle.theory_back.proofs.Passes.{looks-within, looks-some, back-both, shorter}
use Rattle.eval_keys.specs.Texts.{by_equal}
use Rattle.eval_look_back.specs.Ranges.{NodeIn, FieldsIn}
use Rattle.eval_look_back.specs.Passing.{Spans}
use Rattle.eval_look_back.specs.Steps.{Down, On, on-start, on-other, on-literal, on-fields, on-field, on-node, down-end, down-gives-up}

-- what holds of what is carried and the node that comes next, and goes on from a literal to each of its fields
pub record Kept {L : Type 0} (below : Text → Fields → L → L) (Holds : L → Node → Type 0) : Type 0 where
  pub enters : (x : L) (j : Text) (earlier : Fields) (k : Key) (n : Node) (later : Fields)
      → Holds x (object (join_fields earlier (field k n later))) → Holds (below j earlier x) n

module _ {L : Type 0} (below : Text → Fields → L → L) (Holds : L → Node → Type 0) (kept : Kept below Holds) (g h : ℕ → ℕ) (lo hi bound : ℕ)
    (t : ℕ) (kind : kind_at g t ≡ unresolved_item) (p : List Text) (own : ℕ) (within : own ≤ length p) (m : L) where
  abbrev goal : Left L
  goal = some (drop own p, m)

  abbrev OnIn : Left L → ℕ → Type 0
  OnIn x i = On g h lo hi bound t kind none (onward below) goal x i

  -- at an item in which the other still stands: a node of which all that is kept holds
  pub record Onward (literal i : ℕ) (w : L) : Type 0 where
    pub less : i < own
    pub on : OnIn (some (drop i p, w)) literal
    pub holds : Holds w on.node

  pub record Ended (i : ℕ) (w : L) : Type 0 where
    pub all : i ≡ own
    pub is : w ≡ m
    pub node : Node
    pub holds : Holds w node

  -- i levels are done, and w are their layers
  pub record Before (literal i : ℕ) (w : L) : Type 0 where
    pub going : literal < t → Onward literal i w
    pub ended : literal ≡ t → Ended i w

  rest_or : Left L → List Text
  rest_or none = []
  rest_or (some s) = s.0

  last_or : L → Left L → L
  last_or w none = w
  last_or w (some s) = s.1

  on-kind : (x : Left L) (i : ℕ) → OnIn x i → kind_at g i ≡ object_item
  on-kind x i o =
      by_equal _ (kind_at g i) object_item (λ k. k) (λ k. clash (cc (on-other g h lo hi bound t kind none (onward below) goal x i o k)))

  module _ (literal i : ℕ) (w : L) (B : Before literal i w) (less : literal < t) where
    state : Left L
    state = some (drop i p, w)

    here_on : Onward literal i w
    here_on = B.going less

    short : i < length p
    short = omega (arith, here_on.less)

    is-object : kind_at g literal ≡ object_item
    unfolding state
    is-object = on-kind state literal here_on.on

    down : Down g h lo hi bound t kind none (onward below) goal state literal
    unfolding state
    down = on-literal g h lo hi bound t kind none (onward below) goal state literal here_on.on is-object

    is-node : here_on.on.node ≡ object down.fields
    unfolding state down
    is-node = on-fields g h lo hi bound t kind none (onward below) goal state literal here_on.on is-object

    -- the field around the item
    module _ (at : ℕ) (around : Spans g h lo hi bound (literal + 1) (next_at g literal) down.fields t at) where
      abbrev earlier : Fields
      earlier = around.found.earlier

      abbrev next : Left L
      next = some (drop (i + 1) p, below (get_or p i []) earlier w)

      key-same : same around.found.key.text (get_or p i []) ≡ true
      unfolding state
      key-same = go (same around.found.key.text (get_or p i [])) refl
        where
          go : (b : Bool) → same around.found.key.text (get_or p i []) ≡ b → b ≡ true
          go true e = refl
          go false e =
              let z = down-gives-up g h lo hi bound t kind none (onward below) goal state literal down at around.found around.low around.high
              (onward-off below) (onward-other below w earlier around.found.key p i short e) in
              clash (cc z)

      entered : onward below state earlier around.found.key ≡ next
      unfolding state
      entered = onward-same below w earlier around.found.key p i short key-same

      -- the item's own field
      here : at ≡ t → goal ≡ next
      unfolding state
      here e =
          down-end g h lo hi bound t kind none (onward below) goal state literal down at around.found around.low around.high e ∙ entered

      -- a field with the item inside it
      inner-on : at < t → On g h lo hi bound t kind none (onward below) goal (onward below state earlier around.found.key) at
      unfolding state
      inner-on e = on-field g h lo hi bound t kind none (onward below) goal state literal down at around.found e around.high

      inner : at < t → OnIn next at
      inner e = subst (λ (x : Left L). OnIn x at) entered (inner-on e)

      last : at ≡ t → own ≡ i + 1
      unfolding rest_or
      last e =
          let z : length (drop own p) ≡ length (drop (i + 1) p) = ap (λ x. length (rest_or x)) (here e) in
          omega (arith, z, dropped p own within, dropped p (i + 1) (omega (arith, short)))

      more : at < t → i + 1 < own
      more e =
          let d = on-literal g h lo hi bound t kind none (onward below) goal next at (inner e) (on-kind next at (inner e)) in
          let z = shorter below (drop (i + 1) p) (below (get_or p i []) earlier w) d.from d.fields (number_at g t) (drop own p) m d.is in
          omega (arith, z, dropped p own within, dropped p (i + 1) (omega (arith, short)))

      holds-here : Holds w (object (join_fields earlier (field around.found.key around.found.node around.found.later)))
      holds-here = subst (Holds w) (is-node ∙ ap object around.found.is) here_on.holds

      holds_on : Holds (below (get_or p i []) earlier w) around.found.node
      holds_on = kept.enters w (get_or p i []) earlier around.found.key around.found.node around.found.later holds-here

      same-node : (x y : Left L) (e : x ≡ y) (o : OnIn x at) → (subst (λ (z : Left L). OnIn z at) e o).node ≡ o.node
      same-node x y e o = refl

      -- the node that is entered is the field's
      holds-inner : (q : at < t) → Holds (below (get_or p i []) earlier w) (inner q).node
      unfolding state inner inner-on
      holds-inner q =
          subst (Holds (below (get_or p i []) earlier w))
          (sym (same-node (onward below state earlier around.found.key) next entered (inner-on q)
          ∙ on-node g h lo hi bound t kind none (onward below) goal state literal down at around.found q around.high)) holds_on

      one_more : Before at (i + 1) (below (get_or p i []) earlier w)
      unfolding last_or
      one_more = record {
        going = λ q. record { less = more q; on = inner q; holds = holds-inner q };
        ended = λ q. record { all = sym (last q); is = sym (ap (last_or w) (here q)); node = around.found.node; holds = holds_on };
      }

    -- A literal's fields, and what the one around the item gives: its key is the path's next element, and there is a level more, one key deeper
    -- and then the literal's earlier fields.
    pub record Entering : Type 0 where
      pub inside : i < length p
      pub fields : Fields
      pub stand : FieldsIn g h lo hi bound (literal + 1) (next_at g literal) fields
      pub high : t < next_at g literal
      pub node : (B.going less).on.node ≡ object fields
      pub key : (at : ℕ) (around : Spans g h lo hi bound (literal + 1) (next_at g literal) fields t at)
          → same around.found.key.text (get_or p i []) ≡ true
      pub holds : (at : ℕ) (around : Spans g h lo hi bound (literal + 1) (next_at g literal) fields t at)
          → Holds w (object (join_fields around.found.earlier (field around.found.key around.found.node around.found.later)))
      pub before : (at : ℕ) (around : Spans g h lo hi bound (literal + 1) (next_at g literal) fields t at)
          → Before at (i + 1) (below (get_or p i []) around.found.earlier w)

    pub before-turn : Entering
    unfolding here_on
    before-turn = record {
      inside = short;
      fields = down.fields;
      stand = down.shown;
      high = down.high;
      node = is-node;
      key = key-same;
      holds = holds-here;
      before = one_more;
    }

-- ---- at the root's item, with nothing below it

pub record Begun {L : Type 0} (below : Text → Fields → L → L) (Holds : L → Node → Type 0) (kept : Kept below Holds) (g h : ℕ → ℕ) (lo hi bound t : ℕ)
    (kind : kind_at g t ≡ unresolved_item) (root : Root) (p : List Text) (own : ℕ) (l : L) : Type 0 where
  pub within : own ≤ length p
  pub last : L
  pub is : look_back below root p l (number_at g t) ≡ some (drop own p, last)
  pub before : Before below Holds kept g h lo hi bound t kind p own within last 0 0 l
  pub at-root : (d : 0 < t) → (before.going d).on.node ≡ root_node root

pub before-start : {L : Type 0} (below : Text → Fields → L → L) (Holds : L → Node → Type 0) (kept : Kept below Holds) (g h : ℕ → ℕ) (lo hi bound t : ℕ)
    (kind : kind_at g t ≡ unresolved_item) (root : Root) (p rest : List Text) (own : ℕ) (l : L) → looks_back root p (number_at g t) ≡ some (rest, own)
    → NodeIn g h lo hi bound as_member 0 (root_node root) → FromNode 0 (root_node root) → 0 < t → t < size_at g 0 → Holds l (root_node root)
    → Begun below Holds kept g h lo hi bound t kind root p own l
before-start {L} below Holds kept g h lo hi bound t kind root p rest own l e s f z u x =
    let (m, q) = back-both below root p l (number_at g t) rest own e in
    record {
      within = omega (arith, looks-within root p (number_at g t) rest own e);
      last = m;
      is = q;
      before = record {
        going = λ d. record {
          less = looks-some root p (number_at g t) rest own e;
          on = on-start g h lo hi bound t kind none (onward below) root (some (drop own p, m)) (some (p, l)) q s f z u;
          holds = x;
        };
        ended = λ d. absurd (omega arith);
      };
      at-root = λ d. refl;
    }
