-- Passing the fields of a literal up to the one around an item, and what is found there: turns of a loop.
use Rattle.std.specs.Prelude.{◌≡◌, refl, ℕ, ◌+◌, ◌≤◌, ◌<◌}
use Rattle.std.proofs.Common.{sym, ap, subst, ◌∙◌, arith}
use Rattle.rules.specs.Tree.{Key, Node, Fields, no_fields, field, join_fields}
use Rattle.rules.specs.Unresolved.{with_field}
use Rattle.doc_items.specs.Codes.{unresolved_item, as_member, as_piece, kind_at, size_at, key_at, keylen_at, text_at, textlen_at, place_at, number_at, next_at}
use Rattle.doc_items.specs.Holds.{TextAt}
use Rattle.theory_back.specs.Descent.{count_node, count_fields, Around, with-join}
use Rattle.theory_back.specs.Numbers.{FromNode, FromFields, from-behind}
use Rattle.eval_keys.specs.Texts.{by_less}
use Rattle.eval_root_index.specs.Documents.{member-kind}
use Rattle.eval_look_back.specs.Ranges.{Number, NodeIn, FieldsIn, SeamsIn, In, in-member, inside-node}

module _ (g h : ℕ → ℕ) (lo hi bound : ℕ) where
  -- a field at an item
  pub record FieldIn (key : Key) (n : Node) (at end : ℕ) : Type 0 where
    pub some : 1 ≤ size_at g at
    pub within : next_at g at ≤ end
    pub text : TextAt h lo hi (key_at g at) (keylen_at g at) key.text
    pub place : place_at g at ≡ key.place
    pub node : NodeIn g h lo hi bound as_member at n

  no-seams : (i : ℕ) → SeamsIn g h lo hi bound i i
  no-seams i = (omega arith, λ k a b. absurd (omega arith))

  seam-more : (i j : ℕ) → SeamsIn g h lo hi bound i j → as_piece ≤ kind_at g j → SeamsIn g h lo hi bound i (j + 1)
  seam-more i j s k = (
    omega (arith, s.0),
    λ a l u. by_less _ a j (λ d. s.1 a l d) (λ d.
        let e : j ≡ a = omega arith in subst (λ (c : ℕ). as_piece ≤ kind_at g c) e k),
  )

  -- fields up to an item, and one item more
  fields-seam : (fs : Fields) (i at : ℕ) → FieldsIn g h lo hi bound i at fs → as_piece ≤ kind_at g at → FieldsIn g h lo hi bound i (at + 1) fs
  fields-seam no_fields i at s k = seam-more i at s k
  fields-seam (field key n fs) i at s k =
      (s.0, s.1, (s.2.0, omega (arith, s.2.1)), s.3, s.4, s.5, fields-seam fs (next_at g s.0) at s.6 k)

  fields-field : (fs : Fields) (i at : ℕ) (key : Key) (n : Node) → FieldsIn g h lo hi bound i at fs → FieldIn key n at (next_at g at)
      → FieldsIn g h lo hi bound i (next_at g at) (with_field fs key n)
  unfolding with_field
  fields-field no_fields i at key n s x =
      (at, s, (x.some, x.within), x.text, x.place, x.node, no-seams (next_at g at))
  fields-field (field j m fs) i at key n s x =
      (s.0, s.1, (s.2.0, omega (arith, s.2.1)), s.3, s.4, s.5, fields-field fs (next_at g s.0) at key n s.6 x)

  -- fields from an item on: it is a seam, or the first field's
  less-seams : (i j : ℕ) → i < j → SeamsIn g h lo hi bound i j → SeamsIn g h lo hi bound (i + 1) j
  less-seams i j l s = (omega arith, λ k a b. s.1 k (omega arith) b)

  next-seam : (fs : Fields) (at end : ℕ) → at < end → as_piece ≤ kind_at g at → FieldsIn g h lo hi bound at end fs → FieldsIn g h lo hi bound (at + 1) end fs
  next-seam no_fields at end l k s = less-seams at end l s
  next-seam (field key n fs) at end l k s =
      let j = s.0 in
      let small = member-kind g h lo hi (Number g h lo hi bound) n (kind_at g j) (text_at g j) (textlen_at g j) (number_at g j) (j + 1) (next_at g j) s.5 in
      let past : at < j = by_less _ at j (λ d. d) (λ d.
      let e : at ≡ j = omega (arith, d, s.1.0) in
      let k' : as_piece ≤ kind_at g j = subst (λ (c : ℕ). as_piece ≤ kind_at g c) e k in absurd (omega arith)) in
      (j, less-seams at j past s.1, s.2, s.3, s.4, s.5, s.6)

  pub record First (fs : Fields) (at end : ℕ) : Type 0 where
    pub key : Key
    pub node : Node
    pub later : Fields
    pub is : fs ≡ field key node later
    pub here : FieldIn key node at end
    pub after : FieldsIn g h lo hi bound (next_at g at) end later

  first : (fs : Fields) (at end : ℕ) → at < end → kind_at g at < as_piece → FieldsIn g h lo hi bound at end fs → First fs at end
  first no_fields at end l k s = let z = s.1 at (omega arith) l in absurd (omega arith)
  first (field key n fs) at end l k s = subst (λ (c : ℕ). First (field key n fs) c end) same here
    where
      j : ℕ
      j = s.0

      same : j ≡ at
      same = by_less _ at j (λ d. let z = s.1.1 at (omega arith) d in absurd (omega arith)) (λ d. omega (arith, d, s.1.0))

      here : First (field key n fs) j end
      here = record {
        key = key;
        node = n;
        later = fs;
        is = refl;
        here = record { some = s.2.0; within = s.2.1; text = s.3; place = s.4; node = s.5 };
        after = s.6;
      }

  -- ---- turns

  module _ (i end : ℕ) (fs : Fields) where
    -- the fields before an item, and those from it on
    pub record Passing (at : ℕ) : Type 0 where
      pub passed : Fields
      pub rest : Fields
      pub is : fs ≡ join_fields passed rest
      pub before : FieldsIn g h lo hi bound i at passed
      pub behind : FieldsIn g h lo hi bound at end rest

    -- the field at an item, with those before and behind it
    pub record Found (at : ℕ) : Type 0 where
      pub earlier : Fields
      pub key : Key
      pub node : Node
      pub later : Fields
      pub is : fs ≡ join_fields earlier (field key node later)
      pub before : FieldsIn g h lo hi bound i at earlier
      pub here : FieldIn key node at end
      pub after : FieldsIn g h lo hi bound (next_at g at) end later

    -- the same of a field in whose span an item stands
    pub record Spans (item at : ℕ) : Type 0 where
      pub found : Found at
      pub low : at ≤ item
      pub high : item < next_at g at

    pub pass-start : FieldsIn g h lo hi bound i end fs → Passing i
    unfolding join_fields
    pass-start s = record { passed = no_fields; rest = fs; is = refl; before = no-seams i; behind = s }

    pub pass-seam : (at : ℕ) → Passing at → at < end → as_piece ≤ kind_at g at → Passing (at + 1)
    pass-seam at p l k = record {
      passed = p.passed;
      rest = p.rest;
      is = p.is;
      before = fields-seam p.passed i at p.before k;
      behind = next-seam p.rest at end l k p.behind;
    }

    pub pass-found : (at : ℕ) → Passing at → at < end → kind_at g at < as_piece → Found at
    pass-found at p l k =
        let x = first p.rest at end l k p.behind in record {
          earlier = p.passed;
          key = x.key;
          node = x.node;
          later = x.later;
          is = p.is ∙ ap (join_fields p.passed) x.is;
          before = p.before;
          here = x.here;
          after = x.after;
        }

    pub pass-field : (at : ℕ) → Found at → Passing (next_at g at)
    pass-field at x = record {
      passed = with_field x.earlier x.key x.node;
      rest = x.later;
      is = x.is ∙ sym (with-join x.earlier x.key x.node x.later);
      before = fields-field x.earlier i at x.key x.node x.before (record {
        some = x.here.some;
        within = omega arith;
        text = x.here.text;
        place = x.here.place;
        node = x.here.node;
      });
      behind = x.after;
    }

    -- ---- what was found is the field around the item's number

    module _ (from : ℕ) (f : FromFields from fs) (t : ℕ) (kind : kind_at g t ≡ unresolved_item) (at : ℕ) (x : Found at) (l : at ≤ t) (u : t < next_at g at) where
      abbrev b : ℕ
      b = number_at g t

      -- the number of the first unresolved value in it
      abbrev pub inner : ℕ
      inner = from + count_fields x.earlier

      pub from_found : FromNode inner x.node
      from_found = (from-behind from x.earlier (field x.key x.node x.later) (subst (FromFields from) x.is f)).0

      pub number-found : In g h lo hi bound t kind inner (count_node x.node)
      number-found =
          in-member g h lo hi bound t kind at inner x.node x.here.node from_found l
          (λ d. inside-node g h lo hi bound t kind 0 (kind_at g at) (text_at g at) (textlen_at g at) (number_at g at) (at + 1) (next_at g at)
          inner x.node x.here.node from_found (omega arith) u)

      abbrev pub around-found : Around fs from b
      around-found = record {
        earlier = x.earlier;
        key = x.key;
        node = x.node;
        later = x.later;
        is = x.is;
        low = number-found.0;
        high = number-found.1;
      }
