-- The root's field around an item, found among those of one key: they are linked, so the others are not walked.
use Rattle.std.specs.Prelude.{◌≡◌, ℕ, ◌+◌, ◌≤◌, ◌<◌, Bool, List, [], ◌∷◌, ltb}
use Rattle.std.proofs.Math.Path.{refl, ap}
use Rattle.std.proofs.Common.{◌∙◌, arith}
use Rattle.std.proofs.Math.Bool.{true, false, cond}
use borrow.Author.Tests.{lt-ltb, le-ltb}
use Rattle.rules.specs.Bytes.{Text, same}
use Rattle.rules.specs.Tree.{Key, Node, Fields, no_fields, field, join_fields, Root, fields, elements}
use Rattle.doc_items.specs.Codes.{unresolved_item, kind_at, size_at, next_at}
use Rattle.doc_items.specs.Parts.{numbers}
use Rattle.eval_keys.specs.Columns as columns
use Rattle.eval_keys.specs.Texts.{by_less}
use Rattle.eval_root_index.specs.Links.{Follows, Rises, items_before, before-none}
use Rattle.eval_root_index.specs.Documents.{places_of, places-rise}
use Rattle.eval_look_back.specs.Ranges.{Number, FieldsIn, no-seam}
use Rattle.eval_look_back.specs.Passing.{Spans}

-- of items that rise, the one in whose span an item stands; 0 if there is none
unfoldable pub spanning : (g : ℕ → ℕ) (item : ℕ) → List ℕ → ℕ
spanning g item [] = 0
spanning g item (j ∷ js) = cond (ltb item j) 0 (cond (ltb item (next_at g j)) j (spanning g item js))

pub spanning-past : (g : ℕ → ℕ) (item b : ℕ) (js : List ℕ) → item < b → Rises b js → spanning g item js ≡ 0
unfolding spanning
spanning-past g item b [] l x = refl
spanning-past g item b (j ∷ js) l x = let u = x.0 in rw (lt-ltb item j (omega arith)) refl

-- From a key's number on come the root's fields whose key is a text; of an array there are none.
abbrev pub FirstFields : (T : List ℕ) (k : ℕ) (h : ℕ → ℕ) (lo hi bound : ℕ) (t : Text) → Root → Type 0
FirstFields T k h lo hi bound t (fields fs) =
    (s : FieldsIn (numbers T) h lo hi bound (0 + 1) (next_at (numbers T) 0) fs)
    → Follows (columns.next_at T) (columns.first_at T k)
    (places_of (numbers T) h lo hi (Number (numbers T) h lo hi bound) t fs (0 + 1) (next_at (numbers T) 0) s)
FirstFields T k h lo hi bound t (elements es) = columns.first_at T k ≡ 0

module _ (g h : ℕ → ℕ) (lo hi bound item : ℕ) (kind : kind_at g item ≡ unresolved_item) (t : Text) where
  abbrev pub items_of : (fs : Fields) (i end : ℕ) → FieldsIn g h lo hi bound i end fs → List ℕ
  items_of = places_of g h lo hi (Number g h lo hi bound) t

  -- the field around the item, by the fields that have the text as their key
  pub record AroundOf (fs : Fields) (i end : ℕ) (s : FieldsIn g h lo hi bound i end fs) : Type 0 where
    pub at : ℕ
    pub past : i ≤ at
    pub spans : Spans g h lo hi bound i end fs item at
    pub is : spanning g item (items_of fs i end s) ≡ cond (same spans.found.key.text t) at 0
    pub earlier : items_before at (items_of fs i end s) ≡ items_of spans.found.earlier i at spans.found.before

  -- it is the first field
  module _ (key : Key) (n : Node) (fs : Fields) (i end : ℕ) (s : FieldsIn g h lo hi bound i end (field key n fs)) where
    abbrev first : ℕ
    first = s.0

    abbrev rest : List ℕ
    rest = items_of fs (next_at g first) end s.6

    rises : Rises (next_at g first) rest
    rises = places-rise g h lo hi (Number g h lo hi bound) t fs (next_at g first) end s.6

    around-first : first ≤ item → item < next_at g first → AroundOf (field key n fs) i end s
    unfolding places_of join_fields items_before spanning
    around-first l u = record {
      at = first;
      past = s.1.0;
      spans = record {
        found = record {
          earlier = no_fields;
          key = key;
          node = n;
          later = fs;
          is = refl;
          before = s.1;
          here = record { some = s.2.0; within = s.2.1; text = s.3; place = s.4; node = s.5 };
          after = s.6;
        };
        low = l;
        high = u;
      };
      is = found (same key.text t);
      earlier = none (same key.text t);
    }
      where
        found : (b : Bool) → spanning g item (cond b (first ∷ rest) rest) ≡ cond b first 0
        found true = rw (le-ltb item first l, lt-ltb item (next_at g first) u) refl
        found false = spanning-past g item (next_at g first) rest u rises

        none : (b : Bool) → items_before first (cond b (first ∷ rest) rest) ≡ []
        none true = rw (le-ltb first first (omega arith)) refl
        none false = before-none first (next_at g first) rest (omega arith) rises

    -- it is one behind it
    around-later : next_at g first ≤ item → AroundOf fs (next_at g first) end s.6 → AroundOf (field key n fs) i end s
    unfolding places_of join_fields items_before spanning
    around-later l a = record {
      at = a.at;
      past = omega (arith, s.1.0, a.past);
      spans = record {
        found = record {
          earlier = field key n a.spans.found.earlier;
          key = a.spans.found.key;
          node = a.spans.found.node;
          later = a.spans.found.later;
          is = ap (field key n) a.spans.found.is;
          before = (first, s.1, (s.2.0, a.past), s.3, s.4, s.5, a.spans.found.before);
          here = a.spans.found.here;
          after = a.spans.found.after;
        };
        low = a.spans.low;
        high = a.spans.high;
      };
      is = passed (same key.text t) ∙ a.is;
      earlier = before (same key.text t);
    }
      where
        passed : (b : Bool) → spanning g item (cond b (first ∷ rest) rest) ≡ spanning g item rest
        passed true = rw (le-ltb item first (omega arith), le-ltb item (next_at g first) l) refl
        passed false = refl

        some : 1 ≤ size_at g first
        some = s.2.0

        before : (b : Bool) → items_before a.at (cond b (first ∷ rest) rest)
            ≡ cond b (first ∷ items_of a.spans.found.earlier (next_at g first) a.at a.spans.found.before)
            (items_of a.spans.found.earlier (next_at g first) a.at a.spans.found.before)
        before true = rw (lt-ltb first a.at (omega (arith, some, a.past))) (ap (λ (js : List ℕ). first ∷ js) a.earlier)
        before false = a.earlier

  pub around-of : (fs : Fields) (i end : ℕ) (s : FieldsIn g h lo hi bound i end fs) → i ≤ item → item < end → AroundOf fs i end s
  around-of no_fields i end s l u = absurd (no-seam g h lo hi bound item kind i end s l u)
  around-of (field key n fs) i end s l u =
      let j = s.0 in
      by_less _ item j (λ d. absurd (no-seam g h lo hi bound item kind i j s.1 l d)) (λ d.
      by_less _ item (next_at g j) (λ v. around-first key n fs i end s d v)
      (λ v. around-later key n fs i end s v (around-of fs (next_at g j) end s.6 v u)))
