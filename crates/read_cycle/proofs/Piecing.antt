-- A piece of each kind, as the rules read it and as it stands in the table and the text part.
use mathlib.Core.Path.{◌≡◌, refl, sym, ap, ◌∙◌}
use Prim.Native.Nat.{ℕ, ◌+◌, ◌*◌, ◌-◌, ◌≤◌, ◌<◌}
use mathlib.Core.Bool.{Bool, true, false}
use mathlib.Core.List.{List, [], ◌∷◌}
use mathlib.Core.Option.{Option, none, some}
use native.Mathlib.Omega.{arith}
use lib.Dec.{eqb}
use lib.ListN.{length, get_or, take, length-append, length-map}
use borrow.Author.Tests.{lt-ltb}
use Rattle.rules.specs.Pieces.{Token, simple_at, scalar_text}
use Rattle.rules.specs.Paths.{Segment, segments_at, Element, elements_of, judge, judged, texts_of, braced, substitution_at}
use Rattle.rules.specs.Sizes.{max_path, max_items}
use Rattle.rules.specs.Bytes.{byte_at}
use Rattle.rules.specs.Characters.{after_inline}
use Rattle.rules.specs.Refusals.{Refusal, not_allowed, Scan, ok, refused, and_then, Read, got, read_then, keep_items}
use Rattle.rules.specs.Tree.{Scalar, null, boolean, number, string, Substitution, Node, simple, array, object, Elements, Fields}
use Rattle.rules.specs.Reading.{Start, brace, bracket, dollar, simple_start, start_of, Part, node, substitution, count_item, opened, array_at, object_at, piece_at, value_in}
use Rattle.theory.specs.PathsEnd.{Verdict, passes, Fitting, judge-verdict}
use Rattle.doc_items.specs.Codes.{code_of, reference_code, path_texts, path_ends, path_bytes}
use Rattle.doc_items.specs.Holds.{ElementsAt, FieldsAt}
use Rattle.doc_items.specs.Moving.{Grown, Agree, move-elements, move-fields}
use Rattle.text_chars.specs.Parts.{back}
use Rattle.doc_items.specs.Parts.{numbers, letters, grown-back, spells-take}
use Rattle.read_values.specs.Runs.{KindIs}
use Rattle.read_cycle.specs.Clauses.{Free, Reached, PieceAsked, PartAt, FoundIs}
use Rattle.read_grammar.specs.Limits.Limits.{nesting_of}
use Rattle.read_values.specs.declared.pieces.PieceItem.{PieceItem}

-- a counted piece is the piece behind one item more
pub counted_is : {A : Type 0} (items at : ℕ) (k : ℕ → Read A) → items < max_items → count_item items at k ≡ k (items + 1)
unfolding count_item
counted_is items at k h = rw (lt-ltb items max_items h, count_item)

ends-long : (from : ℕ) (ts : List (List ℕ)) → length (path_ends from ts) ≡ 2 * length ts
unfolding path_ends
ends-long from [] = refl
ends-long from (u ∷ ts) = omega (arith, ends-long (from + length u) ts)

-- a substitution's path is not empty
abbrev Named : Scan Substitution → Type 0
Named (ok x end) = 1 ≤ length x.path
Named (refused r) = Unit {0}

braced-named : (s : List ℕ) (sign : ℕ) (optional : Bool) (at : ℕ) → Named (braced s sign optional at)
unfolding braced
braced-named s sign optional at = go (segments_at false s at)
  where
    verdict : (es : List Element) (end : ℕ) (o : Option Refusal) → Verdict (Fitting max_path es) o
        → Named (judged o (record { place = sign; optional = optional; path = texts_of es }) end)
    verdict es end none (passes h) = let e : length (texts_of es) ≡ length es = length-map es _ in omega (arith, h.0)
    verdict es end (some r) v = tt

    brace? : (es : List Element) (end : ℕ) (b : Bool)
        → Named (elim b as (λ _. Scan Substitution) [ false ↦ refused (not_allowed s end) | true ↦ judged (judge sign max_path es) (record { place = sign; optional = optional; path = texts_of es }) (end + 1) ])
    brace? es end false = tt
    brace? es end true = verdict es (end + 1) (judge sign max_path es) (judge-verdict sign max_path es)

    go : (m : Scan (List Segment)) → Named (and_then m (λ gs end. elim (eqb (byte_at s end) 125) [
      | false ↦ refused (not_allowed s end)
      | true ↦ judged (judge sign max_path (elements_of gs)) (record { place = sign; optional = optional; path = texts_of (elements_of gs) }) (end + 1)
    ]))
    go (ok gs end) = brace? (elements_of gs) end (eqb (byte_at s end) 125)
    go (refused r) = tt

pub substitution-named : (s : List ℕ) (at : ℕ) (k : Substitution) (end : ℕ) → substitution_at s at ≡ ok k end → 1 ≤ length k.path
unfolding substitution_at
substitution-named s at k end e = let h : Named (ok k end) = rw e at (go (eqb (byte_at s (at + 2)) 63)) in h
  where
    go : (b : Bool) → Named (elim b [ true ↦ braced s at true (after_inline s (at + 3)) | false ↦ braced s at false (after_inline s (at + 2)) ])
    go true = braced-named s at true (after_inline s (at + 3))
    go false = braced-named s at false (after_inline s (at + 2))

module _ {s : List ℕ} {at w left items : ℕ} {x t : List ℕ} (a : PieceAsked s at w left items x t) (few : items < max_items) where
  abbrev nesting : ℕ
  nesting = nesting_of left

  abbrev read : Start → Read Part
  read start = count_item items at (piece_at (value_in s) s nesting start at)

  -- ---- simple pieces

  scalar_is : read simple_start ≡ read_then (keep_items (items + 1) (simple_at s at)) (λ k end n. got (node (simple k.scalar)) end n)
  unfolding piece_at
  scalar_is = counted_is items at (piece_at (value_in s) s nesting simple_start at) few

  pub scalar-refused : {r : Refusal} → simple_at s at ≡ refused r → read simple_start ≡ refused r
  scalar-refused e = scalar_is ∙ rw e refl

  module _ (starts : start_of s at ≡ some simple_start) (f : PieceItem) {k : Token} (e : simple_at s at ≡ ok k f.next.at.0) (c : f.items ≡ items + 1)
      (d : f.kind ≡ code_of k.scalar) (o : f.text.0 ≡ w) (z : f.size.0 ≡ length (scalar_text k.scalar)) (t' : List ℕ)
      (b : take f.size.0 t' ≡ scalar_text k.scalar) (n : f.number ≡ 0) (l : at < f.next.at.0) (m : f.next.at.0 ≤ length s)
      (short : f.size.0 + at ≤ f.next.at.0) where
    small : f.kind ≤ 5
    small = omega (arith, code k.scalar)
      where
        code : (v : Scalar) → code_of v ≤ 5
        code null = omega arith
        code (boolean false) = omega arith
        code (boolean true) = omega arith
        code (number y) = omega arith
        code (string y) = omega arith

    pub scalar-found : (x' : List ℕ) → FoundIs s at w left items x' t' f
    scalar-found x' = record {
      start = simple_start;
      starts = starts;
      part = node (simple k.scalar);
      is = scalar_is ∙ rw (e, c) refl;
      reached = record { forward = omega arith; inside = m; more = omega arith; few = omega arith };
      kind = d;
      small = omega (arith, small);
      at-fits = omega (arith, a.before, a.inside, a.short);
      size_fits = omega (arith, a.short);
      number_fits = omega arith;
      front = λ q. o;
      short = λ q. short;
      held = (
        ap (λ (j : ℕ). 16 + j) d,
        record {
          from = omega arith;
          upto = omega (arith, a.before);
          size = z;
          bytes = rw o (spells-take w f.size.0 t' (scalar_text k.scalar) b z);
        },
        (omega arith, λ q u v. absurd (omega arith)),
      );
    }

  -- ---- substitutions

  dollar-is : read dollar ≡ read_then (keep_items (items + 1) (substitution_at s at)) (λ k end n. got (substitution k) end n)
  unfolding piece_at
  dollar-is = counted_is items at (piece_at (value_in s) s nesting dollar at) few

  pub dollar-refused : {r : Refusal} → substitution_at s at ≡ refused r → read dollar ≡ refused r
  dollar-refused e = dollar-is ∙ rw e refl

  module _ (starts : start_of s at ≡ some dollar) (f : PieceItem) {k : Substitution} (e : substitution_at s at ≡ ok k f.next.at.0) (p : k.place ≡ at) (c : f.items ≡ items + 1)
      (d : f.kind ≡ reference_code k.optional) (o : f.text.0 ≡ w) (n : f.number ≡ length k.path) (g : f.number ≤ 16)
      (z : f.size.0 ≡ length (path_texts k.path)) (t' : List ℕ) (b : take (f.size.0 + 2 * f.number) t' ≡ path_bytes k.path)
      (l : at < f.next.at.0) (m : f.next.at.0 ≤ length s) (short : f.size.0 + 2 * f.number + 2 * at ≤ 2 * f.next.at.0) where
    large : (5 < f.kind) × (f.kind ≤ 10)
    large = (omega (arith, (code k.optional).0), omega (arith, (code k.optional).1))
      where
        code : (q : Bool) → (5 < reference_code q) × (reference_code q ≤ 10)
        code false = (omega arith, omega arith)
        code true = (omega arith, omega arith)

    whole : f.size.0 + 2 * f.number ≡ length (path_bytes k.path)
    whole = omega (arith, length-append (path_texts k.path) (path_ends 0 k.path), ends-long 0 k.path)

    pub dollar-found : (x' : List ℕ) → FoundIs s at w left items x' t' f
    dollar-found x' = record {
      start = dollar;
      starts = starts;
      part = substitution k;
      is = dollar-is ∙ rw (e, c) refl;
      reached = record { forward = omega arith; inside = m; more = omega arith; few = omega arith };
      kind = d;
      small = large.1;
      at-fits = omega (arith, a.before, a.inside, a.short);
      size_fits = omega (arith, a.short, substitution-named s at k f.next.at.0 e);
      number_fits = g;
      front = λ q. absurd (omega (arith, large.0));
      short = λ q. absurd (omega (arith, large.0));
      held = (
        record {
          kind = ap (λ (j : ℕ). 16 + j) d;
          count = n;
          size = z;
          path = record {
            from = omega arith;
            upto = omega (arith, a.before);
            size = whole;
            bytes = rw o (spells-take w (f.size.0 + 2 * f.number) t' (path_bytes k.path) b whole);
          };
        },
        omega arith,
        p,
      );
    }

  -- ---- arrays and objects

  module _ (deep : 1 ≤ left) where
    inner : nesting + 1 ≡ nesting_of (left - 1)
    inner = omega (arith, a.nested)

    brace-is : read brace ≡ read_then (object_at (value_in s) 125 s (nesting_of (left - 1)) (at + 1) (items + 1)) (λ fs end n. got (node (object fs)) end n)
    unfolding piece_at opened
    brace-is =
        counted_is items at (piece_at (value_in s) s nesting brace at) few
        ∙ rw (lt-ltb nesting 32 (omega arith), opened) (ap (λ (i : ℕ). read_then (object_at (value_in s) 125 s i (at + 1) (items + 1)) (λ fs end n. got (node (object fs)) end n)) inner)

    bracket-is : read bracket ≡ read_then (array_at (value_in s) s (nesting_of (left - 1)) (at + 1) (items + 1)) (λ es end n. got (node (array es)) end n)
    unfolding piece_at opened
    bracket-is =
        counted_is items at (piece_at (value_in s) s nesting bracket at) few
        ∙ rw (lt-ltb nesting 32 (omega arith), opened) (ap (λ (i : ℕ). read_then (array_at (value_in s) s i (at + 1) (items + 1)) (λ es end n. got (node (array es)) end n)) inner)

    pub brace-refused : {r : Refusal} → object_at (value_in s) 125 s (nesting_of (left - 1)) (at + 1) (items + 1) ≡ refused r → read brace ≡ refused r
    brace-refused e = brace-is ∙ rw e refl

    pub bracket-refused : {r : Refusal} → array_at (value_in s) s (nesting_of (left - 1)) (at + 1) (items + 1) ≡ refused r → read bracket ≡ refused r
    bracket-refused e = bracket-is ∙ rw e refl

    module _ (inside : at < length s) (f : PieceItem) (o : f.text.0 ≡ 0) (q : f.size.0 ≡ 0) (u : f.number ≡ 0) (y z : List ℕ)
        (r : Reached s (at + 1) (items + 1) f.next.at.0 f.items) where
      far : Grown (letters (w + (2 * (at + 1) - w)) z) (letters w (back (2 * (at + 1) - w) t z)) (2 * (at + 1)) (2 * f.next.at.0) w (2 * f.next.at.0)
      far =
          grown-back t z w (2 * (at + 1) - w) (omega (arith, a.text-room, a.before)) (2 * (at + 1)) (2 * f.next.at.0) w (2 * f.next.at.0)
          (omega (arith, a.before)) (omega (arith, a.before)) (omega arith)

      base : w + (2 * (at + 1) - w) ≡ 2 * (at + 1)
      base = omega (arith, a.before)

      size : f.items - (items + 1) ≡ f.items - items - 1
      size = omega arith

      same : (i end : ℕ) (k : ℕ) → 8 * i ≤ k → k < 8 * end → get_or y k 0 ≡ get_or y (k + 8 * 0) 0
      same i end k p l = let e : k + 8 * 0 ≡ k = omega arith in ap (λ (n : ℕ). get_or y n 0) (sym e)

      -- a container, whose members stand in the table and the text part as H says
      module _ (H : (ℕ → ℕ) → ℕ → ℕ → ℕ → ℕ → Type 0)
          (move : (h h' : ℕ → ℕ) (lo hi lo' hi' : ℕ) → Grown h h' lo hi lo' hi' → (d i end : ℕ) → Agree (numbers y) (numbers y) d i end
          → H h lo hi i end → H h' lo' hi' (i + d) (end + d)) where
        moved : H (letters (2 * (at + 1)) z) (2 * (at + 1)) (2 * f.next.at.0) 0 (f.items - (items + 1))
            → H (letters w (back (2 * (at + 1) - w) t z)) w (2 * f.next.at.0) 0 (f.items - items - 1)
        moved h =
            let i : 0 + 0 ≡ 0 = omega arith in
            let j : f.items - (items + 1) + 0 ≡ f.items - items - 1 = omega arith in
            let h' : H (letters (w + (2 * (at + 1) - w)) z) (2 * (at + 1)) (2 * f.next.at.0) 0 (f.items - (items + 1)) = rw base h in
            rw (i, j) at (move (letters (w + (2 * (at + 1) - w)) z) (letters w (back (2 * (at + 1) - w) t z)) (2 * (at + 1)) (2 * f.next.at.0) w (2 * f.next.at.0) far 0 0 (f.items - (items + 1)) (same 0 (f.items - (items + 1))) h')

      container-found : (start : Start) (nd : Node) → start_of s at ≡ some start → read start ≡ got (node nd) f.next.at.0 f.items
          → KindIs f.kind (node nd) → 5 < f.kind → f.kind ≤ 10
          → PartAt (numbers y) (letters w (back (2 * (at + 1) - w) t z)) w (2 * f.next.at.0) at f 0 (f.items - items - 1) (node nd)
          → FoundIs s at w left items y (back (2 * (at + 1) - w) t z) f
      container-found start nd starts e kind large small held = record {
        start = start;
        starts = starts;
        part = node nd;
        is = e;
        reached = record { forward = omega (arith, r.forward); inside = r.inside; more = omega (arith, r.more); few = r.few };
        kind = kind;
        small = small;
        at-fits = omega arith;
        size_fits = omega arith;
        number_fits = omega arith;
        front = λ p. absurd (omega arith);
        short = λ p. absurd (omega arith);
        held = held;
      }

      pub brace-found : {fs : Fields} → start_of s at ≡ some brace → f.kind ≡ 7
          → object_at (value_in s) 125 s (nesting_of (left - 1)) (at + 1) (items + 1) ≡ got fs f.next.at.0 f.items
          → FieldsAt (numbers y) (letters (2 * (at + 1)) z) (2 * (at + 1)) (2 * f.next.at.0) Free 0 (f.items - (items + 1)) fs
          → FoundIs s at w left items y (back (2 * (at + 1) - w) t z) f
      brace-found {fs} starts d e h =
          container-found brace (object fs) starts (brace-is ∙ rw e refl) d (omega arith) (omega arith) (
            ap (λ (j : ℕ). 16 + j) d,
            moved (λ h lo hi i end. FieldsAt (numbers y) h lo hi Free i end fs)
                (λ h h' lo hi lo' hi' G d i end. move-fields Free (numbers y) (numbers y) G d fs i end) h,
          )

      pub bracket-found : {es : Elements} → start_of s at ≡ some bracket → f.kind ≡ 6
          → array_at (value_in s) s (nesting_of (left - 1)) (at + 1) (items + 1) ≡ got es f.next.at.0 f.items
          → ElementsAt (numbers y) (letters (2 * (at + 1)) z) (2 * (at + 1)) (2 * f.next.at.0) Free 0 (f.items - (items + 1)) es
          → FoundIs s at w left items y (back (2 * (at + 1) - w) t z) f
      bracket-found {es} starts d e h =
          container-found bracket (array es) starts (bracket-is ∙ rw e refl) d (omega arith) (omega arith) (
            ap (λ (j : ℕ). 16 + j) d,
            moved (λ h lo hi i end. ElementsAt (numbers y) h lo hi Free i end es)
                (λ h h' lo hi lo' hi' G d i end. move-elements Free (numbers y) (numbers y) G d es i end) h,
          )
