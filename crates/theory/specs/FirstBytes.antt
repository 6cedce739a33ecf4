-- The numbers of unresolved values go by preorder (module Tree), and that is the order of their first bytes in every document that is read:
-- what is read from a place up to an end has its unresolved values there, and what is read next has its own behind them.
use Rattle.std.specs.Prelude.{◌≡◌, refl, Bool, ltb, eqb}
use Prim.Native.Nat.{ℕ, zero, suc, ◌+◌, ◌≤◌, ◌<◌}
use mathlib.Core.List.{List, [], ◌∷◌, ◌++◌, map, append_assoc}
use Rattle.std.proofs.Math.Bool.{true, false}
use Rattle.std.proofs.Math.Option.{Option, none, some}
use Rattle.std.proofs.Common.{arith}
use Rattle.std.proofs.Math.ListN.{length, get_elem?}
use Rattle.std.proofs.Math.Seq.{slice}
use Rattle.rules.specs.Sizes.{max_nesting, max_items, max_path, max_unresolved}
use Rattle.rules.specs.Bytes.{Text, byte_at}
use Rattle.rules.specs.Refusals.{Refusal, Scan, ok, refused, Read, got, read_then, keep_items}
use Rattle.rules.specs.Utf8.{ill_formed}
use Rattle.rules.specs.Characters.{after_inline, after_gap}
use Rattle.rules.specs.Paths.{starts_include, segments_at, Element, elements_of, judge, judged, keys_of, braced, substitution_at}
use Rattle.rules.specs.Tree.{Scalar, Key, Substitution, Node, simple, array, object, unresolved, Elements, no-elements, element, Fields, no_fields, field, Pieces, no_pieces, node_piece, substituted, Root, join_elements, join_fields, number_root}
use Rattle.rules.specs.Reading.{Start, brace, bracket, dollar, simple_start, start_of, Part, node, substitution, with_part, count_item, pieces_from, has_substitution, unlike, kind_of, elements_joined, fields_joined, simple_joined, joined, judge_value, the_end, members_from, members_at, FieldRead, inside, fields_of, elements_from, allowed_keys, opened, field_with, field_judged, field_at, element_at, array_at, object_at, piece_at, value_from, root_at, read_root}
use Rattle.rules.specs.Unresolved.{unresolved_in}
use Rattle.rules.specs.Documents.{Document, Input, valid, refused, limited, of_root, read_tree, read_document, Rising}
use Rattle.theory_text.specs.Choices.{by-test, by-option, by-list}
use Rattle.theory_text.specs.Places.{inline-reached, gap-reached}
use Rattle.theory.specs.Scanning.{Scans, oks, scan-refuses, From, simple-scans}
use Rattle.theory.specs.Lengths.{IfRead, read, unread, ends, then-read}
use Rattle.theory.specs.PathsEnd.{segments-scans, substitution-scans}
use Rattle.theory.specs.PiecesEnd.{Some, begun, closing-forward, parted-scans}
use Rattle.theory.specs.ReadingEnds.{place-scans}
use Rattle.theory.specs.Rising.{Ordered, ordered-from, ordered-to, ordered-forward, ordered-append, ordered-rises, places_node, places_elements, places_fields, places_pieces, places_root, listed-root}

-- ---- what is read, if anything is, has Q

pub data IfGot {A : Type 0} (Q : A → ℕ → Type 0) : Read A → Type 0 where
  is-got : {a : A} {end items : ℕ} → Q a end → IfGot Q (got a end items)
  not-got : {x : Refusal} → IfGot Q (refused x)

pub gives : {A : Type 0} {Q : A → ℕ → Type 0} {a : A} {end items : ℕ} → Q a end → IfGot Q (got a end items)
gives h = is-got h

pub of-got : {A : Type 0} {Q : A → ℕ → Type 0} {a : A} {end items : ℕ} → IfGot Q (got a end items) → Q a end
of-got (is-got h) = h

pub then-got : {A B : Type 0} {P : A → ℕ → Type 0} {Q : B → ℕ → Type 0} {m : Read A} {k : A → ℕ → ℕ → Read B}
    → IfGot P m → ((a : A) (end items : ℕ) → P a end → IfGot Q (k a end items)) → IfGot Q (read_then m k)
then-got (is-got h) f = f _ _ _ h
then-got not-got f = not-got

got-map : {A : Type 0} {P Q : A → ℕ → Type 0} {m : Read A} → ((a : A) (end : ℕ) → P a end → Q a end) → IfGot P m → IfGot Q m
got-map f (is-got h) = is-got (f _ _ h)
got-map f not-got = not-got

counting-got : {A : Type 0} {Q : A → ℕ → Type 0} {m : Scan A} (items : ℕ) → Scans Q m → IfGot Q (keep_items items m)
counting-got items (oks h) = is-got h
counting-got items (scan-refuses h) = not-got

module _ {A : Type 0} {Q : A → ℕ → Type 0} (n at : ℕ) (k : ℕ → Read A) (h : (m : ℕ) → IfGot Q (k m)) where
  pub counted-got : IfGot Q (count_item n at k)
  unfolding count_item
  counted-got = by-test (IfGot Q) (ltb n max_items) (λ e. h (n + 1)) (λ e. not-got)

  opened-got : IfGot Q (opened n at k)
  unfolding opened
  opened-got = by-test (IfGot Q) (ltb n max_nesting) (λ e. h (n + 1)) (λ e. not-got)

-- ---- pieces

-- the pieces stand one behind the other, from a place on up to an end, and what is in each behind its first byte
abbrev Spans : ℕ → ℕ → Pieces → Type 0
unfolding places_node
Spans from end no_pieces = from ≤ end
Spans from end (node_piece place gap n ps) = (from ≤ place) × (mid : ℕ) × Ordered (suc place) mid (places_node n) × Spans mid end ps
Spans from end (substituted gap x ps) = (from ≤ x.place) × Spans (suc x.place) end ps

spans-from : (p q end : ℕ) (ps : Pieces) → p ≤ q → Spans q end ps → Spans p end ps
unfolding Spans
spans-from p q end no_pieces h k = omega arith
spans-from p q end (node_piece place gap n ps) h k = (omega (arith, k.0), k.1, k.2, k.3)
spans-from p q end (substituted gap x ps) h k = (omega (arith, k.0), k.1)

-- what is in all pieces in turn
pieces-ordered : (from end : ℕ) (ps : Pieces) → Spans from end ps → Ordered from end (places_pieces ps)
unfolding Spans places_node
pieces-ordered from end no_pieces h = h
pieces-ordered from end (node_piece place gap n ps) h =
    let (i, mid, k, l) = h in
    ordered-append from mid end (places_node n) (places_pieces ps)
    (ordered-from from (suc place) mid (places_node n) (omega arith) k) (pieces-ordered mid end ps l)
pieces-ordered from end (substituted gap x ps) h =
    ordered-from from (suc x.place) end (places_pieces ps) (omega (arith, h.0)) (pieces-ordered (suc x.place) end ps h.1)

-- what is behind a piece, whatever is in it
spans-rest : (from end place : ℕ) (gap : Text) (n : Node) (ps : Pieces) → Spans from end (node_piece place gap n ps) → Spans from end ps
unfolding Spans places_node
spans-rest from end place gap n ps h =
    let (i, mid, k, l) = h in
    spans-from from mid end ps (omega (arith, ordered-forward (suc place) mid (places_node n) k)) l

join-elements : (es fs : Elements) → places_elements (join_elements es fs) ≡ places_elements es ++ places_elements fs
unfolding join_elements places_node
join-elements no-elements fs = refl
join-elements (element n es) fs = cc (join-elements es fs, append_assoc (places_node n) (places_elements es) (places_elements fs))

join-fields : (es fs : Fields) → places_fields (join_fields es fs) ≡ places_fields es ++ places_fields fs
unfolding join_fields places_node
join-fields no_fields fs = refl
join-fields (field k n es) fs = cc (join-fields es fs, append_assoc (places_node n) (places_fields es) (places_fields fs))

elements-ordered : (from end : ℕ) (ps : Pieces) → Spans from end ps → Ordered from end (places_elements (elements_joined ps))
unfolding Spans places_node elements_joined
elements-ordered from end no_pieces h = h
elements-ordered from end (node_piece place gap (simple x) ps) h = elements-ordered from end ps (spans-rest from end place gap (simple x) ps h)
elements-ordered from end (node_piece place gap (array es) ps) h =
    let (i, mid, k, l) = h in
    rw (join-elements es (elements_joined ps)) (
    ordered-append from mid end (places_elements es) (places_elements (elements_joined ps))
    (ordered-from from (suc place) mid (places_elements es) (omega arith) k) (elements-ordered mid end ps l))
elements-ordered from end (node_piece place gap (object fs) ps) h = elements-ordered from end ps (spans-rest from end place gap (object fs) ps h)
elements-ordered from end (node_piece place gap (unresolved b qs) ps) h =
    elements-ordered from end ps (spans-rest from end place gap (unresolved b qs) ps h)
elements-ordered from end (substituted gap x ps) h =
    elements-ordered from end ps (spans-from from (suc x.place) end ps (omega (arith, h.0)) h.1)

fields-ordered : (from end : ℕ) (ps : Pieces) → Spans from end ps → Ordered from end (places_fields (fields_joined ps))
unfolding Spans places_node fields_joined
fields-ordered from end no_pieces h = h
fields-ordered from end (node_piece place gap (simple x) ps) h = fields-ordered from end ps (spans-rest from end place gap (simple x) ps h)
fields-ordered from end (node_piece place gap (array es) ps) h = fields-ordered from end ps (spans-rest from end place gap (array es) ps h)
fields-ordered from end (node_piece place gap (object fs) ps) h =
    let (i, mid, k, l) = h in
    rw (join-fields fs (fields_joined ps)) (
    ordered-append from mid end (places_fields fs) (places_fields (fields_joined ps))
    (ordered-from from (suc place) mid (places_fields fs) (omega arith) k) (fields-ordered mid end ps l))
fields-ordered from end (node_piece place gap (unresolved b qs) ps) h =
    fields-ordered from end ps (spans-rest from end place gap (unresolved b qs) ps h)
fields-ordered from end (substituted gap x ps) h =
    fields-ordered from end ps (spans-from from (suc x.place) end ps (omega (arith, h.0)) h.1)

-- a node that is read from a place on
abbrev Values : ℕ → Node → ℕ → Type 0
unfolding places_node
Values at n end = Ordered at end (places_node n)

spans-forward : (from end : ℕ) (ps : Pieces) → Spans from end ps → from ≤ end
spans-forward from end ps h = ordered-forward from end (places_pieces ps) (pieces-ordered from end ps h)

simple-joined : (from end : ℕ) (x : Scalar) (all rest : Pieces) → from ≤ end → Values from (simple_joined x all rest) end
unfolding Values simple_joined
simple-joined from end x all no_pieces h = h
simple-joined from end x all (node_piece place gap n ps) h = h
simple-joined from end x all (substituted gap y ps) h = h

joined-ordered : (from end place : ℕ) (gap : Text) (n : Node) (ps : Pieces) → Spans from end (node_piece place gap n ps)
    → Values from (joined n (node_piece place gap n ps) ps) end
unfolding Values joined
joined-ordered from end place gap (simple x) ps h =
    simple-joined from end x (node_piece place gap (simple x) ps) ps (spans-forward from end (node_piece place gap (simple x) ps) h)
joined-ordered from end place gap (array es) ps h = elements-ordered from end (node_piece place gap (array es) ps) h
joined-ordered from end place gap (object fs) ps h = fields-ordered from end (node_piece place gap (object fs) ps) h
joined-ordered from end place gap (unresolved b qs) ps h = go h
  where
    go : Spans from end (node_piece place gap (unresolved b qs) ps) → Ordered from end (places_node (unresolved b qs))
    go (i, mid, k, l) =
        ordered-from from (suc place) end (places_node (unresolved b qs)) (omega arith)
        (ordered-to (suc place) mid end (places_node (unresolved b qs)) (spans-forward mid end ps l) k)

-- an unresolved value's first byte is before all that is in its pieces
unresolved-ordered : (from end : ℕ) (ps : Pieces) → Some ps → Spans from end ps → Values from (unresolved 0 ps) end
unfolding Values Spans places_node
unresolved-ordered from end no_pieces o h = absurd o
unresolved-ordered from end (node_piece place gap n ps) o h =
    let (i, mid, k, l) = h in
    (i, ordered-append (suc place) mid end (places_node n) (places_pieces ps) k (pieces-ordered mid end ps l))
unresolved-ordered from end (substituted gap x ps) o h = (h.0, pieces-ordered (suc x.place) end ps h.1)

judge-ordered : (at : ℕ) (ps : Pieces) (end items : ℕ) → Spans at end ps → IfGot (Values at) (judge_value ps end items)
unfolding judge_value
judge-ordered at no_pieces end items h = not-got
judge-ordered at (substituted gap x ps) end items h = gives (unresolved-ordered at end (substituted gap x ps) tt h)
judge-ordered at (node_piece place gap n ps) end items h =
    by-test (IfGot (Values at)) (has_substitution ps) (λ e. gives (unresolved-ordered at end (node_piece place gap n ps) tt h)) (λ e.
    by-option (IfGot (Values at)) (unlike (kind_of n) ps) (λ f. gives (joined-ordered at end place gap n ps h)) (λ other f. not-got))

-- a piece that begins at a place: what is in it stands behind its first byte
abbrev Inner : ℕ → Part → ℕ → Type 0
unfolding places_node
Inner at (node n) end = Ordered (suc at) end (places_node n)
Inner at (substitution x) end = (x.place ≡ at) × (at < end)

-- pieces that are read from a place on
abbrev Spanning : ℕ → Pieces → ℕ → Type 0
unfolding Spans
Spanning at ps end = Spans at end ps

with-spans : (at : ℕ) (gap : Text) (part : Part) (end : ℕ) (ps : Pieces) (after : ℕ) → Inner at part end → Spans end after ps
    → Spans at after (with_part at gap part ps)
unfolding Inner Spans
with-spans at gap (node n) end ps after h k = (omega arith, end, h, k)
with-spans at gap (substitution x) end ps after h k =
    (omega (arith, h.0), spans-from (suc x.place) end after ps (omega (arith, h.0, h.1)) k)

module _ (s : List ℕ) where
  module _ (piece_at : Start → ℕ → ℕ → Read Part)
      (piece : (start : Start) (at items : ℕ) → start_of s at ≡ some start → IfGot (Inner at) (piece_at start at items)) where
    abbrev more : ℕ → ℕ → ℕ → Start → ℕ → Read Pieces
    more n from at start items =
        read_then (piece_at start at items) (λ part end items₁.
        read_then (pieces_from n piece_at s end (after_inline s end) items₁) (λ ps after items₂.
        got (with_part at (slice from at s) part ps) after items₂))

    pieces-span : (n from at items : ℕ) → IfGot (Spanning at) (pieces_from n piece_at s from at items)
    unfolding pieces_from Spanning
    pieces-span zero from at items = not-got
    pieces-span (suc n) from at items =
        by-option (IfGot (Spanning at)) (start_of s at) (λ b. gives (omega arith)) (λ start b.
        counted-got items at (more n from at start) (λ items₁.
        then-got (piece start at items₁ b) (λ part end items₂ k.
        then-got (pieces-span n end (after_inline s end) items₂) (λ ps after items₃ m.
        gives (with-spans at (slice from at s) part end ps after k (spans-from end (after_inline s end) after ps (inline-reached s end).0 m))))))

-- ---- members

module _ {A : Type 0} (places : A → List ℕ) where
  unfoldable places_of : List A → List ℕ
  places_of [] = []
  places_of (a ∷ l) = places a ++ places_of l

  abbrev Member : ℕ → A → ℕ → Type 0
  Member at a end = Ordered at end (places a)

  abbrev Members : ℕ → List A → ℕ → Type 0
  unfolding places_of
  Members at l end = Ordered at end (places_of l)

  module _ (s : List ℕ) (closing : ℕ) (member_at : ℕ → ℕ → Read A) (member : (at items : ℕ) → IfGot (Member at) (member_at at items)) where
    members-from : (n at items : ℕ) → IfGot (Members at) (members_from n closing member_at s at items)
    unfolding members_from Members places_of
    members-from zero at items = not-got
    members-from (suc n) at items =
        by-test (IfGot (Members at)) (eqb (byte_at s at) closing) (λ e. gives (closing-forward s closing at)) (λ e.
        by-test (IfGot (Members at)) (eqb (byte_at s at) the_end) (λ f. not-got) (λ f.
        then-got (member at items) (λ m end items₁ k.
        then-got (counting-got items₁ (parted-scans s closing end)) (λ comma after items₂ l.
        then-got (members-from n after items₂) (λ ms last items₃ o.
        gives (ordered-append at end last (places m) (places_of ms) k (ordered-from end after last (places_of ms) l o)))))))

    members-ordered : (at items : ℕ) → IfGot (Members at) (members_at closing member_at s at items)
    unfolding members_at Members
    members-ordered at items =
        got-map (λ l end h. ordered-from at (after_gap s at) end (places_of l) (gap-reached s at).forward h)
        (members-from (suc (length s)) (after_gap s at) items)

abbrev places_field : FieldRead → List ℕ
unfolding places_node
places_field m = places_node m.value

places-elements : (ns : List Node) → places_elements (elements_from ns) ≡ places_of places_node ns
unfolding places_node elements_from places_of
places-elements [] = refl
places-elements (n ∷ ns) = cc (places-elements ns)

places-fields : (ms : List FieldRead) → places_fields (fields_of ms) ≡ places_of places_field ms
unfolding places_field fields_of places_of
places-fields [] = refl
places-fields (m ∷ ms) = cc (places-fields ms)

-- further key elements change nothing
inside-ordered : (at end : ℕ) (ks : List Key) (n : Node) → Ordered at end (places_node n) → Ordered at end (places_node (inside ks n))
unfolding places_node inside
inside-ordered at end [] n h = h
inside-ordered at end (k ∷ ks) n h =
    ordered-append at end end (places_node (inside ks n)) [] (inside-ordered at end ks n h) (omega arith)

-- ---- a substitution's place is that of its `$`

abbrev Stands : ℕ → Substitution → ℕ → Type 0
Stands at x end = x.place ≡ at

anything : {A : Type 0} (m : Scan A) → IfRead (λ a end. Unit {0}) m
anything (ok a end) = ends tt
anything (refused x) = unread

judged-read : {A : Type 0} {Q : A → ℕ → Type 0} (o : Option Refusal) (a : A) (end : ℕ) → Q a end → IfRead Q (judged o a end)
judged-read none a end h = ends h
judged-read (some x) a end h = unread

module _ (s : List ℕ) where
  braced-stands : (first : ℕ) (optional : Bool) (at : ℕ) → IfRead (Stands first) (braced s first optional at)
  unfolding braced
  braced-stands first optional at =
      then-read (anything (segments_at false s at)) (λ gs end h.
      by-test (IfRead (Stands first)) (eqb (byte_at s end) 125)
      (λ e. judged-read (judge first max_path (elements_of gs)) _ _ refl) (λ e. unread))

  substitution-stands : (at : ℕ) → IfRead (Stands at) (substitution_at s at)
  unfolding substitution_at
  substitution-stands at =
      by-test (IfRead (Stands at)) (eqb (byte_at s (at + 2)) 63)
      (λ e. braced-stands at true (after_inline s (at + 3))) (λ e. braced-stands at false (after_inline s (at + 2)))

  -- the place and the way forward together
  substituted-got : (at items : ℕ) (m : Scan Substitution) → Scans (From (suc at)) m → IfRead (Stands at) m
      → IfGot (λ x end. (x.place ≡ at) × (at < end)) (keep_items items m)
  substituted-got at items (ok x end) (oks h) (read k) = gives (k, h)
  substituted-got at items (refused x) h k = not-got

-- ---- fields, elements, values

module _ (s : List ℕ) where
  module _ (value_at : ℕ → ℕ → ℕ → Read Node) (values : (inner place items : ℕ) → IfGot (Values place) (value_at inner place items)) where
    module _ (nesting : ℕ) where
      with-ordered : (at items : ℕ) (ks : List Key) → IfGot (Member places_field at) (field_with value_at s nesting at items ks)
      unfolding field_with Values places_field
      with-ordered at items [] = not-got
      with-ordered at items (k ∷ ks) =
          then-got (counting-got _ (place-scans s at)) (λ p place items₁ f.
          then-got (values (nesting + length ks) place items₁) (λ n end items₂ g.
          gives (inside-ordered at end ks n (ordered-from at place end (places_node n) f g))))

      judged-ordered : (at items : ℕ) (es : List Element) (o : Option Refusal)
          → IfGot (Member places_field at) (field_judged value_at s nesting at items es o)
      unfolding field_judged
      judged-ordered at items es (some x) = not-got
      judged-ordered at items es none = with-ordered at items (keys_of es)

      field-ordered : (at items : ℕ) → IfGot (Member places_field at) (field_at value_at s nesting at items)
      unfolding field_at
      field-ordered at items =
          by-test (IfGot (Member places_field at)) (starts_include s at) (λ e. not-got) (λ e.
          then-got (counting-got items (segments-scans s true at)) (λ gs end items₁ h.
          by-list (IfGot (Member places_field at)) gs not-got (λ g rest.
          let es = elements_of (g ∷ rest) in
          got-map (λ m last k. ordered-from at end last (places_field m) h k)
          (judged-ordered end items₁ es (judge at (allowed_keys nesting items₁) es)))))

      element-ordered : (at items : ℕ) → IfGot (Member places_node at) (element_at value_at s nesting at items)
      unfolding element_at Values
      element-ordered at items =
          by-option (IfGot (Member places_node at)) (start_of s at) (λ b. not-got) (λ start b.
          counted-got items at (value_at nesting at) (λ items₁. values nesting at items₁))

      array-ordered : (at items : ℕ) → IfGot (λ es end. Ordered at end (places_elements es)) (array_at value_at s nesting at items)
      unfolding array_at Members
      array-ordered at items =
          then-got (members-ordered places_node s 93 (element_at value_at s nesting) element-ordered at items) (λ ns end items₁ h.
          gives (rw (places-elements ns) h))

      object-ordered : (closing at items : ℕ) → IfGot (λ fs end. Ordered at end (places_fields fs)) (object_at value_at closing s nesting at items)
      unfolding object_at Members
      object-ordered closing at items =
          then-got (members-ordered places_field s closing (field_at value_at s nesting) field-ordered at items) (λ ms end items₁ h.
          gives (rw (places-fields ms) h))

    piece-ordered : (nesting : ℕ) (start : Start) (at items : ℕ) → start_of s at ≡ some start
        → IfGot (Inner at) (piece_at value_at s nesting start at items)
    unfolding piece_at Inner
    piece-ordered nesting brace at items e =
        opened-got nesting at
        (λ inner. read_then (object_at value_at 125 s inner (at + 1) items) (λ fs end items₁. got (node (object fs)) end items₁)) (λ inner.
        then-got (object-ordered inner 125 (at + 1) items) (λ fs end items₁ k.
        gives (ordered-from (suc at) (at + 1) end (places_fields fs) (omega arith) k)))
    piece-ordered nesting bracket at items e =
        opened-got nesting at
        (λ inner. read_then (array_at value_at s inner (at + 1) items) (λ es end items₁. got (node (array es)) end items₁)) (λ inner.
        then-got (array-ordered inner (at + 1) items) (λ es end items₁ k.
        gives (ordered-from (suc at) (at + 1) end (places_elements es) (omega arith) k)))
    piece-ordered nesting dollar at items e =
        then-got (substituted-got s at items (substitution_at s at) (substitution-scans s at) (substitution-stands s at)) (λ x end items₁ h. gives h)
    piece-ordered nesting simple_start at items e =
        then-got (counting-got items (simple-scans s at ((begun s at simple_start e).1 refl))) (λ t end items₁ h. gives h)

  value-ordered : (depth nesting at items : ℕ) → IfGot (Values at) (value_from depth s nesting at items)
  unfolding value_from Spanning
  value-ordered zero nesting at items = not-got
  value-ordered (suc depth) nesting at items =
      let piece = piece-ordered (value_from depth s) (λ m p i. value-ordered depth m p i) nesting in
      by-option (IfGot (Values at)) (start_of s at) (λ b. not-got) (λ start b.
      then-got (pieces-span s (piece_at (value_from depth s) s nesting) piece (suc (length s)) at at items) (λ ps end items₁ m.
      judge-ordered at ps end items₁ m))

  abbrev Roots : ℕ → Root → ℕ → Type 0
  unfolding places_root
  Roots at r end = Ordered at end (places_root r)

  root-ordered : (nesting at items : ℕ) → IfGot (Roots at) (root_at s nesting at items)
  unfolding root_at Roots
  root-ordered nesting at items₀ =
      let value_at = value_from max_nesting s in
      let values : (inner place items : ℕ) → IfGot (Values place) (value_at inner place items) = λ m p i. value-ordered max_nesting m p i in
      by-test (IfGot (Roots at)) (eqb (byte_at s at) 123)
      (λ e. then-got (object-ordered value_at values nesting 125 (at + 1) items₀) (λ fs end items h.
      gives (ordered-from at (at + 1) end (places_fields fs) (omega arith) h)))
      (λ e. by-test (IfGot (Roots at)) (eqb (byte_at s at) 91)
      (λ f. then-got (array-ordered value_at values nesting (at + 1) items₀) (λ es end items h.
      gives (ordered-from at (at + 1) end (places_elements es) (omega arith) h)))
      (λ f. then-got (object-ordered value_at values nesting the_end at items₀) (λ fs end items h. gives h)))

  document-ordered : (nesting items : ℕ) → IfGot (Roots 0) (read_root s nesting items)
  unfolding read_root Roots
  document-ordered nesting items₀ =
      then-got (root-ordered nesting (after_gap s 0) items₀) (λ r end items h.
      let last = after_gap s end in
      by-test (IfGot (Roots 0)) (ltb last (length s)) (λ e. not-got) (λ e.
      gives (ordered-from 0 (after_gap s 0) last (places_root r) (omega arith)
      (ordered-to (after_gap s 0) end last (places_root r) (gap-reached s end).forward h))))

-- of a root that is read the first bytes rise, and all are before its end
pub root-order : (s : List ℕ) (nesting items₀ : ℕ) (r : Root) (end items : ℕ) → read_root s nesting items₀ ≡ got r end items
    → Ordered 0 end (map (λ u. u.place) (unresolved_in (number_root r)))
unfolding Roots
root-order s nesting items₀ r end items e = rw (listed-root r).places (of-got (rw e at (document-ordered s nesting items₀)))

-- ---- documents

abbrev Sorted : Document → Type 0
Sorted d = Rising (map (λ u. u.place) d.unresolved)

pub data IfGiven {A : Type 0} (Q : A → Type 0) : Input A → Type 0 where
  is-given : {a : A} → Q a → IfGiven Q (valid a)
  not-given : {x : Refusal} → IfGiven Q (refused x)

pub of-given : {A : Type 0} {Q : A → Type 0} {a : A} → IfGiven Q (valid a) → Q a
of-given (is-given h) = h

root-given : (m : Read Root) → ((r : Root) (end items : ℕ) → m ≡ got r end items → Rising (map (λ u. u.place) (unresolved_in (number_root r))))
    → IfGiven Sorted (of_root m)
unfolding of_root limited
root-given (refused x) f = not-given
root-given (got r at items) f =
    by-option (IfGiven Sorted) (get_elem? (unresolved_in (number_root r)) max_unresolved) (λ e. is-given (f r at items refl)) (λ u e. not-given)

document-given : (s : List ℕ) → IfGiven Sorted (read_document s)
unfolding read_document read_tree of_root
document-given s =
    by-option (λ m. IfGiven Sorted (of_root m)) (ill_formed s)
    (λ e. root-given (read_root s 1 0) (λ r end items f.
    ordered-rises 0 end (map (λ u. u.place) (unresolved_in (number_root r))) (root-order s 1 0 r end items f))) (λ place e. not-given)

pub first-byte-order : (s : List ℕ) (d : Document) → read_document s ≡ valid d → Rising (map (λ u. u.place) d.unresolved)
first-byte-order s d e = of-given (rw e at (document-given s))
