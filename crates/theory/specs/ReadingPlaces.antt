-- No reader of a tree goes past the text's end: the place of a refusal is a place in the text, or its length, and so are the places of the
-- pieces of unresolved values in what is read.
use Rattle.std.specs.Prelude.{◌≡◌, Bool, ◌||◌, ltb}
use Rattle.std.proofs.Math.Path.{refl}
use Rattle.std.proofs.Common.{subst, arith}
use Prim.Native.Nat.{ℕ, zero, suc, ◌+◌, ◌≤◌, ◌<◌}
use Rattle.std.proofs.Math.Bool.{true, false}
use mathlib.Core.List.{List, [], ◌∷◌}
use Rattle.std.proofs.Math.Option.{Option, none, some}
use Rattle.std.proofs.Math.Dec.{leb, eqb}
use Rattle.std.proofs.Math.ListN.{length, get_elem?}
use Rattle.std.proofs.Math.Seq.{slice}
use borrow.Author.Tests.{leb-false, eqb-true}
use Rattle.answers.specs.Theory.Sound.{clash}
use Rattle.rules.specs.Sizes.{max_nesting, max_items, max_path}
use Rattle.rules.specs.Bytes.{Text, byte_at}
use Rattle.rules.specs.Refusals.{Refusal, place_of, spent, ended, not_allowed, Scan, ok, and_then, Read, got, refused, read_then, keep_items}
use Rattle.rules.specs.Utf8.{ill_formed}
use Rattle.rules.specs.Characters.{Gap, is_space, character_at, next_place, starts_comment, line_end, gap_from, gap_at, after_inline, after_gap}
use Rattle.rules.specs.Pieces.{starts_simple, simple_at}
use Rattle.rules.specs.Paths.{Segment, Element, starts_include, segments_at, elements_of, any_empty, judge, judged, keys_of, braced, substitution_at}
use Rattle.rules.specs.Tree.{Key, Substitution, Node, simple, array, object, unresolved}
use Rattle.rules.specs.Tree.{Pieces, no_pieces, node_piece, substituted, Root, root_node}
use Rattle.rules.specs.Tree.{AllNode, AllElements, AllFields, AllPieces}
use Rattle.rules.specs.Reading.{Start, brace, bracket, dollar, simple_start, start_of, Part, node, substitution, with_part, count_item, pieces_from}
use Rattle.rules.specs.Reading.{has_substitution, Kind, kind_of, same_kind, unlike, simple_joined, joined, judge_value}
use Rattle.rules.specs.Reading.{the_end, after_closing, parted, members_from, members_at, FieldRead, value_place}
use Rattle.rules.specs.Reading.{allowed_keys, opened, field_with, field_judged, field_at, element_at, array_at, object_at, piece_at, value_from, root_at, read_root}
use Rattle.rules.specs.Documents.{refused, read_tree}
use Rattle.theory_text.specs.Choices.{by-test, by-option}
use Rattle.theory_text.specs.Places.{byte_past, byte_inside, inside as inside-text}
use Rattle.theory.specs.Lengths.{Within, elements-within}
use Rattle.theory.specs.PathPlaces.{Stays, skip-stays, next-stays, simple-stays, inline-stays, segments-at-stay, element-within, ill-formed-place}
use Rattle.theory.specs.Reach.{Each}
use Rattle.theory.specs.TreeParts.{elements-joined, fields-joined, inside-all, fields-all, elements-all}
use Rattle.theory.specs.RuleRefusals.{PlacesIn}

-- what is read ends inside the text and has Q, or the refusal's place is inside; both may be the length
pub data Kept {A : Type 0} (s : List ℕ) (Q : A → Type 0) : Read A → Type 0 where
  gots : {a : A} {end items : ℕ} → end ≤ length s → Q a → Kept s Q (got a end items)
  read-refuses : {x : Refusal} → place_of x ≤ length s → Kept s Q (refused x)

then-kept : {A B : Type 0} {s : List ℕ} {P : A → Type 0} {Q : B → Type 0} {m : Read A} {k : A → ℕ → ℕ → Read B} → Kept s P m
    → ((a : A) (end items : ℕ) → end ≤ length s → P a → Kept s Q (k a end items)) → Kept s Q (read_then m k)
then-kept (gots h q) f = f _ _ _ h q
then-kept (read-refuses h) f = read-refuses h

abbrev Any : {A : Type 0} → A → Type 0
Any a = Unit {0}

-- the same of what counts nothing
abbrev Keeps : {A : Type 0} → List ℕ → (A → Type 0) → Scan A → Type 0
Keeps s Q (ok a end) = (end ≤ length s) × Q a
Keeps s Q (Scan.refused x) = place_of x ≤ length s

after-keeps : {A B : Type 0} (s : List ℕ) (Q : B → Type 0) (m : Scan A) (k : A → ℕ → Scan B) → Stays s m
    → ((a : A) (end : ℕ) → m ≡ ok a end → end ≤ length s → Keeps s Q (k a end)) → Keeps s Q (and_then m k)
after-keeps s Q (ok a end) k h f = f a end refl h
after-keeps s Q (Scan.refused x) k h f = h

keeps-kept : {A : Type 0} (s : List ℕ) (Q : A → Type 0) (items : ℕ) (m : Scan A) → Keeps s Q m → Kept s Q (keep_items items m)
keeps-kept s Q items (ok a end) h = gots h.0 h.1
keeps-kept s Q items (Scan.refused x) h = read-refuses h

-- with what a scan gave
stays-kept : {A : Type 0} (s : List ℕ) (items : ℕ) (m : Scan A) → Stays s m
    → Kept s (λ a. (end : ℕ) × (m ≡ ok a end) × (end ≤ length s)) (keep_items items m)
stays-kept s items (ok a end) h = gots h (end, refl, h)
stays-kept s items (Scan.refused x) h = read-refuses h

module _ (s : List ℕ) where
  -- a place in the text, or its length
  abbrev pub In : ℕ → Type 0
  In p = p ≤ length s

  abbrev pub PiecesIn : ℕ → Pieces → Type 0
  PiecesIn b ps = PlacesIn In ps

  disallowed-in : (at : ℕ) → In (place_of (not_allowed s at))
  unfolding not_allowed
  disallowed-in at = by-test (λ x. In (place_of x)) (leb (length s) at) (λ e. omega arith) (λ e. omega (arith, leb-false (length s) at e))

  -- ---- gaps

  line-in : (at : ℕ) → In at → In (line_end s at)
  unfolding line_end
  line-in at h = skip-stays _ _ (length s) (λ p e. next-stays s p) (length s) at h

  gap-from-in : (n at : ℕ) (newline : Bool) → In at → In (gap_from n s at newline).place
  unfolding gap_from
  gap-from-in zero at newline h = h
  gap-from-in (suc n) at newline h =
      by-test (λ (g : Gap). In g.place) (is_space (character_at s at)) (λ e. gap-from-in n (next_place s at) _ (next-stays s at)) (λ e.
      by-test (λ (g : Gap). In g.place) (starts_comment s at) (λ f. gap-from-in n (line_end s at) newline (line-in at h)) (λ f. h))

  gap-in : (at : ℕ) → In at → In (after_gap s at)
  unfolding gap_at
  gap-in at h = gap-from-in (length s) at false h

  -- ---- paths

  judged-in : (seven from allowed end : ℕ) (es : List Element) (x : Refusal) → In seven → In end → Within from end es
      → judge seven allowed es ≡ some x → In (place_of x)
  unfolding judge
  judged-in seven from allowed end [] x h k w e = let q : Refusal.placed 7 seven ≡ x = cc in rw (← q) h
  judged-in seven from allowed end (y ∷ es) x h k w e =
      go (any_empty (y ∷ es)) (get_elem? (y ∷ es) allowed) refl e
    where
      go : (t : Bool) (o : Option Element) → get_elem? (y ∷ es) allowed ≡ o
          → elim t as (λ _. Option Refusal) [
            | true ↦ some (Refusal.placed 7 seven)
            | false ↦ elim o as (λ _. Option Refusal) [ none ↦ none | some z ↦ some (Refusal.placed 8 z.place) ]
          ] ≡ some x → In (place_of x)
      go true o f g = let q : Refusal.placed 7 seven ≡ x = cc in rw (← q) h
      go false none f g = clash (cc)
      go false (some z) f g =
          let q : Refusal.placed 8 z.place ≡ x = cc in
          rw (← q) (omega (arith, element-within s from end (y ∷ es) allowed z w f))

  judged-keeps : {A : Type 0} (Q : A → Type 0) (o : Option Refusal) (a : A) (end : ℕ) → In end → Q a → ((x : Refusal) → o ≡ some x → In (place_of x))
      → Keeps s Q (judged o a end)
  judged-keeps Q none a end h q f = (h, q)
  judged-keeps Q (some x) a end h q f = f x refl

  abbrev PlaceIn : Substitution → Type 0
  PlaceIn x = In x.place

  braced-in : (place : ℕ) (optional : Bool) (at : ℕ) → In place → In at → Keeps s PlaceIn (braced s place optional at)
  unfolding braced
  braced-in place optional at h k =
      after-keeps s PlaceIn (segments_at false s at) _ (segments-at-stay s false at k) (λ gs end e l.
      by-test (Keeps s PlaceIn) (eqb (byte_at s end) 125)
      (λ f. let i = byte_inside s end 125 (omega arith) f in
      judged-keeps PlaceIn (judge place max_path (elements_of gs)) _ (end + 1) (omega arith) h
      (λ x j. judged-in place at max_path end (elements_of gs) x h l (elements-within s false at gs end e) j))
      (λ f. disallowed-in end))

  substitution-in : (at : ℕ) → at + 2 ≤ length s → Keeps s PlaceIn (substitution_at s at)
  unfolding substitution_at
  substitution-in at h =
      by-test (Keeps s PlaceIn) (eqb (byte_at s (at + 2)) 63)
      (λ e. let i = byte_inside s (at + 2) 63 (omega arith) e in
      braced-in at true (after_inline s (at + 3)) (omega arith) (inline-stays s (at + 3) (omega arith)))
      (λ e. braced-in at false (after_inline s (at + 2)) (omega arith) (inline-stays s (at + 2) (omega arith)))

  -- ---- pieces

  -- what a start says of the text
  abbrev Begins : ℕ → Option Start → Type 0
  Begins at none = Unit {0}
  Begins at (some brace) = at < length s
  Begins at (some bracket) = at < length s
  Begins at (some dollar) = at + 2 ≤ length s
  Begins at (some simple_start) = Unit {0}

  begins : (at : ℕ) → Begins at (start_of s at)
  unfolding start_of
  begins at =
      by-test (Begins at) (eqb (byte_at s at) 123) (λ e. byte_inside s at 123 (omega arith) e) (λ e.
      by-test (Begins at) (eqb (byte_at s at) 91) (λ f. byte_inside s at 91 (omega arith) f) (λ f.
      by-test (Begins at) (eqb (byte_at s at) 36)
      (λ g. by-test (Begins at) (eqb (byte_at s (at + 1)) 123) (λ h. omega (arith, byte_inside s (at + 1) 123 (omega arith) h)) (λ h. tt))
      (λ g. by-test (Begins at) (starts_simple s at) (λ h. tt) (λ h. tt))))

  begun : (at : ℕ) (start : Start) → start_of s at ≡ some start → Begins at (some start)
  begun at start e = subst (Begins at) e (begins at)

  abbrev pub NodeIn : Node → Type 0
  NodeIn n = AllNode PiecesIn n

  -- its own places, and those inside
  abbrev AllIn : Pieces → Type 0
  AllIn ps = AllPieces PiecesIn ps × PlacesIn In ps

  abbrev PartIn : Part → Type 0
  PartIn (node n) = NodeIn n
  PartIn (substitution x) = In x.place

  with-part : (place : ℕ) (gap : Text) (part : Part) (ps : Pieces) → In place → PartIn part → AllIn ps → AllIn (with_part place gap part ps)
  with-part place gap (node n) ps h w v = ((w, v.0), (h, v.1))
  with-part place gap (substitution x) ps h w v = (v.0, (w, v.1))

  counted-in : {A : Type 0} (Q : A → Type 0) (items at : ℕ) (k : ℕ → Read A) → In at → ((items₁ : ℕ) → Kept s Q (k items₁))
      → Kept s Q (count_item items at k)
  unfolding count_item
  counted-in Q items at k h f = by-test (Kept s Q) (ltb items max_items) (λ e. f (items + 1)) (λ e. read-refuses h)

  opened_in : {A : Type 0} (Q : A → Type 0) (nesting at : ℕ) (k : ℕ → Read A) → In at → ((inner : ℕ) → Kept s Q (k inner))
      → Kept s Q (opened nesting at k)
  unfolding opened
  opened_in Q nesting at k h f = by-test (Kept s Q) (ltb nesting max_nesting) (λ e. f (nesting + 1)) (λ e. read-refuses h)

  module _ (piece_at : Start → ℕ → ℕ → Read Part)
      (piece : (start : Start) (at items : ℕ) → In at → start_of s at ≡ some start → Kept s PartIn (piece_at start at items)) where
    -- a piece and what follows it
    abbrev more : ℕ → ℕ → ℕ → Start → ℕ → Read Pieces
    more n from at start items =
        read_then (piece_at start at items) (λ part end items₁.
        read_then (pieces_from n piece_at s end (after_inline s end) items₁) (λ ps after items₂.
        got (with_part at (slice from at s) part ps) after items₂))

    pieces-in : (n from at items : ℕ) → In at → Kept s AllIn (pieces_from n piece_at s from at items)
    unfolding pieces_from
    pieces-in zero from at items h = read-refuses {x = spent} (omega arith)
    pieces-in (suc n) from at items h =
        by-option (Kept s AllIn) (start_of s at) (λ b. gots h (tt, tt)) (λ start b.
        counted-in AllIn items at (more n from at start) h (λ items₁.
        then-kept (piece start at items₁ h b) (λ part end items₂ l w.
        then-kept (pieces-in n end (after_inline s end) items₂ (inline-stays s end l)) (λ ps after items₃ m v.
        gots m (with-part at (slice from at s) part ps h w v)))))

  -- ---- what pieces make

  joined_in : (place : ℕ) (gap : Text) (n : Node) (ps : Pieces) → AllIn (node_piece place gap n ps)
      → NodeIn (joined n (node_piece place gap n ps) ps)
  unfolding joined simple_joined
  joined_in place gap (simple x) no_pieces w = tt
  joined_in place gap (simple x) (node_piece p g n ps) w = tt
  joined_in place gap (simple x) (substituted g y ps) w = tt
  joined_in place gap (array es) ps w = elements-joined PiecesIn (node_piece place gap (array es) ps) w.0
  joined_in place gap (object fs) ps w = fields-joined PiecesIn (node_piece place gap (object fs) ps) w.0
  joined_in place gap (unresolved b qs) ps w = w.0.0

  unlike-in : (k : Kind) (ps : Pieces) (other : ℕ) → PlacesIn In ps → unlike k ps ≡ some other → In other
  unfolding unlike
  unlike-in k no_pieces other w e = clash (cc)
  unlike-in k (node_piece place gap n ps) other w e = go (same_kind k (kind_of n)) e (unlike-in k ps other w.1)
    where
      go : (t : Bool) → elim t as (λ _. Option ℕ) [ true ↦ unlike k ps | false ↦ some place ] ≡ some other → (unlike k ps ≡ some other → In other)
          → In other
      go true f ih = ih f
      go false f ih = let q : place ≡ other = cc in rw (← q) w.0
  unlike-in k (substituted gap x ps) other w e = unlike-in k ps other w.1 e

  judge-in : (ps : Pieces) (end items : ℕ) → In end → AllIn ps → Kept s NodeIn (judge_value ps end items)
  unfolding judge_value
  judge-in no_pieces end items h w = read-refuses {x = spent} (omega arith)
  judge-in (substituted gap x ps) end items h w = gots {a = unresolved 0 (substituted gap x ps)} h (w.1, w.0)
  judge-in (node_piece place gap n ps) end items h w =
      by-test (Kept s NodeIn) (has_substitution ps) (λ e. gots {a = unresolved 0 (node_piece place gap n ps)} h (w.1, w.0)) (λ e.
      by-option (Kept s NodeIn) (unlike (kind_of n) ps) (λ f. gots h (joined_in place gap n ps w))
      (λ other f. read-refuses (unlike-in (kind_of n) ps other w.1.1 f)))

  -- ---- members

  closing-in : (closing at : ℕ) → In at → eqb (byte_at s at) closing ≡ true → In (after_closing closing at)
  unfolding after_closing
  closing-in closing at h e =
      by-test In (eqb closing the_end) (λ f. h) (λ f. go (leb (length s) at) refl f)
    where
      go : (t : Bool) → leb (length s) at ≡ t → eqb closing the_end ≡ false → In (at + 1)
      go true l f =
          let past = byte_past s at (borrow.Author.Tests.leb-true (length s) at l) in
          clash (cc (eqb-true (byte_at s at) closing e))
      go false l f = omega (arith, leb-false (length s) at l)

  parted-in : (closing at : ℕ) → In at → Keeps s Any (parted closing s at)
  unfolding parted
  parted-in closing at h =
      let p = after_gap s at in
      by-test (Keeps s Any) (eqb (byte_at s p) 44)
      (λ e. (gap-in (p + 1) (omega (arith, byte_inside s p 44 (omega arith) e)), tt))
      (λ e. by-test (Keeps s Any) (eqb (byte_at s p) the_end || eqb (byte_at s p) closing || (gap_at s at).newline)
      (λ f. (gap-in at h, tt)) (λ f. gap-in at h))

  module _ {A : Type 0} (Q : A → Type 0) (closing : ℕ) (member_at : ℕ → ℕ → Read A)
      (member : (at items : ℕ) → In at → Kept s Q (member_at at items)) where
    members-from-in : (n at items : ℕ) → In at → Kept s (Each Q) (members_from n closing member_at s at items)
    unfolding members_from
    members-from-in zero at items h = read-refuses {x = spent} (omega arith)
    members-from-in (suc n) at items h =
        by-test (Kept s (Each Q)) (eqb (byte_at s at) closing) (λ e. gots (closing-in closing at h e) tt) (λ e.
        by-test (Kept s (Each Q)) (eqb (byte_at s at) the_end) (λ f. read-refuses {x = ended s} (omega arith)) (λ f.
        then-kept (member at items h) (λ m end items₁ k w.
        then-kept (keeps-kept s Any items₁ (parted closing s end) (parted-in closing end k)) (λ comma after items₂ l z.
        then-kept (members-from-in n after items₂ l) (λ ms last items₃ o v. gots o (w, v))))))

    members-in : (at items : ℕ) → In at → Kept s (Each Q) (members_at closing member_at s at items)
    unfolding members_at
    members-in at items h = members-from-in (suc (length s)) (after_gap s at) items (gap-in at h)

  abbrev FieldIn : FieldRead → Type 0
  FieldIn m = NodeIn m.value

  -- ---- the readers of value, array and object

  value-place-in : (at : ℕ) → In at → Keeps s Any (value_place s at)
  unfolding value_place
  value-place-in at h =
      let p = after_gap s at in
      let k = gap-in at h in
      by-test (Keeps s Any) (eqb (byte_at s p) 58 || eqb (byte_at s p) 61)
      (λ e. (gap-in (p + 1) (omega (arith, sign-inside p e)), tt))
      (λ e. by-test (Keeps s Any) (eqb (byte_at s p) 123) (λ f. (k, tt)) (λ f. disallowed-in p))
    where
      sign-inside : (p : ℕ) → (eqb (byte_at s p) 58 || eqb (byte_at s p) 61) ≡ true → p < length s
      sign-inside p e = inside-text s p (λ past. rw (byte_past s p past) refl) e

  module _ (value_at : ℕ → ℕ → ℕ → Read Node) (values : (nesting at items : ℕ) → In at → Kept s NodeIn (value_at nesting at items)) where
    with_in : (nesting at items : ℕ) (ks : List Key) → In at → Kept s FieldIn (field_with value_at s nesting at items ks)
    unfolding field_with
    with_in nesting at items [] h = read-refuses {x = spent} (omega arith)
    with_in nesting at items (k ∷ ks) h =
        then-kept (keeps-kept s Any (items + suc (length ks)) (value_place s at) (value-place-in at h)) (λ p place items₁ l z.
        then-kept (values (nesting + length ks) place items₁ l) (λ n end items₂ m w. gots m (inside-all PiecesIn ks n w)))

    judged-field : (nesting at items : ℕ) (es : List Element) (o : Option Refusal) → In at → ((x : Refusal) → o ≡ some x → In (place_of x))
        → Kept s FieldIn (field_judged value_at s nesting at items es o)
    unfolding field_judged
    judged-field nesting at items es (some x) h f = read-refuses (f x refl)
    judged-field nesting at items es none h f = with_in nesting at items (keys_of es) h

    field_in : (nesting at items : ℕ) → In at → Kept s FieldIn (field_at value_at s nesting at items)
    unfolding field_at
    field_in nesting at items h =
        by-test (Kept s FieldIn) (starts_include s at) (λ e. read-refuses h) (λ e.
        then-kept (stays-kept s items (segments_at true s at) (segments-at-stay s true at h)) (λ gs end items₁ l z. go gs end items₁ l z))
      where
        go : (gs : List Segment) (end items₁ : ℕ) → In end → (last : ℕ) × (segments_at true s at ≡ ok gs last) × (last ≤ length s)
            → Kept s FieldIn (elim gs as (λ _. Read FieldRead) [
              | [] ↦ refused (Refusal.placed 3 end)
              | g ∷ rest ↦
                  let es = elements_of (g ∷ rest) in
                  field_judged value_at s nesting end items₁ es (judge at (allowed_keys nesting items₁) es)
            ])
        go [] end items₁ l z = read-refuses l
        go (g ∷ rest) end items₁ l (last, e, k) =
            let es = elements_of (g ∷ rest) in
            judged-field nesting end items₁ es (judge at (allowed_keys nesting items₁) es) l
            (λ x j. judged-in at at (allowed_keys nesting items₁) last es x h k (elements-within s true at (g ∷ rest) last e) j)

    element-in : (nesting at items : ℕ) → In at → Kept s NodeIn (element_at value_at s nesting at items)
    unfolding element_at
    element-in nesting at items h =
        by-option (Kept s NodeIn) (start_of s at) (λ b. read-refuses (disallowed-in at)) (λ start b.
        counted-in NodeIn items at (value_at nesting at) h (λ items₁. values nesting at items₁ h))

    array-in : (nesting at items : ℕ) → In at → Kept s (AllElements PiecesIn) (array_at value_at s nesting at items)
    unfolding array_at
    array-in nesting at items h =
        then-kept (members-in NodeIn 93 (element_at value_at s nesting) (element-in nesting) at items h) (λ ns end items₁ l w. gots l (elements-all PiecesIn ns w))

    object-in : (closing nesting at items : ℕ) → In at → Kept s (AllFields PiecesIn) (object_at value_at closing s nesting at items)
    unfolding object_at
    object-in closing nesting at items h =
        then-kept (members-in FieldIn closing (field_at value_at s nesting) (field_in nesting) at items h) (λ ms end items₁ l w. gots l (fields-all PiecesIn ms w))

    piece-in : (nesting : ℕ) (start : Start) (at items : ℕ) → In at → start_of s at ≡ some start → Kept s PartIn (piece_at value_at s nesting start at items)
    unfolding piece_at
    piece-in nesting brace at items h e =
        opened_in PartIn nesting at
        (λ inner. read_then (object_at value_at 125 s inner (at + 1) items) (λ fs end items₁. got (node (object fs)) end items₁)) h (λ inner.
        then-kept (object-in 125 inner (at + 1) items (omega (arith, begun at brace e))) (λ fs end items₁ l w. gots l w))
    piece-in nesting bracket at items h e =
        opened_in PartIn nesting at
        (λ inner. read_then (array_at value_at s inner (at + 1) items) (λ es end items₁. got (node (array es)) end items₁)) h (λ inner.
        then-kept (array-in inner (at + 1) items (omega (arith, begun at bracket e))) (λ es end items₁ l w. gots l w))
    piece-in nesting dollar at items h e =
        then-kept (keeps-kept s PlaceIn items (substitution_at s at) (substitution-in at (begun at dollar e))) (λ x end items₁ l w. gots l w)
    piece-in nesting simple_start at items h e =
        then-kept (stays-kept s items (simple_at s at) (simple-stays s at h)) (λ t end items₁ l w. gots l tt)

  value_in : (depth nesting at items : ℕ) → In at → Kept s NodeIn (value_from depth s nesting at items)
  unfolding value_from
  value_in zero nesting at items h = read-refuses {x = spent} (omega arith)
  value_in (suc depth) nesting at items h =
      by-option (Kept s NodeIn) (start_of s at) (λ b. read-refuses (disallowed-in at)) (λ start b.
      then-kept (pieces-in (piece_at (value_from depth s) s nesting) (piece-in (value_from depth s) (value_in depth) nesting) (suc (length s)) at at items h)
      (λ ps end items₁ l w. judge-in ps end items₁ l w))

  abbrev pub RootIn : Root → Type 0
  RootIn r = NodeIn (root_node r)

  root_in : (nesting at items : ℕ) → In at → Kept s RootIn (root_at s nesting at items)
  unfolding root_at
  root_in nesting at items h =
      let value_at = value_from max_nesting s in
      by-test (Kept s RootIn) (eqb (byte_at s at) 123)
      (λ e. then-kept (object-in value_at (value_in max_nesting) 125 nesting (at + 1) items (omega (arith, byte_inside s at 123 (omega arith) e)))
      (λ fs end items₁ l w. gots l w))
      (λ e. by-test (Kept s RootIn) (eqb (byte_at s at) 91)
      (λ f. then-kept (array-in value_at (value_in max_nesting) nesting (at + 1) items (omega (arith, byte_inside s at 91 (omega arith) f)))
      (λ es end items₁ l w. gots l w))
      (λ f. then-kept (object-in value_at (value_in max_nesting) the_end nesting at items h) (λ fs end items₁ l w. gots l w)))

  read-in : (nesting items : ℕ) → Kept s RootIn (read_root s nesting items)
  unfolding read_root
  read-in nesting items =
      then-kept (root_in nesting (after_gap s 0) items (gap-in 0 (omega arith))) (λ r end items₁ l w.
      by-test (Kept s RootIn) (ltb (after_gap s end) (length s)) (λ e. read-refuses (gap-in end l)) (λ e. gots (gap-in end l) w))

  pub tree-in : (nesting items : ℕ) → Kept s RootIn (read_tree s nesting items)
  unfolding read_tree
  tree-in nesting items =
      by-option (Kept s RootIn) (ill_formed s) (λ e. read-in nesting items) (λ place e. read-refuses (omega (arith, ill-formed-place s place e)))
