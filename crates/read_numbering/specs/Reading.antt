-- A document that was read is as the pass wants it: every unresolved value has pieces, none of them is unresolved itself, and
-- the path of a substitution has 1 to 16 elements.
use Rattle.std.specs.Prelude.{◌≡◌, refl, Bool, ltb, eqb}
use Rattle.std.proofs.Common.{ap, arith}
use Prim.Native.Nat.{ℕ, zero, suc, ◌+◌}
use mathlib.Core.List.{List, [], ◌∷◌}
use Rattle.std.proofs.Math.Bool.{true, false}
use Rattle.std.proofs.Math.Option.{Option, none, some}
use Rattle.std.proofs.Math.ListN.{length}
use Rattle.std.proofs.Math.Seq.{slice}
use Rattle.rules.specs.Sizes.{max_nesting, max_items, max_path}
use Rattle.rules.specs.Bytes.{Text, byte_at}
use Rattle.rules.specs.Refusals.{Refusal, placed, not_allowed, Read, got, refused, read_then, keep_items, Scan, ok, and_then}
use Rattle.rules.specs.Characters.{after_inline, after_gap}
use Rattle.rules.specs.Pieces.{simple_at}
use Rattle.rules.specs.Paths.{Segment, Element, starts_include, segments_at, elements_of, texts_of, judge, judged, keys_of, braced, substitution_at}
use Rattle.rules.specs.Tree.{Key, Substitution, Node, simple, array, object, unresolved, Pieces, no_pieces, node_piece, substituted, Root, root_node, AllNode, AllElements, AllFields, AllPieces}
use Rattle.rules.specs.Reading.{Start, brace, bracket, dollar, simple_start, start_of, Part, node, substitution, with_part, count_item, pieces_from, has_substitution, kind_of, unlike, simple_joined, joined, judge_value, the_end, parted, members_from, members_at, FieldRead, value_place, allowed_keys, opened, field_with, field_judged, field_at, element_at, array_at, object_at, piece_at, value_from, root_at, read_root}
use Rattle.rules.specs.Utf8.{ill_formed}
use Rattle.rules.specs.Documents.{read_tree}
use Rattle.theory_text.specs.Choices.{by-test, by-option}
use Rattle.theory.specs.PathsEnd.{Verdict, passes, refuses, Fitting, judge-verdict}
use Rattle.theory.specs.Reach.{Each}
use Rattle.theory.specs.TreeParts.{elements-joined, fields-joined, inside-all, fields-all, elements-all}
use Rattle.doc_items.specs.Joining.{Simples}
use Rattle.read_numbering.specs.Clauses.{PathFits, PathsFit, AsRead}

-- ---- P of what a reading gives

abbrev Gives : {A : Type 0} → (A → Type 0) → Read A → Type 0
Gives P (got a at items) = P a
Gives P (refused x) = Unit {0}

gives_then : {A B : Type 0} (P : A → Type 0) (Q : B → Type 0) (x : Read A) (k : A → ℕ → ℕ → Read B) → Gives P x
    → ((a : A) (at items : ℕ) → P a → Gives Q (k a at items)) → Gives Q (read_then x k)
gives_then P Q (got a at items) k g h = h a at items g
gives_then P Q (refused x) k g h = tt

abbrev Nothing : {A : Type 0} → A → Type 0
Nothing a = Unit {0}

gives_nothing : {A : Type 0} (x : Read A) → Gives Nothing x
gives_nothing (got a at items) = tt
gives_nothing (refused x) = tt

-- ---- paths

texts-length : (es : List Element) → length (texts_of es) ≡ length es
texts-length [] = refl
texts-length (e ∷ es) = ap suc (texts-length es)

-- P of what a scan gives
abbrev Scanned : {A : Type 0} → (A → Type 0) → Scan A → Type 0
Scanned P (ok a end) = P a
Scanned P (refused x) = Unit {0}

gives-kept : {A : Type 0} (P : A → Type 0) (items : ℕ) (m : Scan A) → Scanned P m → Gives P (keep_items items m)
gives-kept P items (ok a end) h = h
gives-kept P items (refused x) h = tt

module _ (s : List ℕ) where
  braced-fits : (first : ℕ) (optional : Bool) (at : ℕ) → Scanned PathFits (braced s first optional at)
  unfolding braced
  braced-fits first optional at = go (segments_at false s at)
    where
      judged-fits : (es : List Element) (end : ℕ) {o : Option Refusal} → Verdict (Fitting max_path es) o
          → Scanned PathFits (judged o (record { place = first; optional = optional; path = texts_of es }) end)
      judged-fits es end (passes h) = let e = texts-length es in (omega (arith, h.0), omega (arith, h.1))
      judged-fits es end (refuses h) = tt

      go : (m : Scan (List Segment)) → Scanned PathFits (and_then m (λ gs end. elim (eqb (byte_at s end) 125) as (λ _. Scan Substitution) [
        | false ↦ refused (not_allowed s end)
        | true ↦
            let es = elements_of gs in
            judged (judge first max_path es) (record { place = first; optional = optional; path = texts_of es }) (end + 1)
      ]))
      go (refused x) = tt
      go (ok gs end) =
          by-test (Scanned PathFits) (eqb (byte_at s end) 125)
          (λ e. judged-fits (elements_of gs) (end + 1) (judge-verdict first max_path (elements_of gs))) (λ e. tt)

  substitution-fits : (at : ℕ) → Scanned PathFits (substitution_at s at)
  unfolding substitution_at
  substitution-fits at =
      by-test (Scanned PathFits) (eqb (byte_at s (at + 2)) 63)
      (λ e. braced-fits at true (after_inline s (at + 3))) (λ e. braced-fits at false (after_inline s (at + 2)))

-- ---- pieces

abbrev Whole : Node → Type 0
Whole n = AllNode AsRead n

abbrev WholePieces : Pieces → Type 0
WholePieces ps = AllPieces AsRead ps × Simples ps × PathsFit ps

-- a piece is not unresolved itself
abbrev WholePart : Part → Type 0
WholePart (node (simple x)) = Unit {0}
WholePart (node (array es)) = AllElements AsRead es
WholePart (node (object fs)) = AllFields AsRead fs
WholePart (node (unresolved b ps)) = ⊥
WholePart (substitution x) = PathFits x

with-part : (place : ℕ) (gap : Text) (part : Part) (ps : Pieces) → WholePart part → WholePieces ps → WholePieces (with_part place gap part ps)
with-part place gap (node (simple x)) ps w v = ((tt, v.0), v.1, v.2)
with-part place gap (node (array es)) ps w v = ((w, v.0), v.1, v.2)
with-part place gap (node (object fs)) ps w v = ((w, v.0), v.1, v.2)
with-part place gap (node (unresolved b qs)) ps w v = absurd w
with-part place gap (substitution x) ps w v = (v.0, v.1, (w, v.2))

gives-counted : {A : Type 0} (P : A → Type 0) (items at : ℕ) (k : ℕ → Read A) → ((items₁ : ℕ) → Gives P (k items₁)) → Gives P (count_item items at k)
unfolding count_item
gives-counted P items at k h = by-test (Gives P) (ltb items max_items) (λ e. h (items + 1)) (λ e. tt)

pieces_whole : (n : ℕ) (piece_at : Start → ℕ → ℕ → Read Part) (s : List ℕ) (from at items : ℕ)
    → ((start : Start) (at items : ℕ) → Gives WholePart (piece_at start at items)) → Gives WholePieces (pieces_from n piece_at s from at items)
unfolding pieces_from count_item
pieces_whole zero piece_at s from at items h = tt
pieces_whole (suc n) piece_at s from at items h =
    by-option (Gives WholePieces) (start_of s at) (λ e. (tt, tt, tt)) (λ start e.
    by-test (Gives WholePieces) (ltb items max_items) (λ f.
    gives_then WholePart WholePieces (piece_at start at (items + 1)) _ (h start at (items + 1)) (λ part end items₂ w.
    gives_then WholePieces WholePieces (pieces_from n piece_at s end (after_inline s end) items₂) _
    (pieces_whole n piece_at s end (after_inline s end) items₂ h) (λ ps after items₃ v. with-part at (slice from at s) part ps w v))) (λ f. tt))

-- ---- what pieces make

joined-whole : (place : ℕ) (gap : Text) (n : Node) (ps : Pieces) → WholePieces (node_piece place gap n ps)
    → Whole (joined n (node_piece place gap n ps) ps)
unfolding joined simple_joined
joined-whole place gap (simple x) no_pieces w = tt
joined-whole place gap (simple x) (node_piece p g n ps) w = tt
joined-whole place gap (simple x) (substituted g y ps) w = tt
joined-whole place gap (array es) ps w = elements-joined AsRead (node_piece place gap (array es) ps) w.0
joined-whole place gap (object fs) ps w = fields-joined AsRead (node_piece place gap (object fs) ps) w.0
joined-whole place gap (unresolved b qs) ps w = absurd w.1

judged-whole : (ps : Pieces) (at items : ℕ) → WholePieces ps → Gives Whole (judge_value ps at items)
unfolding judge_value
judged-whole no_pieces at items w = tt
judged-whole (substituted gap x ps) at items w = ((tt, w.1, w.2), w.0)
judged-whole (node_piece place gap n ps) at items w =
    by-test (Gives Whole) (has_substitution ps) (λ e. ((tt, w.1, w.2), w.0)) (λ e.
    by-option (Gives Whole) (unlike (kind_of n) ps) (λ f. joined-whole place gap n ps w) (λ other f. tt))

-- ---- members

members-whole : {A : Type 0} (P : A → Type 0) (n closing : ℕ) (member_at : ℕ → ℕ → Read A) (s : List ℕ) (at items : ℕ)
    → ((at items : ℕ) → Gives P (member_at at items)) → Gives (Each P) (members_from n closing member_at s at items)
unfolding members_from
members-whole P zero closing member_at s at items h = tt
members-whole P (suc n) closing member_at s at items h =
    by-test (Gives (Each P)) (eqb (byte_at s at) closing) (λ e. tt) (λ e.
    by-test (Gives (Each P)) (eqb (byte_at s at) the_end) (λ f. tt) (λ f.
    gives_then P (Each P) (member_at at items) _ (h at items) (λ m end items₁ w.
    gives_then Nothing (Each P) (keep_items items₁ (parted closing s end)) _ (gives_nothing (keep_items items₁ (parted closing s end)))
    (λ comma after items₂ z.
    gives_then (Each P) (Each P) (members_from n closing member_at s after items₂) _ (members-whole P n closing member_at s after items₂ h)
    (λ ms last items₃ v. (w, v))))))

abbrev WholeField : FieldRead → Type 0
WholeField m = Whole m.value

module _ (value_at : ℕ → ℕ → ℕ → Read Node) (h : (nesting at items : ℕ) → Gives Whole (value_at nesting at items)) where
  field-with : (s : List ℕ) (nesting at items : ℕ) (ks : List Key) → Gives WholeField (field_with value_at s nesting at items ks)
  unfolding field_with
  field-with s nesting at items [] = tt
  field-with s nesting at items (k ∷ ks) =
      gives_then Nothing WholeField (keep_items (items + suc (length ks)) (value_place s at)) _ (gives_nothing (keep_items (items + suc (length ks)) (value_place s at)))
      (λ p place items₁ z.
      gives_then Whole WholeField (value_at (nesting + length ks) place items₁) _ (h (nesting + length ks) place items₁)
      (λ n end items₂ w. inside-all AsRead ks n w))

  field-judged : (s : List ℕ) (nesting at items : ℕ) (es : List Element) (o : Option Refusal)
      → Gives WholeField (field_judged value_at s nesting at items es o)
  unfolding field_judged
  field-judged s nesting at items es (some x) = tt
  field-judged s nesting at items es none = field-with s nesting at items (keys_of es)

  field-whole : (s : List ℕ) (nesting at items : ℕ) → Gives WholeField (field_at value_at s nesting at items)
  unfolding field_at
  field-whole s nesting at items =
      by-test (Gives WholeField) (starts_include s at) (λ e. tt) (λ e.
      gives_then Nothing WholeField (keep_items items (segments_at true s at)) _ (gives_nothing (keep_items items (segments_at true s at)))
      (λ gs end items₁ z. go gs end items₁))
    where
      go : (gs : List Segment) (end items₁ : ℕ) → Gives WholeField (elim gs as (λ _. Read FieldRead) [
        | [] ↦ refused (placed 3 end)
        | g ∷ rest ↦
            let es = elements_of (g ∷ rest) in
            field_judged value_at s nesting end items₁ es (judge at (allowed_keys nesting items₁) es)
      ])
      go [] end items₁ = tt
      go (g ∷ rest) end items₁ =
          let es = elements_of (g ∷ rest) in
          field-judged s nesting end items₁ es (judge at (allowed_keys nesting items₁) es)

  element-whole : (s : List ℕ) (nesting at items : ℕ) → Gives Whole (element_at value_at s nesting at items)
  unfolding element_at
  element-whole s nesting at items =
      by-option (Gives Whole) (start_of s at) (λ e. tt) (λ start e. gives-counted Whole items at (value_at nesting at) (λ items₁. h nesting at items₁))

  array_whole : (s : List ℕ) (nesting at items : ℕ) → Gives (AllElements AsRead) (array_at value_at s nesting at items)
  unfolding array_at members_at
  array_whole s nesting at items =
      gives_then (Each Whole) (AllElements AsRead) (members_at 93 (element_at value_at s nesting) s at items) _
      (members-whole Whole (suc (length s)) 93 (element_at value_at s nesting) s (after_gap s at) items (λ a i. element-whole s nesting a i))
      (λ ns end items₁ w. elements-all AsRead ns w)

  object-whole : (closing : ℕ) (s : List ℕ) (nesting at items : ℕ) → Gives (AllFields AsRead) (object_at value_at closing s nesting at items)
  unfolding object_at members_at
  object-whole closing s nesting at items =
      gives_then (Each WholeField) (AllFields AsRead) (members_at closing (field_at value_at s nesting) s at items) _
      (members-whole WholeField (suc (length s)) closing (field_at value_at s nesting) s (after_gap s at) items (λ a i. field-whole s nesting a i))
      (λ ms end items₁ w. fields-all AsRead ms w)

  piece-whole : (s : List ℕ) (nesting : ℕ) (start : Start) (at items : ℕ) → Gives WholePart (piece_at value_at s nesting start at items)
  unfolding piece_at opened
  piece-whole s nesting brace at items =
      by-test (Gives WholePart) (ltb nesting max_nesting) (λ e.
      gives_then (AllFields AsRead) WholePart (object_at value_at 125 s (nesting + 1) (at + 1) items) _
      (object-whole 125 s (nesting + 1) (at + 1) items) (λ fs end items₁ w. w)) (λ e. tt)
  piece-whole s nesting bracket at items =
      by-test (Gives WholePart) (ltb nesting max_nesting) (λ e.
      gives_then (AllElements AsRead) WholePart (array_at value_at s (nesting + 1) (at + 1) items) _
      (array_whole s (nesting + 1) (at + 1) items) (λ es end items₁ w. w)) (λ e. tt)
  piece-whole s nesting dollar at items =
      gives_then PathFits WholePart (keep_items items (substitution_at s at)) _ (gives-kept PathFits items (substitution_at s at) (substitution-fits s at))
      (λ x end items₁ w. w)
  piece-whole s nesting simple_start at items =
      gives_then Nothing WholePart (keep_items items (simple_at s at)) _ (gives_nothing (keep_items items (simple_at s at))) (λ t end items₁ z. tt)

value-whole : (depth : ℕ) (s : List ℕ) (nesting at items : ℕ) → Gives Whole (value_from depth s nesting at items)
unfolding value_from
value-whole zero s nesting at items = tt
value-whole (suc depth) s nesting at items =
    by-option (Gives Whole) (start_of s at) (λ e. tt) (λ start e.
    gives_then WholePieces Whole (pieces_from (suc (length s)) (piece_at (value_from depth s) s nesting) s at at items) judge_value
    (pieces_whole (suc (length s)) (piece_at (value_from depth s) s nesting) s at at items
    (λ b a i. piece-whole (value_from depth s) (λ m p c. value-whole depth s m p c) s nesting b a i)) judged-whole)

-- ---- documents

abbrev WholeRoot : Root → Type 0
WholeRoot r = Whole (root_node r)

root-whole : (s : List ℕ) (nesting at items : ℕ) → Gives WholeRoot (root_at s nesting at items)
unfolding root_at
root-whole s nesting at items₀ =
    by-test (Gives WholeRoot) (eqb (byte_at s at) 123) (λ e.
    gives_then (AllFields AsRead) WholeRoot (object_at value_at 125 s nesting (at + 1) items₀) _ (object-whole value_at v 125 s nesting (at + 1) items₀) (λ fs end items w. w)) (λ e.
    by-test (Gives WholeRoot) (eqb (byte_at s at) 91) (λ f.
    gives_then (AllElements AsRead) WholeRoot (array_at value_at s nesting (at + 1) items₀) _ (array_whole value_at v s nesting (at + 1) items₀) (λ es end items w. w)) (λ f.
    gives_then (AllFields AsRead) WholeRoot (object_at value_at the_end s nesting at items₀) _ (object-whole value_at v the_end s nesting at items₀) (λ fs end items w. w)))
  where
    value_at : ℕ → ℕ → ℕ → Read Node
    value_at = value_from max_nesting s

    v : (nesting at items : ℕ) → Gives Whole (value_at nesting at items)
    v nesting at items = value-whole max_nesting s nesting at items

root-read : (s : List ℕ) (nesting items : ℕ) → Gives WholeRoot (read_root s nesting items)
unfolding read_root
root-read s nesting items₀ =
    gives_then WholeRoot WholeRoot (root_at s nesting (after_gap s 0) items₀) _ (root-whole s nesting (after_gap s 0) items₀)
    (λ r end items w. by-test (Gives WholeRoot) (ltb (after_gap s end) (length s)) (λ e. tt) (λ e. w))

tree-read : (s : List ℕ) (nesting items : ℕ) → Gives WholeRoot (read_tree s nesting items)
unfolding read_tree
tree-read s nesting items = by-option (Gives WholeRoot) (ill_formed s) (λ e. root-read s nesting items) (λ place e. tt)

pub as_read : (s : List ℕ) (nesting items₀ : ℕ) (root : Root) (at items : ℕ) → read_tree s nesting items₀ ≡ got root at items
    → AllNode AsRead (root_node root)
as_read s nesting items₀ root at items e = rw e at (tree-read s nesting items₀)
