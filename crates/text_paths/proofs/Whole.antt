-- One law for each answer of the functions that read a whole path.
use mathlib.Core.Path.{◌≡◌, refl, sym, ◌∙◌, ap}
use mathlib.Core.Bool.{Bool, true, false, ◌&&◌}
use mathlib.Core.List.{List, [], ◌∷◌, ◌++◌}
use Rattle.std.specs.Prelude.{Result, Ok, Err}
use Prim.Native.Nat.{ℕ, suc, ◌+◌, ◌-◌, ◌≤◌, ◌<◌}
use native.Mathlib.Omega.{arith}
use lib.Dec.{eqb}
use lib.ListN.{length}
use borrow.Author.Tests.{le-ltb}
use Rattle.answers.specs.Theory.Sound.{clash}
use Rattle.rules.specs.Sizes.{max_document}
use Rattle.rules.specs.Bytes.{byte_at}
use Rattle.rules.specs.Refusals.{Refusal as Refusing, placed, number_of, place_of, Scan, ok, refused, and_then}
use Rattle.rules.specs.Characters.{after_inline}
use Rattle.rules.specs.Pieces.{Token, starts_simple, simple_at}
use Rattle.rules.specs.Paths.{Segment, segment_of, gap_segment, segments_from, segments_at, Element, fresh, split_from, elements_of, any_empty}
use Rattle.text_chars.specs.Cursor.{ByteIs, doc, cur, refusal}
use Rattle.text_chars.specs.declared.Refusal.{Refusal}
use Rattle.text_chars.specs.declared.DocAt.{DocAt}
use Rattle.text_chars.specs.declared.Cursor.{Cursor}
use Rattle.text_scan.specs.Scan.{EndIs}
use Rattle.text_elements.specs.Marks.Marks.{marks_room}
use Rattle.text_elements.specs.Segments.Model.{state, FinishIs}
use Rattle.text_elements.specs.Segments.Holding.{joined, Holds}
use Rattle.text_elements.specs.Segments.Pieces.{remaining, piece_to}
use Rattle.text_elements.specs.Segments.Joining.{AdvanceAsked, Advances, AdvanceIs}
use Rattle.text_paths.specs.Whole.{Stops, StopIs, SpaceIs, elements_to, Closes, ClosedIs, ElementsAsked, ElementsIs}
use Rattle.text_elements.specs.Model.{finish_c}
use Rattle.text_elements.specs.declared.Path.{Path}
use Rattle.text_elements.specs.declared.segments.Segment.{Segment as SegmentRead}
use Rattle.text_paths.specs.declared.Stop.{Stop}
use Rattle.text_paths.specs.declared.Joined.{Joined}
use Rattle.text_elements.specs.Segments.Keeping.{holds-finish}
use Rattle.text_elements.specs.Marks.Marking.{mark-length}
use Rattle.text_paths.proofs.Segments.{segments-dollar, segments-end, segments-begin, segments-fail, remaining-more}

-- ---- what stands at a place

module _ (s : List ℕ) (at : ℕ) {key : Bool} where
  pub dollar-key : {b : ℕ} → key ≡ true → ByteIs s at b → eqb b 36 ≡ (key && eqb (byte_at s at) 36)
  dollar-key t k = rw (t, k.is)

  pub dollar-else : key ≡ false → false ≡ (key && eqb (byte_at s at) 36)
  dollar-else t = rw t

module _ {key : Bool} {s : List ℕ} {at : ℕ} {f : Bool} (i : f ≡ (key && eqb (byte_at s at) 36)) where
  pub stop-dollar : f ≡ true → StopIs key s at Stop.Dollar
  stop-dollar t = record { is = sym i ∙ t }

  module _ (t : f ≡ false) {g : Bool} (j : g ≡ starts_simple s at) where
    pub stop-piece : g ≡ true → StopIs key s at Stop.Piece
    stop-piece u = record { is = (sym i ∙ t, sym j ∙ u) }

    pub stop-end : g ≡ false → StopIs key s at Stop.End
    stop-end u = record { is = (sym i ∙ t, sym j ∙ u) }

-- ---- the end

pub closed_some : {p q : Path} {any : Bool} {c : Cursor} {marks marks' : List ℕ} → any ≡ true → FinishIs p 0 marks marks' q
    → ClosedIs p any c marks marks' (elements_to q.count q.empty c)
closed_some e f = rw e (record { is = (rw f.is, f.marked) })

pub closed_none : {p : Path} {any : Bool} {c : Cursor} {marks : List ℕ} → any ≡ false → ClosedIs p any c marks marks (elements_to 0 false c)
closed_none e = rw e (record { is = (refl, refl) })

-- ---- all pieces

-- a path that begins with a piece has a first segment, which begins where the path does
first-segment : (key : Bool) (s : List ℕ) (at : ℕ) → (key && eqb (byte_at s at) 36) ≡ false → starts_simple s at ≡ true
    → (gs : List Segment) (end : ℕ) → segments_from (suc (length s)) key s at at ≡ ok gs end → elements_of gs ≡ split_from (fresh at) gs
unfolding elements_of gap_segment segment_of
first-segment key s at d f gs end e = go (simple_at s at) (sym (segments-begin key s at at d f) ∙ e)
  where
    none : gap_segment s at at ≡ []
    none = rw (le-ltb at at (omega arith), gap_segment)

    rest_of : (t : Token) (m : Scan (List Segment)) → and_then m (λ rest after. ok (gap_segment s at at ++ (segment_of at t ∷ rest)) after) ≡ ok gs end
        → elements_of gs ≡ split_from (fresh at) gs
    rest_of t (ok rest after) z =
        let i : gs ≡ gap_segment s at at ++ (segment_of at t ∷ rest) = cc in
        let j : gs ≡ segment_of at t ∷ rest = i ∙ ap (λ l. l ++ (segment_of at t ∷ rest)) none in
        rw j
    rest_of t (refused x) z = clash (cc)

    go : (m : Scan Token) → and_then m (λ t after. and_then (segments_from (length s) key s after (after_inline s after)) (λ rest last. ok (gap_segment s at at ++ (segment_of at t ∷ rest)) last)) ≡ ok gs end
        → elements_of gs ≡ split_from (fresh at) gs
    go (ok t after) z = rest_of t (segments_from (length s) key s after (after_inline s after)) z
    go (refused x) z = clash (cc)

finish-count : (p : Path) → (finish_c 0 p).count ≡ p.count + 1
unfolding finish_c
finish-count p = refl

pub space-passed : {s : List ℕ} {at : ℕ} {r : Cursor} → EndIs s at (after_inline s at) r → SpaceIs s at r
space-passed k = record { is = λ _. k }

pub space-none : {s : List ℕ} {c : Cursor} → length s < c.at.0 → SpaceIs s c.at.0 c
space-none l = record { is = λ h. absurd (omega arith) }

pub ruleset spaces = (space-passed, space-none)

-- what the loop keeps: the elements so far, and that the rest of the path is still to come
pub record Joining (key : Bool) (s : List ℕ) (start : ℕ) (out₀ marks₀ : List ℕ) (p : Path) (from at : ℕ) (any : Bool) (out marks : List ℕ) : Type 0 where
  pub es : List Element
  pub e : Element
  pub holds : Holds (state p out marks) es e
  pub still : remaining key s from at es e ≡ remaining key s start start [] (fresh start)
  pub after-start : start ≤ from
  pub forward : from ≤ at
  pub inside : at ≤ length s
  pub near : p.used.0 + start ≤ from
  pub few : p.count + start ≤ from
  pub same_out : length out ≡ length out₀
  pub same-marks : length marks ≡ length marks₀
  pub none_yet : any ≡ false → (from ≡ start) × (at ≡ start)
  pub begun : any ≡ true → ((key && eqb (byte_at s start) 36) ≡ false) × (starts_simple s start ≡ true)
  pub asked : ElementsAsked s start out₀ marks₀

pub joining-start : {key : Bool} {s : List ℕ} {start : DocAt} {out marks : List ℕ} → ElementsAsked s start.0 out marks
    → Joining key s start.0 out marks
    (record { count = 0; used = record { 0 = 0 }; from = record { 0 = 0 }; place = start; quotes = false; empty = false }) start.0 start.0 false out marks
unfolding joined any_empty
joining-start {key} {s} {start} a = record {
  es = [];
  e = fresh start.0;
  holds = record { count = refl; from = refl; used = refl; place = refl; quotes = refl; empty = refl; room = omega arith; text = refl; held = tt };
  still = refl;
  after-start = omega arith;
  forward = omega arith;
  inside = a.inside;
  near = omega arith;
  few = omega arith;
  same_out = refl;
  same-marks = refl;
  none_yet = λ _. (refl, refl);
  begun = λ e. clash (cc);
  asked = a;
}

-- a refusal of the rest is the path's
remaining-fail : (m : Scan (List Segment)) (es : List Element) (e : Element) (x : Refusing)
    → and_then m (λ gs end. ok (es ++ split_from e gs) end) ≡ refused x → m ≡ refused x
remaining-fail (refused y) es e x z = cc
remaining-fail (ok gs end) es e x z = clash (cc)

remaining-ok : (m : Scan (List Segment)) (start : ℕ) (es : List Element) (at : ℕ)
    → and_then m (λ gs end. ok ([] ++ split_from (fresh start) gs) end) ≡ ok es at
    → (gs : List Segment) × (m ≡ ok gs at) × (split_from (fresh start) gs ≡ es)
remaining-ok (refused y) start es at z = clash (cc)
remaining-ok (ok gs end) start es at z =
    let i : end ≡ at = cc in
    (gs, ap (λ n. ok gs n) i, cc)

module _ {key : Bool} {s : List ℕ} {start : ℕ} {out₀ marks₀ : List ℕ} {p : Path} {from at : ℕ} {any : Bool} {out marks : List ℕ}
    (h : Joining key s start out₀ marks₀ p from at any out marks) where
  pub asks-advance : {r : Stop} → StopIs key s at r → r ≡ Stop.Piece → AdvanceAsked s from at p out marks
  asks-advance k e =
      let w : Stops key s at Stop.Piece = rw e at k.is in
      record {
        short = h.asked.short;
        forward = h.forward;
        inside = h.inside;
        begins = w.1;
        room = omega (arith, h.near, h.same_out, h.asked.room);
        near = omega (arith, h.near);
        few = omega (arith, h.few);
        marks-room = omega (arith, h.same-marks, h.asked.marks-room);
      }

  fails : (x : Refusing) → segments_from (suc (length s)) key s from at ≡ refused x → segments_at key s start ≡ refused x
  unfolding remaining segments_at
  fails x e = remaining-fail (segments_from (suc (length s)) key s start start) [] (fresh start) x (sym h.still ∙ rw e)

  refuses : (x : Refusing) (y : Refusal) (out' marks' : List ℕ) → segments_at key s start ≡ refused x → y.number ≡ number_of x → y.place.0 ≡ place_of x
      → length out' ≡ length out → length marks' ≡ length marks → ElementsIs key s start out₀ marks₀ out' marks' (Err y)
  refuses x y out' marks' e i j a b = record {
    is = ap (λ (n : ℕ). Err (refusal n y.place)) i ∙ rw e (ap (λ q. Err (refusal (number_of x) (doc q))) j);
    held = rw e tt;
    ends = tt;
    same_out = a ∙ h.same_out;
    same-marks = b ∙ h.same-marks;
  }

  pub elements-dollar : {r : Stop} {d : DocAt} → StopIs key s at r → r ≡ Stop.Dollar → d.0 ≡ at
      → ElementsIs key s start out₀ marks₀ out marks (Err (refusal 7 d))
  elements-dollar {r} {d} k e z =
      let w : Stops key s at Stop.Dollar = rw e at k.is in
      refuses (placed 7 at) (refusal 7 d) out marks (fails (placed 7 at) (segments-dollar key s from at w)) refl z refl refl

  module _ {r : Stop} (k : StopIs key s at r) (e : r ≡ Stop.Piece) {out' marks' : List ℕ} {t : Result SegmentRead Refusal} (a : AdvanceIs s from at p out marks out' marks' t) where
    pub elements-refused : {y : Refusal} → t ≡ Err y → ElementsIs key s start out₀ marks₀ out' marks' (Err y)
    elements-refused {y} z =
        let w : Stops key s at Stop.Piece = rw e at k.is in
        let v : Advances s from at p out marks out' marks' (Err y) = rw z at a.is in
        refuses v.0 y out' marks' (fails v.0 (segments-fail key s from at w.0 w.1 v.0 v.1)) v.2 v.3 v.4 v.5

    pub joining-more : {m : SegmentRead} {d : Cursor} → t ≡ Ok m → SpaceIs s m.next.at.0 d
        → Joining key s start out₀ marks₀ m.path m.next.at.0 d.at.0 true out' marks'
    joining-more {m} {d} z x =
        let w : Stops key s at Stop.Piece = rw e at k.is in
        let v : Advances s from at p out marks out' marks' (Ok m) = rw z at a.is in
        let y = x.is v.3 in
        let tok = v.0 in
        record {
          es = (piece_to s from at (segment_of at tok) h.es h.e).0;
          e = (piece_to s from at (segment_of at tok) h.es h.e).1;
          holds = v.5 h.es h.e h.holds;
          still =
              ap (λ n. remaining key s m.next.at.0 n (piece_to s from at (segment_of at tok) h.es h.e).0 (piece_to s from at (segment_of at tok) h.es h.e).1) y.is
              ∙ sym (remaining-more key s from at w.0 h.es h.e w.1 tok m.next.at.0 v.2 v.1) ∙ h.still;
          after-start = omega (arith, h.after-start, h.forward, v.2);
          forward = y.forward;
          inside = y.inside;
          near = omega (arith, v.4.more-text, h.near);
          few = omega (arith, v.4.more-count, h.few);
          same_out = v.4.same_out ∙ h.same_out;
          same-marks = v.4.same-marks ∙ h.same-marks;
          none_yet = λ x. clash (cc);
          begun = λ _. begins any refl w;
          asked = h.asked;
        }
      where
        begins : (b : Bool) → any ≡ b → Stops key s at Stop.Piece → ((key && eqb (byte_at s start) 36) ≡ false) × (starts_simple s start ≡ true)
        begins true x w = h.begun x
        begins false x w = let z : at ≡ start = (h.none_yet x).1 in rw (← z) w

    pub joining-less : {m : SegmentRead} {d : Cursor} → t ≡ Ok m → SpaceIs s m.next.at.0 d → length s - d.at.0 < length s - at
    joining-less {m} {d} z x =
        let v : Advances s from at p out marks out' marks' (Ok m) = rw z at a.is in
        omega (arith, v.2, v.3, (x.is v.3).forward)

  -- the end: no piece at all, or the elements so far and the last one
  module _ {r : Stop} (k : StopIs key s at r) (e : r ≡ Stop.End) where
    stops-here : Stops key s at Stop.End
    stops-here = rw e at k.is

    whole : remaining key s start start [] (fresh start) ≡ ok (h.es ++ (h.e ∷ [])) at
    unfolding remaining split_from
    whole = sym h.still ∙ rw (segments-end key s from at stops-here.0 stops-here.1)

    opened : remaining key s start start [] (fresh start) ≡ ok (h.es ++ (h.e ∷ [])) at
        → and_then (segments_from (suc (length s)) key s start start) (λ gs end. ok ([] ++ split_from (fresh start) gs) end) ≡ ok (h.es ++ (h.e ∷ [])) at
    unfolding remaining
    opened z = z

    ended : (b : Bool) → any ≡ b → (c : Cursor) → c.at.0 ≡ at → (marks' : List ℕ) (j : Joined) → Closes p b c marks marks' j
        → ElementsIs key s start out₀ marks₀ out marks' (Ok j)
    unfolding segments_at elements_of any_empty
    ended false x c i marks' j w =
        let (f, g) = h.none_yet x in
        let m : segments_from (suc (length s)) key s start start ≡ ok [] start =
        segments-end key s start start (rw g at stops-here.0) (rw g at stops-here.1) in
        record {
          is = ap Ok w.0 ∙ rw m (ap (λ n. Ok (elements_to 0 false (cur n))) (i ∙ g));
          held = rw m tt;
          ends = rw w.0 (omega (arith, i, g), omega (arith, i, h.inside), omega arith);
          same_out = h.same_out;
          same-marks = ap length w.1 ∙ h.same-marks;
        }
    ended true x c i marks' j w =
        let (gs, m, sp) = remaining-ok (segments_from (suc (length s)) key s start start) start (h.es ++ (h.e ∷ [])) at (opened whole) in
        let el : elements_of gs ≡ h.es ++ (h.e ∷ []) = first-segment key s start (h.begun x).0 (h.begun x).1 gs at m ∙ sp in
        let f = holds-finish h.holds 0 (omega (arith, h.same-marks, h.asked.marks-room)) in
        record {
          is = ap Ok w.0 ∙ rw (m, el, f.count, f.empty) (ap (λ n. Ok (elements_to (length (h.es ++ (h.e ∷ []))) (any_empty (h.es ++ (h.e ∷ []))) (cur n))) i);
          held = rw (m, el, w.1) f.held;
          ends = rw w.0 (omega (arith, i, h.after-start, h.forward), omega (arith, i, h.inside), omega (arith, finish-count p, h.few, h.forward, h.inside, h.asked.short));
          same_out = h.same_out;
          same-marks = ap length w.1 ∙ mark-length p.count p.used.0 p.place.0 marks ∙ h.same-marks;
        }

    pub elements-end : {c : Cursor} {marks' : List ℕ} {j : Joined} → c.at.0 ≡ at → ClosedIs p any c marks marks' j
        → ElementsIs key s start out₀ marks₀ out marks' (Ok j)
    elements-end {c} {marks'} {j} i w = ended any refl c i marks' j w.is

    pub asks-closing : (marks_room ≤ length marks) × (p.count ≤ max_document)
    asks-closing = (omega (arith, h.same-marks, h.asked.marks-room), omega (arith, h.few, h.forward, h.inside, h.asked.short))

pub ruleset dollars = (dollar-key, dollar-else)

pub ruleset stops = (stop-dollar, stop-piece, stop-end)

pub ruleset closings = (closed_some, closed_none)

pub ruleset joinings = (joining-start, joining-more, elements-dollar, elements-refused, elements-end)

pub ruleset joining-asks = (asks-advance, asks-closing)
