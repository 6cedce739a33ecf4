-- One law for each answer of the functions that join one piece more to a path.
use mathlib.Core.Path.{◌≡◌, refl, sym, ◌∙◌, ap}
use mathlib.Core.Bool.{Bool, true, false}
use mathlib.Core.List.{List, ◌++◌, append_assoc}
use Rattle.std.specs.Prelude.{Result, Ok, Err}
use Prim.Native.Nat.{ℕ, ◌+◌, ◌-◌, ◌≤◌, ◌<◌}
use native.Mathlib.Omega.{arith}
use lib.ListN.{length, take, drop}
use lib.Seq.{slice, length-slice, take-append-add, take-append_seam, length-take-le}
use borrow.Rule.Slice.PartMut.{put_same}
use Rattle.answers.specs.Theory.Sound.{clash}
use Rattle.rules.specs.Refusals.{Refusal as Refusing, number_of, place_of, Scan, ok, refused}
use Rattle.rules.specs.Tree.{Scalar, null, boolean, number, string}
use Rattle.rules.specs.Pieces.{Token, simple_at, scalar_text}
use Rattle.rules.specs.Paths.{segment_of}
use Rattle.text_chars.specs.Cursor.{doc, cur, refusal}
use Rattle.text_chars.specs.Parts.{part, back, part_length, back-length}
use Rattle.text_chars.specs.declared.Refusal.{Refusal}
use Rattle.text_chars.specs.declared.Cursor.{Cursor}
use Rattle.text_elements.specs.Segments.Model.{state, SplitAsked, SplitIs}
use Rattle.text_elements.specs.Segments.Pieces.{segment_to}
use Rattle.text_pieces.specs.Clauses.{piece_of, Moved, PieceAsked, PieceIs}
use Rattle.text_pieces.specs.Clauses.{of_scalar, of_token, LaidToken}
use Rattle.text_elements.specs.Segments.Joining.{Writes, WrittenIs, SegmentAsked, Reads, SegmentIs}
use Rattle.text_elements.specs.Model.{quoted_c}
use Rattle.text_elements.specs.declared.Path.{Path}
use Rattle.text_elements.specs.declared.segments.Segment.{Segment as SegmentRead}
use Rattle.text_chars.specs.declared.TextLen.{TextLen}
use Rattle.text_pieces.specs.declared.Piece.{Piece}
use Rattle.text_elements.specs.Segments.Keeping.{holds-quoted, holds-split}

-- text at the start of a part is text behind what stands before it
back-take : (u : ℕ) (x y t r : List ℕ) → u ≤ length x → y ≡ t ++ r → take (u + length t) (back u x y) ≡ take u x ++ t
back-take u x y t r h e =
    let rest = drop (length x - u) (drop u x) in
    let l : length (take u x) ≡ u = length-take-le u x h in
    rw e (ap (λ n. take (n + length t) (take u x ++ ((t ++ r) ++ rest))) (sym l)
    ∙ take-append-add (take u x) ((t ++ r) ++ rest) (length t)
    ∙ ap (λ z. take u x ++ z) (ap (take (length t)) (append_assoc t r rest) ∙ take-append_seam t (r ++ rest)))

-- ---- quoted, and as written

quoted-used : (n : ℕ) (p : Path) → (quoted_c n p).used.0 ≡ p.used.0 + n
unfolding quoted_c
quoted-used n p = refl

quoted-count : (n : ℕ) (p : Path) → (quoted_c n p).count ≡ p.count
unfolding quoted_c
quoted-count n p = refl

-- a path with one piece more by its two parts
abbrev more : Path → Cursor → SegmentRead
more path next = record { path = path; next = next }

pub written-more : {s : List ℕ} {at : ℕ} {c : Cursor} {p q : Path} {out marks out' marks' : List ℕ} → SplitAsked s at c.at.0 p out marks
    → SplitIs s at c.at.0 p out marks out' marks' q → WrittenIs s at c p out marks out' marks' (more q c)
unfolding segment_to
written-more {s} {at} {c} {p} {q} {out} {marks} a k =
    let l : length (slice at c.at.0 s) ≡ c.at.0 - at = length-slice at c.at.0 s a.inside in
    record {
      is = (
        refl,
        record { more-text = k.more-text; more-count = k.more-count; same_out = k.same_out; same-marks = k.same-marks },
        λ es e h. rw k.is (holds-split (slice at c.at.0 s) (state p out marks) es e at h (omega (arith, a.room, a.forward)) a.marks-room),
      );
    }

-- ---- what a piece came from

scalar-quoted : (x : Scalar) (end : ℕ) {c : Cursor} {u : TextLen} {A : Type 0} → Piece.Quoted c u ≡ of_scalar x end → A
scalar-quoted null end e = clash (cc)
scalar-quoted (boolean true) end e = clash (cc)
scalar-quoted (boolean false) end e = clash (cc)
scalar-quoted (number t) end e = clash (cc)
scalar-quoted (string t) end e = clash (cc)

-- the cursor of a piece outside quotes
abbrev Bare : Piece → Cursor → Type 0
Bare (Piece.Quoted c u) d = ⊥
Bare (Piece.Unquoted c) d = c ≡ d
Bare (Piece.Plain k c) d = c ≡ d

quoted-inv : (m : Scan Token) (c : Cursor) (u : TextLen) → Ok (Piece.Quoted c u) ≡ piece_of m
    → (t : Token) × (m ≡ ok t c.at.0) × (t.in_quotes ≡ true) × (u.0 ≡ length (scalar_text t.scalar))
quoted-inv (refused x) c u e = clash (cc)
quoted-inv (ok t end) c u e = go t.in_quotes refl (cc)
  where
    go : (q : Bool) → t.in_quotes ≡ q → Piece.Quoted c u ≡ of_token q t.scalar end
        → (t' : Token) × (ok t end ≡ ok t' c.at.0) × (t'.in_quotes ≡ true) × (u.0 ≡ length (scalar_text t'.scalar))
    go true q z =
        let i : c ≡ cur end = cc in
        let j : u ≡ record { 0 = length (scalar_text t.scalar) } = cc in
        (t, ap (λ (x : Cursor). ok t x.at.0) (sym i), q, ap (λ (x : TextLen). x.0) j)
    go false q z = scalar-quoted t.scalar end z

refused-inv : (m : Scan Token) (y : Refusal) → Err y ≡ piece_of m
    → (x : Refusing) × (m ≡ refused x) × (y.number ≡ number_of x) × (y.place.0 ≡ place_of x)
refused-inv (refused x) y e =
    let i : y ≡ refusal (number_of x) (doc (place_of x)) = cc in
    (x, refl, ap (λ (z : Refusal). z.number) i, ap (λ (z : Refusal). z.place.0) i)
refused-inv (ok t end) y e = clash (cc)

bare-inv : (m : Scan Token) (r : Piece) (c : Cursor) → Ok r ≡ piece_of m → Bare r c
    → (t : Token) × (m ≡ ok t c.at.0) × (t.in_quotes ≡ false)
bare-inv (refused x) r c e b = clash (cc)
bare-inv (ok t end) r c e b = let k : r ≡ of_token t.in_quotes t.scalar end = cc in go t.in_quotes refl (rw k at b)
  where
    go : (q : Bool) → t.in_quotes ≡ q → Bare (of_token q t.scalar end) c → (t' : Token) × (ok t end ≡ ok t' c.at.0) × (t'.in_quotes ≡ false)
    go true q z = absurd z
    go false q z = (t, same t.scalar z, q)
      where
        same : (x : Scalar) → Bare (of_scalar x end) c → ok t end ≡ ok t c.at.0
        same null k = ap (λ (y : Cursor). ok t y.at.0) k
        same (boolean true) k = ap (λ (y : Cursor). ok t y.at.0) k
        same (boolean false) k = ap (λ (y : Cursor). ok t y.at.0) k
        same (number w) k = ap (λ (y : Cursor). ok t y.at.0) k
        same (string w) k = ap (λ (y : Cursor). ok t y.at.0) k

-- ---- one piece

pub asks-room : {s : List ℕ} {at : ℕ} {p : Path} {out marks : List ℕ} → SegmentAsked s at p out marks → p.used.0 ≤ length out
asks-room a = omega (arith, a.room, a.inside)

pub asks-piece : {s : List ℕ} {at : ℕ} {p : Path} {out marks : List ℕ} → SegmentAsked s at p out marks → PieceAsked s at (part p.used.0 out)
asks-piece {s} {at} {p} {out} a = record {
  short = a.short;
  inside = a.inside;
  begins = a.begins;
  room = omega (arith, a.room, part_length p.used.0 out);
}

module _ {s : List ℕ} {at : ℕ} {p : Path} {out marks y : List ℕ} {r : Result Piece Refusal} (a : SegmentAsked s at p out marks)
    (k : PieceIs (simple_at s at) s at (part p.used.0 out) y r) where
  same_length : length (back p.used.0 out y) ≡ length out
  same_length = back-length p.used.0 out y (asks-room a) k.kept

  pub segment-refused : {z : Refusal} → r ≡ Err z → SegmentIs s at p out marks (back p.used.0 out y) marks (Err z)
  segment-refused {z} e =
      let (x, m, i, j) = refused-inv (simple_at s at) z (sym e ∙ k.is) in
      record { is = (x, m, i, j, same_length, refl) }

  pub asks-quoted : {c : Cursor} {u : TextLen} {x : Piece} → r ≡ Ok x → x ≡ Piece.Quoted c u → p.used.0 + u.0 ≤ 65536
  asks-quoted {c} {u} i j =
      let e : r ≡ Ok (Piece.Quoted c u) = i ∙ ap Ok j in
      let m : Moved (length s) at (Ok (Piece.Quoted c u)) = rw e at k.moved in
      omega (arith, m.0, m.1, m.2, a.near, a.short)

  laid-quoted : (t : Token) (end : ℕ) → simple_at s at ≡ ok t end → t.in_quotes ≡ true
      → y ≡ scalar_text t.scalar ++ drop (length (scalar_text t.scalar)) (part p.used.0 out)
  laid-quoted t end m q = go t.in_quotes q (rw m at k.laid)
    where
      go : (b : Bool) → b ≡ true → LaidToken b t.scalar (part p.used.0 out) y
          → y ≡ scalar_text t.scalar ++ drop (length (scalar_text t.scalar)) (part p.used.0 out)
      go true z h = h
      go false z h = clash (cc)

  laid-bare : (t : Token) (end : ℕ) → simple_at s at ≡ ok t end → t.in_quotes ≡ false → back p.used.0 out y ≡ out
  laid-bare t end m q = ap (back p.used.0 out) (go t.in_quotes q (rw m at k.laid)) ∙ put_same p.used.0 (length out - p.used.0) out
    where
      go : (b : Bool) → b ≡ false → LaidToken b t.scalar (part p.used.0 out) y → y ≡ part p.used.0 out
      go true z h = clash (cc)
      go false z h = h

  pub segment-quoted : {c : Cursor} {u : TextLen} {q : Path} {x : Piece} → r ≡ Ok x → x ≡ Piece.Quoted c u → q ≡ quoted_c u.0 p
      → SegmentIs s at p out marks (back p.used.0 out y) marks (Ok (more q c))
  unfolding segment_to segment_of
  segment-quoted {c} {u} {q} i' j z =
      let e : r ≡ Ok (Piece.Quoted c u) = i' ∙ ap Ok j in
      let m : Moved (length s) at (Ok (Piece.Quoted c u)) = rw e at k.moved in
      let (t, i, f, l) = quoted-inv (simple_at s at) c u (sym e ∙ k.is) in
      let w = scalar_text t.scalar in
      let b : take (p.used.0 + length w) (back p.used.0 out y) ≡ take p.used.0 out ++ w =
      back-take p.used.0 out y w (drop (length w) (part p.used.0 out)) (asks-room a) (laid-quoted t c.at.0 i f) in
      let room : p.used.0 + length w ≤ length (back p.used.0 out y) = omega (arith, same_length, l, m.0, m.1, m.2, a.room) in
      let z' : q ≡ quoted_c (length w) p = z ∙ ap (λ n. quoted_c n p) l in
      record {
        is = (
          t,
          i,
          m.0,
          m.1,
          record {
            more-text = rw z (text-more u.0 (omega (arith, m.0, m.2)));
            more-count = rw z (count-more u.0 (omega (arith, m.0)));
            same_out = same_length;
            same-marks = refl;
          },
          λ es x h. rw (z', f) (holds-quoted h w (back p.used.0 out y) room b),
        );
      }
    where
      text-more : (n : ℕ) → n + at ≤ c.at.0 → (quoted_c n p).used.0 + at ≤ p.used.0 + c.at.0
      text-more n l = rw (quoted-used n p) (omega arith)

      count-more : (n : ℕ) → at ≤ c.at.0 → (quoted_c n p).count + at ≤ p.count + c.at.0
      count-more n l = rw (quoted-count n p) (omega arith)

  -- a piece as written: what its bytes are split into
  module _ (c : Cursor) (x : Piece) (n : r ≡ Ok x) (b : Bare x c) (m : (at < c.at.0) × (c.at.0 ≤ length s)) where
    as_written : (out' marks' : List ℕ) (r' : SegmentRead) → Writes s at c p (back p.used.0 out y) marks out' marks' r'
        → Reads s at p out marks out' marks' (Ok r')
    unfolding segment_of
    as_written out' marks' r' w =
        let (t, i, f) = bare-inv (simple_at s at) x c (sym n ∙ k.is) b in
        let o : back p.used.0 out y ≡ out = laid-bare t c.at.0 i f in
        let z : scalar_text t.scalar ≡ slice at c.at.0 s = rw i at k.spelt f in
        let dc : r'.next ≡ c = w.0 in
        rw dc (
          t,
          i,
          m.0,
          m.1,
          record { more-text = w.1.more-text; more-count = w.1.more-count; same_out = w.1.same_out ∙ ap length o; same-marks = w.1.same-marks },
          rw (z, f) (rw o at w.2),
        )

    asks-split : SplitAsked s at c.at.0 p (back p.used.0 out y) marks
    asks-split = record {
      forward = omega (arith, m.0);
      inside = m.1;
      short = a.short;
      room = omega (arith, same_length, a.room, m.1);
      few = a.few;
      marks-room = a.marks-room;
    }

  pub segment-unquoted : {c : Cursor} {out' marks' : List ℕ} {r' : SegmentRead} {x : Piece} → r ≡ Ok x → x ≡ Piece.Unquoted c
      → WrittenIs s at c p (back p.used.0 out y) marks out' marks' r' → SegmentIs s at p out marks out' marks' (Ok r')
  segment-unquoted {c} {out'} {marks'} {r'} i j w =
      let e : r ≡ Ok (Piece.Unquoted c) = i ∙ ap Ok j in
      record { is = as_written c (Piece.Unquoted c) e refl (rw e at k.moved) out' marks' r' w.is }

  pub segment-plain : {kind : ℕ} {c : Cursor} {out' marks' : List ℕ} {r' : SegmentRead} {x : Piece} → r ≡ Ok x → x ≡ Piece.Plain kind c
      → WrittenIs s at c p (back p.used.0 out y) marks out' marks' r' → SegmentIs s at p out marks out' marks' (Ok r')
  segment-plain {kind} {c} {out'} {marks'} {r'} i j w =
      let e : r ≡ Ok (Piece.Plain kind c) = i ∙ ap Ok j in
      record { is = as_written c (Piece.Plain kind c) e refl (rw e at k.moved) out' marks' r' w.is }

  pub asks-unquoted : {c : Cursor} {x : Piece} → r ≡ Ok x → x ≡ Piece.Unquoted c → SplitAsked s at c.at.0 p (back p.used.0 out y) marks
  asks-unquoted {c} i j = let e : r ≡ Ok (Piece.Unquoted c) = i ∙ ap Ok j in asks-split c (Piece.Unquoted c) e refl (rw e at k.moved)

  pub asks-plain : {kind : ℕ} {c : Cursor} {x : Piece} → r ≡ Ok x → x ≡ Piece.Plain kind c → SplitAsked s at c.at.0 p (back p.used.0 out y) marks
  asks-plain {kind} {c} i j = let e : r ≡ Ok (Piece.Plain kind c) = i ∙ ap Ok j in asks-split c (Piece.Plain kind c) e refl (rw e at k.moved)

pub ruleset segments = (segment-refused, segment-quoted, segment-unquoted, segment-plain)

pub ruleset segment-asks = (asks-room, asks-piece, asks-quoted, asks-unquoted, asks-plain)
