-- A piece of a quoted string's body: one law for each answer, and what an answer tells.
use mathlib.Core.Path.{◌≡◌, refl, sym, ap, ◌∙◌}
use mathlib.Core.List.{List}
use Rattle.std.specs.Prelude.{Option, Some, None, Result, Ok, Err}
use Prim.Native.Nat.{ℕ, ◌+◌, ◌-◌, ◌≤◌, ◌<◌}
use native.Mathlib.Omega.{arith}
use lib.ListN.{length}
use lib.Seq.{slice, length-slice}
use borrow.Author.Tests.{le-leb, lt-leb}
use Rattle.rules.specs.Bytes.{Text}
use Rattle.rules.specs.Refusals.{Refusal as Refusing, placed, number_of, place_of, ended}
use Rattle.rules.specs.Characters.{next_place}
use Rattle.rules.specs.Strings.{escape_at}
use Rattle.text_chars.specs.Cursor.{doc, cur, refusal, StepIs}
use Rattle.text_chars.specs.Seen.{Seen, seen, at-end, seen-eq, seen-ne, seen-lt, seen-ge}
use Rattle.text_chars.specs.declared.DocAt.{DocAt}
use Rattle.text_chars.specs.declared.Cursor.{Cursor}
use Rattle.text_chars.specs.declared.Step.{Step}
use Rattle.text_chars.specs.declared.Refusal.{Refusal}
use Rattle.text_bytes.specs.Clauses.{Laid, WriteIs}
use Rattle.text_escapes.specs.Clauses.{sized, quoted, TextFar, EscapeIs}
use Rattle.text_strings.specs.Clauses.{Turn, closed, more, refused, turn_of, turn_at, piece_of, PieceLaid, PieceFar, PieceIs}
use Rattle.text_chars.specs.Clash.{clash}
use Rattle.text_escapes.specs.Answers.{text-is, refused-is}
use Rattle.text_chars.specs.declared.TextLen.{TextLen}
use Rattle.text_escapes.specs.declared.Quoted.{Quoted}
use Rattle.text_strings.specs.declared.Piece.{Piece}

-- ---- a piece

module _ {s : List ℕ} {at : ℕ} {b a : List ℕ} (kept : length a ≡ length b) where
  piece-refusal : {x : Refusing} {y : Refusal} → turn_at s at ≡ refused x → y.number ≡ number_of x → y.place.0 ≡ place_of x
      → PieceIs s at b a (Err y)
  piece-refusal {x} {y} e i j = record {
    is = ap (λ (n : ℕ). Err (refusal n y.place)) i ∙ ap (λ (n : ℕ). Err (refusal (number_of x) (doc n))) j ∙ ap piece_of (sym e);
    bytes = rw e tt;
    kept = kept;
    far = tt;
  }

  piece-more : {text : Text} {q : Quoted} → turn_at s at ≡ more text q.next.at.0 → q.used.0 ≡ length text → Laid text b a
      → PieceFar (length s) at (Ok (Piece.More q)) → PieceIs s at b a (Ok (Piece.More q))
  piece-more {text} {q} e size l f = record {
    is = ap (λ (n : ℕ). Ok (Piece.More (quoted q.next (sized n)))) size ∙ ap piece_of (sym e);
    bytes = rw e l;
    kept = kept;
    far = f;
  }

module _ {s : List ℕ} {at : ℕ} {r : Option Step} (h : StepIs s at r) where
  pub piece_cut : {b : List ℕ} → r ≡ None → PieceIs s at b b (Err (refusal 4 (doc (length s))))
  unfolding turn_at
  piece_cut e = piece-refusal refl {x = ended s} (rw (le-leb (length s) at (at-end h e), turn_at)) refl refl

  module _ {t : Step} (e : r ≡ Some t) where
    z : Seen s at t.ch t.next.at.0
    z = seen h e

    pub piece-close : {b : List ℕ} → t.ch ≡ 34 → PieceIs s at b b (Ok (Piece.Close t.next))
    unfolding turn_at
    piece-close {b} q =
        let o : t.next.at.0 ≡ at + 1 = z.one (omega arith) in
        let i : turn_at s at ≡ closed t.next.at.0 =
        rw (lt-leb (length s) at z.within, seen-eq z 34 (omega arith) q, turn_at) (ap closed (sym o)) in
        record { is = ap piece_of (sym i); bytes = rw i refl; kept = refl; far = (z.forward, z.inside) }

    module _ (n : t.ch ≡ 34 → ⊥) where
      pub piece-control : {b : List ℕ} {p : DocAt} → p.0 ≡ at → t.ch < 32 → PieceIs s at b b (Err (refusal 5 p))
      unfolding turn_at
      piece-control w l =
          piece-refusal refl {x = placed 5 at}
          (rw (lt-leb (length s) at z.within, seen-ne z 34 (omega arith) n, seen-lt z 32 (omega arith) l, turn_at)) refl w

      module _ (l : 32 ≤ t.ch) where
        module _ (q : t.ch ≡ 92) {x : Result Quoted Refusal} {b a : List ℕ} (k : EscapeIs s at b a x) where
          escaped : turn_at s at ≡ turn_of (escape_at s at)
          unfolding turn_at
          escaped =
              rw (
                lt-leb (length s) at z.within,
                seen-ne z 34 (omega arith) n,
                seen-ge z 32 (omega arith) l,
                seen-eq z 92 (omega arith) q,
                turn_at,
              )

          pub piece-escape : {v : Quoted} → x ≡ Ok v → PieceIs s at b a (Ok (Piece.More v))
          piece-escape {v} f =
              let j = text-is k f in
              let g : TextFar (length s) at (Ok v) = rw f at k.far in
              piece-more k.kept (escaped ∙ ap turn_of j.is) j.size j.laid g

          pub piece-bad : {y : Refusal} → x ≡ Err y → PieceIs s at b a (Err y)
          piece-bad f = let j = refused-is k f in piece-refusal k.kept (escaped ∙ ap turn_of j.is) j.numbered j.placed

        pub piece-plain : {b a : List ℕ} {m : ℕ} → (t.ch ≡ 92 → ⊥) → WriteIs (slice at t.next.at.0 s) b a m → PieceIs s at b a (Ok (Piece.More (quoted t.next (sized m))))
        unfolding turn_at
        piece-plain {b} {a} {m} q w =
            let i : turn_at s at ≡ more (slice at (next_place s at) s) (next_place s at) =
            rw (
              lt-leb (length s) at z.within,
              seen-ne z 34 (omega arith) n,
              seen-ge z 32 (omega arith) l,
              seen-ne z 92 (omega arith) q,
              turn_at,
            ) in
            let long : length (slice at t.next.at.0 s) ≡ t.next.at.0 - at = length-slice at t.next.at.0 s z.inside in
            piece-more w.kept (i ∙ ap (λ (p : ℕ). more (slice at p s) p) (sym z.past)) w.is w.bytes
            (z.forward, z.inside, omega (arith, w.is, long))

    pub piece-one : t.ch ≡ 92 → t.next.at.0 ≡ at + 1
    piece-one q = z.one (omega arith)

    pub piece-order : at ≤ t.next.at.0
    piece-order = omega (arith, z.forward)

    pub piece_inside : t.next.at.0 ≤ length s
    piece_inside = z.inside

    pub piece-room : (b : List ℕ) → length s - at ≤ length b → t.next.at.0 - at ≤ length b
    piece-room b l = omega (arith, z.inside)

pub ruleset pieces = (
  piece_cut,
  piece-close,
  piece-control,
  piece-escape,
  piece-bad,
  piece-plain,
  piece-one,
  piece-order,
  piece_inside,
  piece-room,
)

-- ---- what a piece tells

pub record MoreIs (s : List ℕ) (at : ℕ) (c : Cursor) (used : TextLen) (before after : List ℕ) : Type 0 where
  pub text : Text
  pub is : turn_at s at ≡ more text c.at.0
  pub size : used.0 ≡ length text
  pub laid : Laid text before after

pub record CloseIs (s : List ℕ) (at : ℕ) (c : Cursor) (before after : List ℕ) : Type 0 where
  pub is : turn_at s at ≡ closed c.at.0
  pub same : after ≡ before

pub record BadIs (s : List ℕ) (at number : ℕ) (place : DocAt) : Type 0 where
  pub why : Refusing
  pub is : turn_at s at ≡ refused why
  pub numbered : number ≡ number_of why
  pub placed : place.0 ≡ place_of why

module _ {s : List ℕ} {at : ℕ} {b a : List ℕ} {q : Result Piece Refusal} (h : PieceIs s at b a q) where
  pub more-is : {v : Quoted} → q ≡ Ok (Piece.More v) → MoreIs s at v.next v.used b a
  more-is {v} e = go (turn_at s at) refl h.bytes (sym e ∙ h.is)
    where
      go : (t : Turn) → turn_at s at ≡ t → PieceLaid t b a → Ok (Piece.More v) ≡ piece_of t → MoreIs s at v.next v.used b a
      go (closed end) f l g = clash (cc)
      go (more text end) f l g =
          let i : v ≡ quoted (cur end) (sized (length text)) = cc in
          record { text = text; is = f ∙ ap (λ (x : Quoted). more text x.next.at.0) (sym i); size = ap (λ (x : Quoted). x.used.0) i; laid = l }
      go (refused x) f l g = clash (cc)

  pub close-is : {c : Cursor} → q ≡ Ok (Piece.Close c) → CloseIs s at c b a
  close-is {c} e = go (turn_at s at) refl h.bytes (sym e ∙ h.is)
    where
      go : (t : Turn) → turn_at s at ≡ t → PieceLaid t b a → Ok (Piece.Close c) ≡ piece_of t → CloseIs s at c b a
      go (closed end) f l g =
          let i : c ≡ cur end = cc in
          record { is = f ∙ ap (λ (x : Cursor). closed x.at.0) (sym i); same = l }
      go (more text end) f l g = clash (cc)
      go (refused x) f l g = clash (cc)

  pub bad-is : {y : Refusal} → q ≡ Err y → BadIs s at y.number y.place
  bad-is {y} e = go (turn_at s at) refl (sym e ∙ h.is)
    where
      go : (t : Turn) → turn_at s at ≡ t → Err y ≡ piece_of t → BadIs s at y.number y.place
      go (closed end) f g = clash (cc)
      go (more text end) f g = clash (cc)
      go (refused x) f g =
          let i : y ≡ refusal (number_of x) (doc (place_of x)) = cc in
          record { why = x; is = f; numbered = ap (λ (z : Refusal). z.number) i; placed = ap (λ (z : Refusal). z.place.0) i }
