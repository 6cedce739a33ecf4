-- A quoted string's body, piece by piece: the loop's invariant, and one law for each way out of a turn.
use mathlib.Core.Path.{◌≡◌, refl, sym, ap, ◌∙◌}
use mathlib.Core.Bool.{Bool, true, false}
use Rattle.std.specs.Prelude.{Result, Ok, Err}
use mathlib.Core.List.{List, [], ◌++◌, append-nil, append_assoc}
use Prim.Native.Nat.{ℕ, suc, ◌+◌, ◌-◌, ◌≤◌, ◌<◌, ◌^◌}
use native.Mathlib.Omega.{arith}
use mir.Syntax.{w64}
use mir.Val.{Fits}
use lib.Dec.{leb, ltb, eqb}
use lib.ListN.{length, take, drop, length-append, take-append-drop}
use lib.Seq.{slice, slice_empty, length-slice, length-take-le, take-take, drop-append-le}
use borrow.Author.Tests.{lt-leb}
use Rattle.rules.specs.Bytes.{Text, byte_at}
use Rattle.rules.specs.Refusals.{Scan, ok, refused, and_then}
use Rattle.rules.specs.Characters.{next_place}
use Rattle.rules.specs.Strings.{escape_at, prepend, body_from}
use Rattle.theory_text.specs.Places.{next-forward}
use Rattle.text_chars.specs.declared.Cursor.{Cursor}
use Rattle.text_chars.specs.declared.Refusal.{Refusal}
use Rattle.text_runs.specs.Clauses.{stops, Passed, none, on, PlainIs}
use Rattle.text_runs.specs.Passing.{goes_over, passed-forward}
use Rattle.text_bytes.specs.Clauses.{Laid, WriteIs}
use Rattle.text_escapes.specs.Clauses.{sized, quoted}
use Rattle.text_strings.specs.Clauses.{BodyIs, Turn, closed, more, refused, turn_of, turn_at, PieceFar, PieceIs}
use Rattle.text_escapes.specs.Answers.{decoded-text, decoded-refusal}
use Rattle.text_escapes.specs.declared.Quoted.{Quoted}
use Rattle.text_strings.specs.declared.Piece.{Piece}
use Rattle.text_chars.specs.Parts.{part, back, part_length, back-length}
use Rattle.text_bytes.specs.Buffers.{laid-join}
use Rattle.text_strings.proofs.Pieces.{more-is, close-is, bad-is}

-- ---- a body by its pieces

abbrev by_turn : (Text → ℕ → Scan Text) → Turn → Scan Text
by_turn k (closed end) = ok [] end
by_turn k (more text end) = k text end
by_turn k (refused x) = refused x

then-turn : (k : Text → ℕ → Scan Text) (m : Scan Text) → and_then m k ≡ by_turn k (turn_of m)
then-turn k (ok text end) = refl
then-turn k (refused x) = refl

-- what follows a piece's text
abbrev rest : ℕ → List ℕ → Text → ℕ → Scan Text
rest n s text at = prepend text (body_from n s at)

by-piece : (n : ℕ) (s : List ℕ) (at : ℕ) → body_from (suc n) s at ≡ by_turn (rest n s) (turn_at s at)
unfolding body_from turn_at
by-piece n s at = go₁ (leb (length s) at) refl
  where
    go₄ : leb (length s) at ≡ false → eqb (byte_at s at) 34 ≡ false → ltb (byte_at s at) 32 ≡ false → (t : Bool) → eqb (byte_at s at) 92 ≡ t
        → body_from (suc n) s at ≡ by_turn (rest n s) (turn_at s at)
    go₄ e f g true h = rw (e, f, g, h, body_from, turn_at) (then-turn (rest n s) (escape_at s at))
    go₄ e f g false h = rw (e, f, g, h, body_from, turn_at)

    go₃ : leb (length s) at ≡ false → eqb (byte_at s at) 34 ≡ false → (t : Bool) → ltb (byte_at s at) 32 ≡ t
        → body_from (suc n) s at ≡ by_turn (rest n s) (turn_at s at)
    go₃ e f true g = rw (e, f, g, body_from, turn_at)
    go₃ e f false g = go₄ e f g (eqb (byte_at s at) 92) refl

    go₂ : leb (length s) at ≡ false → (t : Bool) → eqb (byte_at s at) 34 ≡ t → body_from (suc n) s at ≡ by_turn (rest n s) (turn_at s at)
    go₂ e true f = rw (e, f, body_from, turn_at)
    go₂ e false f = go₃ e f (ltb (byte_at s at) 32) refl

    go₁ : (t : Bool) → leb (length s) at ≡ t → body_from (suc n) s at ≡ by_turn (rest n s) (turn_at s at)
    go₁ true e = rw (e, body_from, turn_at)
    go₁ false e = go₂ e (eqb (byte_at s at) 34) refl

prepend-prepend : (t u : Text) (m : Scan Text) → prepend t (prepend u m) ≡ prepend (t ++ u) m
prepend-prepend t u (ok v end) = ap (λ (x : Text). ok x end) (sym (append_assoc t u v))
prepend-prepend t u (refused x) = refl

prepend-none : (m : Scan Text) → m ≡ prepend [] m
prepend-none (ok v end) = refl
prepend-none (refused x) = refl

-- ---- a run of ordinary characters

plain_turn : (s : List ℕ) (at : ℕ) → at < length s → stops 32 92 (byte_at s at) ≡ false → turn_at s at ≡ more (slice at (next_place s at) s) (next_place s at)
unfolding turn_at
plain_turn s at h g =
    let o = goes_over 32 92 (byte_at s at) g in
    rw (lt-leb (length s) at h, o.quote, o.low, o.rest, turn_at)

slice-join : (s : List ℕ) (at p q : ℕ) → at ≤ p → p ≤ q → p ≤ length s → slice at p s ++ slice p q s ≡ slice at q s
slice-join s at p q h k l =
    sym (drop-append-le at (take p s) (slice p q s) (rw (length-take-le p s l) h))
    ∙ ap (λ (t : List ℕ). drop at (t ++ slice p q s)) (sym (take-take p q s k))
    ∙ ap (drop at) (take-append-drop p (take q s))

-- a body is some text and what follows it from a place on, with fuel enough
record Left (m : Scan Text) (s : List ℕ) (text : Text) (at : ℕ) : Type 0 where
  fuel : ℕ
  enough : length s - at < fuel
  is : m ≡ prepend text (body_from fuel s at)

left_passed : {m : Scan Text} {s : List ℕ} {text : Text} {at q : ℕ} → Left m s text at → Passed 32 92 s at q → Left m s (text ++ slice at q s) q
left_passed {m} {s} {text} {at} L none = record {
  fuel = L.fuel;
  enough = L.enough;
  is = L.is ∙ ap (λ (t : Text). prepend t (body_from L.fuel s at)) (sym (ap (λ (t : Text). text ++ t) (slice_empty at s) ∙ append-nil text));
}
left_passed {m} {s} {text} {at} {q} L (on {p} k i g e) =
    let M = left_passed L k in
    let n = M.fuel - 1 in
    let f : M.fuel ≡ suc n = omega (arith, M.enough) in
    let go : body_from M.fuel s p ≡ prepend (slice p q s) (body_from n s q) =
    ap (λ (j : ℕ). body_from j s p) f ∙ by-piece n s p ∙ ap (by_turn (rest n s)) (plain_turn s p i g)
    ∙ ap (λ (j : ℕ). prepend (slice p j s) (body_from n s j)) (sym e) in
    let all : (text ++ slice at p s) ++ slice p q s ≡ text ++ slice at q s =
    append_assoc text (slice at p s) (slice p q s)
    ∙ ap (λ (t : Text). text ++ t) (slice-join s at p q (passed-forward k) (omega (arith, next-forward s p i, e)) (omega arith)) in
    record {
      fuel = n;
      enough = omega (arith, M.enough, next-forward s p i, e);
      is = M.is ∙ ap (prepend (text ++ slice at p s)) go ∙ prepend-prepend (text ++ slice at p s) (slice p q s) (body_from n s q)
          ∙ ap (λ (t : Text). prepend t (body_from n s q)) all;
    }

-- ---- the loop

-- So far `text` is read, from at₀ to at; with fuel enough the rest is to come.
pub record BodyLoop (s : List ℕ) (at₀ : ℕ) (before : List ℕ) (at : ℕ) (out : List ℕ) (used : ℕ) : Type 0 where
  pub text : Text
  pub fuel : ℕ
  pub enough : length s - at < fuel
  pub is : body_from (suc (length s)) s at₀ ≡ prepend text (body_from fuel s at)
  pub size : used ≡ length text
  pub bytes : Laid text before out
  pub kept : length out ≡ length before
  pub inside : at ≤ length s
  pub few : used + at₀ ≤ at
  pub room : used + (length s - at) ≤ length before

pub body-start : {s : List ℕ} {at : ℕ} {b : List ℕ} → at ≤ length s → length s - at ≤ length b → BodyLoop s at b at b 0
body-start {s} {at} {b} h k = record {
  text = [];
  fuel = suc (length s);
  enough = omega arith;
  is = prepend-none (body_from (suc (length s)) s at);
  size = refl;
  bytes = refl;
  kept = refl;
  inside = h;
  few = omega arith;
  room = omega arith;
}

module _ {s : List ℕ} {at₀ : ℕ} {b : List ℕ} {at : ℕ} {x : List ℕ} {used : ℕ} (I : BodyLoop s at₀ b at x used) where
  -- by one piece more, with the fuel that is left
  turn : {t : Turn} → turn_at s at ≡ t → body_from (suc (length s)) s at₀ ≡ prepend I.text (by_turn (rest (I.fuel - 1) s) t)
  turn f =
      let e : I.fuel ≡ suc (I.fuel - 1) = omega (arith, I.enough) in
      I.is ∙ ap (λ (n : ℕ). prepend I.text (body_from n s at)) e ∙ ap (prepend I.text) (by-piece (I.fuel - 1) s at)
      ∙ ap (λ (t : Turn). prepend I.text (by_turn (rest (I.fuel - 1) s) t)) f

  pub body-part : used ≤ length x
  body-part = omega (arith, I.room, I.kept)

  pub body-room : length s - at ≤ length (part used x)
  body-room = rw (part_length used x) (omega (arith, I.room, I.kept))

  module _ {e : Cursor} (r : PlainIs s at e) where
    pub run-order : at ≤ e.at.0
    run-order = r.forward

    pub run_inside : e.at.0 ≤ length s
    run_inside = omega (arith, r.forward, r.inside, I.inside)

    pub run_room : e.at.0 - at ≤ length (part used x)
    run_room = omega (arith, body-room, run_inside)

    module _ {y : List ℕ} {n : ℕ} (w : WriteIs (slice at e.at.0 s) (part used x) y n) where
      long : n ≡ e.at.0 - at
      long = w.is ∙ length-slice at e.at.0 s run_inside

      pub body_run : BodyLoop s at₀ b e.at.0 (back used x y) (used + n)
      body_run =
          let L = left_passed (record { fuel = I.fuel; enough = I.enough; is = I.is }) r.passed in
          let t = slice at e.at.0 s in
          record {
            text = I.text ++ t;
            fuel = L.fuel;
            enough = L.enough;
            is = L.is;
            size = omega (arith, I.size, w.is, length-append I.text t);
            bytes = laid-join I.text t b x y used I.size I.bytes w.bytes;
            kept = back-length used x y body-part w.kept ∙ I.kept;
            inside = run_inside;
            few = omega (arith, I.few, long, r.forward);
            room = omega (arith, I.room, long, r.forward, run_inside);
          }

      behind-kept : length (back used x y) ≡ length x
      behind-kept = back-length used x y body-part w.kept

      pub behind-part : used + n ≤ length (back used x y)
      behind-part = omega (arith, behind-kept, I.room, I.kept, long, r.forward, run_inside)

      pub behind-room : length s - e.at.0 ≤ length (part (used + n) (back used x y))
      behind-room =
          rw (part_length (used + n) (back used x y)) (omega (arith, behind-kept, I.room, I.kept, long, r.forward, run_inside))

      pub run_fits : length b < 2 ^ 64 → Fits w64 (used + n)
      run_fits l = record { fits = omega (arith, I.room, long, run_inside) }

  module _ {y : List ℕ} {q : Result Piece Refusal} (h : PieceIs s at (part used x) y q) where
    same_length : length (back used x y) ≡ length b
    same_length = back-length used x y body-part h.kept ∙ I.kept

    pub body_refused : {z : Refusal} → q ≡ Err z → BodyIs s at₀ b (back used x y) (Err z)
    body_refused e =
        let t = bad-is h e in
        decoded-refusal same_length (turn t.is) t.numbered t.placed

    pub body-close : {c : Cursor} → q ≡ Ok ((Piece.Close c)) → BodyIs s at₀ b (back used x y) (Ok (quoted c (sized used)))
    body-close {c} e =
        let t = close-is h e in
        let f : PieceFar (length s) at (Ok (Piece.Close c)) = rw e at h.far in
        let all : I.text ++ [] ≡ I.text = append-nil I.text in
        decoded-text same_length (turn t.is) (I.size ∙ ap length (sym all))
        (laid-join I.text [] b x y used I.size I.bytes t.same)
        (omega (arith, I.few), f.1, omega (arith, I.few))

    module _ {v : Quoted} (e : q ≡ Ok (Piece.More v)) where
      far : PieceFar (length s) at (Ok (Piece.More v))
      far = rw e at h.far

      pub body-turn : BodyLoop s at₀ b v.next.at.0 (back used x y) (used + v.used.0)
      body-turn =
          let t = more-is h e in
          record {
            text = I.text ++ t.text;
            fuel = I.fuel - 1;
            enough = omega (arith, far.0, far.1, I.enough);
            is = turn t.is
                ∙ prepend-prepend I.text t.text (body_from (I.fuel - 1) s v.next.at.0);
            size = omega (arith, I.size, t.size, length-append I.text t.text);
            bytes = laid-join I.text t.text b x y used I.size I.bytes t.laid;
            kept = same_length;
            inside = far.1;
            few = omega (arith, I.few, far.0, far.2);
            room = omega (arith, I.room, far.0, far.1, far.2);
          }

-- a piece behind a run
pub body_less : (s : List ℕ) (at : ℕ) {d : Cursor} {u z : List ℕ} {q : Result Piece Refusal} {v : Quoted} → PlainIs s at d → PieceIs s d.at.0 u z q
    → q ≡ Ok (Piece.More v) → length s - v.next.at.0 < length s - at
body_less s at {d} {v = v} r h e =
    let f : PieceFar (length s) d.at.0 (Ok (Piece.More v)) = rw e at h.far in
    omega (arith, r.forward, f.0, f.1)

pub ruleset bodies = (arith, body-start, run-order, run_inside, run_room, body_run, behind-part, behind-room, run_fits, body-part, body-room, body_refused, body-close, body-turn, body_less)
