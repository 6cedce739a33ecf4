-- The loops that walk on while a test passes: one law over any such walk, and what each walk's own test says.
use Rattle.std.specs.Prelude.{◌≡◌, refl, Bool, true, false, ◌||◌, List, ℕ, ◌+◌, ◌-◌, ◌≤◌, ◌<◌, length, eqb}
use Rattle.std.proofs.Math.Path.{sym, ap}
use Rattle.std.proofs.Common.{◌∙◌, arith}
use Rattle.std.proofs.Math.Bool.{not}
use borrow.Author.Tests.{ne_eqb, le-leb, lt-leb}
use Rattle.rules.specs.Bytes.{byte_at}
use Rattle.rules.specs.Characters.{no_character, next_place, character_at, is_newline, is_inline, after_inline, line_end}
use Rattle.rules.specs.Numbers.{is_digit, after_digits}
use Rattle.rules.specs.Pieces.{stops_unquoted, unquoted_end}
use Rattle.theory_text.specs.Ascii.{ascii-character}
use Rattle.theory_text.specs.Places.{inline-moves, line-moves, unquoted-moves}
use Rattle.theory.specs.Walks as by
use Rattle.text_chars.specs.Cursor.{cur}
use Rattle.text_chars.specs.declared.Cursor.{Cursor}
use Rattle.text_scan.specs.Scan.{SeenIs, EndIs, LineByte}
use Rattle.text_chars.specs.declared.Step.{Step}
use Rattle.text_scan.specs.Looks.{byte_next, Ascii, passes-low, byte-test}

-- a walk that goes on to the next character while a test passes
pub record Walk (walk : List ℕ → ℕ → ℕ) (goes : List ℕ → ℕ → Bool) : Type 0 where
  pub on : (s : List ℕ) (at : ℕ) → goes s at ≡ true → walk s at ≡ walk s (next_place s at)
  pub off : (s : List ℕ) (at : ℕ) → goes s at ≡ false → walk s at ≡ at
  pub moves : (s : List ℕ) (at : ℕ) → goes s at ≡ true → at < next_place s at

-- what the loop keeps: the walk from here on ends where the whole one does
pub record Going (walk : List ℕ → ℕ → ℕ) (s : List ℕ) (at : ℕ) (p : Cursor) : Type 0 where
  pub still : walk s at ≡ walk s p.at.0
  pub forward : at ≤ p.at.0
  pub inside : p.at.0 ≤ length s

pub going_start : {walk : List ℕ → ℕ → ℕ} {s : List ℕ} {p : Cursor} → p.at.0 ≤ length s → Going walk s p.at.0 p
going_start h = record { still = refl; forward = omega arith; inside = h }

-- a walk that has come to the end of the text
pub going_out : {walk : List ℕ → ℕ → ℕ} {s : List ℕ} {at p : ℕ} → Going walk s at (cur p) → length s ≤ p → Going walk s at (cur (length s))
going_out {walk} {s} {at} {p} g h = let e : p ≡ length s = omega (arith, g.inside) in rw e at g

-- a walk that has come to a place, and from there to another
pub going-further : {walk : List ℕ → ℕ → ℕ} {s : List ℕ} {at : ℕ} {p q : Cursor} → Going walk s at p → Going walk s p.at.0 q → Going walk s at q
going-further g h = record { still = g.still ∙ h.still; forward = omega arith; inside = h.inside }

-- a walk goes over an ASCII byte
going-byte : {walk : List ℕ → ℕ → ℕ} {goes : List ℕ → ℕ → Bool} → Walk walk goes → {s : List ℕ} {at p : ℕ}
    → Going walk s at (cur p) → p < length s → byte_at s p < 128 → goes s p ≡ true → Going walk s at (cur (p + 1))
going-byte w {s} {at} {p} g h l e = record {
  still = g.still ∙ w.on s p e ∙ rw (byte_next s p l);
  forward = omega arith;
  inside = omega arith;
}

module _ {walk : List ℕ → ℕ → ℕ} {goes : List ℕ → ℕ → Bool} (w : Walk walk goes) {s : List ℕ} {p : Cursor} where
  pub going_done : {at : ℕ} → Going walk s at p → goes s p.at.0 ≡ false → EndIs s at (walk s at) p
  going_done g e = record { is = sym (g.still ∙ w.off s p.at.0 e); forward = g.forward; inside = g.inside }

  pub going_on : {at : ℕ} {r : Step} → Going walk s at p → SeenIs s p.at.0 r → goes s p.at.0 ≡ true → Going walk s at r.next
  going_on g k e = record {
    still = g.still ∙ w.on s p.at.0 e ∙ rw k.next;
    forward = omega arith;
    inside = k.inside;
  }

  pub going_less : {r : Step} → SeenIs s p.at.0 r → goes s p.at.0 ≡ true → length s - r.next.at.0 < length s - p.at.0
  going_less k e = omega (arith, k.next, w.moves s p.at.0 e)

-- ---- the whitespace but newlines

inline_goes : List ℕ → ℕ → Bool
inline_goes s p = is_inline (character_at s p)

inline-walk : Walk after_inline inline_goes
unfolding inline_goes
inline-walk = record { on = λ s p e. by.inline-on s p e; off = λ s p e. by.inline-off s p e; moves = λ s p e. (inline-moves s p e).1 }

module _ {s : List ℕ} {p : Cursor} {r : Step} (k : SeenIs s p.at.0 r) {f : Bool} (e : f ≡ is_inline r.ch) where
  inline-says : {b : Bool} → f ≡ b → inline_goes s p.at.0 ≡ b
  unfolding inline_goes
  inline-says h = ap is_inline (sym k.is) ∙ sym e ∙ h

  pub inline-on : {at : ℕ} → Going after_inline s at p → f ≡ true → Going after_inline s at r.next
  inline-on g h = going_on inline-walk g k (inline-says h)

  pub inline-less : f ≡ true → length s - r.next.at.0 < length s - p.at.0
  inline-less h = going_less inline-walk k (inline-says h)

  pub inline-done : {at : ℕ} → Going after_inline s at p → f ≡ false → EndIs s at (after_inline s at) p
  inline-done g h = going_done inline-walk g (inline-says h)

pub ruleset inline-loop = (going_start, inline-on, inline-less, inline-done)

-- ---- a comment's line

line_goes : List ℕ → ℕ → Bool
line_goes s p = not (is_newline (character_at s p) || eqb (character_at s p) no_character)

line_walk : Walk line_end line_goes
unfolding line_goes
line_walk = record { on = λ s p e. by.line_on s p e; off = λ s p e. by.line-off s p e; moves = λ s p e. (line-moves s p e).1 }

module _ {s : List ℕ} {o p : Cursor} (j : Going line_end s o.at.0 p) {r : Step} (k : SeenIs s p.at.0 r) where
  line-goes : (r.ch ≡ 10 → ⊥) → (r.ch ≡ no_character → ⊥) → line_goes s p.at.0 ≡ true
  unfolding line_goes
  line-goes n m = rw (← k.is, ne_eqb r.ch 10 n, ne_eqb r.ch no_character m)

  pub line_on : {at : ℕ} → Going line_end s at o → (r.ch ≡ 10 → ⊥) → (r.ch ≡ no_character → ⊥) → Going line_end s at r.next
  line_on g n m = going_on line_walk (going-further g j) k (line-goes n m)

  pub line-less : (r.ch ≡ 10 → ⊥) → (r.ch ≡ no_character → ⊥) → length s - r.next.at.0 < length s - o.at.0
  line-less n m = omega (arith, j.forward, going_less line_walk k (line-goes n m))

  pub line-newline : {at : ℕ} → Going line_end s at o → r.ch ≡ 10 → EndIs s at (line_end s at) p
  unfolding line_goes
  line-newline g e = going_done line_walk (going-further g j) (rw (← k.is, e))

  pub line-last : {at : ℕ} → Going line_end s at o → r.ch ≡ no_character → EndIs s at (line_end s at) p
  unfolding line_goes
  line-last g e = going_done line_walk (going-further g j) (rw (← k.is, e))

pub ruleset line-loop = (arith, going_start, line_on, line-less, line-newline, line-last)

-- a byte of a comment
pub line-byte : {s : List ℕ} {at p : ℕ} → Going line_end s at (cur p) → p < length s → LineByte (byte_at s p) → Going line_end s at (cur (p + 1))
unfolding line_goes
line-byte {s} {at} {p} g h b =
    let c : character_at s p ≡ byte_at s p = ascii-character s p b.ascii in
    going-byte line_walk g h b.ascii (rw (c, ne_eqb (byte_at s p) 10 b.other, ne_eqb (byte_at s p) no_character (λ e. omega (arith, b.ascii))))

-- ---- digits

pub digit-ascii : Ascii is_digit
digit-ascii n h = rw (le-leb 48 n (omega arith), lt-leb n 57 (omega arith))

digit_goes : List ℕ → ℕ → Bool
digit_goes s p = is_digit (byte_at s p)

digit-walk : Walk after_digits digit_goes
unfolding digit_goes
digit-walk = record {
  on = λ s p e. by.digits-on s p e ∙ ap (after_digits s) (sym (one s p e));
  off = λ s p e. by.digits-off s p e;
  moves = λ s p e. omega (arith, one s p e);
}
  where
    one : (s : List ℕ) (p : ℕ) → is_digit (byte_at s p) ≡ true → next_place s p ≡ p + 1
    one s p e = byte_next s p (passes-low is_digit digit-ascii (byte_at s p) e)

module _ {s : List ℕ} {p : Cursor} {r : Step} (k : SeenIs s p.at.0 r) {f : Bool} (e : f ≡ is_digit r.ch) where
  digit-says : {b : Bool} → f ≡ b → digit_goes s p.at.0 ≡ b
  unfolding digit_goes
  digit-says h = byte-test k is_digit digit-ascii ∙ sym e ∙ h

  pub digits-on : {at : ℕ} → Going after_digits s at p → f ≡ true → Going after_digits s at r.next
  digits-on g h = going_on digit-walk g k (digit-says h)

  pub digits-less : f ≡ true → length s - r.next.at.0 < length s - p.at.0
  digits-less h = going_less digit-walk k (digit-says h)

  pub digits-done : {at : ℕ} → Going after_digits s at p → f ≡ false → EndIs s at (after_digits s at) p
  digits-done g h = going_done digit-walk g (digit-says h)

pub ruleset digits-loop = (going_start, digits-on, digits-less, digits-done)

-- ---- unquoted text

unquoted_goes : List ℕ → ℕ → Bool
unquoted_goes s p = not (stops_unquoted s p)

unquoted-walk : Walk unquoted_end unquoted_goes
unfolding unquoted_goes
unquoted-walk = record {
  on = λ s p e. by.unquoted-on s p e;
  off = λ s p e. by.unquoted-off s p e;
  moves = λ s p e. (unquoted-moves s p e).1;
}

-- a byte of unquoted text
pub unquoted-byte : {s : List ℕ} {at p : ℕ} → Going unquoted_end s at (cur p) → p < length s → byte_at s p < 128 → stops_unquoted s p ≡ false
    → Going unquoted_end s at (cur (p + 1))
unfolding unquoted_goes
unquoted-byte g h l e = going-byte unquoted-walk g h l (ap not e)

module _ {s : List ℕ} {o p : Cursor} (j : Going unquoted_end s o.at.0 p) {f : Bool} (e : f ≡ stops_unquoted s p.at.0) where
  unquoted-says : {b : Bool} → f ≡ b → unquoted_goes s p.at.0 ≡ not b
  unfolding unquoted_goes
  unquoted-says h = ap not (sym e ∙ h)

  pub unquoted-done : {at : ℕ} → Going unquoted_end s at o → f ≡ true → EndIs s at (unquoted_end s at) p
  unquoted-done g h = going_done unquoted-walk (going-further g j) (unquoted-says h)

  module _ {r : Step} (k : SeenIs s p.at.0 r) where
    pub unquoted-on : {at : ℕ} → Going unquoted_end s at o → f ≡ false → Going unquoted_end s at r.next
    unquoted-on g h = going_on unquoted-walk (going-further g j) k (unquoted-says h)

    pub unquoted-less : f ≡ false → length s - r.next.at.0 < length s - o.at.0
    unquoted-less h = omega (arith, j.forward, going_less unquoted-walk k (unquoted-says h))

pub ruleset unquoted-loop = (arith, going_start, unquoted-done, unquoted-on, unquoted-less)
