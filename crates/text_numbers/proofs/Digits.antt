-- One law for each answer of the functions on numbers.
use mathlib.Core.Path.{◌≡◌, sym, ◌∙◌, ap}
use mathlib.Core.Bool.{Bool, true, false}
use mathlib.Core.List.{List}
use mathlib.Core.Option.{none, some}
use Prim.Native.Nat.{ℕ, ◌+◌, ◌≤◌, ◌<◌}
use native.Mathlib.Omega.{arith}
use lib.ListN.{length}
use lib.Dec.{leb, eqb}
use borrow.Author.Tests.{le-leb, lt-leb, ne_eqb}
use Rattle.rules.specs.Bytes.{byte_at}
use Rattle.rules.specs.Numbers.{is_digit, after_digits, after_int, after_fraction, after_sign, after_exponent, after_number}
use Rattle.text_chars.specs.declared.Cursor.{Cursor}
use Rattle.text_scan.specs.Scan.{SeenIs, EndIs}
use Rattle.text_numbers.specs.Clauses.{is_sign, is_exponent, after_unsigned, NumberMoved, NumberIs}
use Rattle.text_chars.specs.declared.Step.{Step}
use Rattle.std.specs.Prelude.{Option as Maybe, Some, None}
use Rattle.text_chars.specs.declared.Cursor.{Cursor}
use Rattle.text_scan.specs.Looks.{Ascii, passes-low, byte-test, is_byte, not_byte, ascii-next}
use Rattle.text_scan.specs.Walks.{digit-ascii}

-- ---- tests of one character

module _ {c : ℕ} where
  pub digit_low : c < 48 → false ≡ is_digit c
  digit_low h = rw (lt-leb 48 c h)

  pub digit-else : 48 ≤ c → leb c 57 ≡ is_digit c
  digit-else h = rw (le-leb 48 c h)

  pub sign-plus : c ≡ 43 → true ≡ is_sign c
  sign-plus e = rw e

  pub sign-else : (c ≡ 43 → ⊥) → eqb c 45 ≡ is_sign c
  sign-else n = rw (ne_eqb c 43 n)

  pub exponent-upper : c ≡ 69 → true ≡ is_exponent c
  exponent-upper e = rw e

  pub exponent-else : (c ≡ 69 → ⊥) → eqb c 101 ≡ is_exponent c
  exponent-else n = rw (ne_eqb c 69 n)

pub ruleset digits = (digit_low, digit-else)

pub ruleset signs = (sign-plus, sign-else)

pub ruleset exponents = (exponent-upper, exponent-else)

sign-ascii : Ascii is_sign
sign-ascii n h = rw (ne_eqb n 43 (λ e. omega arith), ne_eqb n 45 (λ e. omega arith))

exponent-ascii : Ascii is_exponent
exponent-ascii n h = rw (ne_eqb n 69 (λ e. omega arith), ne_eqb n 101 (λ e. omega arith))

-- a test of the character is one of its byte, and what passes it is one byte long
module _ {s : List ℕ} {at : ℕ} {r : Step} (k : SeenIs s at r) (t : ℕ → Bool) (a : Ascii t) {f : Bool} (i : f ≡ t r.ch) where
  says : {b : Bool} → f ≡ b → t (byte_at s at) ≡ b
  says h = byte-test k t a ∙ sym i ∙ h

  one : f ≡ true → r.next.at.0 ≡ at + 1
  one h = ascii-next k (passes-low t a r.ch (sym i ∙ h))

-- ---- int

module _ {s : List ℕ} {at : ℕ} {r : Step} (k : SeenIs s at r) where
  pub int-zero : r.ch ≡ 48 → NumberIs s at (after_int s at) (Some r.next)
  unfolding after_int
  int-zero e =
      let n : r.next.at.0 ≡ at + 1 = ascii-next k (omega arith) in
      record { is = rw (is_byte k 48 (omega arith) e, after_int) (ap some n); moved = (omega arith, k.inside) }

  module _ (z : r.ch ≡ 48 → ⊥) {f : Bool} (i : f ≡ is_digit r.ch) where
    pub int-digits : {e : Cursor} → f ≡ true → EndIs s r.next.at.0 (after_digits s r.next.at.0) e
        → NumberIs s at (after_int s at) (Some e)
    unfolding after_int
    int-digits {e} h d =
        let n : r.next.at.0 ≡ at + 1 = one k is_digit digit-ascii i h in
        record {
          is =
              rw (not_byte k 48 (omega arith) z, says k is_digit digit-ascii i h, after_int)
              (ap some (d.is ∙ ap (after_digits s) n));
          moved = (omega arith, d.inside);
        }

    pub int-missing : f ≡ false → NumberIs s at (after_int s at) None
    unfolding after_int
    int-missing h = record {
      is = rw (not_byte k 48 (omega arith) z, says k is_digit digit-ascii i h, after_int);
      moved = tt;
    }

pub ruleset ints = (int-zero, int-digits, int-missing)

-- ---- fraction and exponent

-- the cursor stays
stay : {s : List ℕ} {c : Cursor} {place : ℕ} → c.at.0 ≤ length s → place ≡ c.at.0 → EndIs s c.at.0 place c
stay l e = record { is = sym e; forward = omega arith; inside = l }

module _ {s : List ℕ} {c : Cursor} {r : Step} (k : SeenIs s c.at.0 r) where
  pub fraction-none : c.at.0 ≤ length s → (r.ch ≡ 46 → ⊥) → EndIs s c.at.0 (after_fraction s c.at.0) c
  unfolding after_fraction
  fraction-none l z = stay l (rw (not_byte k 46 (omega arith) z, after_fraction))

  module _ (e : r.ch ≡ 46) {q : Step} (j : SeenIs s r.next.at.0 q) {f : Bool} (i : f ≡ is_digit q.ch) where
    first : {b : Bool} → f ≡ b → is_digit (byte_at s (c.at.0 + 1)) ≡ b
    first h = rw (ascii-next k (omega arith)) at (says j is_digit digit-ascii i h)

    pub fraction-digits : {d : Cursor} → f ≡ true → EndIs s r.next.at.0 (after_digits s r.next.at.0) d
        → EndIs s c.at.0 (after_fraction s c.at.0) d
    unfolding after_fraction
    fraction-digits h d = record {
      is =
          rw (is_byte k 46 (omega arith) e, first h, after_fraction)
          (d.is ∙ ap (after_digits s) (ascii-next k (omega arith)));
      forward = omega arith;
      inside = d.inside;
    }

    pub fraction-bare : c.at.0 ≤ length s → f ≡ false → EndIs s c.at.0 (after_fraction s c.at.0) c
    unfolding after_fraction
    fraction-bare l h = stay l (rw (is_byte k 46 (omega arith) e, first h, after_fraction))

  module _ {f : Bool} (i : f ≡ is_sign r.ch) where
    pub sign-some : f ≡ true → EndIs s c.at.0 (after_sign s c.at.0) r.next
    unfolding after_sign
    sign-some h = record {
      is = rw (says k is_sign sign-ascii i h, after_sign) (one k is_sign sign-ascii i h);
      forward = k.forward;
      inside = k.inside;
    }

    pub sign-none : c.at.0 ≤ length s → f ≡ false → EndIs s c.at.0 (after_sign s c.at.0) c
    unfolding after_sign
    sign-none l h = stay l (rw (says k is_sign sign-ascii i h, after_sign))

  module _ {f : Bool} (i : f ≡ is_exponent r.ch) where
    pub exponent-none : c.at.0 ≤ length s → f ≡ false → EndIs s c.at.0 (after_exponent s c.at.0) c
    unfolding after_exponent
    exponent-none l h = stay l (rw (says k is_exponent exponent-ascii i h, after_exponent))

    module _ (h : f ≡ true) {p : Cursor} (g : EndIs s r.next.at.0 (after_sign s r.next.at.0) p)
        {q : Step} (j : SeenIs s p.at.0 q) {t : Bool} (u : t ≡ is_digit q.ch) where
      signed : p.at.0 ≡ after_sign s (c.at.0 + 1)
      signed = g.is ∙ ap (after_sign s) (one k is_exponent exponent-ascii i h)

      power : {b : Bool} → t ≡ b → is_digit (byte_at s (after_sign s (c.at.0 + 1))) ≡ b
      power z = rw signed at (says j is_digit digit-ascii u z)

      pub exponent-digits : {d : Cursor} → t ≡ true → EndIs s p.at.0 (after_digits s p.at.0) d
          → EndIs s c.at.0 (after_exponent s c.at.0) d
      unfolding after_exponent
      exponent-digits z d = record {
        is = rw (says k is_exponent exponent-ascii i h, power z, after_exponent) (d.is ∙ ap (after_digits s) signed);
        forward = omega arith;
        inside = d.inside;
      }

      pub exponent-bare : c.at.0 ≤ length s → t ≡ false → EndIs s c.at.0 (after_exponent s c.at.0) c
      unfolding after_exponent
      exponent-bare l z = stay l (rw (says k is_exponent exponent-ascii i h, power z, after_exponent))

pub ruleset fractions = (fraction-none, fraction-digits, fraction-bare)

pub ruleset sign-ends = (sign-some, sign-none)

pub ruleset exponent-ends = (exponent-none, exponent-digits, exponent-bare)

-- ---- the whole number

module _ {s : List ℕ} {at : ℕ} {r : Maybe Cursor} (k : NumberIs s at (after_int s at) r) where
  pub unsigned-missing : r ≡ None → NumberIs s at (after_unsigned s at) None
  unfolding after_unsigned
  unsigned-missing e =
      let o : none ≡ after_int s at = rw e at k.is in
      record { is = rw (sym o, after_unsigned); moved = tt }

  module _ {c : Cursor} (e : r ≡ Some c) where
    int-moved : (at < c.at.0) × (c.at.0 ≤ length s)
    int-moved = rw e at k.moved

    pub int-inside : c.at.0 ≤ length s
    int-inside = int-moved.1

    pub unsigned-end : {p d : Cursor} → EndIs s c.at.0 (after_fraction s c.at.0) p
        → EndIs s p.at.0 (after_exponent s p.at.0) d → NumberIs s at (after_unsigned s at) (Some d)
    unfolding after_unsigned
    unsigned-end {p} {d} f x =
        let o : some c.at.0 ≡ after_int s at = rw e at k.is in
        record {
          is = rw (sym o, after_unsigned) (ap some (x.is ∙ ap (after_exponent s) f.is));
          moved = (omega (arith, int-moved.0), x.inside);
        }

moved_before : (len p q : ℕ) (n : Maybe Cursor) → p ≤ q → NumberMoved len q n → NumberMoved len p n
moved_before len p q None h m = tt
moved_before len p q (Some c) h m = (omega arith, m.1)

-- the place after the minus, if there is one
abbrev start : List ℕ → ℕ → ℕ
start s at = elim (eqb (byte_at s at) 45) [ true ↦ at + 1 | false ↦ at ]

number-start : (s : List ℕ) (at p : ℕ) → start s at ≡ p → after_number s at ≡ after_unsigned s p
unfolding after_number after_unsigned
number-start s at p e = ap (after_unsigned s) e

module _ {s : List ℕ} {at : ℕ} {r : Step} (k : SeenIs s at r) {n : Maybe Cursor} where
  pub number-minus : r.ch ≡ 45 → NumberIs s r.next.at.0 (after_unsigned s r.next.at.0) n → NumberIs s at (after_number s at) n
  number-minus e m =
      let b : start s at ≡ at + 1 = rw (is_byte k 45 (omega arith) e, start) in
      record {
        is = m.is ∙ sym (number-start s at r.next.at.0 (b ∙ sym (ascii-next k (omega arith))));
        moved = moved_before (length s) at r.next.at.0 n k.forward m.moved;
      }

  pub number-plain : (r.ch ≡ 45 → ⊥) → NumberIs s at (after_unsigned s at) n → NumberIs s at (after_number s at) n
  number-plain z m =
      let b : start s at ≡ at = rw (not_byte k 45 (omega arith) z, start) in
      record { is = m.is ∙ sym (number-start s at at b); moved = m.moved }

pub ruleset unsigneds = (arith, unsigned-missing, int-inside, unsigned-end)

pub ruleset numbers = (number-minus, number-plain)
