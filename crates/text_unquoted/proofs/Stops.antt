-- One law for each answer of the functions on unquoted text.
use mathlib.Core.Path.{◌≡◌, refl, sym, ◌∙◌, ap}
use mathlib.Core.Bool.{Bool, true, false, not, ◌&&◌, ◌||◌}
use mathlib.Core.List.{List, [], ◌∷◌}
use mathlib.Core.Logic.{inl, inr}
use Prim.Native.Nat.{ℕ, zero, suc, ◌+◌, ◌≤◌, ◌<◌}
use native.Mathlib.Omega.{arith}
use lib.Dec.{leb, eqb}
use lib.ListN.{length, get_or}
use borrow.Author.Tests.{leb-true, ne_eqb, eqb-true, eqb-false}
use types.Run.{OneOf}
use Rattle.answers.specs.Ask.{mem}
use Rattle.rules.specs.Bytes.{byte_at}
use Rattle.rules.specs.Characters.{no_character, character_at, is_space, starts_comment}
use Rattle.rules.specs.Pieces.{forbidden, stops_unquoted, starts_simple, unquoted_end}
use Rattle.theory_text.specs.Ascii.{ascii-character}
use Rattle.text_chars.specs.Clash.{clash}
use Rattle.text_chars.specs.Cursor.{cur}
use Rattle.text_scan.specs.Scan.{SeenIs}
use Rattle.text_chars.specs.declared.Step.{Step}
use Rattle.text_scan.specs.Looks.{get_d_any, visible, is_byte, not_byte}
use Rattle.text_scan.specs.Walks.{Going, going_start, going_out, unquoted-byte}
use Rattle.text_unquoted.specs.Clauses.{Plain, PlainIs}

-- ---- the characters that unquoted text cannot have

-- each number from one on, so many of them, is forbidden
abbrev All : ℕ → ℕ → Bool
All low zero = true
All low (suc n) = mem low forbidden && All (suc low) n

both : (a b : Bool) → (a && b) ≡ true → (a ≡ true) × (b ≡ true)
both true b e = (refl, e)
both false b e = (e, absurd-bool e)
  where
    absurd-bool : false ≡ true → b ≡ true
    absurd-bool q = let z : ◌≡◌ {A = ℕ} 0 1 = cc in absurd (omega arith)

cases : {A : Type 0} (t : Bool) → (t ≡ true → A) → (t ≡ false → A) → A
cases true f g = f refl
cases false f g = g refl

in-range : (n low c : ℕ) → All low n ≡ true → low ≤ c → c < low + n → true ≡ mem c forbidden
in-range zero low c a h k = absurd (omega arith)
in-range (suc n) low c a h k =
    let (x, y) = both (mem low forbidden) (All (suc low) n) a in
    cases (eqb low c) (λ e. sym x ∙ ap (λ z. mem z forbidden) (eqb-true low c e)) (λ e.
    in-range n (suc low) c y (omega (arith, eqb-false low c e)) (omega arith))

-- the number is none of a list
abbrev Apart : List ℕ → ℕ → Type 0
Apart [] c = Unit {0}
Apart (k ∷ ks) c = (k ≡ c → ⊥) × Apart ks c

absent : (l : List ℕ) (c : ℕ) → Apart l c → mem c l ≡ false
absent [] c a = refl
absent (k ∷ ks) c a = rw (ne_eqb k c a.0) (absent ks c a.1)

-- the forbidden characters that stand alone
abbrev alone : List ℕ
alone = 38 ∷ 58 ∷ 61 ∷ 96 ∷ 123 ∷ 125 ∷ []

module _ (c : ℕ) where
  pub forbidden-33 : 33 ≤ c → c < 37 → true ≡ mem c forbidden
  forbidden-33 h k = in-range 4 33 c refl h k

  pub forbidden-42 : 42 ≤ c → c < 45 → true ≡ mem c forbidden
  forbidden-42 h k = in-range 3 42 c refl h k

  pub forbidden-63 : 63 ≤ c → c < 65 → true ≡ mem c forbidden
  forbidden-63 h k = in-range 2 63 c refl h k

  pub forbidden-91 : 91 ≤ c → c < 95 → true ≡ mem c forbidden
  forbidden-91 h k = in-range 4 91 c refl h k

  pub forbidden-alone : OneOf alone c → true ≡ mem c forbidden
  forbidden-alone (inl e) = rw e
  forbidden-alone (inr (inl e)) = rw e
  forbidden-alone (inr (inr (inl e))) = rw e
  forbidden-alone (inr (inr (inr (inl e)))) = rw e
  forbidden-alone (inr (inr (inr (inr (inl e))))) = rw e
  forbidden-alone (inr (inr (inr (inr (inr e))))) = rw e

  module _ (n : OneOf alone c → ⊥) where
    others : Apart alone c
    others = (
      λ e. n (inl (sym e)),
      (
        λ e. n (inr (inl (sym e))),
        (
          λ e. n (inr (inr (inl (sym e)))),
          (
            λ e. n (inr (inr (inr (inl (sym e))))),
            (λ e. n (inr (inr (inr (inr (inl (sym e)))))), (λ e. n (inr (inr (inr (inr (inr (sym e)))))), tt)),
          ),
        ),
      ),
    )

    pub allowed-32 : c < 33 → false ≡ mem c forbidden
    allowed-32 h = sym (absent forbidden c (omega arith))

    pub allowed-37 : 37 ≤ c → c < 42 → false ≡ mem c forbidden
    allowed-37 h k = let a = others in sym (absent forbidden c (omega arith))

    pub allowed-45 : 45 ≤ c → c < 63 → false ≡ mem c forbidden
    allowed-45 h k = let a = others in sym (absent forbidden c (omega arith))

    pub allowed-65 : 65 ≤ c → c < 91 → false ≡ mem c forbidden
    allowed-65 h k = let a = others in sym (absent forbidden c (omega arith))

    pub allowed-95 : 95 ≤ c → false ≡ mem c forbidden
    allowed-95 h = let a = others in sym (absent forbidden c (omega arith))

pub ruleset forbiddens = (
  forbidden-33,
  forbidden-42,
  forbidden-63,
  forbidden-91,
  forbidden-alone,
  allowed-32,
  allowed-37,
  allowed-45,
  allowed-65,
  allowed-95,
)

-- ---- the bytes that unquoted text goes over

module _ {b : ℕ} where
  plain : 44 < b → b < 128 → (b ≡ 47 → ⊥) → mem b forbidden ≡ false → Plain b
  plain l h n m = record { ascii = h; space = visible b (omega arith) h; allowed = m; slash = n }

  pub plain-small : 97 ≤ b → PlainIs b (leb b 122)
  plain-small h = record {
    plain = λ e. let k = leb-true b 122 e in plain (omega arith) (omega arith) (λ z. omega arith) (absent forbidden b (omega arith));
  }

  pub plain-capital : 65 ≤ b → b ≤ 90 → PlainIs b true
  plain-capital h k = record { plain = λ e. plain (omega arith) (omega arith) (λ z. omega arith) (absent forbidden b (omega arith)) }

  pub plain-line : PlainIs b (eqb b 95)
  plain-line = record {
    plain = λ e. let k = eqb-true b 95 e in plain (omega arith) (omega arith) (λ z. omega arith) (absent forbidden b (omega arith));
  }

  pub plain-digit : 48 ≤ b → PlainIs b (leb b 57)
  plain-digit h = record {
    plain = λ e. let k = leb-true b 57 e in plain (omega arith) (omega arith) (λ z. omega arith) (absent forbidden b (omega arith));
  }

  pub plain-none : PlainIs b false
  plain-none = record { plain = λ e. clash (cc) }

  pub plain-sign : 45 ≤ b → PlainIs b (leb b 46)
  plain-sign h = record {
    plain = λ e. let k = leb-true b 46 e in plain (omega arith) (omega arith) (λ z. omega arith) (absent forbidden b (omega arith));
  }

pub ruleset plains = (plain-small, plain-capital, plain-line, plain-digit, plain-none, plain-sign)

module _ (s : List ℕ) (p : ℕ) (h : p < length s) {f : Bool} (k : PlainIs (get_or s p 0) f) (e : f ≡ true) where
  plain_byte : Plain (byte_at s p)
  plain_byte = rw (get_d_any s p 0 256 h) at (k.plain e)

  no-comment : starts_comment s p ≡ false
  unfolding starts_comment
  no-comment =
      rw (ne_eqb (byte_at s p) 35 (λ z. hash (byte_at s p) z plain_byte.allowed), ne_eqb (byte_at s p) 47 plain_byte.slash, starts_comment)
    where
      hash : (b : ℕ) → b ≡ 35 → mem b forbidden ≡ false → ⊥
      hash b z a = let y : mem b forbidden ≡ true = rw z in clash (cc)

  goes : stops_unquoted s p ≡ false
  unfolding stops_unquoted
  goes =
      let b = plain_byte in
      let c : character_at s p ≡ byte_at s p = ascii-character s p b.ascii in
      let n : eqb (character_at s p) no_character ≡ false = ne_eqb (character_at s p) no_character (λ z. omega (arith, b.ascii)) in
      let o : (eqb (character_at s p) no_character || is_space (character_at s p)) ≡ false = rw n (ap is_space c ∙ b.space) in
      let m : mem (character_at s p) forbidden ≡ false = ap (λ z. mem z forbidden) c ∙ b.allowed in
      rw (o, m, stops_unquoted) no-comment

  pub stops-plain : false ≡ stops_unquoted s p
  stops-plain = sym goes

  pub run-plain : {at : ℕ} → Going unquoted_end s at (cur p) → Going unquoted_end s at (cur (p + 1))
  run-plain g = unquoted-byte g h plain_byte.ascii goes

pub ruleset runs = (arith, going_start, going_out, run-plain)

-- ---- where unquoted text stops

module _ {s : List ℕ} {at : ℕ} {r : Step} (k : SeenIs s at r) where
  pub stops_end : r.ch ≡ no_character → true ≡ stops_unquoted s at
  unfolding stops_unquoted
  stops_end e = let q : character_at s at ≡ no_character = sym k.is ∙ e in simp (q, stops_unquoted)

  module _ (n : r.ch ≡ no_character → ⊥) {f : Bool} (i : f ≡ is_space r.ch) where
    outer : {b : Bool} → f ≡ b → (eqb (character_at s at) no_character || is_space (character_at s at)) ≡ b
    outer h =
        let q : eqb (character_at s at) no_character ≡ false = rw (← k.is) (ne_eqb r.ch no_character n) in
        rw q (ap is_space (sym k.is) ∙ sym i ∙ h)

    pub stops-space : f ≡ true → true ≡ stops_unquoted s at
    unfolding stops_unquoted
    stops-space h = rw (outer h, stops_unquoted)

    module _ (h : f ≡ false) {g : Bool} (j : g ≡ mem r.ch forbidden) where
      inner : {b : Bool} → g ≡ b → mem (character_at s at) forbidden ≡ b
      inner z = ap (λ c. mem c forbidden) (sym k.is) ∙ sym j ∙ z

      pub stops-forbidden : g ≡ true → true ≡ stops_unquoted s at
      unfolding stops_unquoted
      stops-forbidden z = rw (outer h, inner z, stops_unquoted)

      pub stops-comment : {t : Bool} → g ≡ false → t ≡ starts_comment s at → t ≡ stops_unquoted s at
      unfolding stops_unquoted
      stops-comment z c = rw (outer h, inner z, stops_unquoted) c

  pub simple-quote : r.ch ≡ 34 → true ≡ starts_simple s at
  unfolding starts_simple
  simple-quote e = rw (is_byte k 34 (omega arith) e, starts_simple)

  pub simple-text : (r.ch ≡ 34 → ⊥) → {f : Bool} → f ≡ stops_unquoted s at → not f ≡ starts_simple s at
  unfolding starts_simple
  simple-text n i = rw (not_byte k 34 (omega arith) n, starts_simple) (ap not i)

pub ruleset stops = (stops-plain, stops_end, stops-space, stops-forbidden, stops-comment)

pub ruleset simples = (simple-quote, simple-text)
