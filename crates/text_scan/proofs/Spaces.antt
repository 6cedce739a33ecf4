-- One law for each answer of the functions that pass over whitespace, comments and gaps.
use mathlib.Core.Path.{◌≡◌, refl, sym, ◌∙◌}
use mathlib.Core.Bool.{Bool, true, false, not, ◌&&◌, ◌||◌}
use Prim.Native.Nat.{ℕ, ◌≤◌, ◌<◌}
use native.Mathlib.Omega.{arith}
use lib.Dec.{leb, eqb}
use borrow.Author.Tests.{le-leb, lt-leb, ne_eqb}
use Rattle.rules.specs.Characters.{is_wide_space, is_space, is_inline}
use Rattle.text_scan.specs.Looks.{visible}

-- ---- past ASCII

module _ {c : ℕ} where
  pub wide-no-break : c ≡ 160 → true ≡ is_wide_space c
  wide-no-break e = rw e

  pub wide-ogham : c ≡ 5760 → true ≡ is_wide_space c
  wide-ogham e = rw e

  pub wide-narrow : c ≡ 8239 → true ≡ is_wide_space c
  wide-narrow e = rw e

  pub wide-mathematical : c ≡ 8287 → true ≡ is_wide_space c
  wide-mathematical e = rw e

  pub wide-ideographic : c ≡ 12288 → true ≡ is_wide_space c
  wide-ideographic e = rw e

  module _ (a : c ≡ 160 → ⊥) (b : c ≡ 5760 → ⊥) where
    pub wide_low : c < 8192 → false ≡ is_wide_space c
    wide_low h =
        rw (
          ne_eqb c 160 a,
          ne_eqb c 5760 b,
          lt-leb 8192 c h,
          lt-leb 8232 c (omega arith),
          ne_eqb c 8239 (λ e. omega arith),
          ne_eqb c 8287 (λ e. omega arith),
          ne_eqb c 12288 (λ e. omega arith),
          ne_eqb c 65279 (λ e. omega arith),
        )

    pub wide-quads : 8192 ≤ c → c ≤ 8202 → true ≡ is_wide_space c
    wide-quads h k = rw (ne_eqb c 160 a, ne_eqb c 5760 b, le-leb 8192 c h, le-leb c 8202 k)

    module _ (h : 8202 < c) where
      pub wide-mid : c < 8232 → false ≡ is_wide_space c
      wide-mid k =
          rw (
            ne_eqb c 160 a,
            ne_eqb c 5760 b,
            le-leb 8192 c (omega arith),
            lt-leb c 8202 h,
            lt-leb 8232 c k,
            ne_eqb c 8239 (λ e. omega arith),
            ne_eqb c 8287 (λ e. omega arith),
            ne_eqb c 12288 (λ e. omega arith),
            ne_eqb c 65279 (λ e. omega arith),
          )

      pub wide-separators : 8232 ≤ c → c ≤ 8233 → true ≡ is_wide_space c
      wide-separators k l =
          rw (ne_eqb c 160 a, ne_eqb c 5760 b, le-leb 8192 c (omega arith), lt-leb c 8202 h, le-leb 8232 c k, le-leb c 8233 l)

    pub wide-last : 8233 < c → (c ≡ 8239 → ⊥) → (c ≡ 8287 → ⊥) → (c ≡ 12288 → ⊥) → eqb c 65279 ≡ is_wide_space c
    wide-last h d e f =
        rw (
          ne_eqb c 160 a,
          ne_eqb c 5760 b,
          le-leb 8192 c (omega arith),
          lt-leb c 8202 (omega arith),
          le-leb 8232 c (omega arith),
          lt-leb c 8233 h,
          ne_eqb c 8239 d,
          ne_eqb c 8287 e,
          ne_eqb c 12288 f,
        )

-- ---- all whitespace

and-or : (b : Bool) → b ≡ ((b && true || false) || false)
and-or true = refl
and-or false = refl

module _ {c : ℕ} where
  pub space-wide : {f : Bool} → 32 < c → f ≡ is_wide_space c → f ≡ is_space c
  space-wide h i =
      rw (
        le-leb 9 c (omega arith),
        lt-leb c 13 (omega arith),
        le-leb 28 c (omega arith),
        lt-leb c 31 (omega arith),
        ne_eqb c 32 (λ e. omega arith),
      ) i

  no-wide : c < 160 → false ≡ is_wide_space c
  no-wide h = wide_low {c = c} (λ e. omega arith) (λ e. omega arith) (omega arith)

  pub space-visible : 32 < c → c < 128 → false ≡ is_space c
  space-visible h k = sym (visible c h k)

  pub space-itself : c ≡ 32 → true ≡ is_space c
  space-itself e = rw e

  pub space-low : c < 9 → false ≡ is_space c
  space-low h = rw (lt-leb 9 c h, lt-leb 28 c (omega arith), ne_eqb c 32 (λ e. omega arith)) (no-wide (omega arith))

  pub space-tab : 9 ≤ c → c ≤ 13 → true ≡ is_space c
  space-tab h k = rw (le-leb 9 c h, le-leb c 13 k)

  pub space-last : 13 < c → c ≤ 32 → (c ≡ 32 → ⊥) → leb 28 c ≡ is_space c
  space-last h k n =
      rw (le-leb 9 c (omega arith), lt-leb c 13 h, le-leb c 31 (omega arith), ne_eqb c 32 n, ← no-wide (omega arith)) (and-or (leb 28 c))

module _ (c : ℕ) {f : Bool} (i : f ≡ is_space c) where
  pub inline-space : f ≡ true → not (eqb c 10) ≡ is_inline c
  inline-space e = rw (sym i ∙ e)

  pub inline-none : f ≡ false → false ≡ is_inline c
  inline-none e = rw (sym i ∙ e)

pub ruleset wides = (
  wide-no-break,
  wide-ogham,
  wide_low,
  wide-quads,
  wide-mid,
  wide-separators,
  wide-narrow,
  wide-mathematical,
  wide-ideographic,
  wide-last,
)

pub ruleset spaces = (space-visible, space-wide, space-itself, space-low, space-tab, space-last)

pub ruleset inlines = (inline-space, inline-none)
