-- ASCII, whatever the bytes: a character below 128 is its one byte, and no byte from 128 on begins such a character.
use Rattle.std.specs.Prelude.{◌≡◌, refl, ℕ, ◌+◌, ◌≤◌, ◌<◌, Bool, true, false, List, ltb, length}
use Rattle.std.proofs.Common.{sym, arith, ltb-true, ltb-false, lt-ltb, le-ltb}
use Rattle.rules.specs.Bytes.{byte_at}
use Rattle.rules.specs.Characters.{width_of, next_place, character_at}
use Rattle.theory_text.specs.Choices.{by-test}

module _ (s : List ℕ) (at : ℕ) where
  pub ascii-character : byte_at s at < 128 → character_at s at ≡ byte_at s at
  unfolding character_at
  ascii-character h = rw (lt-ltb (byte_at s at) 128 h, character_at)

  pub several-character : 128 ≤ byte_at s at → 128 ≤ character_at s at
  unfolding character_at
  several-character h =
      rw (le-ltb (byte_at s at) 128 h, character_at)
      (by-test (λ c. 128 ≤ c) (ltb (byte_at s at) 224) (λ e. omega arith) (λ e.
      by-test (λ c. 128 ≤ c) (ltb (byte_at s at) 240) (λ e. omega arith) (λ e.
      by-test (λ c. 128 ≤ c) (ltb (byte_at s at) 256) (λ e. omega arith) (λ e. omega arith))))

  pub ascii-byte : character_at s at < 128 → byte_at s at ≡ character_at s at
  ascii-byte h = go (ltb (byte_at s at) 128) refl
    where
      go : (t : Bool) → ltb (byte_at s at) 128 ≡ t → byte_at s at ≡ character_at s at
      go true e = sym (ascii-character (ltb-true (byte_at s at) 128 e))
      go false e = absurd (omega (arith, several-character (ltb-false (byte_at s at) 128 e)))

  pub ascii-next : at < length s → byte_at s at < 128 → next_place s at ≡ at + 1
  unfolding next_place width_of
  ascii-next h k = rw (lt-ltb (byte_at s at) 128 k, width_of) (omega arith)
