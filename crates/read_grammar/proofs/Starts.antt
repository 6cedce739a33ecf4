-- One law for each answer of the functions that say what begins at a place.
use mathlib.Core.Path.{◌≡◌, refl, sym, ◌∙◌}
use mathlib.Core.Bool.{Bool, true, false}
use mathlib.Core.List.{List}
use Prim.Native.Nat.{ℕ, ◌+◌, ◌≤◌, ◌<◌}
use native.Mathlib.Omega.{arith}
use lib.Dec.{ltb}
use lib.ListN.{length}
use borrow.Author.Tests.{lt-leb, le-leb, ltb-true, eqb-true, ne_eqb}
use Rattle.rules.specs.Bytes.{byte_at}
use Rattle.rules.specs.Refusals.{not_allowed}
use Rattle.rules.specs.Pieces.{starts_simple}
use Rattle.rules.specs.Reading.{start_of, after_closing}
use Rattle.theory.specs.Scanning.{simple-inside}
use Rattle.text_chars.specs.Cursor.{ByteIs}
use Rattle.text_scan.specs.Scan.{SeenIs}
use Rattle.text_chars.specs.declared.Step.{Step}
use Rattle.read_grammar.specs.Decisions.{StartIs, NotAllowedIs, closes, TurnIs}
use Rattle.read_grammar.specs.declared.Start.{Start}
use Rattle.read_grammar.specs.declared.Turn.{Turn}
use Rattle.read_grammar.proofs.Bytes.{is_byte, not_byte, byte-within, byte-end, byte-before, one_on}

-- ---- what begins at a place

module _ {s : List ℕ} {at b : ℕ} (k : ByteIs s at b) where
  module _ {r : Step} (h : SeenIs s at r) where
    pub start-brace : b ≡ 123 → StartIs s at (Start.Brace r.next)
    unfolding start_of
    start-brace e =
        let i : byte_at s at ≡ 123 = sym k.is ∙ e in
        record {
          is = rw (is_byte k 123 e, start_of);
          begins = (byte-within k (omega arith), i, one_on h (omega arith));
        }

    pub start-bracket : (b ≡ 123 → ⊥) → b ≡ 91 → StartIs s at (Start.Bracket r.next)
    unfolding start_of
    start-bracket n e =
        let i : byte_at s at ≡ 91 = sym k.is ∙ e in
        record {
          is = rw (not_byte k 123 n, is_byte k 91 e, start_of);
          begins = (byte-within k (omega arith), i, one_on h (omega arith));
        }

  module _ (n : b ≡ 123 → ⊥) (m : b ≡ 91 → ⊥) where
    module _ (e : b ≡ 36) {b₂ : ℕ} (j : ByteIs s (at + 1) b₂) where
      pub start-dollar : b₂ ≡ 123 → StartIs s at Start.Dollar
      unfolding start_of
      start-dollar f = record {
        is = rw (not_byte k 123 n, not_byte k 91 m, is_byte k 36 e, is_byte j 123 f, start_of);
        begins = (byte-within j (omega arith), sym k.is ∙ e, sym j.is ∙ f);
      }

      pub start-bare : (b₂ ≡ 123 → ⊥) → StartIs s at Start.Nothing
      unfolding start_of
      start-bare f = record {
        is = rw (not_byte k 123 n, not_byte k 91 m, is_byte k 36 e, not_byte j 123 f, start_of);
        begins = tt;
      }

    module _ (z : b ≡ 36 → ⊥) {t : Bool} (i : t ≡ starts_simple s at) where
      pub start-scalar : t ≡ true → StartIs s at Start.Scalar
      unfolding start_of
      start-scalar u =
          let q : starts_simple s at ≡ true = sym i ∙ u in
          record {
            is = rw (not_byte k 123 n, not_byte k 91 m, not_byte k 36 z, q, start_of);
            begins = (simple-inside s at q, q);
          }

      pub start-nothing : t ≡ false → StartIs s at Start.Nothing
      unfolding start_of
      start-nothing u =
          let q : starts_simple s at ≡ false = sym i ∙ u in
          record { is = rw (not_byte k 123 n, not_byte k 91 m, not_byte k 36 z, q, start_of); begins = tt }

pub ruleset starts = (start-brace, start-bracket, start-dollar, start-bare, start-scalar, start-nothing)

-- ---- a byte that is not allowed, and the end

module _ {s : List ℕ} {at : ℕ} where
  pub allowed-byte : at < length s → NotAllowedIs s at 3
  unfolding not_allowed
  allowed-byte h = record { number = rw (lt-leb (length s) at h, not_allowed); place = rw (lt-leb (length s) at h, not_allowed) }

  pub allowed-end : length s ≤ at → at ≤ length s → NotAllowedIs s at 4
  unfolding not_allowed
  allowed-end h l = record { number = rw (le-leb (length s) at h, not_allowed); place = rw (le-leb (length s) at h, not_allowed) (omega arith) }

pub ruleset allowances = (allowed-byte, allowed-end)

-- ---- members

-- a container is closed by an ASCII byte, or by the end
by-closing : {A : Type 0} (n : ℕ) → closes n ≡ true → (n ≡ 256 → A) → (n < 128 → A) → A
by-closing {A} n h f g = go (ltb n 128) refl
  where
    go : (t : Bool) → ltb n 128 ≡ t → A
    go true e = g (ltb-true n 128 e)
    go false e = f (eqb-true n 256 (rw e at h))

after-end : (n at : ℕ) → n ≡ 256 → after_closing n at ≡ at
unfolding after_closing
after-end n at e = rw (e, after_closing)

after-byte : (n at : ℕ) → n < 128 → after_closing n at ≡ at + 1
unfolding after_closing
after-byte n at h = rw (ne_eqb n 256 (λ e. omega arith), after_closing)

module _ {s : List ℕ} {at b closing : ℕ} (k : ByteIs s at b) (l : at ≤ length s) where
  pub turn-close : {r : Step} → closes closing ≡ true → b ≡ closing → SeenIs s at r → TurnIs closing s at (Turn.Close r.next)
  turn-close {r} o e h = record { is = (is_byte k closing e, past, h.forward, h.inside) }
    where
      past : r.next.at.0 ≡ after_closing closing at
      past =
          by-closing closing o
          (λ z. let i : at ≡ length s = byte-end k l (e ∙ z) in
          omega (arith, h.forward, h.inside, after-end closing at z))
          (λ z. one_on h (omega (arith, k.is)) ∙ sym (after-byte closing at z))

  module _ (n : b ≡ closing → ⊥) where
    pub turn_end : b ≡ 256 → TurnIs closing s at Turn.End
    turn_end e = record { is = (not_byte k closing n, is_byte k 256 e, byte-end k l e) }

    pub turn-member : (b ≡ 256 → ⊥) → TurnIs closing s at Turn.Member
    turn-member m = record { is = (not_byte k closing n, not_byte k 256 m, byte-before k l m) }

pub ruleset turns = (turn-close, turn_end, turn-member)
