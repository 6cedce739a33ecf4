-- The bytes of a code point: one law for each length.
use mathlib.Core.Path.{◌≡◌}
use mathlib.Core.List.{List, [], ◌∷◌}
use Prim.Native.Nat.{ℕ, ◌+◌, ◌/◌, ◌%◌, ◌≤◌, ◌<◌}
use native.Mathlib.Omega.{arith}
use lib.ListN.{length, set, length-set}
use lib.Seq.{sets}
use borrow.Author.Tests.{lt-ltb, le-ltb}
use Rattle.rules.specs.Utf8.{encoded}
use Rattle.text_bytes.specs.Clauses.{EncodeIs}
use Rattle.text_bytes.specs.Buffers.{write-text}

module _ {ch : ℕ} {b : List ℕ} (room : 4 ≤ length b) where
  wrote : {text : List ℕ} → encoded ch ≡ text → 1 ≤ length text → length text ≤ 4 → EncodeIs ch b (sets b 0 text) (length text)
  wrote {text} e low high = record { wrote = rw e (write-text text b (omega arith)); low = low; high = high }

  pub encode_one : ch < 128 → EncodeIs ch b (set b 0 ch) 1
  unfolding encoded
  encode_one h = wrote {text = ch ∷ []} (rw (lt-ltb ch 128 h, encoded)) (omega arith) (omega arith)

  pub encode-two : 128 ≤ ch → ch < 2048 → EncodeIs ch b (set (set b 0 (192 + ch / 64)) 1 (128 + ch % 64)) 2
  unfolding encoded
  encode-two h k =
      wrote {text = (192 + ch / 64) ∷ (128 + ch % 64) ∷ []} (rw (le-ltb ch 128 h, lt-ltb ch 2048 k, encoded)) (omega arith) (omega arith)

  pub encode-three : 2048 ≤ ch → ch < 65536 → EncodeIs ch b (set (set (set b 0 (224 + ch / 4096)) 1 (128 + ch / 64 % 64)) 2 (128 + ch % 64)) 3
  unfolding encoded
  encode-three h k =
      wrote {text = (224 + ch / 4096) ∷ (128 + ch / 64 % 64) ∷ (128 + ch % 64) ∷ []}
      (rw (le-ltb ch 128 (omega arith), le-ltb ch 2048 h, lt-ltb ch 65536 k, encoded)) (omega arith) (omega arith)

  pub encode-four : 65536 ≤ ch
      → EncodeIs ch b (set (set (set (set b 0 (240 + ch / 262144)) 1 (128 + ch / 4096 % 64)) 2 (128 + ch / 64 % 64)) 3 (128 + ch % 64)) 4
  unfolding encoded
  encode-four h =
      wrote {text = (240 + ch / 262144) ∷ (128 + ch / 4096 % 64) ∷ (128 + ch / 64 % 64) ∷ (128 + ch % 64) ∷ []}
      (rw (le-ltb ch 128 (omega arith), le-ltb ch 2048 (omega arith), le-ltb ch 65536 h, encoded)) (omega arith) (omega arith)

-- the stores' indices
module _ (b : List ℕ) (room : 4 ≤ length b) (v w x : ℕ) where
  pub second-in : 1 < length (set b 0 v)
  second-in = rw length-set (omega arith)

  pub third-in : 2 < length (set (set b 0 v) 1 w)
  third-in = simp length-set (omega arith)

  pub fourth-in : 3 < length (set (set (set b 0 v) 1 w) 2 x)
  fourth-in = simp length-set (omega arith)

pub ruleset encodes = (encode_one, encode-two, encode-three, encode-four, second-in, third-in, fourth-in)
