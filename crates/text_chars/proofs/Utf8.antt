-- One law for each answer of the functions that test UTF-8. The hypotheses are what a place of the code knows.
use mathlib.Core.Path.{◌≡◌, refl, sym, ◌∙◌, ap}
use mathlib.Core.Bool.{Bool, true, false, ◌&&◌}
use mathlib.Core.List.{List, [], ◌∷◌}
use Prim.Native.Nat.{ℕ, zero, suc, ◌+◌, ◌≤◌, ◌<◌}
use native.Mathlib.Omega.{arith}
use lib.ListN.{length, get_or, get_or-eq_default}
use lib.Dec.{leb}
use borrow.Author.Tests.{lt-ltb, le-ltb, le-leb, lt-leb, eq-eqb, ne_eqb}
use Rattle.rules.specs.Sizes.{max_document}
use Rattle.rules.specs.Bytes.{byte_at}
use Rattle.text_chars.specs.Cursor.{ByteIs, doc, ill_at}
use Rattle.rules.specs.Utf8.{continues, lowest, highest, promised, continued, sequence_at, well_formed_end, ill_formed}
use Rattle.theory_text.specs.Skips.{skip-on, skip-off}
use Rattle.theory_text.specs.Places.{sequence-past, sequence-moves}
use Rattle.text_chars.specs.Blocks.{BlockPasses}
use Rattle.text_chars.specs.WellFormed.{block_size, AllAscii, BlockIs, formed_from, WellFormedIs}
use Rattle.std.specs.Prelude.{Some, None}

-- inside a list the default does not matter
pub get_d_any : (s : List ℕ) (at a b : ℕ) → at < length s → get_or s at a ≡ get_or s at b
get_d_any [] at a b h = absurd (omega arith)
get_d_any (x ∷ s) zero a b h = refl
get_d_any (x ∷ s) (suc at) a b h = get_d_any s at a b (omega arith)

pub byte-in : {s : List ℕ} {at r : ℕ} → at < length s → r ≡ get_or s at 0 → r < 256 → ByteIs s at r
byte-in {s} {at} h e b = record { is = e ∙ get_d_any s at 0 256 h; small = λ _. omega arith }

pub byte-out : {s : List ℕ} {at : ℕ} → length s ≤ at → ByteIs s at 256
byte-out {s} {at} h = record { is = sym (get_or-eq_default s 256 h); small = λ k. omega arith }

-- the tests on one byte
pub continues-low : {b : ℕ} → b < 128 → false ≡ continues b
continues-low {b} h = rw (lt-leb 128 b h)

pub continues-else : {b : ℕ} → 128 ≤ b → leb b 191 ≡ continues b
continues-else {b} h = rw (le-leb 128 b h)

module _ {lead : ℕ} where
  pub lowest-3 : lead ≡ 224 → 160 ≡ lowest lead
  unfolding lowest
  lowest-3 e = rw (eq-eqb lead 224 e, lowest)

  pub lowest-4 : (lead ≡ 224 → ⊥) → lead ≡ 240 → 144 ≡ lowest lead
  unfolding lowest
  lowest-4 n e = rw (ne_eqb lead 224 n, eq-eqb lead 240 e, lowest)

  pub lowest-any : (lead ≡ 224 → ⊥) → (lead ≡ 240 → ⊥) → 128 ≡ lowest lead
  unfolding lowest
  lowest-any n m = rw (ne_eqb lead 224 n, ne_eqb lead 240 m, lowest)

  pub highest-3 : lead ≡ 237 → 159 ≡ highest lead
  unfolding highest
  highest-3 e = rw (eq-eqb lead 237 e, highest)

  pub highest-4 : (lead ≡ 237 → ⊥) → lead ≡ 244 → 143 ≡ highest lead
  unfolding highest
  highest-4 n e = rw (ne_eqb lead 237 n, eq-eqb lead 244 e, highest)

  pub highest-any : (lead ≡ 237 → ⊥) → (lead ≡ 244 → ⊥) → 191 ≡ highest lead
  unfolding highest
  highest-any n m = rw (ne_eqb lead 237 n, ne_eqb lead 244 m, highest)

  pub promised-1 : lead ≤ 127 → 1 ≡ promised lead
  unfolding promised
  promised-1 h = rw (le-leb lead 127 h, promised)

  pub promised-none : 127 < lead → lead < 194 → 0 ≡ promised lead
  unfolding promised
  promised-none h k = rw (lt-leb lead 127 h, lt-leb 194 lead k, lt-leb 224 lead (omega arith), lt-leb 240 lead (omega arith), promised)

  pub promised-2 : 194 ≤ lead → lead ≤ 223 → 2 ≡ promised lead
  unfolding promised
  promised-2 h k = rw (lt-leb lead 127 (omega arith), le-leb 194 lead h, le-leb lead 223 k, promised)

  pub promised-3 : 223 < lead → lead ≤ 239 → 3 ≡ promised lead
  unfolding promised
  promised-3 h k =
      rw (lt-leb lead 127 (omega arith), le-leb 194 lead (omega arith), lt-leb lead 223 h, le-leb 224 lead (omega arith), le-leb lead 239 k, promised)

  pub promised-4 : 239 < lead → lead ≤ 244 → 4 ≡ promised lead
  unfolding promised
  promised-4 h k =
      rw (
        lt-leb lead 127 (omega arith),
        le-leb 194 lead (omega arith),
        lt-leb lead 223 (omega arith),
        le-leb 224 lead (omega arith),
        lt-leb lead 239 h,
        le-leb 240 lead (omega arith),
        le-leb lead 244 k,
        promised,
      )

  pub promised-past : 244 < lead → 0 ≡ promised lead
  unfolding promised
  promised-past h =
      rw (
        lt-leb lead 127 (omega arith),
        le-leb 194 lead (omega arith),
        lt-leb lead 223 (omega arith),
        le-leb 224 lead (omega arith),
        lt-leb lead 239 (omega arith),
        le-leb 240 lead (omega arith),
        lt-leb lead 244 h,
        promised,
      )

pub promised-le : (lead : ℕ) → promised lead ≤ 4
unfolding promised
promised-le lead = go (leb lead 127) (leb 194 lead && leb lead 223) (leb 224 lead && leb lead 239) (leb 240 lead && leb lead 244)
  where
    go : (a b c d : Bool) → elim a [ true ↦ 1 | false ↦ elim b [ true ↦ 2 | false ↦ elim c [ true ↦ 3 | false ↦ elim d [ true ↦ 4 | false ↦ 0 ] ] ] ] ≤ 4
    go true b c d = omega arith
    go false true c d = omega arith
    go false false true d = omega arith
    go false false false true = omega arith
    go false false false false = omega arith

-- the sequence at a place, test by test
module _ (s : List ℕ) (at : ℕ) {lead n : ℕ} (e : lead ≡ byte_at s at) (p : n ≡ promised lead) where
  q : promised (byte_at s at) ≡ n
  q = ap promised (sym e) ∙ sym p

  pub sequence-short : n < 2 → n ≡ sequence_at s at
  unfolding sequence_at
  sequence-short h = go n q h
    where
      go : (k : ℕ) → promised (byte_at s at) ≡ k → k < 2 → k ≡ sequence_at s at
      go zero z l = rw (z, sequence_at)
      go (suc zero) z l = rw (z, sequence_at)
      go (suc (suc k)) z l = absurd (omega arith)

  -- the second byte, and those behind it
  module _ {second low : ℕ} (u : second ≡ byte_at s (at + 1)) (v : low ≡ lowest lead) (l : 2 ≤ n) where
    two-more : (m : ℕ) × (promised (byte_at s at) ≡ suc (suc m)) × (n ≡ suc (suc m))
    two-more = go n q l
      where
        go : (k : ℕ) → promised (byte_at s at) ≡ k → 2 ≤ k → (m : ℕ) × (promised (byte_at s at) ≡ suc (suc m)) × (k ≡ suc (suc m))
        go zero z h = absurd (omega arith)
        go (suc zero) z h = absurd (omega arith)
        go (suc (suc m)) z h = (m, z, refl)

    low-is : lowest (byte_at s at) ≡ low
    low-is = ap lowest (sym e) ∙ sym v

    pub second-low : second < low → 0 ≡ sequence_at s at
    unfolding sequence_at
    second-low h = rw (two-more.1, low-is, ← u, lt-leb low second h, sequence_at)

    module _ {high : ℕ} (w : high ≡ highest lead) (h : low ≤ second) where
      high_is : highest (byte_at s at) ≡ high
      high_is = ap highest (sym e) ∙ sym w

      pub second-high : high < second → 0 ≡ sequence_at s at
      unfolding sequence_at
      second-high k = rw (two-more.1, low-is, high_is, ← u, le-leb low second h, lt-leb second high k, sequence_at)

    module _ {high : ℕ} (w : high ≡ highest lead) (h : low ≤ second) (k : second ≤ high) where
      rest : (m : ℕ) (b : Bool) → n ≡ suc (suc m) → continued m s (at + 2) ≡ b
          → sequence_at s at ≡ elim b [ true ↦ m + 2 | false ↦ 0 ]
      unfolding sequence_at
      rest m b z c =
          let z' : promised (byte_at s at) ≡ suc (suc m) = q ∙ z in
          rw (z', low-is, high_is w h, ← u, le-leb low second h, le-leb second high k, c, sequence_at)

      pub sequence-2 : n ≡ 2 → 2 ≡ sequence_at s at
      unfolding continued
      sequence-2 z = sym (rest 0 true z refl)

      -- a byte behind the second one is tested
      after-2 : (b : Bool) → continues (byte_at s (at + 2)) ≡ b → (m : ℕ) → n ≡ suc (suc (suc m))
          → continued (suc m) s (at + 2) ≡ elim b [ true ↦ continued m s (at + 2 + 1) | false ↦ false ]
      unfolding continued
      after-2 b c m z = rw (c, continued)

      module _ {third : ℕ} (t : third ≡ byte_at s (at + 2)) (n2 : n ≡ 2 → ⊥) where
        three-more : (m : ℕ) × (n ≡ suc (suc (suc m))) × (m ≤ 1)
        three-more = go n refl
          where
            go : (j : ℕ) → n ≡ j → (m : ℕ) × (n ≡ suc (suc (suc m))) × (m ≤ 1)
            go zero y = absurd (omega arith)
            go (suc zero) y = absurd (omega arith)
            go (suc (suc zero)) y = absurd (n2 y)
            go (suc (suc (suc m))) y = (m, y, omega (arith, promised-le lead))

        pub third-bad : {f : Bool} → f ≡ continues third → f ≡ false → 0 ≡ sequence_at s at
        third-bad i f =
            let c : continues (byte_at s (at + 2)) ≡ false = rw (← t) (sym i ∙ f) in
            let (m, y, b) = three-more in
            sym (rest (suc m) false y (after-2 false c m y))

        module _ {f : Bool} (i : f ≡ continues third) (good : f ≡ true) where
          c : continues (byte_at s (at + 2)) ≡ true
          c = rw (← t) (sym i ∙ good)

          pub sequence-3 : n ≡ 3 → 3 ≡ sequence_at s at
          unfolding continued
          sequence-3 z = sym (rest 1 true z (after-2 true c 0 z))

          module _ {fourth : ℕ} (x : fourth ≡ byte_at s (at + 3)) (n3 : n ≡ 3 → ⊥) where
            four : n ≡ 4
            four = let (m, y, b) = three-more in omega arith

            at-3 : byte_at s (at + 2 + 1) ≡ fourth
            at-3 = let z : at + 2 + 1 ≡ at + 3 = omega arith in rw z (sym x)

            last : (b : Bool) → continues fourth ≡ b → continued 2 s (at + 2) ≡ b
            unfolding continued
            last true d = after-2 true c 1 four ∙ rw (at-3, d, continued)
            last false d = after-2 true c 1 four ∙ rw (at-3, d, continued)

            pub fourth-bad : {g : Bool} → g ≡ continues fourth → g ≡ false → 0 ≡ sequence_at s at
            fourth-bad j z = sym (rest 2 false four (last false (sym j ∙ z)))

            pub sequence-4 : {g : Bool} → g ≡ continues fourth → g ≡ true → 4 ≡ sequence_at s at
            sequence-4 j z = sym (rest 2 true four (last true (sym j ∙ z)))

-- ---- a block of ASCII

pub block-ascii : {s : List ℕ} {at : ℕ} {Says : ℕ → Bool → Type 0} {r : Bool} → BlockPasses block_size Says s at r
    → ((b : ℕ) → Says b true → b < 128) → BlockIs s at r
block-ascii {s} {at} k low = record {
  fits = k.fits;
  all = λ e i l. rw (get_d_any s (at + i) 0 256 (omega (arith, k.fits e))) at (low (get_or s (at + i) 0) (k.all e i l));
}

-- ---- how far a text is well-formed

module _ (s : List ℕ) where
  one_more : (at : ℕ) → (sequence_at s at ≡ 0 → ⊥) → formed_from s at ≡ formed_from s (at + sequence_at s at)
  unfolding formed_from
  one_more at z =
      skip-on _ _ (length s) (sequence-moves s) (length s) at (omega arith) (lt-ltb 0 (sequence_at s at) (omega (arith, z)))

  ascii-sequence : (at : ℕ) → byte_at s at < 128 → sequence_at s at ≡ 1
  unfolding sequence_at promised
  ascii-sequence at h = rw (le-leb (byte_at s at) 127 (omega arith), promised, sequence_at)

  ascii_more : (at n : ℕ) → AllAscii s at n → formed_from s at ≡ formed_from s (at + n)
  ascii_more at zero all = let e : at + 0 ≡ at = omega arith in rw e
  ascii_more at (suc n) all =
      let one : sequence_at s (at + n) ≡ 1 = ascii-sequence (at + n) (all n (omega arith)) in
      let e : at + n + 1 ≡ at + suc n = omega arith in
      ascii_more at n (λ i l. all i (omega arith)) ∙ one_more (at + n) (λ z. omega arith) ∙ rw (one, e)

module _ {s : List ℕ} {at : ℕ} where
  pub well-block : {f : Bool} → BlockIs s at f → f ≡ true → WellFormedIs s at block_size
  well-block b e = record {
    none = λ z. absurd (omega arith);
    some = λ _ _. ascii_more s at block_size (b.all e);
    near = λ _. omega (arith, b.fits e);
    small = omega arith;
  }

  pub well-sequence : {n : ℕ} → n ≡ sequence_at s at → n ≤ 4 → WellFormedIs s at n
  well-sequence e l = record {
    none = λ z. sym e ∙ z;
    some = λ z _. one_more s at (λ q. z (e ∙ q)) ∙ rw (← e);
    near = λ h. omega arith;
    small = omega arith;
  }

pub ruleset wells = (arith, well-block, well-sequence)

-- ---- the loop over a whole text

-- what the loop keeps: the first ill-formed place is still to come, and the place is not far past the end
pub record Formed (s : List ℕ) (at : ℕ) : Type 0 where
  pub near : at ≤ 32772
  pub still : well_formed_end s ≡ formed_from s at

pub formed-start : {s : List ℕ} → Formed s 0
unfolding well_formed_end formed_from
formed-start {s} = record { near = omega arith; still = refl }

module _ {s : List ℕ} {at : ℕ} (f : Formed s at) where
  pub formed-more : {n : ℕ} → at < length s → length s ≤ max_document → WellFormedIs s at n → (n ≡ 0 → ⊥) → Formed s (at + n)
  formed-more {n} h b w z = record { near = omega (arith, w.near h); still = f.still ∙ w.some z h }

  ends : sequence_at s at ≡ 0 → well_formed_end s ≡ at
  unfolding formed_from
  ends e = f.still ∙ skip-off _ _ (length s) (sequence-moves s) (length s) at (rw e)

  pub formed-bad : {n : ℕ} → at < length s → WellFormedIs s at n → n ≡ 0 → Some (doc at) ≡ ill_at (ill_formed s)
  unfolding ill_formed
  formed-bad h w z =
      let q : well_formed_end s ≡ at = ends (w.none z) in
      rw (lt-ltb (well_formed_end s) (length s) (omega arith), ill_formed) (ap (λ p. Some (doc p)) (sym q))

  pub formed-end : length s ≤ at → None ≡ ill_at (ill_formed s)
  unfolding ill_formed
  formed-end h = rw (ends (sequence-past s at h), le-ltb at (length s) h, ill_formed)

pub ruleset formed = (formed-start, formed-more, formed-bad, formed-end)

pub ruleset bytes = (byte-in, byte-out)

pub ruleset continuations = (continues-low, continues-else)

pub ruleset lowests = (lowest-3, lowest-4, lowest-any)

pub ruleset highests = (highest-3, highest-4, highest-any)

pub ruleset promises = (promised-1, promised-none, promised-2, promised-3, promised-4, promised-past)

pub ruleset sequences = (arith, sequence-short, second-low, second-high, sequence-2, third-bad, sequence-3, fourth-bad, sequence-4)
