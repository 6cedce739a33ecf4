-- Loops that move bytes inside one buffer.
use mathlib.Core.Path.{◌≡◌, refl, sym, ap, ◌∙◌}
use mathlib.Core.List.{List, [], ◌∷◌, ◌++◌, append_assoc}
use Prim.Native.Nat.{ℕ, suc, ◌+◌, ◌-◌, ◌^◌, ◌≤◌, ◌<◌}
use native.Mathlib.Omega.{arith}
use lib.ListN.{length, get_or, set, take, drop, length-set, length-append, take-append-drop}
use lib.Seq.{take-suc, take_at, get_or-take, get_or-drop, get_or-append-add, drop-append-le, drop-cons, set_at, length-take-le}
use lib.Seq.{slice, slice_empty, slice-cons, length-slice}
use Rattle.table_moves.specs.Clauses.{Moved}

-- ---- up, from the last byte on

-- those from i on are moved
pub record UpLoop (from to n : ℕ) (before s : List ℕ) (i : ℕ) : Type 0 where
  pub left : i ≤ n
  pub is : s ≡ take (to + i) before ++ (slice (from + i) (from + n) before ++ drop (to + n) before)
  pub kept : length s ≡ length before

pub up_start : {from to n : ℕ} {b : List ℕ} → UpLoop from to n b b n
up_start {from} {to} {n} {b} = record {
  left = omega arith;
  is = rw (slice_empty (from + n) b) (sym (take-append-drop (to + n) b));
  kept = refl;
}

-- a byte in front of what was moved is as it was
front-byte : (b x s : List ℕ) (j n : ℕ) → s ≡ take n b ++ x → n ≤ length b → j < n → get_or s j 0 ≡ get_or b j 0
front-byte b x s j n e l h =
    sym (get_or-take n s j 0 h) ∙ ap (λ (q : List ℕ). get_or (take n q) j 0) e
    ∙ ap (λ (q : List ℕ). get_or q j 0) (take_at (take n b) x n (length-take-le n b l)) ∙ get_or-take n b j 0 h

-- one byte more in front of what was moved
store-front : (b x s : List ℕ) (n a : ℕ) → n < length b → s ≡ take (suc n) b ++ x → set s n a ≡ take n b ++ (a ∷ x)
store-front b x s n a h e =
    ap (λ (q : List ℕ). set q n a) (e ∙ ap (λ (q : List ℕ). q ++ x) (take-suc b n 0 h) ∙ append_assoc (take n b) (get_or b n 0 ∷ []) x)
    ∙ set_at (take n b) (get_or b n 0) x a n (length-take-le n b (omega arith))

module _ {from to n : ℕ} {b s : List ℕ} {i : ℕ} (I : UpLoop from to n b s i) where
  pub up_turn : 0 < i → from ≤ to → to + n ≤ length b → UpLoop from to n b (set s (to + (i - 1)) (get_or s (from + (i - 1)) 0)) (i - 1)
  up_turn h up fits =
      let j = i - 1 in
      let inside : to + i ≤ length b = omega (arith, I.left) in
      let at : suc (to + j) ≡ to + i = omega arith in
      let next : suc (from + j) ≡ from + i = omega arith in
      let x = slice (from + i) (from + n) b ++ drop (to + n) b in
      let whole : s ≡ take (suc (to + j)) b ++ x = rw at I.is in
      let byte : get_or s (from + j) 0 ≡ get_or b (from + j) 0 =
      front-byte b x s (from + j) (suc (to + j)) whole (omega arith) (omega arith) in
      let part : slice (from + j) (from + n) b ≡ get_or b (from + j) 0 ∷ slice (from + i) (from + n) b =
      slice-cons (from + j) (from + n) b 0 (omega (arith, I.left)) (omega (arith, I.left))
      ∙ ap (λ (m : ℕ). get_or b (from + j) 0 ∷ slice m (from + n) b) next in
      record {
        left = omega (arith, I.left);
        is = store-front b x s (to + j) (get_or s (from + j) 0) (omega arith) whole ∙ rw (byte, part) refl;
        kept = length-set s (to + j) (get_or s (from + j) 0) ∙ I.kept;
      }

  pub up_done : i ≤ 0 → Moved from to n b s
  up_done h =
      let first : from + i ≡ from = omega arith in
      let there : to + i ≡ to = omega arith in
      record {
        is = I.is ∙ ap (λ (m : ℕ). take m b ++ (slice (from + i) (from + n) b ++ drop (to + n) b)) there
            ∙ ap (λ (m : ℕ). take to b ++ (slice m (from + n) b ++ drop (to + n) b)) first;
        kept = I.kept;
      }

  -- what the code asks on the way
  pub up_from : 0 < i → from ≤ to → to + n ≤ length b → length b < 2 ^ 64 → from + (i - 1) < 2 ^ 64
  up_from h up fits l = omega (arith, I.left)

  pub up_to : 0 < i → to + n ≤ length b → length b < 2 ^ 64 → to + (i - 1) < 2 ^ 64
  up_to h fits l = omega (arith, I.left)

  pub up-read : 0 < i → from ≤ to → to + n ≤ length b → from + (i - 1) < length s
  up-read h up fits = omega (arith, I.left, I.kept)

  pub up-write : 0 < i → to + n ≤ length b → to + (i - 1) < length s
  up-write h fits = omega (arith, I.left, I.kept)

  pub up_kept : length s ≡ length b
  up_kept = I.kept

pub ruleset ups = (up_start, up_turn, up_done, up_from, up_to, up-read, up-write, up_kept)

-- ---- down, from the first byte on

-- the first i are moved
pub record DownLoop (from to n : ℕ) (before s : List ℕ) (i : ℕ) : Type 0 where
  pub left : i ≤ n
  pub moved : Moved from to i before s

pub down-start : {from to n : ℕ} {b : List ℕ} → DownLoop from to n b b 0
down-start {from} {to} {n} {b} =
    let first : from + 0 ≡ from = omega arith in
    let there : to + 0 ≡ to = omega arith in
    record {
      left = omega arith;
      moved = record { is = rw (first, there, slice_empty from b) (sym (take-append-drop to b)); kept = refl };
    }

-- one byte more of a slice
slice-more : (b : List ℕ) (from i : ℕ) → from ≤ i → i < length b → slice from (suc i) b ≡ slice from i b ++ (get_or b i 0 ∷ [])
slice-more b from i h k =
    ap (drop from) (take-suc b i 0 k) ∙ drop-append-le from (take i b) (get_or b i 0 ∷ []) (rw (length-take-le i b (omega arith)) h)

-- a byte behind what was moved is as it was
behind-byte : (p b s : List ℕ) (i n : ℕ) → s ≡ p ++ drop n b → length p ≡ n → n ≤ i → get_or s i 0 ≡ get_or b i 0
behind-byte p b s i n e l h =
    let k = i - n in
    let there : n + k ≡ i = omega arith in
    ap (λ (q : List ℕ). get_or q i 0) e ∙ ap (λ (m : ℕ). get_or (p ++ drop n b) m 0) (sym there)
    ∙ ap (λ (m : ℕ). get_or (p ++ drop n b) (m + k) 0) (sym l) ∙ get_or-append-add p (drop n b) k 0 ∙ get_or-drop n b k 0
    ∙ ap (λ (m : ℕ). get_or b m 0) there

-- one byte more behind what was moved
store-behind : (p b s : List ℕ) (n a : ℕ) → n < length b → length p ≡ n → s ≡ p ++ drop n b → set s n a ≡ p ++ (a ∷ drop (suc n) b)
store-behind p b s n a h l e =
    ap (λ (q : List ℕ). set q n a) (e ∙ ap (λ (q : List ℕ). p ++ q) (drop-cons b n 0 h)) ∙ set_at p (get_or b n 0) (drop (suc n) b) a n l

module _ {from to n : ℕ} {b s : List ℕ} {i : ℕ} (I : DownLoop from to n b s i) where
  pub down_turn : i < n → to ≤ from → from + n ≤ length b → DownLoop from to n b (set s (to + i) (get_or s (from + i) 0)) (i + 1)
  down_turn h down fits =
      let at = to + i in
      let source = from + i in
      let front = take to b in
      let so_far = slice from source b in
      let p = front ++ so_far in
      let long : length p ≡ at =
      length-append front so_far ∙ rw (length-take-le to b (omega arith), length-slice from source b (omega arith)) (omega arith) in
      let whole : s ≡ p ++ drop at b = I.moved.is ∙ sym (append_assoc front so_far (drop at b)) in
      let byte : get_or s source 0 ≡ get_or b source 0 = behind-byte p b s source at whole long (omega arith) in
      let last = get_or b source 0 ∷ [] in
      let end : from + (i + 1) ≡ suc source = omega arith in
      let more : slice from (from + (i + 1)) b ≡ so_far ++ last =
      ap (λ (m : ℕ). slice from m b) end ∙ slice-more b from source (omega arith) (omega arith) in
      let rest : suc at ≡ to + (i + 1) = omega arith in
      record {
        left = omega arith;
        moved = record {
          is = store-behind p b s at (get_or s source 0) (omega arith) long whole
              ∙ ap (λ (a : ℕ). p ++ (a ∷ drop (suc at) b)) byte
              ∙ append_assoc front so_far (last ++ drop (suc at) b)
              ∙ ap (λ (q : List ℕ). front ++ q) (sym (append_assoc so_far last (drop (suc at) b))
              ∙ ap (λ (q : List ℕ). q ++ drop (suc at) b) (sym more)
              ∙ ap (λ (m : ℕ). slice from (from + (i + 1)) b ++ drop m b) rest);
          kept = length-set s at (get_or s source 0) ∙ I.moved.kept;
        };
      }

  pub down-done : n ≤ i → Moved from to n b s
  down-done h = let e : i ≡ n = omega (arith, I.left) in rw (← e) I.moved

  pub down-from : i < n → from + n ≤ length b → length b < 2 ^ 64 → from + i < 2 ^ 64
  down-from h fits l = omega arith

  pub down_to : i < n → to ≤ from → from + n ≤ length b → length b < 2 ^ 64 → to + i < 2 ^ 64
  down_to h down fits l = omega arith

  pub down-read : i < n → from + n ≤ length b → from + i < length s
  down-read h fits = omega (arith, I.moved.kept)

  pub down-write : i < n → to ≤ from → from + n ≤ length b → to + i < length s
  down-write h down fits = omega (arith, I.moved.kept)

  pub down-kept : length s ≡ length b
  down-kept = I.moved.kept

pub ruleset downs = (down-start, down_turn, down-done, down-from, down_to, down-read, down-write, down-kept)
