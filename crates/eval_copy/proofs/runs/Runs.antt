-- Laws of copying a run.
use mathlib.Core.Path.{◌≡◌, refl, sym, ap, ◌∙◌}
use mathlib.Core.Bool.{Bool, true, false}
use mathlib.Core.List.{List, [], ◌∷◌}
use Prim.Native.Nat.{ℕ, zero, suc, ◌+◌, ◌-◌, ◌≤◌, ◌<◌, min, max}
use native.Mathlib.Omega.{arith}
use mir.Syntax.{w64}
use mir.Val.{Fits}
use lib.Dec.{ltb}
use lib.ListN.{length, set, take, drop, length-set, length-take, length-drop}
use lib.Seq.{sets, set_out, take-set-lt, take-set-le, length-take-le}
use borrow.Author.Tests.{ltb-true, ltb-false}
use Rattle.sheet_kept.specs.InTurn.{extent}
use Rattle.sheet_kept.specs.Sets.{drop-below}
use Rattle.sheet_runs.specs.Clauses.{RunIs}
use Rattle.eval_writer.specs.Model.{puts}
use Rattle.eval_writer.specs.Clauses.{Room, Puts, FilledIs}
use Rattle.eval_writer.specs.Composition.{wrote_none}
use Rattle.eval_writer.specs.Copies.Contracts.{Span}
use Rattle.eval_writer.specs.declared.copies.Copied.{Copied}
use Rattle.eval_copy.specs.Runs.Contracts.{RunOf, RunDone}

-- ---- how long a run is

pub no_run : {s : List ℕ} {keyed : Bool} {p left : ℕ} → RunOf s keyed p left 0
no_run = record { few = omega arith; bare = λ l. absurd (omega arith); lies = record { inside = λ l. absurd (omega arith) }; plain = λ i l m. absurd (omega arith) }

pub some-run : {s : List ℕ} {keyed : Bool} {p left m q : ℕ} → keyed ≡ false → m ≡ min (length s - p) left → RunIs s p (p + m) q → RunOf s keyed p left (q - p)
some-run {s} {keyed} {p} {left} {m} {q} k e r =
    record {
      few = go (ltb p q) refl;
      bare = λ l. k;
      lies = record { inside = λ l. omega (arith, r.inside (omega arith), r.low) };
      plain = λ i l n. r.plain i l (omega (arith, r.low));
    }
  where
    go : (t : Bool) → ltb p q ≡ t → q - p ≤ left
    go true d = omega (arith, r.high (ltb-true p q d))
    go false d = omega (arith, ltb-false p q d)

pub ruleset length-laws = (no_run, some-run)

-- ---- bytes that have no room are left out

take-set : (n : ℕ) (l : List ℕ) (i v : ℕ) → take n (set l i v) ≡ set (take n l) i v
take-set n l i v = go (ltb i n) refl
  where
    go : (t : Bool) → ltb i n ≡ t → take n (set l i v) ≡ set (take n l) i v
    go true e = take-set-lt n l i v (ltb-true i n e)
    go false e =
        let h = ltb-false i n e in
        take-set-le n l i v h ∙ sym (set_out (take n l) i v (omega (arith, length-take n l)))

take-sets-in : (n : ℕ) (l : List ℕ) (i : ℕ) (xs : List ℕ) → take n (sets l i xs) ≡ sets (take n l) i xs
take-sets-in n l i [] = refl
take-sets-in n l i (x ∷ xs) = take-sets-in n (set l i x) (suc i) xs ∙ ap (λ (z : List ℕ). sets z (suc i) xs) (take-set n l i x)

sets-past : (l : List ℕ) (i : ℕ) (xs : List ℕ) → length l ≤ i → sets l i xs ≡ l
sets-past l i [] h = refl
sets-past l i (x ∷ xs) h =
    sets-past (set l i x) (suc i) xs (omega (arith, length-set l i x)) ∙ set_out l i x h

take_none : (k : ℕ) → take {A = ℕ} k [] ≡ []
take_none zero = refl
take_none (suc k) = refl

-- only so many of them are set as have room
sets-clip : (l : List ℕ) (i : ℕ) (xs : List ℕ) (m n : ℕ) → m ≡ min (length l - i) n → sets l i (take m xs) ≡ sets l i (take n xs)
sets-clip l i [] m n e = ap (sets l i) (take_none m ∙ sym (take_none n))
sets-clip l i (x ∷ xs) zero zero e = refl
sets-clip l i (x ∷ xs) (suc m) zero e = absurd (omega arith)
sets-clip l i (x ∷ xs) zero (suc n) e = sym (sets-past l i (x ∷ take n xs) (omega arith))
sets-clip l i (x ∷ xs) (suc m) (suc n) e = sets-clip (set l i x) (suc i) xs m n (omega (arith, length-set l i x))

module _ {b : List ℕ} {p : ℕ} (f n : ℕ) (s : List ℕ) where
  pub run_past : Room b → 16384 ≤ p → Puts p (take n (drop f s)) b b
  run_past r h =
      let l : length (take 16384 b) ≤ p = omega (arith, length-take-le 16384 b (omega arith)) in
      record { records = sym (sets-past (take 16384 b) p (take n (drop f s)) l); texts = refl }

  pub run-put : {m : ℕ} {a : List ℕ} → Room b → p < 16384 → m ≡ min (16384 - p) n → FilledIs p s f m b a → Puts p (take n (drop f s)) b a
  run-put {m} {a} r h e w =
      let z = length-take-le 16384 b (omega arith) in
      let k = length-take m (drop f s) in
      record {
        records = ap (take 16384) w.is ∙ take-sets-in 16384 b p (take m (drop f s)) ∙ sets-clip (take 16384 b) p (drop f s) m n (omega arith);
        texts = ap (drop 16384) w.is ∙ drop-below 16384 b p (take m (drop f s)) (omega arith);
      }

pub ruleset put-laws = (run_past, run-put)

-- ---- the copy

pub none-copied : {s : List ℕ} {keyed : Bool} {left n before g : ℕ} {c : Copied} {b : List ℕ} → g ≡ max before c.deep → RunOf s keyed c.next.0 left n → n ≡ 0 → Span s c.next.0 c.out → c.next.0 ≤ length s + 10
    → RunDone s keyed left before c (record { next = c.next; out = c.out; deep = g }) b b
none-copied {s} {keyed} {left} {n} {before} {g} {c} {b} d u e p l =
    record { n = n; of = u; is = record { is = rw e wrote_none; next = omega arith; deep = d; span = p; far = l }; low = omega arith }

pub run-copied : {s : List ℕ} {keyed : Bool} {left n before g : ℕ} {c : Copied} {b a : List ℕ} → g ≡ max before c.deep → RunOf s keyed c.next.0 left n → (n ≡ 0 → ⊥) → Span s c.next.0 c.out
    → Puts c.out.rec.0 (take n (drop c.next.0 s)) b a
    → RunDone s keyed left before c (record {
      next = record { 0 = c.next.0 + n };
      out = record { rec = record { 0 = c.out.rec.0 + n }; text = c.out.text };
      deep = g;
    }) b a
unfolding puts extent
run-copied {s} {keyed} {left} {n} {before} {g} {c} {b} {a} d u z q w =
    let h = u.lies.inside (pos n z) in
    let k : length (take n (drop c.next.0 s)) ≡ n = length-take-le n (drop c.next.0 s) (omega (arith, length-drop c.next.0 s)) in
    record {
      n = n;
      of = u;
      is = record {
        is = record { records = w.records; texts = w.texts; rec = omega arith; text = omega arith };
        next = refl;
        deep = d;
        span = record { rec = omega (arith, q.rec); text = omega (arith, q.text); bytes = q.bytes };
        far = omega arith;
      };
      low = omega arith;
    }
  where
    pos : (n : ℕ) → (n ≡ 0 → ⊥) → 0 < n
    pos zero z = absurd (z refl)
    pos (suc n) z = omega arith

pub run_lies : {s : List ℕ} {keyed : Bool} {p left n : ℕ} → (n ≡ 0 → ⊥) → RunOf s keyed p left n → p + n ≤ length s
run_lies {s} {keyed} {p} {left} {n} z i = i.lies.inside (pos n z)
  where
    pos : (n : ℕ) → (n ≡ 0 → ⊥) → 0 < n
    pos zero z = absurd (z refl)
    pos (suc n) z = omega arith

pub next_fits : {s : List ℕ} {keyed : Bool} {left n : ℕ} (c : Copied) → Span s c.next.0 c.out → (n ≡ 0 → ⊥) → RunOf s keyed c.next.0 left n → Fits w64 (c.next.0 + n)
next_fits c q z i = record { fits = omega (arith, q.bytes, run_lies z i) }

pub out-fits : {s : List ℕ} {keyed : Bool} {left n : ℕ} (c : Copied) → Span s c.next.0 c.out → (n ≡ 0 → ⊥) → RunOf s keyed c.next.0 left n → Fits w64 (c.out.rec.0 + n)
out-fits c q z i = record { fits = omega (arith, q.rec, q.bytes, run_lies z i) }

pub ruleset copy-laws = (none-copied, run-copied, run_lies, next_fits, out-fits)
