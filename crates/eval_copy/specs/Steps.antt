-- One step of the model: into an array or object, and from member to member.
use Rattle.std.specs.Prelude.{◌≡◌, refl, ℕ, zero, suc, ◌+◌, ◌-◌, ◌≤◌, ◌<◌, max, Bool, false, List, [], ◌∷◌, ◌++◌, length, get_or, take, drop, eqb}
use Rattle.std.proofs.Common.{sym, ap, ◌∙◌, arith, drop-cons, lt-ltb, le-leb}
use Rattle.std.proofs.lemmas.Bool.{lt-leb}
use Rattle.rules.specs.Sheet.{two}
use Rattle.sheet_kept.specs.InTurn.{extent}
use Rattle.sheet_runs.specs.Clauses.{AllPlain}
use Rattle.sheet_forms.specs.Model.{shape_of, pair_c, members_c}
use Rattle.eval_writer.specs.Copies.Model.{Act, act, then, under, copy_k, plain_c}
use Rattle.eval_copy.specs.Model.{copy_m, copy_ms, copy_h, copy_v}

pub held-step : (n : ℕ) (T s : List ℕ) (tb k p t : ℕ) → (n ≡ 0 → ⊥)
    → copy_h n T s tb k p t ≡ under (then (act (k ∷ two (pair_c s (p + 1))) [] (p + 3)) (copy_ms (λ q u. copy_v (n - 1) T s tb q u) T s (eqb k 7) (members_c s p) (p + 3) t))
unfolding copy_h copy_v
held-step zero T s tb k p t z = absurd (z refl)
held-step (suc n) T s tb k p t z =
    let e : n ≡ suc n - 1 = omega arith in
    ap (λ (m : ℕ). under (then (act (k ∷ two (pair_c s (p + 1))) [] (p + 3)) (copy_ms (λ q u. copy_v m T s tb q u) T s (eqb k 7) (members_c s p) (p + 3) t))) e

pub members_step : (val : ℕ → ℕ → Act) (T s : List ℕ) (keyed : Bool) (left p t : ℕ) → 0 < left → p < length s
    → copy_ms val T s keyed left p t
    ≡ then (copy_m val T s keyed p t) (copy_ms val T s keyed (left - 1) (copy_m val T s keyed p t).next (t + extent (copy_m val T s keyed p t).ws))
unfolding copy_ms
members_step val T s keyed zero p t h l = absurd (omega arith)
members_step val T s keyed (suc m) p t h l =
    let e : m ≡ suc m - 1 = omega arith in
    rw (lt-leb (length s) p l) (ap (λ (j : ℕ). then (copy_m val T s keyed p t) (copy_ms val T s keyed j (copy_m val T s keyed p t).next (t + extent (copy_m val T s keyed p t).ws))) e)

-- a run of elements of one byte each
run_step : (val : ℕ → ℕ → Act) (T s : List ℕ) (k left p t : ℕ) → k ≤ left → p + k ≤ length s → ((q u : ℕ) → p ≤ q → q < p + k → val q u ≡ plain_c (get_or s q 0) q)
    → copy_ms val T s false left p t ≡ then (act (take k (drop p s)) [] (p + k)) (copy_ms val T s false (left - k) (p + k) t)
unfolding copy_m copy_k plain_c extent
run_step val T s zero left p t l h a =
    let R = copy_ms val T s false left p t in
    let e : left ≡ left - 0 = omega arith in
    let f : p ≡ p + 0 = omega arith in
    let g : R.deep ≡ max 0 R.deep = omega arith in
    ap (λ (d : ℕ). record { xs = R.xs; ws = R.ws; next = R.next; deep = d }) g
    ∙ ap (λ (c : ℕ). then (act [] [] p) (copy_ms val T s false c p t)) e
    ∙ ap (λ (q : ℕ). then (act [] [] q) (copy_ms val T s false (left - 0) q t)) f
run_step val T s (suc k) left p t l h a =
    let b = get_or s p 0 in
    let xs = take k (drop (suc p) s) in
    let v : val p (t + 0) ≡ act (b ∷ []) [] (p + 1) = a p (t + 0) (omega arith) (omega arith) in
    let M = copy_m val T s false p t in
    let m : M ≡ act (b ∷ []) [] (p + 1) = ap (λ (q : Act). then (act [] [] p) q) v in
    let R = copy_ms val T s false (left - suc k) (p + suc k) t in
    let z : t + 0 ≡ t = omega arith in
    let i : p + 1 ≡ suc p = omega arith in
    let j : suc p + k ≡ p + suc k = omega arith in
    let c : left - 1 - k ≡ left - suc k = omega arith in
    let d : max 0 (max 0 R.deep) ≡ max 0 R.deep = omega arith in
    let y : take (suc k) (drop p s) ≡ b ∷ xs = ap (take (suc k)) (drop-cons s p 0 (omega arith)) in
    let ih : copy_ms val T s false (left - 1) (suc p) t ≡ then (act xs [] (p + suc k)) R =
    run_step val T s k (left - 1) (suc p) t (omega arith) (omega arith) (λ q u n o. a q u (omega arith) (omega arith))
    ∙ ap (λ (n : ℕ). then (act xs [] (suc p + k)) (copy_ms val T s false n (suc p + k) t)) c
    ∙ ap (λ (q : ℕ). then (act xs [] q) (copy_ms val T s false (left - suc k) q t)) j in
    members_step val T s false left p t (omega arith) (omega arith)
    ∙ ap (λ (q : Act). then q (copy_ms val T s false (left - 1) q.next (t + extent q.ws))) m
    ∙ ap (λ (u : ℕ). then (act (b ∷ []) [] (p + 1)) (copy_ms val T s false (left - 1) (p + 1) u)) z
    ∙ ap (λ (q : ℕ). then (act (b ∷ []) [] q) (copy_ms val T s false (left - 1) q t)) i
    ∙ ap (then (act (b ∷ []) [] (suc p))) ih
    ∙ ap (λ (n : ℕ). record { xs = b ∷ (xs ++ R.xs); ws = R.ws; next = R.next; deep = n }) d
    ∙ ap (λ (ys : List ℕ). then (act ys [] (p + suc k)) R) (sym y)

pub members_run : (n : ℕ) (T s : List ℕ) (tb : ℕ) (keyed : Bool) (k left p t : ℕ) → k ≤ left → (0 < k → p + k ≤ length s) → (0 < k → keyed ≡ false) → AllPlain s p (p + k)
    → copy_ms (λ q u. copy_v n T s tb q u) T s keyed left p t
    ≡ then (act (take k (drop p s)) [] (p + k)) (copy_ms (λ q u. copy_v n T s tb q u) T s keyed (left - k) (p + k) t)
unfolding copy_v shape_of
members_run n T s tb keyed zero left p t l h e a =
    let R = copy_ms (λ q u. copy_v n T s tb q u) T s keyed left p t in
    let d : left ≡ left - 0 = omega arith in
    let f : p ≡ p + 0 = omega arith in
    let g : R.deep ≡ max 0 R.deep = omega arith in
    ap (λ (m : ℕ). record { xs = R.xs; ws = R.ws; next = R.next; deep = m }) g
    ∙ ap (λ (c : ℕ). then (act [] [] p) (copy_ms (λ q u. copy_v n T s tb q u) T s keyed c p t)) d
    ∙ ap (λ (q : ℕ). then (act [] [] q) (copy_ms (λ q u. copy_v n T s tb q u) T s keyed (left - 0) q t)) f
members_run n T s tb keyed (suc k) left p t l h e a =
    rw (e (omega arith)) (run_step (λ q u. copy_v n T s tb q u) T s (suc k) left p t l (h (omega arith)) (λ q u i j. rw (lt-ltb (get_or s q 0) 4 (a q i j))))

pub members-cut : (val : ℕ → ℕ → Act) (T s : List ℕ) (keyed : Bool) (left p t : ℕ) → length s ≤ p → copy_ms val T s keyed left p t ≡ act [] [] p
unfolding copy_ms
members-cut val T s keyed zero p t h = refl
members-cut val T s keyed (suc m) p t h = rw (le-leb (length s) p h)
