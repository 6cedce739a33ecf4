-- Laws of the loops over the records of a room.
use mathlib.Core.Path.{◌≡◌, refl, sym, ap, ◌∙◌}
use Prim.Native.Nat.{ℕ, zero, suc, ◌+◌, ◌-◌, ◌*◌, ◌≤◌, ◌<◌}
use mathlib.Core.Bool.{Bool, true, false, cond}
use mathlib.Core.List.{List, [], ◌++◌}
use native.Mathlib.Omega.{arith}
use mir.Val.{Fits}
use mir.Syntax.{w64}
use lib.ListN.{length, take, drop, length-drop}
use lib.Seq.{sets, length-sets, length-take-le}
use Rattle.sheet_kept.specs.Sets.{sets-append}
use Rattle.sheet_forms.specs.Model.{code_of, size_of, text_len_of}
use Rattle.sheet_forms.specs.Clauses.{RecordIs, SizeIs, TextLenIs}
use Rattle.sheet_forms.specs.Sheet.{code-size}
use Rattle.sheet_layout.specs.Model.{lays_by, lays, eq_at}
use Rattle.sheet_layout.specs.Clauses.{StoreIs, SameIs, RunLaidIs, LayIs, SameRecordsIs}
use Rattle.sheet_layout.specs.Compared.{eq_at-append}
use Rattle.sheet_layout.specs.Sheet.{lays_more, lays-none, laid-is, same-is}
use Rattle.sheet_forms.specs.declared.Form.{Form}
use Rattle.sheet_forms.specs.declared.Record.{Record}
use Rattle.sheet_layout.proofs.Runs.{lays-run, run-upto}

-- what is laid so far and what is still to lay come to the same; the same for comparing
pub record Going {A : Type 0} (f : List ℕ → ℕ → List ℕ → A) (form : Form) (b₀ s : List ℕ) (len t₀ : ℕ) (b : List ℕ) (p t : ℕ) : Type 0 where
  pub fuel : ℕ
  pub enough : len - p ≤ fuel
  pub is : f b₀ 0 (lays form len s len 0 t₀) ≡ f b p (lays form fuel s len p t)
  pub low : p ≤ len
  pub text : t ≤ t₀ + 65535 * p
  pub size : length b ≡ length b₀

pub going_start : {A : Type 0} {f : List ℕ → ℕ → List ℕ → A} {form : Form} {b s : List ℕ} {len t : ℕ} → Going f form b s len t b 0 t
going_start {A} {f} {form} {b} {s} {len} {t} = record { fuel = len; enough = omega arith; is = refl; low = omega arith; text = omega arith; size = refl }

-- a run more
lay-run : {form : Form} {b₀ s : List ℕ} {len t₀ : ℕ} {b : List ℕ} {p t : ℕ} → len ≤ length s → Going sets form b₀ s len t₀ b p t
    → {q : ℕ} {a : List ℕ} → RunLaidIs s len p q b a → Going sets form b₀ s len t₀ a q t
lay-run {form} {b₀} {s} {len} {t₀} {b} {p} {t} l I {q} {a} u =
    let low = u.run.low in
    let high : q ≤ len = run-upto u.run I.low in
    let k = q - p in
    let xs = take k (drop p s) in
    let rest = lays form (I.fuel - k) s len q t in
    let e : p + k ≡ q = omega arith in
    let c : p + length xs ≡ q = omega (arith, length-take-le k (drop p s) (omega (arith, length-drop p s))) in
    record {
      fuel = I.fuel - k;
      enough = omega (arith, I.enough);
      is =
          I.is
          ∙ ap (sets b p) (lays-run form s len k I.fuel p t (omega (arith, I.enough)) (omega arith) l (λ i x y. u.run.plain i x (omega arith)))
          ∙ ap (λ (i : ℕ). sets b p (xs ++ lays form (I.fuel - k) s len i t)) e
          ∙ sets-append b p xs rest
          ∙ ap (λ (x : List ℕ). sets x (p + length xs) rest) (sym u.is)
          ∙ ap (λ (i : ℕ). sets a i rest) c;
      low = high;
      text = omega (arith, I.text);
      size = ap length u.is ∙ length-sets b p xs ∙ I.size;
    }

module _ {form : Form} {s : List ℕ} {len p t : ℕ} {r : Record} (h : RecordIs form s len p t r) {n : ℕ} (e : SizeIs r n) where
  no_more : n ≡ 0 → (f : ℕ) → lays form f s len p t ≡ []
  unfolding lays
  no_more z zero = refl
  no_more z (suc f) = ap (lays_by (λ q u. lays form f s len q u) p t) (sym h.is) ∙ lays-none (λ q u. lays form f s len q u) p t r (sym e.is ∙ z)

  one_more : (n ≡ 0 → ⊥) → (m : ℕ) → TextLenIs r m → (f : ℕ) → lays form (suc f) s len p t ≡ code_of r ++ lays form f s len (p + n) (t + m)
  unfolding lays
  one_more z m k f =
      ap (lays_by (λ q u. lays form f s len q u) p t) (sym h.is)
      ∙ lays_more (λ q u. lays form f s len q u) p t r (λ q. z (e.is ∙ q))
      ∙ rw (e.is, k.is)

  module _ {A : Type 0} {f : List ℕ → ℕ → List ℕ → A} {b₀ : List ℕ} {t₀ : ℕ} {b : List ℕ} (I : Going f form b₀ s len t₀ b p t) where
    pub going-room : len ≤ length b₀ → p + size_of r ≤ length b
    going-room l = omega (arith, h.fits I.low, I.size)

    pub going-fits : len ≤ 65536 → Fits w64 (p + n)
    going-fits l = omega (arith, h.fits I.low, e.is)

    pub going_less : (n ≡ 0 → ⊥) → len - (p + n) < len - p
    going_less z = omega (arith, h.fits I.low, pos n z, e.is)
      where
        pos : (n : ℕ) → (n ≡ 0 → ⊥) → 1 ≤ n
        pos zero z = absurd (z refl)
        pos (suc n) z = omega arith

    going_step : (n ≡ 0 → ⊥) → (b' : List ℕ) (m : ℕ) → TextLenIs r m → length b' ≡ length b
        → ((xs : List ℕ) → f b p (code_of r ++ xs) ≡ f b' (p + length (code_of r)) xs) → Going f form b₀ s len t₀ b' (p + n) (t + m)
    going_step z b' m k l g = go I.fuel I.enough I.is (going_less z) (h.fits I.low)
      where
        go : (w : ℕ) → len - p ≤ w → f b₀ 0 (lays form len s len 0 t₀) ≡ f b p (lays form w s len p t) → len - (p + n) < len - p → p + size_of r ≤ len → Going f form b₀ s len t₀ b' (p + n) (t + m)
        go zero o q d y = absurd (omega arith)
        go (suc w) o q d y =
            let c : p + length (code_of r) ≡ p + n = omega (arith, code-size r, e.is) in
            record {
              fuel = w;
              enough = omega arith;
              is = q ∙ ap (f b p) (one_more z m k w) ∙ g (lays form w s len (p + n) (t + m)) ∙ ap (λ (i : ℕ). f b' i (lays form w s len (p + n) (t + m))) c;
              low = omega (arith, e.is);
              text = omega (arith, I.text, k.small, pos n z);
              size = l ∙ I.size;
            }
          where
            pos : (n : ℕ) → (n ≡ 0 → ⊥) → 1 ≤ n
            pos zero z = absurd (z refl)
            pos (suc n) z = omega arith

  module _ {b₀ : List ℕ} {t₀ : ℕ} {b : List ℕ} (inside : len ≤ length s) (room : len ≤ length b₀) where
    pub lay-end : Going sets form b₀ s len t₀ b p t → n ≡ 0 → LayIs form s len t₀ b₀ b
    lay-end I z =
        let i : b ≡ sets b₀ 0 (lays form len s len 0 t₀) = sym (I.is ∙ ap (sets b p) (no_more z I.fuel)) in
        record { is = i; laid = λ key v k. i ∙ laid-is key v s len k inside form t₀ b₀ room }

  module _ {b₀ : List ℕ} {t₀ : ℕ} {b : List ℕ} where
    pub lay_step : Going sets form b₀ s len t₀ b p t → (n ≡ 0 → ⊥) → {b' : List ℕ} → StoreIs p r b b' → {m : ℕ} → TextLenIs r m → Going sets form b₀ s len t₀ b' (p + n) (t + m)
    lay_step I z {b'} w {m} k =
        going_step I z b' m k (ap length w.is ∙ length-sets b p (code_of r))
        (λ xs. sets-append b p (code_of r) xs ∙ ap (λ (x : List ℕ). sets x (p + length (code_of r)) xs) (sym w.is))

    -- the record, and a run behind it
    module _ (I : Going sets form b₀ s len t₀ b p t) {b' : List ℕ} (w : StoreIs p r b b') where
      pub run_room : len ≤ length b₀ → len ≤ length b'
      run_room l = omega (arith, ap length w.is, length-sets b p (code_of r), I.size)

      module _ (z : n ≡ 0 → ⊥) {q : ℕ} {b'' : List ℕ} (u : RunLaidIs s len (p + n) q b' b'') where
        pub lay-turn : len ≤ length s → {m : ℕ} → TextLenIs r m → Going sets form b₀ s len t₀ b'' q (t + m)
        lay-turn l k = lay-run l (lay_step I z w k) u

        pub turn-less : len - q < len - p
        turn-less = omega (arith, going_less I z, u.run.low)

module _ {s : List ℕ} {len p t : ℕ} {r : Record} (h : RecordIs Form.Public s len p t r) {n : ℕ} (e : SizeIs r n) where
  module _ {b : List ℕ} {t₀ : ℕ} (I : Going eq_at Form.Public b s len t₀ b p t) where
    pub compare-step : (n ≡ 0 → ⊥) → {u : Bool} → SameIs p r b u → u ≡ true → {m : ℕ} → TextLenIs r m → Going eq_at Form.Public b s len t₀ b (p + n) (t + m)
    compare-step z {u} w y {m} k =
        going_step h e I z b m k refl (λ xs. eq_at-append b p (code_of r) xs ∙ ap (λ (x : Bool). cond x (eq_at b (p + length (code_of r)) xs) false) (sym w.is ∙ y))

    module _ (inside : len ≤ length s) (room : len ≤ length b) where
      found : (u : Bool) → u ≡ eq_at b 0 (lays Form.Public len s len 0 t₀) → SameRecordsIs s len t₀ b u
      found u i =
          record {
            is = i;
            same = λ key v k. (
              λ q. (same-is key v s len k inside t₀ b room).0 (sym i ∙ q),
              λ q. i ∙ (same-is key v s len k inside t₀ b room).1 q,
            );
          }

      pub compare-end : n ≡ 0 → SameRecordsIs s len t₀ b true
      unfolding eq_at
      compare-end z = found true (sym (I.is ∙ ap (eq_at b p) (no_more h e z I.fuel)))

      pub compare-differs : (n ≡ 0 → ⊥) → {u : Bool} → SameIs p r b u → u ≡ false → SameRecordsIs s len t₀ b false
      unfolding lays
      compare-differs z {u} w y = found false (sym (I.is ∙ go I.fuel I.enough (going_less h e I z)))
        where
          go : (f : ℕ) → len - p ≤ f → len - (p + n) < len - p → eq_at b p (lays Form.Public f s len p t) ≡ false
          go zero o d = absurd (omega arith)
          go (suc f) o d =
              ap (eq_at b p) (ap (lays_by (λ q u. lays Form.Public f s len q u) p t) (sym h.is) ∙ lays_more (λ q u. lays Form.Public f s len q u) p t r (λ q. z (e.is ∙ q)))
              ∙ eq_at-append b p (code_of r) (lays Form.Public f s len (p + size_of r) (t + text_len_of r))
              ∙ ap (λ (x : Bool). cond x (eq_at b (p + length (code_of r)) (lays Form.Public f s len (p + size_of r) (t + text_len_of r))) false) (sym w.is ∙ y)

pub ruleset lay-laws = (going_start, lay-end, lay_step, lay-turn, going_less, turn-less, run_room, going-room, going-fits)

pub ruleset compare-laws = (going_start, compare-end, compare-differs, compare-step, going_less, going-room, going-fits)
