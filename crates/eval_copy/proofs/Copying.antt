-- Laws of copying: of one record, and of the cycle.
use mathlib.Core.Path.{◌≡◌, refl, sym, ap, subst, ◌∙◌}
use Prim.Native.Nat.{ℕ, zero, suc, ◌+◌, ◌-◌, ◌≤◌, ◌<◌, max}
use mathlib.Core.Bool.{Bool, true, false}
use mathlib.Core.List.{List, [], ◌∷◌, ◌++◌, append_assoc}
use native.Mathlib.Omega.{arith}
use lib.ListN.{length, get_or, take, drop}
use lib.Dec.{eqb}
use Rattle.rules.specs.Sheet.{two}
use Rattle.sheet_kept.specs.InTurn.{Word, extent}
use Rattle.sheet_forms.specs.Model.{pair_c}
use Rattle.sheet_forms.specs.Clauses.{ShapeIs}
use Rattle.sheet_forms.specs.declared.Shape.{Shape}
use Rattle.eval_writer.specs.Clauses.{Wrote}
use Rattle.eval_writer.specs.Composition.{wrote_none, wrote_then, head-wrote}
use Rattle.eval_writer.specs.declared.Out.{Out}
use Rattle.eval_writer.specs.Copies.Model.{Act, act, then, under, key_c, copy_k, plain_c, word_c}
use Rattle.eval_writer.specs.Copies.Contracts.{Span, CopiedIs, HeadIs}
use Rattle.eval_writer.specs.declared.copies.Copied.{Copied}
use Rattle.eval_copy.specs.Model.{copy_m, copy_ms, copy_by, copy_h, copy_v}
use Rattle.eval_copy.specs.Clauses.{ValueIs, HeldIs, MembersIs, MemberIs, DeeperIs}
use Rattle.eval_copy.specs.Runs.Contracts.{RunOf, RunDone}
use Rattle.eval_copy.specs.Steps.{held-step, members_step, members_run, members-cut}

-- ---- the cycle

module _ {n : ℕ} {T s : List ℕ} {tb p : ℕ} {o : Out} {r : Copied} {b a : List ℕ} where
  module _ (k : ℕ) {h : Shape} (e : k ≡ get_or s p 0) (f : ShapeIs k h) where
    by : (j : Shape) → h ≡ j → CopiedIs s 10 (copy_by (λ c r w. copy_h n T s tb c r w) s tb k p o.text.0 j) o r b a → r.deep ≤ n → ValueIs n T s tb p o r b a
    unfolding copy_v
    by j i w l = record { is = rw (← e, ← f.is, i) w; low = l }

    pub value-plain : h ≡ Shape.Plain → CopiedIs s 10 (plain_c k p) o r b a → ValueIs n T s tb p o r b a
    unfolding plain_c
    value-plain i w = by Shape.Plain i w (omega (arith, w.deep))

    pub value-name : h ≡ Shape.Key → CopiedIs s 10 (plain_c k p) o r b a → ValueIs n T s tb p o r b a
    unfolding plain_c
    value-name i w = by Shape.Key i w (omega (arith, w.deep))

    pub value-word : h ≡ Shape.Word → CopiedIs s 10 (word_c s tb k p o.text.0) o r b a → ValueIs n T s tb p o r b a
    unfolding word_c
    value-word i w = by Shape.Word i w (omega (arith, w.deep))

    pub value-head : h ≡ Shape.Head → HeldIs n T s tb k p o r b a → ValueIs n T s tb p o r b a
    value-head i w = by Shape.Head i w.is w.low

pub held_none : {n : ℕ} {T s : List ℕ} {tb k p : ℕ} {o : Out} {b : List ℕ} → n ≡ 0 → Span s p o → p ≤ length s + 5
    → HeldIs n T s tb k p o (record { next = record { 0 = p + 1 }; out = o; deep = 0 }) b b
unfolding copy_h
held_none {n} {T} {s} {tb} {k} {p} {o} {b} e q l =
    record {
      is = record {
        is = rw e wrote_none;
        next = rw e;
        deep = rw e;
        span = record { rec = omega (arith, q.rec); text = omega (arith, q.text); bytes = q.bytes };
        far = omega arith;
      };
      low = omega arith;
    }

pos : (n : ℕ) → (n ≡ 0 → ⊥) → 1 ≤ n
pos zero z = absurd (z refl)
pos (suc n) z = omega arith

pub held-members : {n : ℕ} {T s : List ℕ} {tb k p m : ℕ} {o : Out} {b x a : List ℕ} {r r' : Copied} → (n ≡ 0 → ⊥) → HeadIs s k p o.rec.0 m b x
    → MembersIs (n - 1) T s tb (eqb k 7) m (record { next = record { 0 = p + 3 }; out = record { rec = record { 0 = o.rec.0 + 3 }; text = o.text }; deep = 0 }) r x a
    → DeeperIs r r' → HeldIs n T s tb k p o r' b a
unfolding two
held-members {n} {T} {s} {tb} {k} {p} {m} {o} {b} {x} {a} {r} {r'} z h w H =
    let t = o.text.0 in
    let i = pair_c s (p + 1) in
    let M = copy_ms (λ q u. copy_v (n - 1) T s tb q u) T s (eqb k 7) m (p + 3) t in
    let y : under (then (act (k ∷ two i) [] (p + 3)) M) ≡ copy_h n T s tb k p t =
    ap (λ (j : ℕ). under (then (act (k ∷ two i) [] (p + 3)) (copy_ms (λ q u. copy_v (n - 1) T s tb q u) T s (eqb k 7) j (p + 3) t))) h.count ∙ sym (held-step n T s tb k p t z) in
    let c = w.is in
    let g : Wrote (k ∷ two i ++ M.xs) M.ws o r.out b a = head-wrote {hs = k ∷ two i} h.head refl c.is in
    let d : max 0 M.deep + 1 ≡ (copy_h n T s tb k p t).deep = ap (λ (q : Act). q.deep) y in
    let f : r.deep ≡ M.deep = c.deep in
    record {
      is = record {
        is = rw (H.out, ← y) g;
        next = H.next ∙ c.next ∙ ap (λ (q : Act). q.next) y;
        deep = omega (arith, H.deep);
        span = rw (H.next, H.out) c.span;
        far = omega (arith, H.next, c.far);
      };
      low = omega (arith, H.deep, w.low, pos n z);
    }

key-deep : (T s : List ℕ) (keyed : Bool) (p : ℕ) → (copy_k T s keyed p).deep ≡ 0
unfolding copy_k key_c
key-deep T s true p = refl
key-deep T s false p = refl

-- a member behind its key
pub member_is : {n : ℕ} {T s : List ℕ} {tb : ℕ} {keyed : Bool} {c k r : Copied} {b x a : List ℕ} → CopiedIs s 5 (copy_k T s keyed c.next.0) c.out k b x
    → ValueIs n T s tb k.next.0 k.out r x a → MemberIs n T s tb keyed c r b a
unfolding copy_m
member_is {n} {T} {s} {tb} {keyed} {c} {k} {r} {b} {x} {a} f g =
    let d = g.is in
    let y : copy_v n T s tb k.next.0 k.out.text.0 ≡ copy_v n T s tb (copy_k T s keyed c.next.0).next (c.out.text.0 + extent (copy_k T s keyed c.next.0).ws) = rw (f.next, f.is.text) in
    let d' = rw y at d in
    let q : r.deep ≡ (copy_v n T s tb (copy_k T s keyed c.next.0).next (c.out.text.0 + extent (copy_k T s keyed c.next.0).ws)).deep = d'.deep in
    record { is = record { is = wrote_then f.is d'.is; next = d'.next; deep = omega (arith, key-deep T s keyed c.next.0); span = d.span; far = d.far }; low = g.low }

then-assoc : (f g h : Act) → then (then f g) h ≡ then f (then g h)
then-assoc f g h =
    let e : max (max f.deep g.deep) h.deep ≡ max f.deep (max g.deep h.deep) = omega arith in
    rw (append_assoc f.xs g.xs h.xs, append_assoc f.ws g.ws h.ws, e)

abbrev acted : List ℕ → List Word → ℕ → ℕ → Act
acted xs ws next deep = record { xs = xs; ws = ws; next = next; deep = deep }

-- behind others that are so deep
abbrev behind : ℕ → Copied → Copied
behind d m = record { next = m.next; out = m.out; deep = max d m.deep }

-- the members so far, and those still to come
pub record Copying (n : ℕ) (T s : List ℕ) (tb : ℕ) (keyed : Bool) (count : ℕ) (c : Copied) (b : List ℕ) (d : Copied) (a : List ℕ) (left : ℕ) : Type 0 where
  pub xs : List ℕ
  pub ws : List Word
  pub done : Wrote xs ws c.out d.out b a
  pub rest : then (acted xs ws d.next.0 d.deep) (copy_ms (λ q u. copy_v n T s tb q u) T s keyed left d.next.0 d.out.text.0)
      ≡ copy_ms (λ q u. copy_v n T s tb q u) T s keyed count c.next.0 c.out.text.0
  pub span : Span s d.next.0 d.out
  pub far : d.next.0 ≤ length s + 10
  pub len : length a ≡ length b
  pub low : d.deep ≤ n

module _ {n : ℕ} {T s : List ℕ} {tb : ℕ} {keyed : Bool} {count : ℕ} {c : Copied} {b : List ℕ} where
  pub copying-start : Span s c.next.0 c.out → c.next.0 ≤ length s + 10 → c.deep ≡ 0 → Copying n T s tb keyed count c b c b count
  copying-start p l z =
      let R = copy_ms (λ q u. copy_v n T s tb q u) T s keyed count c.next.0 c.out.text.0 in
      let e : max c.deep R.deep ≡ R.deep = omega arith in
      record { xs = []; ws = []; done = wrote_none; rest = ap (acted R.xs R.ws R.next) e; span = p; far = l; len = refl; low = omega arith }

  module _ {d : Copied} {a : List ℕ} {left : ℕ} (I : Copying n T s tb keyed count c b d a left) where
    -- nothing more is written
    stopped : copy_ms (λ q u. copy_v n T s tb q u) T s keyed left d.next.0 d.out.text.0 ≡ act [] [] d.next.0 → MembersIs n T s tb keyed count c d b a
    stopped e =
        let y : acted (I.xs ++ []) (I.ws ++ []) d.next.0 (max d.deep 0) ≡ copy_ms (λ q u. copy_v n T s tb q u) T s keyed count c.next.0 c.out.text.0 =
        ap (then (acted I.xs I.ws d.next.0 d.deep)) (sym e) ∙ I.rest in
        let w : Wrote (I.xs ++ []) (I.ws ++ []) c.out d.out b a = wrote_then I.done wrote_none in
        let f : max d.deep 0 ≡ (copy_ms (λ q u. copy_v n T s tb q u) T s keyed count c.next.0 c.out.text.0).deep = ap (λ (q : Act). q.deep) y in
        record { is = record { is = rw (← y) w; next = ap (λ (q : Act). q.next) y; deep = omega arith; span = I.span; far = I.far }; low = I.low }

    pub copying-end : left ≤ 0 → MembersIs n T s tb keyed count c d b a
    unfolding copy_ms
    copying-end h = let e : left ≡ 0 = omega arith in stopped (rw e)

    pub copying-cut : length s ≤ d.next.0 → MembersIs n T s tb keyed count c d b a
    copying-cut h = stopped (members-cut (λ q u. copy_v n T s tb q u) T s keyed left d.next.0 d.out.text.0 h)

    -- a run more
    with-run : {k : ℕ} {r : Copied} {a' : List ℕ} → RunOf s keyed d.next.0 left k → Wrote (take k (drop d.next.0 s)) [] d.out r.out a a'
        → r.next.0 ≡ d.next.0 + k → r.deep ≡ d.deep → Span s r.next.0 r.out → r.next.0 ≤ length s + 10 → length a' ≡ length a
        → Copying n T s tb keyed count c b r a' (left - k)
    unfolding extent
    with-run {k} {r} {a'} u w y z g v j =
        let p = d.next.0 in
        let t = d.out.text.0 in
        let A = acted I.xs I.ws p d.deep in
        let xs = take k (drop p s) in
        let rest : ℕ → ℕ → Act = λ q v. copy_ms (λ q u. copy_v n T s tb q u) T s keyed (left - k) q v in
        let x : r.out.text.0 ≡ t = omega (arith, w.text) in
        let e : max d.deep 0 ≡ r.deep = omega arith in
        record {
          xs = I.xs ++ xs;
          ws = I.ws ++ [];
          done = wrote_then I.done w;
          rest =
              ap (λ (v : ℕ). then (acted (I.xs ++ xs) (I.ws ++ []) r.next.0 r.deep) (rest r.next.0 v)) x
              ∙ ap (λ (q : ℕ). then (acted (I.xs ++ xs) (I.ws ++ []) q r.deep) (rest q t)) y
              ∙ ap (λ (m : ℕ). then (acted (I.xs ++ xs) (I.ws ++ []) (p + k) m) (rest (p + k) t)) (sym e)
              ∙ then-assoc A (act xs [] (p + k)) (rest (p + k) t)
              ∙ ap (then A) (sym (members_run n T s tb keyed k left p t u.few u.lies.inside u.bare u.plain))
              ∙ I.rest;
          span = g;
          far = v;
          len = j ∙ I.len;
          low = omega (arith, I.low);
        }

    -- one member more, as deep as the deepest so far
    one-step : {r : Copied} {a' : List ℕ} → 0 < left → d.next.0 < length s → MemberIs n T s tb keyed d r a a' → length a' ≡ length a
        → Copying n T s tb keyed count c b (behind d.deep r) a' (left - 1)
    one-step {r} {a'} h l w k =
        let val : ℕ → ℕ → Act = λ q u. copy_v n T s tb q u in
        let t = d.out.text.0 in
        let M = copy_m val T s keyed d.next.0 t in
        let A = acted I.xs I.ws d.next.0 d.deep in
        let e = w.is in
        let f : max d.deep r.deep ≡ max d.deep M.deep = ap (max d.deep) e.deep in
        let R = copy_ms val T s keyed (left - 1) r.next.0 r.out.text.0 in
        let y : R ≡ copy_ms val T s keyed (left - 1) M.next (t + extent M.ws) =
        ap (λ (q : ℕ). copy_ms val T s keyed (left - 1) q r.out.text.0) e.next
        ∙ ap (λ (q : ℕ). copy_ms val T s keyed (left - 1) M.next q) e.is.text in
        record {
          xs = I.xs ++ M.xs;
          ws = I.ws ++ M.ws;
          done = wrote_then I.done e.is;
          rest =
              ap (λ (q : ℕ). then (acted (I.xs ++ M.xs) (I.ws ++ M.ws) q (max d.deep r.deep)) R) e.next
              ∙ ap (λ (i : ℕ). then (acted (I.xs ++ M.xs) (I.ws ++ M.ws) M.next i) R) f
              ∙ then-assoc A M R
              ∙ ap (λ (q : Act). then A (then M q)) y
              ∙ ap (then A) (sym (members_step val T s keyed left d.next.0 t h l))
              ∙ I.rest;
          span = e.span;
          far = e.far;
          len = k ∙ I.len;
          low = omega (arith, I.low, w.low);
        }

  module _ {d : Copied} {a : List ℕ} {left : ℕ} (I : Copying n T s tb keyed count c b d a left) (h : 0 < left) {r : Copied} {a' : List ℕ} where
    -- a member, and a run behind it
    pub copying-step : {r' : Copied} {a'' : List ℕ} → d.next.0 < length s → MemberIs n T s tb keyed d r a a' → length a' ≡ length a
        → RunDone s keyed (left - 1) d.deep r r' a' a'' → length a'' ≡ length a' → Copying n T s tb keyed count c b r' a'' (left - 1 - (r'.next.0 - r.next.0))
    copying-step {r'} {a''} l w e u f =
        let v = u.is in
        let z : u.n ≡ r'.next.0 - r.next.0 = omega (arith, v.next) in
        subst (λ (k : ℕ). Copying n T s tb keyed count c b r' a'' (left - 1 - k)) z
        (with-run (one-step I h l w e) u.of v.is v.next v.deep v.span v.far f)

    pub run-within : {r' : Copied} {a'' : List ℕ} → RunDone s keyed (left - 1) d.deep r r' a' a'' → r'.next.0 - r.next.0 ≤ left - 1
    run-within u = omega (arith, u.is.next, u.of.few)

    pub run-less : {r' : Copied} {a'' : List ℕ} → RunDone s keyed (left - 1) d.deep r r' a' a'' → left - 1 - (r'.next.0 - r.next.0) < left
    run-less u = omega arith

pub ruleset members-laws = (copying-start, copying-end, copying-cut, copying-step, run-within, run-less)

pub ruleset value-laws = (value-plain, value-name, value-word, value-head)

pub ruleset held-laws = (held_none, held-members)

pub deeper-is : {m : Copied} → DeeperIs m (record { next = m.next; out = m.out; deep = m.deep + 1 })
deeper-is = record { next = refl; out = refl; deep = refl }
