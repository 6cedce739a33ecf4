-- Laws of copying one record.
use mathlib.Core.Path.{◌≡◌, refl}
use Prim.Native.Nat.{ℕ, ◌+◌, ◌≤◌}
use mathlib.Core.Bool.{Bool, true, false}
use mathlib.Core.List.{List, [], ◌∷◌, ◌++◌}
use native.Mathlib.Omega.{arith}
use lib.ListN.{length}
use Rattle.rules.specs.Sheet.{two}
use Rattle.sheet_kept.specs.InTurn.{extent}
use Rattle.eval_writer.specs.Model.{word_at}
use Rattle.sheet_forms.specs.Model.{members_c}
use Rattle.sheet_forms.specs.Clauses.{PairIs}
use Rattle.eval_writer.specs.Clauses.{Puts, Wrote, KeyWrote}
use Rattle.eval_writer.specs.Composition.{wrote_none}
use Rattle.eval_writer.specs.declared.Out.{Out}
use Rattle.eval_writer.specs.Copies.Model.{key_c, copy_k, plain_c, word_c}
use Rattle.eval_writer.specs.Copies.Contracts.{Span, CopiedIs, HeadIs}
use Rattle.eval_writer.specs.declared.copies.Copied.{Copied}

module _ {s : List ℕ} where
  pub key-copied : {T b a : List ℕ} (c : Copied) {keyed : Bool} {k : ℕ} {r : Out} → keyed ≡ true → Span s c.next.0 c.out → c.next.0 ≤ length s
      → PairIs s (c.next.0 + 1) k → KeyWrote T s k c.out r b a → CopiedIs s 5 (copy_k T s keyed c.next.0) c.out (record { next = record { 0 = c.next.0 + 5 }; out = r; deep = 0 }) b a
  unfolding copy_k key_c extent two
  key-copied {T} {b} {a} c {keyed} {k} {r} e p l i w =
      let d = w.is in
      record {
        is = rw (e, ← i.is) d;
        next = rw e;
        deep = rw e;
        span = record { rec = omega (arith, p.rec, d.rec); text = omega (arith, p.text, d.text, w.small); bytes = p.bytes };
        far = omega arith;
      }

  pub no_key : (T : List ℕ) {b : List ℕ} (c : Copied) {keyed : Bool} → keyed ≡ false → Span s c.next.0 c.out → c.next.0 ≤ length s
      → CopiedIs s 5 (copy_k T s keyed c.next.0) c.out (record { next = record { 0 = c.next.0 }; out = c.out; deep = 0 }) b b
  unfolding copy_k
  no_key T {b} c {keyed} e p l = record { is = rw e wrote_none; next = rw e; deep = rw e; span = p; far = omega arith }

  pub plain_copied : {p k : ℕ} {o r : Out} {b a : List ℕ} → Span s p o → p ≤ length s + 5 → Wrote (k ∷ []) [] o r b a
      → CopiedIs s 10 (plain_c k p) o (record { next = record { 0 = p + 1 }; out = r; deep = 0 }) b a
  unfolding plain_c extent
  plain_copied q l w =
      record {
        is = w;
        next = refl;
        deep = refl;
        span = record { rec = omega (arith, q.rec, w.rec); text = omega (arith, q.text, w.text); bytes = q.bytes };
        far = omega arith;
      }

  pub word_copied : (tb : ℕ) {p k at n : ℕ} {o r : Out} {b a : List ℕ} → Span s p o → p ≤ length s + 5 → PairIs s (p + 1) at → PairIs s (p + 3) n
      → Wrote (k ∷ two o.text.0 ++ two n) ((n, word_at s (tb + at) n) ∷ []) o r b a
      → CopiedIs s 10 (word_c s tb k p o.text.0) o (record { next = record { 0 = p + 5 }; out = r; deep = 0 }) b a
  unfolding word_c extent two
  word_copied tb {p} {k} {at} {n} {o} {r} {b} {a} q l i j w =
      record {
        is = rw (← i.is, ← j.is) w;
        next = refl;
        deep = refl;
        span = record { rec = omega (arith, q.rec, w.rec); text = omega (arith, q.text, w.text, j.small); bytes = q.bytes };
        far = omega arith;
      }

  pub head-copied : {p k rec n r : ℕ} {b a : List ℕ} → PairIs s (p + 1) n → Puts rec (k ∷ two n) b a → r ≡ members_c s p → HeadIs s k p rec r b a
  head-copied {p} {k} {rec} {n} {r} {b} {a} i w e = record { count = e; head = rw i.is at w }

pub ruleset key_laws = (key-copied, no_key)
