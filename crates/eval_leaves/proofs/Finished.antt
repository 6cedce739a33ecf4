-- Why a finished value's copy is what it is said to be.
use Prim.Native.Nat.{ℕ, ◌≤◌}
use mathlib.Core.List.{List}
use native.Mathlib.Omega.{arith}
use lib.ListN.{length}
use Rattle.eval_writer.specs.declared.Out.{Out}
use Rattle.eval_writer.specs.Copies.Contracts.{most_bytes, farthest, Span}
use Rattle.eval_writer.specs.declared.copies.Copied.{Copied}
use Rattle.eval_copy.specs.Copies.{copy_read}
use Rattle.eval_copy.specs.Clauses.{ValueIs, CopyIs}

pub copy-starts : {s : List ℕ} {p : ℕ} {o : Out} → length s ≤ most_bytes → o.rec.0 ≤ farthest → o.text.0 ≤ farthest → Span s p o
copy-starts l r t = record { rec = omega arith; text = omega arith; bytes = l }

pub copy_is : {T s : List ℕ} {tb p : ℕ} {o : Out} {c : Copied} {b a : List ℕ} → ValueIs 32 T s tb p o c b a → CopyIs T s tb p o c b a
copy_is {T} {s} {tb} {p} {o} {c} {b} {a} w =
    record {
      copied = λ key v u d k h.
          let q = rw (copy_read key T s tb v 32 p o.text.0 u d k h) at w.is in
          (record { is = q.is }, q.deep);
    }

pub ruleset copy-laws = (copy-starts, copy_is)
