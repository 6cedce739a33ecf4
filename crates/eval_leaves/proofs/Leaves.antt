-- Why values that need no others, and keys, are what they are said to be.
use mathlib.Core.Path.{refl}
use Prim.Native.Nat.{ℕ, ◌+◌, ◌≤◌, ◌<◌}
use mathlib.Core.List.{List}
use native.Mathlib.Omega.{arith}
use Rattle.rules.specs.Sizes.{max_room}
use Rattle.rules.specs.Values.{nesting_of}
use Rattle.sheet_kept.specs.Kept.{simple, named}
use Rattle.eval_writer.specs.Clauses.{KeyWrote}
use Rattle.eval_writer.specs.declared.Out.{Out}
use Rattle.eval_writer.specs.declared.Source.{Source}
use Rattle.eval_copy.specs.Clauses.{CopyAsked, CopyIs}
use Rattle.eval_writer.specs.declared.copies.Copied.{Copied}
use Rattle.eval_results.specs.Extents.Contracts.{ClipOutIs, ClipIs, Bounded}
use Rattle.eval_results.specs.Extents.Came.{came-clipped}
use Rattle.eval_results.specs.declared.extents.Extent.{Extent}
use Rattle.eval_results.specs.declared.values.Worked.{Worked}
use Rattle.eval_leaves.specs.Clauses.{SimpleIs, SimpleValueIs, FinishedAsked, FinishedIs, KeyBeforeIs}

clip-bounded : {o : Out} {d : ℕ} {e : Extent} → ClipIs o d e → Bounded e
clip-bounded c =
    record { out = record { rec = omega (arith, c.out.rec); text = omega (arith, c.out.text) }; deep = omega (arith, c.deep) }

pub simple-is : {T B : List ℕ} {i : ℕ} {o q : Out} {e : Extent} {b a : List ℕ} → SimpleIs T B i o q b a → ClipIs q 0 e
    → SimpleValueIs T B i o (Worked.Done e) b a
unfolding named nesting_of
simple-is {T} {B} {i} {o} {q} {e} {b} {a} s c =
    record {
      is = λ key n x h. record { is = record { held = simple x; is = refl; keys = tt; came = came-clipped (s.is key x h) refl c } };
      within = clip-bounded c;
    }

module _ {B : List ℕ} {src : Source} {o : Out} {b : List ℕ} (A : FinishedAsked B src o b) where
  pub copy-asked : {at : ℕ} → at ≤ max_room → CopyAsked B src at o b
  copy-asked l =
      record {
        room = A.room;
        bytes = A.bytes;
        record-at = omega (arith, A.records);
        texts = A.texts;
        rec = A.start.rec;
        text = A.start.text;
      }

pub finished-far : {T B : List ℕ} {src : Source} {at : ℕ} {o : Out} {b : List ℕ} → max_room < at → FinishedIs T B src at o Worked.Undefined b b
finished-far l = record { is = λ key n v u h d e k s. absurd (omega arith); within = tt }

pub finished-is : {T B : List ℕ} {src : Source} {at : ℕ} {o : Out} {c : Copied} {x : Extent} {b a : List ℕ}
    → CopyIs T B src.text.0 (src.rec.0 + at) o c b a → ClipIs c.out c.deep x → FinishedIs T B src at o (Worked.Done x) b a
finished-is {T} {B} {src} {at} {o} {c} {x} {b} {a} f z =
    record {
      is = λ key n v u h d e k s.
          let w = f.copied key v u d k s in
          record { is = record { held = v; is = refl; keys = e; came = came-clipped w.0 w.1 z } };
      within = clip-bounded z;
    }

pub ruleset finished-laws = (copy-asked, finished-far, finished-is)

pub key-before-is : {T B : List ℕ} {k : ℕ} {o p r : Out} {b a : List ℕ} → KeyWrote T B k o p b a → ClipOutIs p r → KeyBeforeIs T B k o r b a
key-before-is {p = p} w c = record { end = p; wrote = w; clipped = c }
