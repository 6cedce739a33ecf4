-- What was written, where counters end at a bound: a value that did not come to the bound is there as a whole.
use Rattle.std.specs.Prelude.{◌≡◌, ℕ, ◌+◌, ◌≤◌, ◌<◌, min, List}
use Rattle.std.proofs.Common.{ap, ◌∙◌, arith}
use Rattle.rules.specs.Bytes.{Text}
use Rattle.rules.specs.Sizes.{max_records, max_text}
use Rattle.rules.specs.Values.{record_size, text_size, nesting_of}
use Rattle.sheet_kept.specs.Kept.{Held, named}
use Rattle.eval_writer.specs.Clauses.{Room, Written, InRoom}
use Rattle.eval_writer.specs.Composition.{start, written-in-room}
use Rattle.eval_writer.specs.Building.{written-records, written-texts}
use Rattle.eval_writer.specs.declared.Out.{Out}
use Rattle.eval_results.specs.Extents.Contracts.{far, ClipOutIs, ClipIs}
use Rattle.eval_results.specs.declared.extents.Extent.{Extent}

-- a value was written from o on, up to the bound
pub record Came (key : ℕ → Text) (h : Held) (o : Out) (r : Extent) (b a : List ℕ) : Type 0 where
  pub exact : r.out.rec.0 < far → r.out.text.0 < far → Written key h o r.out b a
  pub rec : r.out.rec.0 ≡ min far (o.rec.0 + record_size (named key h))
  pub text : r.out.text.0 ≡ min far (o.text.0 + text_size (named key h))
  pub deep : r.deep ≡ min far (nesting_of (named key h))

abbrev out_at : ℕ → ℕ → Out
out_at i j = record { rec = record { 0 = i }; text = record { 0 = j } }

out-same : {i j m n : ℕ} → i ≡ j → m ≡ n → out_at i m ≡ out_at j n
out-same {i} {j} {m} {n} e f = ap (λ (x : ℕ). out_at x m) e ∙ ap (out_at j) f

-- counters that did not come to the bound are those that were clipped
pub clipped-out : {o r : Out} → ClipOutIs o r → r.rec.0 < far → r.text.0 < far → o ≡ r
clipped-out {o} {r} c l m =
    let e : o.rec.0 ≡ r.rec.0 = omega (arith, c.rec) in
    let f : o.text.0 ≡ r.text.0 = omega (arith, c.text) in
    out-same e f

-- a value as it was written, clipped
pub came-clipped : {key : ℕ → Text} {h : Held} {o q : Out} {d : ℕ} {r : Extent} {b a : List ℕ} → Written key h o q b a
    → d ≡ nesting_of (named key h) → ClipIs q d r → Came key h o r b a
came-clipped {key} {h} {o} {q} {d} {r} {b} {a} w e c =
    record {
      exact = λ l m. rw (← clipped-out c.out l m) w;
      rec = c.out.rec ∙ ap (min far) (written-records w);
      text = c.out.text ∙ ap (min far) (written-texts w);
      deep = c.deep ∙ ap (min far) e;
    }

-- a value that was written from the start, and that has room, is in the room
pub came-in-room : {key : ℕ → Text} {h : Held} {r : Extent} {b a : List ℕ} → Came key h start r b a → Room b
    → r.out.rec.0 ≤ max_records → r.out.text.0 ≤ max_text → InRoom key h a r.out
came-in-room c l m n = written-in-room (c.exact (omega arith) (omega arith)) l m n
