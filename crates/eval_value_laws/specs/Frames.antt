-- What is lent on, what stays, and how far counters go.
use Rattle.std.specs.Prelude.{◌≡◌, refl, ℕ, ◌+◌, ◌≤◌, ◌<◌, List, length}
use Rattle.std.proofs.Common.{ap, ◌∙◌, arith, get_or-set_same}
use Rattle.eval_writer.specs.declared.Out.{Out}
use Rattle.eval_writer.specs.declared.Source.{Source}
use Rattle.eval_results.specs.Extents.Contracts.{NotPast, ClipOutIs, ClipIs, Bounded}
use Rattle.eval_results.specs.declared.extents.Extent.{Extent}
use Rattle.eval_stack.specs.Model.{entries, Work, code_place, code_at}
use Rattle.eval_stack.specs.Clauses.{PushIs}
use Rattle.eval_stack.specs.Pushes.{push-grows, pushed_room, top-room}
use Rattle.eval_groups.specs.Select.Levels.{same-below, below_then, below-lower}
use Rattle.eval_writer.specs.Copies.Sources.{SourceIn}
use Rattle.eval_leaves.specs.Clauses.{FinishedAsked, KeyBeforeIs}
use Rattle.eval_results.specs.Values.Contracts.{WorkedWithin, MadeWithin, one_more, OneMoreIs, HeadedBy, HeadedIs}
use Rattle.eval_results.specs.declared.values.Worked.{Worked}
use Rattle.eval_results.specs.declared.values.Made.{Made}
use Rattle.eval_value_laws.specs.Clauses.{Asked, Left, OneMore}

-- ---- what stays

pub left-all : {place : ℕ} {w : List ℕ} → Left place w w
left-all = record { below = λ i l h. refl; len = refl }

pub left-then : {place : ℕ} {w x y : List ℕ} → Left place w x → Left place x y → Left place w y
left-then {place} {w} {x} {y} f g = record { below = below_then place w x y f.below g.below; len = g.len ∙ f.len }

pub left-lower : {place lower : ℕ} {w x : List ℕ} → lower ≤ place → Left place w x → Left lower w x
left-lower {w = w} {x = x} l f = record { below = below-lower w x l f.below; len = f.len }

-- ---- what is lent on

module _ {B : List ℕ} {src : Source} {w : List ℕ} {top : ℕ} {o : Out} {b : List ℕ} (A : Asked B src w top o b) where
  pub asked-source : SourceIn B src
  asked-source = record { bytes = A.bytes; records = A.records }

  pub asked-finished : FinishedAsked B src o b
  asked-finished = record { room = A.room; bytes = A.bytes; records = A.records; texts = A.texts; start = A.start }

  -- with another stack, from another place on
  pub asked-again : {x y : List ℕ} {t : ℕ} {i : Out} → length x ≡ length w → t ≤ entries → NotPast i → length y ≡ length b → Asked B src x t i y
  asked-again e u n l =
      record {
        room = l ∙ A.room;
        bytes = A.bytes;
        records = A.records;
        texts = A.texts;
        work = omega (arith, A.work);
        used = u;
        start = n;
      }

pub clip-not-past : {o i : Out} → ClipOutIs o i → NotPast i
clip-not-past c = record { rec = omega (arith, c.rec); text = omega (arith, c.text) }

pub key-not-past : {T B : List ℕ} {k : ℕ} {o i : Out} {b a : List ℕ} → KeyBeforeIs T B k o i b a → NotPast i
key-not-past h = clip-not-past h.clipped

-- ---- a number pushed

module _ {top c r : ℕ} {w x : List ℕ} (work : Work w) (used : top ≤ entries) (h : PushIs top c w x r) where
  pub push-left : Left top w x
  push-left =
      let g = push-grows {base = top} (omega arith) used work h in
      record { below = same-below top w x g.same; len = h.len }

  pub push-high : (top ≤ r) × (r ≤ entries)
  push-high = let g = push-grows {base = top} (omega arith) used work h in (g.low, g.high)

  pub push-there : top < entries → (r ≡ top + 1) × (code_at x top ≡ c)
  push-there l = (
    h.next ∙ top-room top l,
    ap (λ (z : List ℕ). code_at z top) (h.is ∙ pushed_room top c w l) ∙ get_or-set_same w (code_place top) c 0 (omega arith),
  )

-- ---- counters

pub clip-bounded : {o : Out} {d : ℕ} {e : Extent} → ClipIs o d e → Bounded e
clip-bounded c =
    record { out = record { rec = omega (arith, c.out.rec); text = omega (arith, c.out.text) }; deep = omega (arith, c.deep) }

pub more_within : {count : ℕ} {e : Extent} {v : Worked} {r : Made} → Bounded e → WorkedWithin v → OneMoreIs count e v r → MadeWithin r
more_within {count} {e} {v} {r} f g h = rw h.is (go v g)
  where
    go : (v : Worked) → WorkedWithin v → MadeWithin (one_more count e v)
    go (Worked.Needs n) g = tt
    go Worked.Undefined g = f
    go (Worked.Done m) g = record { out = g.out; deep = omega (arith, f.deep, g.deep) }

-- at most one member more
pub one-more : {count : ℕ} {e : Extent} {v : Worked} {r : Made} → OneMoreIs count e v r → OneMore count r
one-more {count} {e} {v} {r} h = rw h.is (go v)
  where
    go : (v : Worked) → OneMore count (one_more count e v)
    go (Worked.Done m) = omega arith
    go Worked.Undefined = omega arith
    go (Worked.Needs n) = tt

pub headed-within : {o : Out} {k : ℕ} {made : Made} {r : Worked} {b a : List ℕ} → HeadedIs o k made r b a → WorkedWithin r
headed-within {o} {k} {made} {r} {b} {a} h = go made h.is
  where
    go : (m : Made) → HeadedBy o k m r b a → WorkedWithin r
    go (Made.Needs n) e = rw e tt
    go (Made.Done count x) e = rw e.1 (clip-bounded e.2)
