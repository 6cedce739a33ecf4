-- A law for each place where the function returns.
use mathlib.Core.Path.{◌≡◌, ◌∙◌}
use Prim.Native.Nat.{ℕ, ◌+◌, ◌≤◌}
use mathlib.Core.List.{List}
use mathlib.Core.Option.{some}
use native.Mathlib.Omega.{arith}
use Rattle.answers.specs.Ask.{value}
use Rattle.answers.specs.Theory.Sound.{clash}
use Rattle.rules.specs.Bytes.{Text}
use Rattle.rules.specs.Sizes.{max_room}
use Rattle.rules.specs.Values.{Value, Answer, Members, object_of, merge_members}
use Rattle.rules.specs.Settled.{Given}
use Rattle.doc_items.specs.Room.{capacity, text_room}
use Rattle.eval_writer.specs.Composition.{start}
use Rattle.eval_writer.specs.declared.Source.{Source}
use Rattle.eval_results.specs.declared.extents.Extent.{Extent}
use Rattle.eval_stack.specs.Model.{entries, Work}
use Rattle.eval_stack.specs.Clauses.{PushIs}
use Rattle.eval_stack.specs.Pushes.{push-grows}
use Rattle.eval_groups.specs.Select.Levels.{same-below, below_then, below-lower}
use Rattle.eval_memory.specs.Keys.{KeyNumber}
use Rattle.eval_results.specs.Values.Comes.{ComesBy}
use Rattle.eval_results.specs.declared.values.Worked.{Worked}
use Rattle.eval_state.specs.Memories.{pair_records_at, pair_texts_at, second_at}
use Rattle.eval_value_laws.specs.Ground.{Names}
use Rattle.eval_value_laws.specs.Clauses.{Asked, Left, ObjectIs}
use Rattle.eval_concat_objects.specs.Pair.Contracts.{PushedIs, MergeAsked, PairGiven, Merged, MergeIs}
use Rattle.eval_concat_objects.specs.Pair.Layers.{unknown, layers, pair-merged, pair-given}

abbrev pair : Source
pair = record { rec = record { 0 = pair_records_at }; text = record { 0 = pair_texts_at } }

-- ---- on the stack

pub push-on : {w w₁ : List ℕ} {base c one : ℕ} → Work w → base ≤ entries → PushIs base c w w₁ one → one ≤ entries
push-on {base = base} W l p = (push-grows {base = base} (omega arith) l W p).high

pub push-work : {w w₁ : List ℕ} {base c one : ℕ} → Work w → PushIs base c w w₁ one → Work w₁
push-work W p = omega (arith, W, p.len)

pub pushed-both : {w w₁ w₂ : List ℕ} {base one two : ℕ} → Work w → base ≤ entries → PushIs base (capacity + second_at) w w₁ one → PushIs one capacity w₁ w₂ two
    → PushedIs base w w₂ two
pushed-both {w} {w₁} {w₂} {base} {one} {two} W l p q =
    let g = push-grows {base = base} (omega arith) l W p in
    let h = push-grows {base = one} (omega arith) g.high (push-work W p) q in
    record {
      between = w₁;
      one = one;
      upper = p;
      lower = q;
      left = record {
        below = below_then base w w₁ w₂ (same-below base w w₁ g.same) (below-lower w₁ w₂ g.low (same-below one w₁ w₂ h.same));
        len = q.len ∙ p.len;
      };
      low = omega (arith, g.low, h.low);
      high = h.high;
    }

pub ruleset pushing = (push-on, push-work, pushed-both)

-- ---- the merge

module _ {B w : List ℕ} {base : ℕ} {room : List ℕ} (A : MergeAsked B w base room) {w₂ : List ℕ} {two : ℕ} (k : PushedIs base w w₂ two) where
  pub merge-asked : Asked B pair w₂ two start room
  merge-asked = record {
    room = A.whole;
    bytes = A.most;
    records = omega (arith, A.bytes);
    texts = omega arith;
    work = omega (arith, A.work, k.left.len);
    used = k.high;
    start = record { rec = omega arith; text = omega arith };
  }

  pub merge-upto : base ≤ two
  merge-upto = k.low

  module _ {T : List ℕ} {w₃ a : List ℕ} {r : Worked} (f : ObjectIs T B pair base two start 65 w₂ w₃ r room a) where
    left : Left base w w₃
    left = record {
      below = below_then base w w₂ w₃ k.left.below (below-lower w₂ w₃ k.low f.left.below);
      len = f.left.len ∙ k.left.len;
    }

    comes : (key : ℕ → Text) (items : ℕ) (upper lower : Members) → PairGiven key items T B base upper lower
        → ComesBy key (KeyNumber T (items + 1)) (value (some (object_of (merge_members upper lower)))) start room a r
    comes key items upper lower G =
        let N : Names = record { key = key; items = items + 1; ends = text_room; answered = 0; filled = max_room; filled-text = max_room } in
        rw (pair-merged G) at (f.is N unknown 64 (layers G) (pair-given G A.work k.upper k.lower)).is

    pub merge-done : {e : Extent} → r ≡ Worked.Done e → MergeIs T B base w w₃ e room a
    merge-done {e} z = record {
      left = left;
      within = rw z at f.within;
      is = λ key items upper lower G. go key items upper lower (rw z at (comes key items upper lower G));
    }
      where
        go : (key : ℕ → Text) (items : ℕ) (upper lower : Members)
            → ComesBy key (KeyNumber T (items + 1)) (value (some (object_of (merge_members upper lower)))) start room a (Worked.Done e)
            → Merged key items T upper lower e room a
        go key items upper lower c = record { held = c.held; is = same c.is; keys = c.keys; came = c.came }
          where
            same : {u v : Value} → ◌≡◌ {A = Given Answer} (value (some u)) (value (some v)) → v ≡ u
            same e = cc (e)

    pub merge-undefined : r ≡ Worked.Undefined → MergeIs T B base w w₃ (record { out = start; deep = 0 }) room a
    merge-undefined z = record {
      left = left;
      within = record { out = record { rec = omega arith; text = omega arith }; deep = omega arith };
      is = λ key items upper lower G.
          let c : ComesBy key (KeyNumber T (items + 1)) (value (some (object_of (merge_members upper lower)))) start room a Worked.Undefined =
          rw z at (comes key items upper lower G) in
          clash (cc c.0);
    }

    pub merge-needs : {n : ℕ} → r ≡ Worked.Needs n → MergeIs T B base w w₃ (record { out = start; deep = 0 }) room a
    merge-needs {n} z = record {
      left = left;
      within = record { out = record { rec = omega arith; text = omega arith }; deep = omega arith };
      is = λ key items upper lower G.
          let c : ComesBy key (KeyNumber T (items + 1)) (value (some (object_of (merge_members upper lower)))) start room a (Worked.Needs n) =
          rw z at (comes key items upper lower G) in
          clash (cc (c));
    }

pub ruleset merging = (merge-done, merge-undefined, merge-needs)

pub ruleset lending = (merge-asked, merge-upto)
