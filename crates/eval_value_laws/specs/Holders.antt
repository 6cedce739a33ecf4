-- Values, arrays and objects by their members: a law for each place where their value returns, and what is lent on.
use Rattle.std.specs.Prelude.{◌≡◌, refl, ℕ, ◌+◌, ◌*◌, ◌-◌, ◌≤◌, ◌<◌, List, length}
use Rattle.std.proofs.Common.{ap, arith}
use Rattle.answers.specs.Ask.{value}
use Rattle.rules.specs.Layers.{one}
use Rattle.rules.specs.Settled.{merged_in, node_in, counted_in}
use Rattle.doc_items.specs.Room.{capacity}
use Rattle.eval_writer.specs.Building.{inside}
use Rattle.eval_writer.specs.declared.Out.{Out}
use Rattle.eval_writer.specs.declared.Source.{Source}
use Rattle.eval_results.specs.Extents.Contracts.{ClipOutIs}
use Rattle.eval_groups.specs.Clauses.{MembersIs}
use Rattle.eval_layers.specs.declared.Taken.{Taken}
use Rattle.eval_writer.specs.Copies.Sources.{records_of}
use Rattle.eval_results.specs.Values.Contracts.{HeadedIs}
use Rattle.eval_results.specs.Values.Steps.{array-comes, object-comes}
use Rattle.eval_results.specs.declared.values.Worked.{Worked}
use Rattle.eval_results.specs.declared.values.Made.{Made}
use Rattle.eval_value_laws.specs.declared.Begun.{Begun}
use Rattle.eval_value_laws.specs.Clauses.{Asked, NodeIs, ObjectIs, TakenValueIs, FieldsIs, ElementsIs, BegunBy, BegunIs}
use Rattle.eval_value_laws.specs.Frames.{left-then, left-lower, asked-again, clip-not-past, headed-within}
use Rattle.eval_value_laws.specs.Begins.{members-high, members-left, members-given}

-- ---- the value of a layer

pub node-is : {T B : List ℕ} {src : Source} {top c levels : ℕ} {o : Out} {w w' : List ℕ} {r : Worked} {b a : List ℕ}
    → TakenValueIs T B src top (Taken.One c) o levels w w' r b a → NodeIs T B src top c o levels w w' r b a
unfolding counted_in
node-is f =
    record { left = f.left; within = f.within; is = λ N known d l g. f.is N known d (value (one l)) (record { is = (l, refl, g) }) }

pub ruleset node_laws = (node-is)

-- ---- objects

module _ {B : List ℕ} {src : Source} {w : List ℕ} {hi : ℕ} {o : Out} {b : List ℕ} (A : Asked B src w hi o b) where
  -- members behind a head
  pub object-asked : {T : List ℕ} {lo top : ℕ} {x : List ℕ} → MembersIs T (records_of B src) lo hi w x top → {i : Out} → ClipOutIs (inside o) i → Asked B src x top i b
  object-asked m c = asked-again A m.len (members-high A.used m) (clip-not-past c) refl

  pub object-is : {T : List ℕ} {lo top : ℕ} {x : List ℕ} → MembersIs T (records_of B src) lo hi w x top
      → {levels : ℕ} {i : Out} {made : Made} {r : Worked} {w' y a : List ℕ} → ClipOutIs (inside o) i → FieldsIs T B src hi top i levels x w' made b y → HeadedIs o 7 made r y a → ObjectIs T B src lo hi o levels w w' r b a
  unfolding merged_in
  object-is m {levels = levels} c f h =
      record {
        left = left-then (members-left m) (left-lower m.low f.left);
        within = headed-within h;
        is = λ N known d os g. object-comes c (f.is N known d os (members-given B src N A.work m g levels (omega arith))) h;
      }

pub ruleset object-laws = (object-is)

-- ---- the value of what layers come to

-- the members' functions have one step more at a level than their values
pub value-less : {m t : ℕ} → m + 1 ≡ t → m < t
value-less e = omega arith

module _ {T B : List ℕ} {src : Source} {top levels : ℕ} {taken : Taken} {o : Out} {w x : List ℕ} {r : Begun} {b s : List ℕ}
    (h : BegunIs T B src top taken o levels w x r b s) where
  -- by the beginning's case
  begun-as : (u : Begun) → r ≡ u → BegunBy T B src top taken o levels w x b s u
  begun-as u e = rw e at h.is

  pub taken-ended : {v : Worked} → r ≡ Begun.Ended v → TakenValueIs T B src top taken o levels w x v b s
  taken-ended {v} e = begun-as (Begun.Ended v) e

  module _ {i : Out} {made : Made} {v : Worked} {w' y a : List ℕ} (c : ClipOutIs (inside o) i) where
    pub taken-elements : {item : ℕ} → r ≡ Begun.Elements item → ElementsIs T B src top item i (levels - 1) x w' made s y → HeadedIs o 6 made v y a
        → TakenValueIs T B src top taken o levels w w' v b a
    unfolding node_in
    taken-elements {item} e f k =
        let q = begun-as (Begun.Elements item) e in
        let f' : ElementsIs T B src top item i (levels - 1) x w' made b y = rw (← q.kept) f in
        record {
          left = left-then h.left f.left;
          within = headed-within k;
          is = λ N known d g G.
              let z = q.is N known d g G in
              rw z.1 (array-comes c (f'.is N known d z.0 z.2) k);
        }

    pub taken-members : {base end : ℕ} → r ≡ Begun.Members base end → FieldsIs T B src base end i (levels - 1) x w' made s y → HeadedIs o 7 made v y a
        → TakenValueIs T B src top taken o levels w w' v b a
    unfolding merged_in
    taken-members {base} {end} e f k =
        let q = begun-as (Begun.Members base end) e in
        let f' : FieldsIs T B src base end i (levels - 1) x w' made b y = rw (← q.kept) f in
        record {
          left = left-then h.left (left-lower (omega (arith, q.above, q.low)) f.left);
          within = headed-within k;
          is = λ N known d g G.
              let z = q.is N known d g G in
              rw z.2 (object-comes c (f'.is N known z.0 z.1 z.3) k);
        }

  -- what is lent on
  pub elements-deeper : {item : ℕ} → r ≡ Begun.Elements item → 1 ≤ levels
  elements-deeper {item} e = (begun-as (Begun.Elements item) e).deeper

  pub members-deeper : {base end : ℕ} → r ≡ Begun.Members base end → 1 ≤ levels
  members-deeper {base} {end} e = (begun-as (Begun.Members base end) e).deeper

  -- members have one level less
  module _ {i : Out} {t : ℕ} (A : Asked B src w top o b) (c : ClipOutIs (inside o) i) (m : 2 * levels ≡ t) where
    pub elements-lent : {item : ℕ} → r ≡ Begun.Elements item → (2 * (levels - 1) + 1 < t) × (Asked B src x top i s × (item < capacity))
    elements-lent {item} e =
        let q = begun-as (Begun.Elements item) e in
        (omega (arith, q.deeper), (asked-again A h.left.len A.used (clip-not-past c) (ap length q.kept), q.item))

    pub members-lent : {base end : ℕ} → r ≡ Begun.Members base end → (2 * (levels - 1) + 1 < t) × (Asked B src x end i s × (base ≤ end))
    members-lent {base} {end} e =
        let q = begun-as (Begun.Members base end) e in
        (omega (arith, q.deeper), (asked-again A h.left.len q.high (clip-not-past c) (ap length q.kept), q.low))

pub ruleset taken-laws = (taken-ended, taken-elements, taken-members)
