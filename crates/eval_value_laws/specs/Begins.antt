-- A law for each place where the beginning of a value returns, and what is lent on.
use Rattle.std.specs.Prelude.{◌≡◌, refl, ℕ, zero, suc, pred, ◌+◌, ◌-◌, ◌≤◌, ◌<◌, List, [], ◌∷◌, Bool, true, false, cond, ltb}
use Rattle.std.proofs.Common.{ap, subst, arith, ltb-true}
use Rattle.std.proofs.Math.Option.{Option, some}
use Rattle.answers.specs.Ask.{value}
use Rattle.rules.specs.Tree.{object, Fields}
use Rattle.rules.specs.Values.{Value, Answer, nesting_of}
use Rattle.rules.specs.Layers.{Layer, written, Counted}
use Rattle.rules.specs.Settled.{Given}
use Rattle.doc_items.specs.Room.{capacity, number_bound}
use Rattle.sheet_kept.specs.Kept.{named}
use Rattle.eval_nodes.specs.Model.{key_at}
use Rattle.eval_writer.specs.declared.Out.{Out}
use Rattle.eval_writer.specs.declared.Source.{Source}
use Rattle.eval_stack.specs.Model.{entries, Work, code_at, seg}
use Rattle.eval_stack.specs.Clauses.{PushIs}
use Rattle.eval_memory.specs.Finished.{Memory, Stored, SettledAt, settled-keys}
use Rattle.eval_groups.specs.Model.{State, put_c, add_c, add_members_c, object_members}
use Rattle.eval_groups.specs.Clauses.{MembersIs}
use Rattle.eval_layers.specs.declared.Taken.{Taken}
use Rattle.eval_groups.specs.Select.Levels.{members-level}
use Rattle.eval_writer.specs.Copies.Sources.{records_of}
use Rattle.eval_leaves.specs.Clauses.{SimpleValueIs, FinishedIs}
use Rattle.eval_results.specs.declared.values.Worked.{Worked}
use Rattle.eval_value_laws.specs.declared.Origin.{Origin}
use Rattle.eval_value_laws.specs.declared.Begun.{Begun}
use Rattle.eval_value_laws.specs.Ground.{Names, memory_of, ValueComes}
use Rattle.eval_value_laws.specs.Clauses.{Asked, Left, counted_by, LayerGiven, ObjectsGiven, MembersGiven, TakenGiven, TakenValueIs, OriginFits, OriginBy, OriginIs, BegunIs}
use Rattle.eval_value_laws.specs.Given.{object-given}
use Rattle.eval_value_laws.specs.Frames.{left-all, left-then, left-lower, push-left, push-high, push-there}

-- ---- members on the stack

-- it is not used past its end
add-high : (key : ℕ → ℕ) (base c : ℕ) (s : State) → s.1 ≤ entries → (add_c key base c s).1 ≤ entries
unfolding add_c
add-high key base c s h = go (ltb s.1 entries) refl
  where
    go : (t : Bool) → ltb s.1 entries ≡ t → (cond {A = State} t (put_c key base s.1 c s.0, s.1 + 1) s).1 ≤ entries
    go true e = let l = ltb-true s.1 entries e in omega arith
    go false e = h

adds-high : (key : ℕ → ℕ) (base : ℕ) (cs : List ℕ) (s : State) → s.1 ≤ entries → (add_members_c key base cs s).1 ≤ entries
unfolding add_members_c
adds-high key base [] s h = h
adds-high key base (c ∷ cs) s h = adds-high key base cs (add_c key base c s) (add-high key base c s h)

pub members-high : {T R : List ℕ} {lo hi top : ℕ} {w x : List ℕ} → hi ≤ entries → MembersIs T R lo hi w x top → top ≤ entries
members-high {T} {R} {lo} {hi} {top} {w} {x} h m =
    rw (ap (λ (s : State). s.1) m.is) (adds-high (key_at T R) hi (object_members T R (seg w lo (hi - lo))) (w, hi) h)

pub members-left : {T R : List ℕ} {lo hi top : ℕ} {w x : List ℕ} → MembersIs T R lo hi w x top → Left hi w x
members-left m = record { below = m.below; len = m.len }

-- the members of objects that are given
pub members-given : {T : List ℕ} (B : List ℕ) (src : Source) (N : Names) {lo hi top : ℕ} {w x : List ℕ} → Work w → MembersIs T (records_of B src) lo hi w x top
    → {known : ℕ → Option Answer} {levels d : ℕ} {os : List Layer} → ObjectsGiven (memory_of T B src N) known w lo hi levels d os → (n : ℕ) → levels ≤ suc n
    → MembersGiven (memory_of T B src N) known x hi top n d os
members-given {T} B src N k m {known} g n h =
    record {
      basis = g.basis;
      shown = members-level (memory_of T B src N) g.basis.tables.stored known g.shown g.fits k m;
      fits = g.fits;
      low = omega (arith, g.low);
      deep = omega (arith, g.deep, g.some);
    }

-- ---- how a value begins

-- an object whose number was pushed
object-pushed : (M : Memory) (known : ℕ → Option Answer) {top d c base : ℕ} (levels : ℕ) (x : List ℕ) (fs : Fields) → 1 ≤ levels
    → LayerGiven M known top levels d c (written (object fs)) → base ≡ top + 1 → code_at x top ≡ c
    → ObjectsGiven M known x top base levels (pred d) (written (object fs) ∷ [])
object-pushed M known zero x fs h l e k = absurd (omega arith)
object-pushed M known (suc levels) x fs h l e k = rw e (object-given M known x fs l k)

module _ {T : List ℕ} {top levels : ℕ} {taken : Taken} {w : List ℕ} {v : Origin} (h : OriginIs T w top taken levels v) where
  -- by the origin's case
  fits-as : (u : Origin) → v ≡ u → OriginFits top levels u
  fits-as u e = rw e at h.fits

  -- what is lent on
  pub simple-low : {c : ℕ} → v ≡ Origin.Simple c → c < capacity
  simple-low {c} e = fits-as (Origin.Simple c) e

  pub object-low : {c : ℕ} → v ≡ Origin.Object c → c < number_bound
  object-low {c} e = let q = fits-as (Origin.Object c) e in omega (arith, q.1)

  pub objects-high : {hi : ℕ} → v ≡ Origin.Objects hi → hi ≤ entries
  objects-high {hi} e = let q = fits-as (Origin.Objects hi) e in q.2

module _ {T B : List ℕ} {src : Source} {top levels : ℕ} {taken : Taken} {w : List ℕ} {v : Origin} (h : OriginIs T w top taken levels v) where
  is-as : (u : Origin) → v ≡ u → (N : Names) (known : ℕ → Option Answer) (d : ℕ) (g : Given Counted) → TakenGiven (memory_of T B src N) known w top levels d g taken
      → OriginBy (memory_of T B src N) known w top levels d (counted_by known d g) u
  is-as u e N known d g G = rw e at (h.is B src N known d g G)

  module _ {o : Out} {b : List ℕ} where
    ended : {r : Worked} {a : List ℕ} → TakenValueIs T B src top taken o levels w w r b a → BegunIs T B src top taken o levels w w (Begun.Ended r) b a
    ended f = record { left = left-all; is = f }

    pub begun-nothing : v ≡ Origin.Nothing → BegunIs T B src top taken o levels w w (Begun.Ended Worked.Undefined) b b
    begun-nothing e =
        ended (record { left = left-all; within = tt; is = λ N known d g G. record { is = (is-as Origin.Nothing e N known d g G, refl) } })

    pub begun-needs : {n : ℕ} → v ≡ Origin.Needs n → BegunIs T B src top taken o levels w w (Begun.Ended (Worked.Needs n)) b b
    begun-needs {n} e =
        ended (record { left = left-all; within = tt; is = λ N known d g G. record { is = is-as (Origin.Needs n) e N known d g G } })

    pub begun-finished : {at : ℕ} {r : Worked} {a : List ℕ} → v ≡ Origin.Finished at → FinishedIs T B src at o r b a
        → BegunIs T B src top taken o levels w w (Begun.Ended r) b a
    begun-finished {at} {r} {a} e f =
        ended (record { left = left-all; within = f.within; is = λ N known d g G. copied N (counted_by known d g) (is-as (Origin.Finished at) e N known d g G) })
      where
        copied : (N : Names) (x : Given Answer) → (u : Value) × (x ≡ value (some u)) × Stored (memory_of T B src N) × SettledAt (memory_of T B src N) u at
            → ValueComes (memory_of T B src N) x o r b a
        copied N x (u, z, S, s) =
            let M = memory_of T B src N in
            let n : nesting_of (named N.key s.held) ≡ nesting_of u = ap nesting_of s.is in
            rw z
            (subst (λ (q : Value). ValueComes M (value (some q)) o r b a) s.is
            (f.is N.key N.items s.held s.text (omega (arith, s.inside)) (omega (arith, s.nesting)) s.keys (settled-keys M S s) s.stands))

    pub begun-simple : {c : ℕ} {r : Worked} {a : List ℕ} → v ≡ Origin.Simple c → SimpleValueIs T B c o r b a
        → BegunIs T B src top taken o levels w w (Begun.Ended r) b a
    begun-simple {c} e f =
        ended (record {
          left = left-all;
          within = f.within;
          is = λ N known d g G.
              let x = is-as (Origin.Simple c) e N known d g G in
              rw x.1 (f.is N.key N.items x.0 x.2);
        })

    pub begun-elements : {c : ℕ} → v ≡ Origin.Array c → BegunIs T B src top taken o levels w w (Begun.Elements c) b b
    begun-elements {c} e =
        let q = fits-as h (Origin.Array c) e in
        record { left = left-all; is = record { deeper = q.0; item = q.1; kept = refl; is = is-as (Origin.Array c) e } }

    module _ (A : Asked B src w top o b) where
      pub begun-object : {c base end : ℕ} {x y : List ℕ} → v ≡ Origin.Object c → PushIs top c w x base → MembersIs T (records_of B src) top base x y end
          → BegunIs T B src top taken o levels w y (Begun.Members base end) b b
      begun-object {c} {base} {end} {x} {y} e p m =
          let q = fits-as h (Origin.Object c) e in
          let s = push-high A.work A.used p in
          record {
            left = left-then (push-left A.work A.used p) (left-lower s.0 (members-left m));
            is = record {
              deeper = q.0;
              above = s.0;
              low = m.low;
              high = members-high s.1 m;
              kept = refl;
              is = λ N known d g G.
                  let M = memory_of T B src N in
                  let z = is-as (Origin.Object c) e N known d g G in
                  let l = z.2 in
                  let t = push-there A.work A.used p (omega (arith, l.fits)) in
                  let O = object-pushed M known levels x z.0 q.0 l t.0 t.1 in
                  (pred d, written (object z.0) ∷ [], z.1, members-given B src N (omega (arith, A.work, p.len)) m O (levels - 1) (omega arith));
            };
          }

      pub begun-objects : {base end : ℕ} {y : List ℕ} → v ≡ Origin.Objects base → MembersIs T (records_of B src) top base w y end
          → BegunIs T B src top taken o levels w y (Begun.Members base end) b b
      begun-objects {base} {end} {y} e m =
          let q = fits-as h (Origin.Objects base) e in
          record {
            left = left-lower q.1 (members-left m);
            is = record {
              deeper = q.0;
              above = q.1;
              low = m.low;
              high = members-high q.2 m;
              kept = refl;
              is = λ N known d g G.
                  let z = is-as (Origin.Objects base) e N known d g G in
                  (d, z.0, z.1, members-given B src N A.work m z.2 (levels - 1) (omega arith));
            };
          }

pub pushed-high : {B : List ℕ} {src : Source} {w x : List ℕ} {top c t : ℕ} {o : Out} {b : List ℕ} → Asked B src w top o b → PushIs top c w x t → t ≤ entries
pushed-high A p = (push-high A.work A.used p).1

pub ruleset begin-laws = (begun-nothing, begun-needs, begun-finished, begun-simple, begun-elements, begun-object, begun-objects)
