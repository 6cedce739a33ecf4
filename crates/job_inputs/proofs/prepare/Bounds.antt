-- Laws of the keys' bounds.
use mathlib.Core.Path.{◌≡◌, refl}
use mathlib.Core.List.{List}
use Prim.Native.Nat.{ℕ, ◌+◌, ◌*◌, ◌≤◌, ◌<◌}
use native.Mathlib.Omega.{arith}
use lib.ListN.{length, set, length-set}
use lib.Seq.{get_or-set_same, get_or-set_other}
use Rattle.doc_items.specs.Room.{capacity, table_room, text_room}
use Rattle.doc_items.specs.Writing.{ReadIs}
use Rattle.job_inputs.specs.Prepare.Contracts.{BoundIs, Bounded}
use Rattle.job_inputs.specs.Prepare.Preparing.{bound-none, bound-more}

module _ {T : List ℕ} {i a n : ℕ} (x : ReadIs T (8 * i + 2) a) (y : ReadIs T (8 * i + 3) n) where
  pub bound-there : a + n ≤ text_room → BoundIs i T T
  bound-there l = record { ends = omega (arith, x.is, y.is); same = λ u. refl; kept = λ j o. refl; len = refl }

  pub bound-emptied : i < capacity → table_room ≤ length T → text_room < a + n → BoundIs i T (set T (8 * i + 3) 0)
  bound-emptied few room l =
      let e = get_or-set_same T (8 * i + 3) 0 0 (omega arith) in
      let f = get_or-set_other T (8 * i + 3) (8 * i + 2) 0 0 (λ q. omega arith) in
      record {
        ends = omega (arith, x.is, x.small);
        same = λ u. absurd (omega (arith, x.is, y.is));
        kept = λ j o. get_or-set_other T (8 * i + 3) j 0 0 o;
        len = length-set T (8 * i + 3) 0;
      }

pub ruleset bounds = (bound-there, bound-emptied)

-- the items before i are done
pub record BoundInv (items : ℕ) (T₀ T : List ℕ) (i : ℕ) : Type 0 where
  pub done : Bounded i T₀ T
  pub upto : i ≤ items + 1

pub bounds-start : {items : ℕ} {T : List ℕ} → BoundInv items T T 1
bounds-start = record { done = bound-none; upto = omega arith }

module _ {items i : ℕ} {T₀ T : List ℕ} (I : BoundInv items T₀ T i) where
  pub bounds-again : {T' : List ℕ} → i < items + 1 → BoundIs i T T' → BoundInv items T₀ T' (i + 1)
  bounds-again l K = record { done = bound-more I.done K; upto = omega arith }

  pub bounds-item : items < capacity → i < items + 1 → i < capacity
  bounds-item few l = omega arith

  pub bounds-room : table_room ≤ length T₀ → table_room ≤ length T
  bounds-room l = omega (arith, I.done.len)

  pub bounds-done : items + 1 ≤ i → Bounded (items + 1) T₀ T
  bounds-done l = let e : i ≡ items + 1 = omega (arith, I.upto) in rw e at I.done

pub ruleset bounds_of = (bounds-start, bounds-again, bounds-item, bounds-room, bounds-done)
