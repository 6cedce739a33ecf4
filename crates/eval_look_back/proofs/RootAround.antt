-- The turns of the walk along the links of the root's fields with one key.
use mathlib.Core.Path.{◌≡◌, refl, ◌∙◌}
use mathlib.Core.List.{List, [], ◌∷◌}
use Prim.Native.Nat.{ℕ, ◌+◌, ◌*◌, ◌≤◌, ◌<◌}
use native.Mathlib.Omega.{arith}
use borrow.Author.Tests.{lt-ltb, le-ltb}
use Rattle.doc_items.specs.Codes as codes
use Rattle.doc_items.specs.Parts.{numbers}
use Rattle.doc_items.specs.Room.{number_bound}
use Rattle.doc_items.specs.Writing.{ReadIs}
use Rattle.eval_keys.specs.Columns.{firsts_at, nexts_at, first_at, next_at}
use Rattle.eval_root_index.specs.Links.{Follows, Rises, Along, along-end, along-item, item-last, item-next}
use Rattle.eval_look_back.specs.Roots.{spanning}
use Rattle.eval_look_back.specs.Clauses.{RootAroundIs}

pub record RootInv (T : List ℕ) (k item at : ℕ) : Type 0 where
  pub left : (js : List ℕ) → Follows (next_at T) (first_at T k) js → Rises 1 js
      → Along (next_at T) (spanning (numbers T) item) (spanning (numbers T) item js) at
  pub small : at < number_bound

pub root-start : {T : List ℕ} {k item at : ℕ} → ReadIs T (firsts_at + k) at → RootInv T k item at
root-start {T} {k} {item} {at} x = record { left = λ js f u. record { rest = js; follows = rw x.is f; rises = u; is = refl }; small = x.small }

module _ {T : List ℕ} {k item at : ℕ} (I : RootInv T k item at) where
  pub root-small : at < number_bound
  root-small = I.small

  -- past the last field
  pub root-end : at ≡ 0 → RootAroundIs T k item 0
  unfolding spanning
  root-end z = record { upto = omega arith; is = λ js f u. along-end (next_at T) (I.left js f u) z }

  module _ (n : at ≡ 0 → ⊥) where
    -- the item stands before the field, and so before those that follow
    pub root_before : item < at → RootAroundIs T k item 0
    unfolding spanning
    root_before l = record { upto = omega arith; is = λ js f u. rw (lt-ltb item at l) at (along-item (next_at T) (I.left js f u) n).is }

    module _ {size : ℕ} (low : at ≤ item) (s : ReadIs T (8 * at + 1) size) where
      pub root-here : item < at + size → RootAroundIs T k item at
      unfolding spanning
      root-here l = record {
        upto = low;
        is = λ js f u.
            let e : size ≡ codes.size_at (numbers T) at = s.is in
            rw (le-ltb item at low, lt-ltb item (codes.next_at (numbers T) at) (omega arith)) at (along-item (next_at T) (I.left js f u) n).is;
      }

      module _ {m : ℕ} (past : at + size ≤ item) (x : ReadIs T (nexts_at + at) m) where
        passed : (js : List ℕ) → spanning (numbers T) item js ≡ spanning (numbers T) item (at ∷ js)
        unfolding spanning
        passed js =
            let e : size ≡ codes.size_at (numbers T) at = s.is in
            rw (le-ltb item at low, le-ltb item (codes.next_at (numbers T) at) (omega arith)) refl

        pub root-last : m ≤ at → RootAroundIs T k item 0
        unfolding spanning
        root-last l = record {
          upto = omega arith;
          is = λ js f u. passed [] ∙ item-last (next_at T) (along-item (next_at T) (I.left js f u) n) (let e = x.is in omega arith);
        }

        pub root-more : at < m → RootInv T k item m
        root-more l = record {
          left = λ js f u.
              let N = along-item (next_at T) (I.left js f u) n in
              rw x.is (item-next (next_at T) (spanning (numbers T) item) N (passed N.rest));
          small = x.small;
        }

pub ruleset roots = (root-start, root-small, root-end, root_before, root-here, root-last, root-more)
