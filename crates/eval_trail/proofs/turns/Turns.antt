-- Laws of a turn: what its callees ask, and one for each end.
use mathlib.Core.Path.{◌≡◌, refl, sym, ap, subst, ◌∙◌}
use mathlib.Core.List.{List}
use Prim.Native.Nat.{ℕ, ◌+◌, ◌-◌, ◌<◌}
use native.Mathlib.Omega.{arith}
use lib.ListN.{length, get_or, set, length-set}
use Rattle.std.specs.Prelude.{Result, Ok, Err}
use Rattle.doc_items.specs.Room.{index_at}
use Rattle.doc_items.specs.Writing.{ReadIs}
use Rattle.text_chars.specs.declared.DocAt.{DocAt}
use Rattle.text_chars.specs.declared.Refusal.{Refusal}
use Rattle.text_chars.specs.Cursor.{refusal}
use Rattle.eval_results.specs.declared.extents.Extent.{Extent}
use Rattle.eval_results.specs.declared.sizes.Outcome.{Outcome}
use Rattle.eval_trail.specs.Clauses.{BeginAsked, BeginIs, LayAsked, LayIs, NoneAsked, NoneIs}
use Rattle.eval_trail.specs.declared.Progress.{Progress}
use Rattle.eval_trail.specs.Turns.Contracts.{pieces_at, next, LaidIs, BegunAsked, BegunIs, TurnNeeds, TurnAsked, TurnIs, ItemIs}
use Rattle.eval_trail.specs.declared.turns.Next.{Next}

-- ---- an answer is laid

module _ {n : ℕ} {s : Result Progress Refusal} where
  pub laid_on : {p : Progress} → s ≡ Ok p → LaidIs n s (Ok (next (n - 1) p))
  laid_on e = record { is = rw e refl }

  pub laid-off : {x : Refusal} → s ≡ Err x → LaidIs n s (Err x)
  laid-off e = record { is = rw e refl }

pub ruleset laids = (laid_on, laid-off)

-- ---- a question begins

module _ {T L : List ℕ} {n d : ℕ} {p : Progress} {budget : ℕ} (A : BegunAsked T L n d p budget) where
  pub begun-asked : BeginAsked T d
  begun-asked = A.begins

  module _ {T' : List ℕ} {s : Result Progress Refusal} (G : BeginIs d p budget T T' s) where
    pub begun-off : {x : Refusal} → s ≡ Err x → BegunIs n d p budget T T' L L (Err x)
    begun-off e = record { step = s; begins = G; is = rw e refl; list = rw e refl }

    module _ {p' : Progress} (e : s ≡ Ok p') where
      pub begun-room : n < length L
      begun-room = omega (arith, A.room T' p' (rw e at G))

      pub begun-piece-room : pieces_at + n < length (set L n d)
      begun-piece-room = omega (arith, A.room T' p' (rw e at G), length-set L n d)

      pub begun-on : BegunIs n d p budget T T' L (set (set L n d) (pieces_at + n) 0) (Ok (next (n + 1) p'))
      begun-on = record { step = s; begins = G; is = rw e refl; list = rw e refl }

pub ruleset beguns = (begun-asked, begun-off, begun-room, begun-piece-room, begun-on)

-- ---- a turn

module _ {T B room : List ℕ} {o : Outcome} {L : List ℕ} {n : ℕ} {p : Progress} {budget : ℕ} {trail text : List ℕ}
    (A : TurnAsked T B room o L n p budget trail text) where
  pub turn-refused : {number : ℕ} {place : DocAt} → o ≡ Outcome.Refused number place
      → TurnIs room o n p budget T T B B L L trail trail text text (Err (refusal number place))
  turn-refused e = record { is = rw e (record { is = refl; table = refl; bytes = refl; list = refl }) }

  module _ {d : ℕ} (e : o ≡ Outcome.Needs d) where
    pub needs-asked : BegunAsked T L n d p budget
    needs-asked = rw e at A.is

    pub turn-needs : {T' L' : List ℕ} {r : Result Next Refusal} → BegunIs n d p budget T T' L L' r → TurnIs room o n p budget T T' B B L L' trail trail text text r
    turn-needs G = record { is = rw e (record { begun = G; bytes = refl; trails = refl; texts = refl }) }

  module _ (e : o ≡ Outcome.Undefined) where
    undefined-needs : TurnNeeds T B room L n p budget trail text Outcome.Undefined
    undefined-needs = rw e at A.is

    pub undefined-some : 0 < n
    undefined-some = undefined-needs.0

    module _ {q : ℕ} (R : ReadIs L (n - 1) q) where
      pub undefined-asked : NoneAsked T q p trail text
      undefined-asked = subst (λ (i : ℕ). NoneAsked T i p trail text) (sym R.is) undefined-needs.1

      pub turn-undefined : {T' trail' : List ℕ} {s : Result Progress Refusal} {r : Result Next Refusal} → NoneIs q p T T' trail trail' text s → LaidIs n s r
          → TurnIs room o n p budget T T' B B L L trail trail' text text r
      turn-undefined {T'} {trail'} {s} {r} G k = record {
        is =
            rw e
            (record {
              step = s;
              lays = subst (λ (i : ℕ). NoneIs i p T T' trail trail' text s) R.is G;
              laid = k;
              list = refl;
              bytes = refl;
              texts = refl;
            });
      }

  module _ {x : Extent} (e : o ≡ Outcome.Done x) where
    done-needs : TurnNeeds T B room L n p budget trail text (Outcome.Done x)
    done-needs = rw e at A.is

    pub done-some : 0 < n
    done-some = done-needs.0

    module _ {q : ℕ} (R : ReadIs L (n - 1) q) where
      pub done-asked : LayAsked T B room x.out q p trail text
      done-asked = subst (λ (i : ℕ). LayAsked T B room x.out i p trail text) (sym R.is) done-needs.1

      pub turn-done : {T' B' trail' text' : List ℕ} {s : Result Progress Refusal} {r : Result Next Refusal} → LayIs room x.out q p T T' B B' trail trail' text text' s → LaidIs n s r
          → TurnIs room o n p budget T T' B B' L L trail trail' text text' r
      turn-done {T'} {B'} {trail'} {text'} {s} {r} G k = record {
        is =
            rw e
            (record {
              step = s;
              lays = subst (λ (i : ℕ). LayIs room x.out i p T T' B B' trail trail' text text' s) R.is G;
              laid = k;
              list = refl;
            });
      }

pub ruleset turns = (turn-refused, needs-asked, turn-needs, undefined-some, undefined-asked, turn-undefined, done-some, done-asked, turn-done)

-- ---- the newest question's item

pub item-is : {T L : List ℕ} {n q r : ℕ} → ReadIs L (n - 1) q → ReadIs T (index_at + q) r → ItemIs T L n r
item-is {T} x y = record { is = y.is ∙ ap (λ (q : ℕ). get_or T (index_at + q) 0) x.is }
