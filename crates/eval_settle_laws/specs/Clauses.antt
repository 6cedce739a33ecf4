-- What settling asks and promises: of each function the definition of the order that it computes, from the trail and the count that the
-- memory holds on.
use Rattle.std.specs.Prelude.{◌≡◌, List, [], ℕ, ◌+◌, ◌≤◌, length, Result, Ok, Err}
use Rattle.answers.specs.Ask.{Trail}
use Rattle.answers.specs.Resolve.{answer}
use Rattle.rules.specs.Bytes.{Text}
use Rattle.rules.specs.Sizes.{max_environment}
use Rattle.rules.specs.Refusals.{Refusal}
use Rattle.rules.specs.Values.{Answer}
use Rattle.theory_order.specs.Walks.{Ended}
use Rattle.theory_order.specs.Clauses.{Task, settle_root_c}
use Rattle.text_chars.specs.declared.Refusal.{Refusal as Refused}
use Rattle.eval_writer.specs.Clauses.{Room}
use Rattle.eval_writer.specs.Copies.Contracts.{most_bytes}
use Rattle.eval_stack.specs.Model.{Work}
use Rattle.eval_value_laws.specs.Clauses.{Left}
use Rattle.eval_trail.specs.Clauses.{Holding}
use Rattle.eval_trail.specs.declared.Progress.{Progress}
use Rattle.eval_question_laws.specs.Work.{Tasked, RefusedAs}
use Rattle.eval_settle_laws.specs.declared.Need.{Need}
use Rattle.eval_settle_laws.specs.declared.Span.{Span}
use Rattle.eval_settle_laws.specs.Ground.{settling_room}
use Rattle.eval_settle_laws.specs.Given.{Given, ground_of, Come}
use Rattle.eval_settle_laws.specs.Needs.{Rest, settle_rest_c, need_c, begins, RestFrom, NeedShows}

-- ---- what settling comes to

module _ {T B E w room trail text : List ℕ} {p : Progress} {budget : ℕ} (g : Given T B E w room trail text p budget) (e : Ended Refusal Answer) (least : ℕ)
    (T' B' trail' text' : List ℕ) where
  -- it goes on, and so many questions began at least
  pub record Settled (p' : Progress) : Type 0 where
    pub S' : Trail Answer
    pub n' : ℕ
    pub is : e ≡ answer tt S' n'
    pub come : Come g T' B' trail' text' p' S' n'
    pub more : g.n + least ≤ n'

  abbrev pub Settles : Result Progress Refused → Type 0
  Settles (Ok p') = Settled p'
  Settles (Err x) = RefusedAs e x.number x.place.0

-- ---- what one place needs; the stack is free from top on

pub record OneAsked (T B E w room trail text : List ℕ) (top : ℕ) (need : Need) (p : Progress) (budget : ℕ) : Type 0 where
  pub given : Given T B E w room trail text p budget
  pub used : top ≤ settling_room
  pub inner : Rest
  pub shows : NeedShows (ground_of given) w top need inner

pub record OneIs (E : List ℕ) (top : ℕ) (need : Need) (p : Progress) (budget levels : ℕ) (T T' B B' w w' trail trail' text text' : List ℕ) (r : Result Progress Refused) : Type 0 where
  pub left : Left top w w'
  pub is : {room : List ℕ} (a : OneAsked T B E w room trail text top need p budget)
      → Settles a.given (need_c a.given.t levels need a.inner a.given.S a.given.n) (begins need) T' B' trail' text' r

-- ---- what all places of a span need

pub record AllAsked (T B E w room trail text : List ℕ) (s : Span) (p : Progress) (budget : ℕ) : Type 0 where
  pub given : Given T B E w room trail text p budget
  pub rest : Rest
  pub at : RestFrom (ground_of given) w s.kind s.from s.end s.top rest

pub record AllIs (E : List ℕ) (s : Span) (p : Progress) (budget levels : ℕ) (T T' B B' w w' trail trail' text text' : List ℕ) (r : Result Progress Refused) : Type 0 where
  pub left : Left s.top w w'
  pub is : {room : List ℕ} (a : AllAsked T B E w room trail text s p budget)
      → Settles a.given (settle_rest_c a.given.t levels a.rest a.given.S a.given.n) 0 T' B' trail' text' r

-- ---- the root, from no answers on

pub record RootAsked (T B E w room trail text : List ℕ) (p : Progress) (budget : ℕ) : Type 0 where
  pub whole : Room room
  pub bytes : length B ≤ most_bytes
  pub environment : length E ≤ max_environment
  pub work : Work w
  pub t : Task
  pub task : (base : ℕ) → base ≤ settling_room → Tasked t E base
  pub budgeted : budget ≡ t.budget
  pub key : ℕ → Text
  pub items : ℕ
  pub holding : Holding t key items T B trail text p [] [] 0

pub record RootSettled {T B E w room trail text : List ℕ} {p : Progress} {budget : ℕ} (a : RootAsked T B E w room trail text p budget) (T' B' trail' text' : List ℕ)
    (p' : Progress) : Type 0 where
  pub S : Trail Answer
  pub n : ℕ
  pub is : settle_root_c a.t ≡ answer tt S n
  pub holding : Holding a.t a.key a.items T' B' trail' text' p' [] S n

abbrev pub RootSettles : {T B E w room trail text : List ℕ} {p : Progress} {budget : ℕ} (a : RootAsked T B E w room trail text p budget) (T' B' trail' text' : List ℕ) → Result Progress Refused → Type 0
RootSettles a T' B' trail' text' (Ok p') = RootSettled a T' B' trail' text' p'
RootSettles a T' B' trail' text' (Err x) = RefusedAs (settle_root_c a.t) x.number x.place.0

pub record RootIs (E : List ℕ) (p : Progress) (budget : ℕ) (T T' B B' w trail trail' text text' : List ℕ) (r : Result Progress Refused) : Type 0 where
  pub is : {room : List ℕ} (a : RootAsked T B E w room trail text p budget) → RootSettles a T' B' trail' text' r
