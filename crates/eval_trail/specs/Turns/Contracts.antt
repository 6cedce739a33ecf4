-- What a turn asks and promises, by what the newest question of the list came to: eval_trail's steps were taken.
use Rattle.std.specs.Prelude.{◌≡◌, List, ℕ, ◌+◌, ◌-◌, ◌≤◌, ◌<◌, length, get_or, set, Result, Ok, Err}
use Rattle.rules.specs.Sizes.{max_unresolved}
use Rattle.text_chars.specs.declared.DocAt.{DocAt}
use Rattle.text_chars.specs.declared.Refusal.{Refusal}
use Rattle.text_chars.specs.Cursor.{refusal}
use Rattle.doc_items.specs.Room.{index_at}
use Rattle.eval_results.specs.declared.extents.Extent.{Extent}
use Rattle.eval_results.specs.declared.sizes.Outcome.{Outcome}
use Rattle.eval_trail.specs.Clauses.{BeginAsked, BeginIs, LayAsked, LayIs, NoneAsked, NoneIs}
use Rattle.eval_trail.specs.declared.Progress.{Progress}
use Rattle.eval_trail.specs.declared.turns.Next.{Next}

-- the list has room for all questions, and behind them for the piece of each
abbrev pub list_room : ℕ
list_room = 512

abbrev pub pieces_at : ℕ
pieces_at = 256

-- the newest of n questions stands last
abbrev pub newest : List ℕ → ℕ → ℕ
newest L n = get_or L (n - 1) 0

-- its piece
abbrev pub newest_piece : List ℕ → ℕ → ℕ
newest_piece L n = get_or L (pieces_at + (n - 1)) 0

-- so many questions are in the list, and so far it has come
abbrev pub next : ℕ → Progress → Next
next count at = record { count = count; at = at }

-- ---- an answer is laid

abbrev pub Laid : ℕ → Result Next Refusal → Result Progress Refusal → Type 0
Laid n r (Ok p) = r ≡ Ok (next (n - 1) p)
Laid n r (Err x) = r ≡ Err x

pub record LaidIs (n : ℕ) (s : Result Progress Refusal) (r : Result Next Refusal) : Type 0 where
  pub is : Laid n r s

-- ---- a question begins

-- where it does, there is room for it in the list
pub record BegunAsked (T L : List ℕ) (n d : ℕ) (p : Progress) (budget : ℕ) : Type 0 where
  pub begins : BeginAsked T d
  pub few : n ≤ max_unresolved
  pub room : (T' : List ℕ) (p' : Progress) → BeginIs d p budget T T' (Ok p') → pieces_at + n < length L

abbrev pub begun_next : ℕ → Result Progress Refusal → Result Next Refusal
begun_next n (Ok p) = Ok (next (n + 1) p)
begun_next n (Err x) = Err x

-- it has just begun: there is no piece yet
abbrev pub begun_list : ℕ → ℕ → List ℕ → Result Progress Refusal → List ℕ
begun_list n d L (Ok p) = set (set L n d) (pieces_at + n) 0
begun_list n d L (Err x) = L

pub record BegunIs (n d : ℕ) (p : Progress) (budget : ℕ) (T T' L L' : List ℕ) (r : Result Next Refusal) : Type 0 where
  pub step : Result Progress Refusal
  pub begins : BeginIs d p budget T T' step
  pub is : r ≡ begun_next n step
  pub list : L' ≡ begun_list n d L step

-- ---- a turn

abbrev pub TurnNeeds : (T B room L : List ℕ) (n : ℕ) (p : Progress) (budget : ℕ) (trail text : List ℕ) → Outcome → Type 0
TurnNeeds T B room L n p budget trail text (Outcome.Done e) = (0 < n) × LayAsked T B room e.out (newest L n) p trail text
TurnNeeds T B room L n p budget trail text Outcome.Undefined = (0 < n) × NoneAsked T (newest L n) p trail text
TurnNeeds T B room L n p budget trail text (Outcome.Needs d) = BegunAsked T L n d p budget
TurnNeeds T B room L n p budget trail text (Outcome.Refused number place) = Unit {0}

pub record TurnAsked (T B room : List ℕ) (o : Outcome) (L : List ℕ) (n : ℕ) (p : Progress) (budget : ℕ) (trail text : List ℕ) : Type 0 where
  pub is : TurnNeeds T B room L n p budget trail text o

module _ (room : List ℕ) (n : ℕ) (p : Progress) (budget : ℕ) (T T' B B' L L' trail trail' text text' : List ℕ) (r : Result Next Refusal) where
  pub record DoneTurn (e : Extent) : Type 0 where
    pub step : Result Progress Refusal
    pub lays : LayIs room e.out (newest L n) p T T' B B' trail trail' text text' step
    pub laid : LaidIs n step r
    pub list : L' ≡ L

  pub record UndefinedTurn : Type 0 where
    pub step : Result Progress Refusal
    pub lays : NoneIs (newest L n) p T T' trail trail' text step
    pub laid : LaidIs n step r
    pub list : L' ≡ L
    pub bytes : B' ≡ B
    pub texts : text' ≡ text

  pub record NeedsTurn (d : ℕ) : Type 0 where
    pub begun : BegunIs n d p budget T T' L L' r
    pub bytes : B' ≡ B
    pub trails : trail' ≡ trail
    pub texts : text' ≡ text

  pub record RefusedTurn (number : ℕ) (place : DocAt) : Type 0 where
    pub is : r ≡ Err (refusal number place)
    pub table : T' ≡ T
    pub bytes : B' ≡ B
    pub list : L' ≡ L

  abbrev pub TurnCase : Outcome → Type 0
  TurnCase (Outcome.Done e) = DoneTurn e
  TurnCase Outcome.Undefined = UndefinedTurn
  TurnCase (Outcome.Needs d) = NeedsTurn d
  TurnCase (Outcome.Refused number place) = RefusedTurn number place

pub record TurnIs (room : List ℕ) (o : Outcome) (n : ℕ) (p : Progress) (budget : ℕ) (T T' B B' L L' trail trail' text text' : List ℕ) (r : Result Next Refusal) : Type 0 where
  pub is : TurnCase room n p budget T T' B B' L L' trail trail' text text' r o

-- ---- the newest question's item

pub record ItemIs (T L : List ℕ) (n r : ℕ) : Type 0 where
  pub is : r ≡ get_or T (index_at + newest L n) 0
