-- What the contracts of the code will cite, for each of its functions the definition that it computes and how its proof goes.
--
-- S is the trail, the newest entry first, and n the count of questions begun. Between two calls `KeptOf t S n` holds. A function that
-- goes on says that its definition is `answer tt S' n'` (`ready`: `answer c S' n'`), that `KeptOf t S' n'` and `Within S S'` hold, and that
-- the state which it hands back shows S' and n'; one that refuses says that its definition is `refused y`, with y's number and place.
-- `dry` is in no contract. The laws, one for each branch of the code, are in modules WorkLaws, SettleLaws and Whole.
use Rattle.std.specs.Prelude.{ℕ, suc, List, []}
use Rattle.std.proofs.Math.Option.{Option}
use Rattle.answers.specs.Ask.{Trail, lookup}
use Rattle.answers.specs.Resolve.{Rules, Res, after, bar}
use Rattle.rules.specs.Bytes.{Text}
use Rattle.rules.specs.Refusals.{Refusal}
use Rattle.rules.specs.Tree.{Node, Elements, Root, root_node, AllNode}
use Rattle.rules.specs.Values.{Answer}
use Rattle.rules.specs.Layers.{Layer, written, settled, Counted, nothing, one, merged}
use Rattle.rules.specs.Documents.{Setting, count_of}
use Rattle.rules.specs.Jobs.{Result, order_of, handed_back}
use Rattle.theory.specs.Reach.{Each, InRange}
use Rattle.theory.specs.SettledAnswers.{root_in}
use Rattle.theory_order.specs.Walks.{Ended, Kept, finish}
use Rattle.theory_order.specs.Ready.{Worker, ready}
use Rattle.theory_order.specs.Turns.{turns_left, work}
use Rattle.theory_order.specs.Running.{Running}
use Rattle.theory_order.specs.Settle.{Settler, key_in}
use Rattle.theory_order.specs.Fitting.{Plain, Object}
use Rattle.theory_order.specs.Code.{field_by, keys_by, objects_by, element_by, elements_by, level_at}

-- ---- what a resolution is given

pub record Task : Type 0 where
  -- the document, in its environment
  pub setting : Setting
  pub budget : ℕ
  -- the rooms that entries of the trail take
  pub trail_room : ℕ
  pub text_room : ℕ

abbrev pub tree_of : Task → Root
tree_of t = t.setting.document.root

abbrev pub questions_of : Task → ℕ
questions_of t = count_of t.setting

abbrev pub rules_of : Task → Rules Refusal Answer
rules_of t = order_of t.setting t.trail_room t.text_room

-- ---- layers that the settling functions take: no height, no depth, no distinct keys is asked

-- the numbers of its unresolved values are questions
abbrev pub Numbered : ℕ → Layer → Type 0
Numbered N (written m) = AllNode (InRange N) m
Numbered N (settled v) = Unit {0}

-- `settle_node` takes such a layer
abbrev pub NumberedLayer : ℕ → Layer → Type 0
NumberedLayer N l = Numbered N l × Plain l

-- `ready`, `settle_field` and `settle_object` take a list of such objects, last written first
abbrev pub NumberedObject : ℕ → Layer → Type 0
NumberedObject N o = Numbered N o × Object o

-- what counts of a key's layers: `ready` hands it on
abbrev pub NumberedCounted : ℕ → Counted → Type 0
NumberedCounted N nothing = Unit {0}
NumberedCounted N (one l) = NumberedLayer N l
NumberedCounted N (merged os) = Each (NumberedObject N) os

module _ (t : Task) where
  -- what holds of the trail and the count between two calls; at the start by `kept-start`
  abbrev pub KeptOf : Trail Answer → ℕ → Type 0
  KeptOf = Kept (rules_of t) t.budget

  -- ---- one question: `work`, `begin`

  -- `work(b)`, with `lookup S b ≡ none` and `b < questions_of t`
  abbrev pub work_c : Worker Refusal Answer
  work_c = work (rules_of t) t.budget (questions_of t)

  -- Its loop, with the questions that have begun, and for each what its further pieces need. The invariant is `WorkAt` (module WorkLaws): `RunningOf`
  -- of the questions, and what remains by needs first is `work_c b S n`; the measure is `turns_left_of stack Sᵢ`. Before it `work-begins` or
  -- `work-barred`; each turn ends by `turn-lays`, `turn-full`, `turn-refuses`, `turn-begins` or `turn-barred`; behind it `work-done`. A refusal that
  -- ends a turn is revised by the questions that have begun, the oldest first (`first_in`).
  abbrev pub RunningOf : List ℕ → Trail Answer → ℕ → Type 0
  RunningOf = Running (rules_of t) t.budget (questions_of t)

  abbrev pub turns_left_of : List ℕ → Trail Answer → ℕ
  turns_left_of = turns_left (questions_of t)

  -- `begin(q)` at a stack: 10, 12, or it begins (`bar-circular`, `bar-excess`, `bar-free`). The column of marks holds `begun S stack`: a
  -- begin sets one (`begun-push` of module Running), a lay none (`begun-lay`). As `n ≤ budget`, 12 is `n = budget`. The stack never holds
  -- more than `questions_of t` (`stacked-length` of module Turns).
  abbrev pub bar_of : List ℕ → ℕ → ℕ → Option Refusal
  bar_of = bar (rules_of t) t.budget

  -- ---- one key of objects: `take`, `ready`

  -- `take(os, k)` is `key_in os k (lookup S)`; as os are objects, `gather_of known (deeper_in known k os no) []` (`take-objects` of module
  -- Resolving). `ready(os, k)`: the invariant is `ReadyAt`, that `ready_c os k Sᵢ nᵢ` is what it was at the start; the measure is
  -- `unanswered (questions_of t) Sᵢ`. It begins by `ready-starts`; a round ends by `ready-done`, `ready-works` or `Ready-refused`, and
  -- `ready-missing` is what `work` asks.
  abbrev pub ready_c : List Layer → Text → Trail Answer → ℕ → Res Refusal Answer Counted
  ready_c os k = ready work_c (key_in os k) (suc (questions_of t))

  -- ---- settling, with so many levels left: the measure of the recursion. The laws `node-..`, `field-..`, `keys-..`, `element-..` and
  -- `elements-..` say what each case and each end of a call comes to.

  module _ (levels : ℕ) where
    -- `settle_node(l, levels)`: by the cases of the layer; an object or array goes one level down
    abbrev pub settle_node_c : Settler Layer
    settle_node_c = (level_at work_c (questions_of t) levels).node

    -- `settle_field(os, k, levels)`: `ready_c os k`, then by what counts; several objects go one level down
    abbrev pub settle_field_c : List Layer → Settler Text
    settle_field_c = field_by work_c (questions_of t) (level_at work_c (questions_of t) levels)

    -- `settle_object(os, levels)`; in its loop `settle_keys_c os (keys still to come) Sᵢ nᵢ` stays what it was
    abbrev pub settle_object_c : Settler (List Layer)
    settle_object_c = objects_by work_c (questions_of t) (level_at work_c (questions_of t) levels)

    abbrev pub settle_keys_c : List Layer → Settler (List Text)
    settle_keys_c = keys_by work_c (questions_of t) (level_at work_c (questions_of t) levels)

    -- `settle_element(m, levels)`: an unresolved one is worked out where it has no answer, any other is a layer
    abbrev pub settle_element_c : Settler Node
    settle_element_c = element_by work_c (questions_of t) (level_at work_c (questions_of t) levels)

    -- `settle_elements(es, levels)`; in its loop `settle_elements_c (elements still to come) Sᵢ nᵢ` stays what it was
    abbrev pub settle_elements_c : Settler Elements
    settle_elements_c = elements_by work_c (questions_of t) (level_at work_c (questions_of t) levels)

  -- `settle_root`: 65 levels are never used up
  abbrev pub settle_root_c : Ended Refusal Answer
  settle_root_c = settle_node_c 65 (written (root_node (tree_of t))) [] 0

  -- ---- the job

  -- Settle the root, evaluate it once, hand back. Laws (Whole): where settling refuses, `root-refused`; else `root-answered`: the root's
  -- value is there, so that writing it meets no missing answer. There is no third way (`root_ends`).
  unfoldable pub resolution_c : (table_room : ℕ) → Result
  unfolding order_of level_at root_in handed_back
  resolution_c table_room =
      handed_back table_room t.text_room (after settle_root_c (λ _ S n. finish (root_in (lookup S) (tree_of t) 65) S n))
