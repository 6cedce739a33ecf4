-- What looking ahead stands on: a task with the trail and the count so far, where they stand, and room on the stack.
use Rattle.std.specs.Prelude.{List, ℕ, ◌+◌, ◌*◌, ◌≤◌, length}
use Rattle.std.proofs.Math.Option.{Option}
use Rattle.answers.specs.Ask.{Trail, lookup}
use Rattle.answers.specs.Theory.Sound.{Within}
use Rattle.rules.specs.Bytes.{Text}
use Rattle.rules.specs.Tree.{simple, array, object, unresolved, root_node}
use Rattle.rules.specs.Values.{Answer}
use Rattle.rules.specs.Layers.{Layer, written, settled}
use Rattle.rules.specs.Weights.{weight_of, weight_of_elements, weight_of_fields}
use Rattle.theory_order.specs.Clauses.{Task, tree_of, KeptOf}
use Rattle.eval_writer.specs.Copies.Contracts.{most_bytes}
use Rattle.eval_memory.specs.Finished.{Memory}
use Rattle.eval_groups.specs.Room.{Roomy}
use Rattle.eval_state.specs.State.{State}
use Rattle.eval_frames.specs.Weights.{most_weight}
use Rattle.eval_frames.specs.Shows.{used_of}

-- ---- room on the stack

-- settling uses so much of it: above, there is room for any value that is worked out
abbrev pub settling_room : ℕ
settling_room = 17578

-- with the answers so far, and with any more that a job's memory may hold
pub record Lasting (t : Task) (S : Trail Answer) (P : (ℕ → Option Answer) → Type 0) : Type 0 where
  pub is : (S' : Trail Answer) → Within S S' → weight_of (lookup S') (root_node (tree_of t)) ≤ most_weight → P (lookup S')

-- a layer's room from an entry on: for an object and its members, for what the elements of an array take
abbrev pub LayerFits : ℕ → Layer → (ℕ → Option Answer) → Type 0
LayerFits top (written (simple x)) known = Unit {0}
LayerFits top (written (array es)) known = top + 2 * weight_of_elements known es ≤ settling_room
LayerFits top (written (object fs)) known = top + 1 + 2 * weight_of_fields known fs ≤ settling_room
LayerFits top (written (unresolved b ps)) known = Unit {0}
LayerFits top (settled v) known = Unit {0}

-- of objects that stand up to an entry
abbrev pub ObjectsFit : ℕ → List Layer → (ℕ → Option Answer) → Type 0
ObjectsFit hi os known = Roomy known settling_room hi os

-- ---- what is looked at: the trail and the count so far, which stand in the job's memory

pub record Ground (T B : List ℕ) : Type 0 where
  pub t : Task
  pub key : ℕ → Text
  pub items : ℕ
  pub S : Trail Answer
  pub n : ℕ

pub record Sound {T B : List ℕ} (G : Ground T B) : Type 0 where
  pub bytes : length B ≤ most_bytes
  pub kept : KeptOf G.t G.S G.n
  pub state : State G.t.setting G.key G.items T B G.S

-- the answers in use, as the memory holds them
abbrev pub memory_of : {T B : List ℕ} → Ground T B → Memory
memory_of {T} {B} G = used_of G.key G.items T B G.S
