-- What the functions ask and promise.
use Rattle.std.specs.Prelude.{◌≡◌, ℕ, ◌+◌, ◌*◌, ◌%◌, ◌≤◌, ◌<◌, Bool, true, false, List, ◌⊎◌, eqb, get_or, Ok, Err}
use Rattle.std.proofs.Math.Option.{Option}
use Rattle.rules.specs.Bytes.{Text}
use Rattle.rules.specs.Pieces.{scalar_text}
use Rattle.rules.specs.Sizes.{max_records, max_room}
use Rattle.rules.specs.Tree.{Scalar, simple, array, object, unresolved}
use Rattle.rules.specs.Values.{Answer, scalar, array_of, object_of}
use Rattle.rules.specs.Layers.{Layer, written, settled}
use Rattle.rules.specs.Settled.{Given, layer_in, value_in}
use Rattle.doc_items.specs.Codes.{as_piece}
use Rattle.doc_items.specs.Room.{capacity, trail_at}
use Rattle.eval_writer.specs.declared.Out.{Out}
use Rattle.eval_results.specs.declared.extents.Extent.{Extent}
use Rattle.eval_memory.specs.Finished.{Memory, Stored}
use Rattle.eval_memory.specs.Tables.{WrittenAt, RecordOf}
use Rattle.eval_results.specs.Values.Contracts.{MadeWithin}
use Rattle.eval_results.specs.declared.values.Made.{Made}
use Rattle.eval_concat.specs.Clauses.{farthest, most_count, TextJoinedIs, MembersJoinedIs}
use Rattle.eval_concat.specs.declared.Join.{Join}
use Rattle.eval_concat.specs.Model.{Joined, too_large_c}
use Rattle.eval_state.specs.Memories.{answers_of}
use Rattle.eval_value_laws.specs.Clauses.{LayerGiven}
use Rattle.eval_pieces.specs.Clauses.{OneOf, levels}
use Rattle.eval_concat.specs.Steps.Contracts.{Stepped, step_of, Steady, JoinStepIs}
use Rattle.eval_concat.specs.declared.steps.JoinStep.{JoinStep}

-- ---- decisions

pub record RecordAtIs (c r : ℕ) : Type 0 where
  pub high : r ≤ max_room
  pub is : (at : ℕ) → c ≡ capacity + at → at ≤ max_room → r ≡ at

pub record ArrayTold (T B : List ℕ) (c : ℕ) (r : Bool) : Type 0 where
  pub item : c < capacity → r ≡ eqb (get_or T (8 * c) 0 % as_piece) 6
  pub record_of : (at : ℕ) → c ≡ capacity + at → at ≤ max_room → r ≡ eqb (get_or B (trail_at + at) 0) 6

-- elements from one place to another
pub record Joinable (from : Out) (n : ℕ) (e : Extent) : Type 0 where
  pub rec : from.rec.0 ≤ e.out.rec.0
  pub text : from.text.0 ≤ e.out.text.0
  pub few : n ≤ max_records

-- it is so, or they are too many if they are in order
pub record JoinableIs (from : Out) (n : ℕ) (e : Extent) (r : Bool) : Type 0 where
  pub yes : r ≡ true → Joinable from n e
  pub no : r ≡ false → from.rec.0 ≤ e.out.rec.0 → from.text.0 ≤ e.out.text.0 → max_records < n

-- ---- arrays

abbrev pub is_array : Layer → Bool
is_array (written (simple x)) = false
is_array (written (array es)) = true
is_array (written (object fs)) = false
is_array (written (unresolved b ps)) = false
is_array (settled (scalar x)) = false
is_array (settled (array_of vs)) = true
is_array (settled (object_of ms)) = false

-- a layer that is an array, and what the rules give for it
pub record ArrayOf (M : Memory) (known : ℕ → Option Answer) (top c : ℕ) (g : Given Answer) : Type 0 where
  pub depth : ℕ
  pub layer : Layer
  pub is : g ≡ layer_in known (value_in known depth) layer
  pub elements : is_array layer ≡ true
  pub given : LayerGiven M known top levels depth c layer

pub record ElementsAsked (made : Made) (i : ℕ) (j : Join) : Type 0 where
  pub within : MadeWithin made
  pub steady : Steady farthest most_count j
  pub item : i < capacity

-- they are joined, or there are too many
abbrev pub ElementsJoinedBy : (T : List ℕ) (i : ℕ) (j : Join) (from : Out) (r : Stepped) → Made → Type 0
ElementsJoinedBy T i j from r (Made.Needs n) = r ≡ Ok (JoinStep.Needs n)
ElementsJoinedBy T i j from r (Made.Done n e) =
    (q : Joined) × (r ≡ step_of q)
    × ((MembersJoinedIs T i j from n e q × (n ≤ max_records)) ⊎ ((q ≡ Err too_large_c) × (from.rec.0 ≤ e.out.rec.0 → from.text.0 ≤ e.out.text.0 → max_records < n)))

pub record ElementsJoinedIs (T : List ℕ) (i : ℕ) (j : Join) (from : Out) (made : Made) (r : Stepped) : Type 0 where
  pub is : ElementsJoinedBy T i j from r made

-- ---- simple values

-- a text is joined; it is that of the value that the number shows
pub record SimpleIs (T B : List ℕ) (i c : ℕ) (j : Join) (b a : List ℕ) (r : Joined) : Type 0 where
  pub text : Text
  pub joined : TextJoinedIs T B i text j b a r
  pub literal : (key : ℕ → Text) (items : ℕ) (x : Scalar) → Stored (answers_of key items T B) → WrittenAt (answers_of key items T B) (simple x) c
      → text ≡ scalar_text x
  pub finished : (key : ℕ → Text) (items : ℕ) (x : Scalar) → RecordOf (answers_of key items T B) (scalar x) c → text ≡ scalar_text x

-- ---- either

-- what joining a layer promises that is an array, and one that counts alone
pub record ArrayJoinedIs (T : List ℕ) (base i top c : ℕ) (j : Join) (w w' B b a : List ℕ) (r : Stepped) : Type 0 where
  pub step : JoinStepIs T base i j (λ M known g. ArrayOf M known top c g) w w' B B b a r

pub record OneJoinedIs (T : List ℕ) (base i top c : ℕ) (j : Join) (w w' B b a : List ℕ) (r : Stepped) : Type 0 where
  pub step : JoinStepIs T base i j (λ M known g. OneOf M known top c g) w w' B B b a r
