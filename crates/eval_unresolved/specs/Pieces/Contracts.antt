-- What joining the pieces promises.
use Rattle.std.specs.Prelude.{◌≡◌, ℕ, ◌+◌, ◌*◌, ◌<◌, List, [], length, get_or, Ok, Err}
use Rattle.std.proofs.Math.Option.{Option}
use Rattle.answers.specs.Ask.{Trail, lookup, value, missing, then}
use Rattle.rules.specs.Bytes.{Text}
use Rattle.rules.specs.Tree.{Substitution, Node, Pieces, no_pieces, node_piece, substituted}
use Rattle.rules.specs.Values.{Answer}
use Rattle.rules.specs.Settled.{Given, node_in, value_in}
use Rattle.rules.specs.Unresolved as rules
use Rattle.rules.specs.Unresolved.{Unresolved, blank, join_answer}
use Rattle.rules.specs.Documents.{Setting}
use Rattle.theory.specs.SettledAnswers.{open_in, join_piece_in, substitution_in, several_in}
use Rattle.doc_items.specs.Room.{capacity, bytes_room, number_bound}
use Rattle.eval_writer.specs.Clauses.{Room}
use Rattle.eval_results.specs.Extents.Contracts.{far}
use Rattle.eval_concat.specs.Clauses.{farthest, most_count}
use Rattle.eval_concat.specs.Growth.{Below}
use Rattle.eval_concat.specs.Standing.{JoinIn}
use Rattle.eval_concat.specs.declared.Join.{Join}
use Rattle.eval_state.specs.State.{State}
use Rattle.eval_value_laws.specs.Clauses.{Left}
use Rattle.eval_concat.specs.Steps.Contracts.{Stepped, Steady, Good, RefusedWith, StepCase}
use Rattle.eval_concat.specs.Steps.Distinct.{DistinctJoin}
use Rattle.eval_concat.specs.declared.steps.JoinStep.{JoinStep}
use Rattle.eval_pieces.specs.Cursor.Contracts.{end_c}
use Rattle.eval_question_laws.specs.Clauses.{Asked, Questioned}

-- ---- one piece more

-- those that are left, behind others
pub data Behind (T : List ℕ) (first : ℕ) (all : Pieces) : ℕ → Pieces → Type 0 where
  none : Behind T first all first all
  node : {i place : ℕ} {gap : Text} {n : Node} {ps : Pieces} → Behind T first all i (node_piece place gap n ps)
      → Behind T first all (i + get_or T (8 * i + 1) 0) ps
  reference : {i : ℕ} {gap : Text} {y : Substitution} {ps : Pieces} → Behind T first all i (substituted gap y ps)
      → Behind T first all (i + get_or T (8 * i + 1) 0) ps

-- the pieces up to item i have come to the join J, which stands in the room
pub record Reached (key : ℕ → Text) (items : ℕ) (T : List ℕ) (item i : ℕ) (all rest : Pieces) (j : Join) (room : List ℕ) (J : rules.Join) : Type 0 where
  pub behind : Behind T (item + 1) all i rest
  pub join : JoinIn key (Good T items) j room J
  pub distinct : DistinctJoin J

-- the first of the pieces that are left, joined
abbrev pub first_in : Setting → (ℕ → Option Answer) → Unresolved → Pieces → rules.Join → Given rules.Join
first_in x known u no_pieces J = value J
first_in x known u (node_piece place gap n ps) J = then (node_in known (value_in known 65) n) (λ v. join_piece_in place gap v J)
first_in x known u (substituted gap y ps) J =
    then (substitution_in known x.document.root 65 x.environment (open_in known u.openness) y) (λ v. join_piece_in y.place gap v J)

pub record NextAsked (B E w room : List ℕ) (base item i : ℕ) (j : Join) : Type 0 where
  pub asked : Asked B E w room base item
  pub piece : i < capacity
  pub steady : Steady farthest most_count j

pub record JoinNextIs (T E : List ℕ) (base item i : ℕ) (j : Join) (w w' B B' room after : List ℕ) (r : Stepped) : Type 0 where
  pub left : Left base w w'
  pub bytes : length B' ≡ length B
  pub beside : (n d : ℕ) → n < bytes_room → get_or B' n d ≡ get_or B n d
  pub whole : Room after
  pub grows : (k : Join) → r ≡ Ok (JoinStep.So k) → (t c : ℕ) → Below t c j → Steady (t + number_bound) (c + far) k
  pub is : (x : Setting) (key : ℕ → Text) (items : ℕ) (S : Trail Answer) (b : ℕ) (u : Unresolved) (rest : Pieces) (J : rules.Join)
      → Questioned x key items T B E S base item b u → i < end_c T item → Reached key items T item i u.pieces rest j room J
      → State x key items T B' S × StepCase key (Good T items) after (first_in x (lookup S) u rest J) r

-- ---- all pieces

abbrev pub several_by : Setting → (ℕ → Option Answer) → Unresolved → Pieces → rules.Join → Given Answer
several_by x known u = several_in known x.document.root 65 x.environment (open_in known u.openness)

module _ (key : ℕ → Text) (items : ℕ) (T room : List ℕ) (g : Given Answer) where
  pub record AllJoined (j : Join) : Type 0 where
    pub join : rules.Join
    pub is : g ≡ value (join_answer join)
    pub stands : JoinIn key (Good T items) j room join

  abbrev pub JoinedCase : Stepped → Type 0
  JoinedCase (Ok (JoinStep.So j)) = AllJoined j
  JoinedCase (Ok (JoinStep.Needs d)) = g ≡ missing d
  JoinedCase (Err e) = RefusedWith g e.number e.place.0

pub record PiecesJoinedIs (T E : List ℕ) (base item : ℕ) (w w' B B' after : List ℕ) (r : Stepped) : Type 0 where
  pub left : Left base w w'
  pub bytes : length B' ≡ length B
  pub beside : (n d : ℕ) → n < bytes_room → get_or B' n d ≡ get_or B n d
  pub whole : Room after
  pub is : (x : Setting) (key : ℕ → Text) (items : ℕ) (S : Trail Answer) (b : ℕ) (u : Unresolved) → Questioned x key items T B E S base item b u
      → State x key items T B' S × JoinedCase key items T after (several_by x (lookup S) u u.pieces (blank [])) r
