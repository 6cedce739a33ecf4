-- What the rules of one unresolved value refuse, with the answers known: at which of its pieces, and why. That nothing else
-- refuses, and that these do, is shown in proofs/Pieces.antt.
use Rattle.std.proofs.Math.Path.{◌≡◌}
use Rattle.std.specs.Prelude.{ℕ, Bool, []}
use Rattle.std.proofs.Math.Bool.{true, false}
use Rattle.std.proofs.Math.Option.{Option, none, some}
use Rattle.answers.specs.Ask.{done, value, run}
use Rattle.rules.specs.Bytes.{Text}
use Rattle.rules.specs.Refusals.{Refusal, placed, nowhere}
use Rattle.rules.specs.Environment.{Environment}
use Rattle.rules.specs.Tree.{Substitution, Node, Pieces, no_pieces, node_piece, substituted, Root}
use Rattle.rules.specs.Reading.{Kind, simple_kind, array_kind, object_kind}
use Rattle.rules.specs.Values.{Value, scalar, array_of, object_of, Answer, within_size}
use Rattle.rules.specs.Layers.{node_value}
use Rattle.rules.specs.Unresolved.{Openness, layers_for, dotted, Join, blank, text, joined_array, joined_object}
use Rattle.rules.specs.Unresolved.{join_value, join_nothing, join_answer, join_piece}
use Rattle.rules.specs.Unresolved.{evaluate, substitution_value}
use Rattle.theory.specs.Ends.{WithinSize}

-- ---- joins

-- the kind of a value, and of a join: that of the first defined piece, if there was one
abbrev pub kind_of_value : Value → Kind
kind_of_value (scalar x) = simple_kind
kind_of_value (array_of vs) = array_kind
kind_of_value (object_of ms) = object_kind

abbrev pub kind_of_join : Join → Option Kind
kind_of_join (blank t) = none
kind_of_join (text t) = some simple_kind
kind_of_join (joined_array vs) = some array_kind
kind_of_join (joined_object ms) = some object_kind

-- a defined value of another kind than the first defined piece
pub record Unlike (v : Value) (j : Join) : Type 0 where
  pub first_kind : Kind
  pub first-is : kind_of_join j ≡ some first_kind
  pub differs : kind_of_value v ≡ first_kind → ⊥

-- a piece's answer a makes k of the join j
abbrev pub Joins : (place : ℕ) (gap : Text) (a : Answer) (j k : Join) → Type 0
Joins place gap none j k = join_nothing gap j ≡ k
Joins place gap (some v) j k = join_value place gap v j ≡ done k

-- "One piece keeps its type": a value that is one substitution alone is not joined
abbrev pub alone : Pieces → Bool
alone no_pieces = false
alone (node_piece place gap n ps) = false
alone (substituted gap s no_pieces) = true
alone (substituted gap s (node_piece place g n ps)) = false
alone (substituted gap s (substituted g t ps)) = false

module _ (root : Root) (env : Environment) (openness : Openness) (known : ℕ → Option Answer) where
  -- "each worked out": a piece comes to an answer
  abbrev pub NodeIs : Node → Answer → Type 0
  NodeIs n a = run known (node_value (evaluate root env) n) ≡ value a

  abbrev pub SubstitutionIs : Substitution → Answer → Type 0
  SubstitutionIs s a = run known (substitution_value root env openness s) ≡ value a

  module _ (all : Pieces) where
    -- "pieces left to right": some are left, and those before them have come to a join
    pub data Left : Pieces → Join → Type 0 where
      first : Left all (blank [])
      past-node : {place : ℕ} {gap : Text} {n : Node} {ps : Pieces} {j k : Join} {a : Answer} → Left (node_piece place gap n ps) j
          → NodeIs n a
          → run known (join_piece place gap a j) ≡ value k → Left ps k
      past-substitution : {gap : Text} {s : Substitution} {ps : Pieces} {j k : Join} {a : Answer} → Left (substituted gap s ps) j
          → SubstitutionIs s a → run known (join_piece s.place gap a j) ≡ value k → Left ps k

    -- the next piece stands at a place behind whitespace and has come to an answer, and those before it to a join
    pub data Next (place : ℕ) (gap : Text) (a : Answer) (j : Join) : Type 0 where
      node : {n : Node} {ps : Pieces} → Left (node_piece place gap n ps) j → NodeIs n a → Next place gap a j
      substitution : {s : Substitution} {ps : Pieces} → place ≡ s.place → Left (substituted gap s ps) j → SubstitutionIs s a
          → Next place gap a j

    -- 9, "required substitution undefined": nothing is left of the layers of its path, and the environment has no such name
    pub record UndefinedAt (p : ℕ) : Type 0 where
      pub gap : Text
      pub substitution : Substitution
      pub rest : Pieces
      pub so_far : Join
      pub next : Left (substituted gap substitution rest) so_far
      pub required : substitution.optional ≡ false
      pub undefined : run known (evaluate root env (layers_for root openness substitution.path)) ≡ value none
      pub no-variable : env (dotted substitution.path) ≡ none
      pub its-dollar : p ≡ substitution.place

    -- 11, "kinds mixed in one value": a piece unlike the first defined one
    pub record MixedAt (p : ℕ) : Type 0 where
      pub gap : Text
      pub piece : Value
      pub so_far : Join
      pub next : Next p gap (some piece) so_far
      pub within : within_size piece ≡ true
      pub unlike-first : Unlike piece so_far

    -- 13, "a value over its size": "Any piece's value and join so far in a blend"
    pub data OverSize : Type 0 where
      piece : {place : ℕ} {gap : Text} {v : Value} {j : Join} → Next place gap (some v) j → within_size v ≡ false → OverSize
      join : alone all ≡ false → {place : ℕ} {gap : Text} {a : Answer} {j : Join} → Next place gap a j → WithinSize a
          → (k : Join) → Joins place gap a j k → (w : Value) → join_answer k ≡ some w → within_size w ≡ false → OverSize

    pub data Refusing (y : Refusal) : Type 0 where
      undefined : (p : ℕ) → UndefinedAt p → y ≡ placed 9 p → Refusing y
      mixed : (p : ℕ) → MixedAt p → y ≡ placed 11 p → Refusing y
      large : OverSize → y ≡ nowhere 13 → Refusing y
