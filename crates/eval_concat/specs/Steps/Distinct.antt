-- The value of a piece that is within its size has distinct keys: it is what the rules give an unresolved value of that piece alone. So have
-- the objects of a join.
use Rattle.std.specs.Prelude.{◌≡◌, refl, Bool, true, false, ℕ, ◌≤◌}
use Rattle.std.proofs.Common.{sym, ap, ◌∙◌, arith}
use mathlib.Core.List.{[], ◌++◌}
use Rattle.std.proofs.Math.Option.{Option, none, some}
use Rattle.answers.specs.Ask.{value, refused, then}
use Rattle.answers.specs.Theory.Sound.{clash}
use Rattle.rules.specs.Bytes.{Text}
use Rattle.rules.specs.Refusals.{nowhere}
use Rattle.rules.specs.Environment.{Environment}
use Rattle.rules.specs.Pieces.{scalar_text}
use Rattle.rules.specs.Tree.{string, Substitution, Node, Pieces, no_pieces, node_piece, substituted, Root, root_node, height_of, highest_piece}
use Rattle.rules.specs.Values.{Value, Answer, scalar, array_of, object_of, within_size, join_values, merge_members}
use Rattle.rules.specs.NamedValues.{Distinct, DistinctMembers}
use Rattle.rules.specs.Settled.{Given, node_in, value_in}
use Rattle.rules.specs.Unresolved.{Open, Join, blank, text, joined_array, joined_object, join_nothing, join_answer, depth_of}
use Rattle.theory.specs.DistinctKeys.{merge-distinct}
use Rattle.theory.specs.DistinctAnswers.{DistinctHome, answer-distinct}
use Rattle.theory.specs.Depths.{Shallow}
use Rattle.theory.specs.SettledAnswers.{open_in, LowBefore, sized_in, join_value_in, join_piece_in, substitution_in, several_in, answer_in, run-answer, answer-depth}
use Rattle.eval_concat.specs.Pieces.{piece-small, piece-large}

module _ (known : ℕ → Option Answer) (distinct : (b : ℕ) (v : Value) → known b ≡ some (some v) → Distinct v) (shallow : Shallow known) (root : Root)
    (env : Environment) (nested : height_of (root_node root) ≤ 32) (o : Option Open) (home : DistinctHome o) (low : LowBefore root (open_in known o)) where
  -- by any pieces
  pieces-distinct : (ps : Pieces) → highest_piece ps ≤ height_of (root_node root) → (v : Value) → answer_in known root 65 env (open_in known o) ps ≡ value (some v) → Distinct v
  unfolding height_of
  pieces-distinct ps h v e =
      answer-distinct known distinct root env o home ps v
      (run-answer known root env o ps
      ∙ answer-depth known shallow root env (depth_of root env) 65 (omega arith) (omega arith) (open_in known o) low ps h ∙ e)

  pub reference-distinct : (y : Substitution) (v : Value) → substitution_in known root 65 env (open_in known o) y ≡ value (some v) → within_size v ≡ true → Distinct v
  unfolding answer_in sized_in height_of
  reference-distinct y v e w =
      pieces-distinct (substituted [] y no_pieces) (omega arith) v
      (ap (λ (g : Given Answer). then g (λ a. sized_in a a)) e ∙ rw (sized_in, w))

  pub node-distinct : (n : Node) → height_of n ≤ height_of (root_node root) → (v : Value) → node_in known (value_in known 65) n ≡ value (some v) → within_size v ≡ true → Distinct v
  unfolding answer_in several_in join_piece_in join_value_in sized_in join_answer height_of
  node-distinct n h (scalar x) e w = tt
  node-distinct n h (array_of vs) e w =
      pieces-distinct (node_piece 0 [] n no_pieces) (omega arith) (array_of vs)
      (ap (λ (g : Given Answer). then g (λ a. then (join_piece_in 0 [] a (blank [])) (λ k. value (join_answer k)))) e ∙ rw (join_piece_in, sized_in, w, join_value_in, w) refl)
  node-distinct n h (object_of ms) e w =
      pieces-distinct (node_piece 0 [] n no_pieces) (omega arith) (object_of ms)
      (ap (λ (g : Given Answer). then g (λ a. then (join_piece_in 0 [] a (blank [])) (λ k. value (join_answer k)))) e ∙ rw (join_piece_in, sized_in, w, join_value_in, w) refl)

-- ---- joins

abbrev pub DistinctJoin : Join → Type 0
DistinctJoin (blank t) = Unit {0}
DistinctJoin (text t) = Unit {0}
DistinctJoin (joined_array vs) = Unit {0}
DistinctJoin (joined_object ms) = DistinctMembers ms

sized_same : {A : Type 0} (o : Answer) (a k : A) → sized_in o a ≡ value k → a ≡ k
unfolding sized_in
sized_same none a k e = cc (e)
sized_same {A} (some v) a k e = go (within_size v) e
  where
    go : (t : Bool) → ◌≡◌ {A = Given A} (elim t as (λ _. Given A) [ true ↦ value a | false ↦ refused (nowhere 13) ]) (value k) → a ≡ k
    go true e = cc (e)
    go false e = clash (cc (e))

-- an undefined piece
pub nothing-keeps : (place : ℕ) (gap : Text) (J K : Join) → DistinctJoin J → join_piece_in place gap none J ≡ value K → DistinctJoin K
unfolding join_piece_in join_nothing join_answer
nothing-keeps place gap (blank t) K d e = rw (← sized_same none (blank (t ++ gap)) K e) tt
nothing-keeps place gap (text t) K d e = rw (← sized_same (some (scalar (string (t ++ gap)))) (text (t ++ gap)) K e) tt
nothing-keeps place gap (joined_array vs) K d e = rw (← sized_same (some (array_of vs)) (joined_array vs) K e) tt
nothing-keeps place gap (joined_object ms) K d e = rw (← sized_same (some (object_of ms)) (joined_object ms) K e) d

-- a defined one
module _ (place : ℕ) (gap : Text) where
  joined_keeps : (v : Value) (J K : Join) → Distinct v → DistinctJoin J → then (join_value_in place gap v J) (λ k. sized_in (join_answer k) k) ≡ value K → DistinctJoin K
  unfolding join_value_in join_answer
  joined_keeps (scalar x) (blank t) K c d e = rw (← sized_same (some (scalar (string (t ++ gap ++ scalar_text x)))) (text (t ++ gap ++ scalar_text x)) K e) tt
  joined_keeps (scalar x) (text t) K c d e = rw (← sized_same (some (scalar (string (t ++ gap ++ scalar_text x)))) (text (t ++ gap ++ scalar_text x)) K e) tt
  joined_keeps (scalar x) (joined_array vs) K c d e = clash (cc (e))
  joined_keeps (scalar x) (joined_object ms) K c d e = clash (cc (e))
  joined_keeps (array_of ws) (blank t) K c d e = rw (← sized_same (some (array_of ws)) (joined_array ws) K e) tt
  joined_keeps (array_of ws) (text t) K c d e = clash (cc (e))
  joined_keeps (array_of ws) (joined_array vs) K c d e = rw (← sized_same (some (array_of (join_values vs ws))) (joined_array (join_values vs ws)) K e) tt
  joined_keeps (array_of ws) (joined_object ms) K c d e = clash (cc (e))
  joined_keeps (object_of ns) (blank t) K c d e = rw (← sized_same (some (object_of ns)) (joined_object ns) K e) c
  joined_keeps (object_of ns) (text t) K c d e = clash (cc (e))
  joined_keeps (object_of ns) (joined_array vs) K c d e = clash (cc (e))
  joined_keeps (object_of ns) (joined_object ms) K c d e =
      rw (← sized_same (some (object_of (merge_members ns ms))) (joined_object (merge_members ns ms)) K e) (merge-distinct ns ms c d)

  pub piece-keeps : (v : Value) (J K : Join) → (within_size v ≡ true → Distinct v) → DistinctJoin J → join_piece_in place gap (some v) J ≡ value K → DistinctJoin K
  piece-keeps v J K c d e = go (within_size v) refl
    where
      go : (t : Bool) → within_size v ≡ t → DistinctJoin K
      go true w = joined_keeps v J K (c w) d (sym (piece-small place gap v J w) ∙ e)
      go false w = clash (cc (sym (piece-large place gap v J w) ∙ e))
