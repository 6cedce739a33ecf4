-- Numbers that show layers give, along a path, numbers that show the layers along it.
use Rattle.std.specs.Prelude.{◌≡◌, get_or}
use Rattle.std.proofs.Math.Path.{subst}
use Rattle.std.proofs.Common.{sym}
use Prim.Native.Nat.{ℕ, zero, suc, ◌+◌, ◌-◌, ◌≤◌}
use mathlib.Core.List.{List, [], ◌∷◌}
use Rattle.std.proofs.Math.Option.{Option}
use native.Mathlib.Omega.{arith}
use Rattle.std.proofs.Math.ListN.{length}
use Rattle.rules.specs.Bytes.{Text}
use Rattle.rules.specs.Values.{Answer}
use Rattle.rules.specs.Settled.{Settled, deeper_of, deeper_in, walk_in}
use Rattle.rules.specs.Weights.{weigh}
use Rattle.theory.specs.Room.{deeper-weighs}
use Rattle.eval_keys.specs.Numbers.{number_of}
use Rattle.eval_substitutions.specs.Keys.Elements.{KeysOf}
use Rattle.eval_memory.specs.Keys.{Means, number-means}
use Rattle.eval_memory.specs.Finished.{Memory}
use Rattle.eval_memory.specs.Tables.{Tables, Match, match-length}
use Rattle.eval_layers.specs.Model.{deeper_c}
use Rattle.eval_layers.specs.Shows.{Ended}
use Rattle.eval_layers.specs.Deeper.{deeper-shows}
use Rattle.eval_substitutions.specs.Paths.Model.{Layered, onward_c, walk_path_c}

module _ (M : Memory) (known : ℕ → Option Answer) where
  -- numbers that show layers, with room for what the layers weigh
  pub record Roomy (a : Layered) (s : Settled) : Type 0 where
    pub layers : Match M a.layers s.0
    pub stuck : Ended a.stuck s.1
    pub room : weigh known s.0 ≤ a.room

  module _ (tables : Tables M known) where
    -- k stands for the text t
    pub onward-shows : (k : ℕ) (t : Text) → Means M.key M.table M.items k t → (a : Layered) (s : Settled) → Roomy a s
        → Roomy (onward_c M.table M.records k a) (deeper_of known t s)
    unfolding onward_c deeper_c deeper_in
    onward-shows k t means a s m =
        let r = a.room - length a.layers in
        let e = match-length M a.layers s.0 m.layers in
        let w = deeper-shows M known tables k t means r a.layers s.0 a.stuck s.1 m.layers m.stuck (omega (arith, m.room)) in
        record { layers = w.0; stuck = w.1; room = omega (arith, m.room, deeper-weighs known t s.0 s.1) }

    -- the numbers of K from i on are those of the texts ts
    pub walk-shows : (K : List ℕ) (ts : List Text) (i n : ℕ) → n ≡ length ts → KeysOf (number_of M.bytes M.table M.items) K i ts
        → (a : Layered) (s : Settled) → Roomy a s → Roomy (walk_path_c M.table M.records K n i a) (walk_in known ts s)
    unfolding walk_path_c walk_in
    walk-shows K [] i zero e k a s m = m
    walk-shows K [] i (suc n) e k a s m = absurd (omega arith)
    walk-shows K (t ∷ ts) i zero e k a s m = absurd (omega arith)
    walk-shows K (t ∷ ts) i (suc n) e k a s m =
        let z : i + 1 ≡ suc i = omega arith in
        let means : Means M.key M.table M.items (get_or K i 0) t =
        subst (λ (j : ℕ). Means M.key M.table M.items j t) (sym k.0) (number-means tables.stored.numbered tables.stored.names t) in
        walk-shows K ts (suc i) n (omega arith) (subst (λ (j : ℕ). KeysOf (number_of M.bytes M.table M.items) K j ts) z k.1)
        (onward_c M.table M.records (get_or K i 0) a) (deeper_of known t s) (onward-shows (get_or K i 0) t means a s m)
