-- README's trail, of `a=1,b=${a}`: one entry, the number 1 at text 0.
use Rattle.std.specs.Prelude.{refl, [], ◌∷◌}
use Rattle.std.proofs.Math.Option.{none, some}
use Rattle.rules.specs.Tree.{number}
use Rattle.rules.specs.Values.{scalar}
use Rattle.rules.specs.Sheet.{trail_records, trail_texts}
use Rattle.eval_store.specs.Entries.Contracts.{TrailIs}

one_entry : TrailIs ((0, some (scalar (number (49 ∷ [])))) ∷ []) (9 ∷ 0 ∷ 0 ∷ 4 ∷ 0 ∷ 0 ∷ 0 ∷ 1 ∷ 0 ∷ 0 ∷ []) (49 ∷ 0 ∷ []) (0 ∷ 0 ∷ []) (0 ∷ [])
unfolding trail_records trail_texts
one_entry = record { records = refl; texts = refl }

-- behind it the undefined value number 258
two-entries : TrailIs ((258, none) ∷ (0, some (scalar (number (49 ∷ [])))) ∷ [])
    (9 ∷ 0 ∷ 0 ∷ 4 ∷ 0 ∷ 0 ∷ 0 ∷ 1 ∷ 10 ∷ 1 ∷ 2 ∷ 0 ∷ []) (49 ∷ 0 ∷ []) (0 ∷ []) (0 ∷ [])
unfolding trail_records trail_texts
two-entries = record { records = refl; texts = refl }
