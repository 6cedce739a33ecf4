-- How a path's elements stand in the lent buffers.
use Rattle.std.specs.Prelude.{◌≡◌, ℕ, suc, ◌+◌, ◌<◌, List, [], ◌∷◌, length}
use Rattle.std.proofs.Math.Seq.{slice}
use Rattle.rules.specs.Paths.{Element}
use Rattle.text_elements.specs.Marks.Marks.{marked, end_of, place_of}

-- the elements from index i on: the text of each stands behind that of the one before, from an offset on; of the first ones the
-- end and the place are marked
abbrev pub Held : ℕ → ℕ → List Element → List ℕ → List ℕ → Type 0
Held from i [] out marks = Unit {0}
Held from i (e ∷ es) out marks =
    (slice from (from + length e.text) out ≡ e.text)
    × (i < marked → (end_of marks i ≡ from + length e.text) × (place_of marks i ≡ e.place))
    × Held (from + length e.text) (suc i) es out marks
