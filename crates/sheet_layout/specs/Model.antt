-- What the code computes, on the bytes that it has. Nothing is assumed of them.
use Rattle.std.specs.Prelude.{ℕ, zero, suc, ◌+◌, ◌*◌, Bool, true, false, cond, List, [], ◌∷◌, ◌++◌, get_or, eqb}
use Rattle.sheet_forms.specs.Model.{record_c, code_of}
use Rattle.sheet_forms.specs.declared.Form.{Form}
use Rattle.sheet_forms.specs.declared.Record.{Record}

-- the records from p on, one behind the other, until none is there
abbrev pub lays_by : (ℕ → ℕ → List ℕ) → ℕ → ℕ → Record → List ℕ
lays_by go p t Record.End = []
lays_by go p t (Record.One b) = code_of (Record.One b) ++ go (p + 1) (t + 0)
lays_by go p t (Record.Three b c d) = code_of (Record.Three b c d) ++ go (p + 3) (t + 0)
lays_by go p t (Record.Five b c d e f) = code_of (Record.Five b c d e f) ++ go (p + 5) (t + (e * 256 + f))

-- at most so many
unfoldable pub lays : Form → ℕ → List ℕ → ℕ → ℕ → ℕ → List ℕ
unfolding record_c
lays form zero s len p t = []
lays form (suc n) s len p t = lays_by (λ q u. lays form n s len q u) p t (record_c form s len p t)

-- whether these bytes stand at a place
unfoldable pub eq_at : List ℕ → ℕ → List ℕ → Bool
eq_at s i [] = true
eq_at s i (x ∷ xs) = cond (eqb (get_or s i 0) x) (eq_at s (suc i) xs) false
