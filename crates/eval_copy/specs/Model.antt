-- What the code computes, on the bytes that it has. Nothing is assumed of them.
use Rattle.std.specs.Prelude.{ℕ, zero, suc, ◌+◌, Bool, cond, List, [], ◌∷◌, length, get_or, leb, eqb}
use Rattle.rules.specs.Sheet.{two}
use Rattle.sheet_kept.specs.InTurn.{extent}
use Rattle.sheet_forms.specs.Model.{shape_of, pair_c, members_c}
use Rattle.sheet_forms.specs.declared.Shape.{Shape}
use Rattle.eval_writer.specs.Copies.Model.{Act, act, then, under, copy_k, plain_c, word_c}

-- a member, and so many
unfoldable pub copy_m : (ℕ → ℕ → Act) → List ℕ → List ℕ → Bool → ℕ → ℕ → Act
unfolding copy_k extent
copy_m val T s keyed p t = then (copy_k T s keyed p) (val (copy_k T s keyed p).next (t + extent (copy_k T s keyed p).ws))

unfoldable pub copy_ms : (ℕ → ℕ → Act) → List ℕ → List ℕ → Bool → ℕ → ℕ → ℕ → Act
unfolding copy_m extent
copy_ms val T s keyed zero p t = act [] [] p
copy_ms val T s keyed (suc c) p t =
    cond (leb (length s) p) (act [] [] p)
    (then (copy_m val T s keyed p t) (copy_ms val T s keyed c (copy_m val T s keyed p t).next (t + extent (copy_m val T s keyed p t).ws)))

abbrev pub copy_by : (ℕ → ℕ → ℕ → Act) → List ℕ → ℕ → ℕ → ℕ → ℕ → Shape → Act
copy_by held s tb b p t Shape.Plain = plain_c b p
copy_by held s tb b p t Shape.Key = plain_c b p
copy_by held s tb b p t Shape.Word = word_c s tb b p t
copy_by held s tb b p t Shape.Head = held b p t

-- an array or object, so many levels deep
unfoldable pub copy_h : ℕ → List ℕ → List ℕ → ℕ → ℕ → ℕ → ℕ → Act
unfolding plain_c word_c copy_ms shape_of two
copy_h zero T s tb b p t = act [] [] (p + 1)
copy_h (suc n) T s tb b p t =
    under
    (then (act (b ∷ two (pair_c s (p + 1))) [] (p + 3))
    (copy_ms (λ q u. copy_by (λ c r w. copy_h n T s tb c r w) s tb (get_or s q 0) q u (shape_of (get_or s q 0))) T s (eqb b 7) (members_c s p) (p + 3) t))

-- the value at p, so many levels deep
unfoldable pub copy_v : ℕ → List ℕ → List ℕ → ℕ → ℕ → ℕ → Act
unfolding copy_h shape_of
copy_v n T s tb p t = copy_by (λ c r w. copy_h n T s tb c r w) s tb (get_or s p 0) p t (shape_of (get_or s p 0))
