-- A path piece by piece: what is still to come behind the elements so far.
use Rattle.std.specs.Prelude.{ℕ, suc, ◌+◌, Bool, true, false, cond, List, [], ◌∷◌, ◌++◌, eqb, length}
use Rattle.std.proofs.Math.Seq.{slice}
use Rattle.rules.specs.Bytes.{Text}
use Rattle.rules.specs.Refusals.{Scan, ok, and_then}
use Rattle.rules.specs.Paths.{Segment, segments_from, Element, fresh, grown, split_from}

-- the elements of the whole path, where es are whole, e is being read, and the rest is still to be read from a place on
unfoldable pub remaining : Bool → List ℕ → ℕ → ℕ → List Element → Element → Scan (List Element)
unfolding segments_from split_from
remaining key s from at es e = and_then (segments_from (suc (length s)) key s from at) (λ gs end. ok (es ++ split_from e gs) end)

-- the whole elements and the one that is being read, behind unquoted text
unfoldable pub split_to : List Element → Element → ℕ → Text → List Element × Element
split_to es e at [] = (es, e)
split_to es e at (b ∷ bs) =
    cond (eqb b 46) (split_to (es ++ (e ∷ [])) (fresh (at + 1)) (at + 1) bs) (split_to es (grown e (b ∷ []) false) (at + 1) bs)

-- behind one segment more
unfoldable pub segment_to : List Element → Element → Segment → List Element × Element
unfolding split_to
segment_to es e g = cond g.in_quotes (es, grown e g.text true) (split_to es e g.place g.text)

-- behind one piece more with the whitespace before it
unfoldable pub piece_to : List ℕ → ℕ → ℕ → Segment → List Element → Element → List Element × Element
unfolding segment_to split_to
piece_to s from at g es e = let x = split_to es e from (slice from at s) in segment_to x.0 x.1 g
