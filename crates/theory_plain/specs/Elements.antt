-- The elements of a key or path: "simple pieces joined as text, then split at each dot not inside quotes". `rules` does both in one walk
-- over the pieces (Paths, `split_text` and `split_from`); here the text is finished first. That both give
-- the same is shown in proofs/Elements.antt.
use Rattle.std.specs.Prelude.{ℕ, ◌+◌, List, [], ◌∷◌, ◌++◌, true, false, eqb}
use Rattle.rules.specs.Bytes.{Text}
use Rattle.rules.specs.Ascii as ascii
use Rattle.rules.specs.Paths.{Segment, Element, fresh, grown}

-- what stands in a path that is joined as text: a byte, what a quoted piece holds, or a dot outside quotes, with the place behind it
pub data Sign : Type 0 where
  byte : ℕ → Sign
  quoted : Text → Sign
  dot : (next : ℕ) → Sign

-- "joined as text": unquoted text from a place on
abbrev pub signs_of : (at : ℕ) (t : Text) → List Sign
signs_of at [] = []
signs_of at (b ∷ bs) = elim (eqb b ascii.dot) [ true ↦ dot (at + 1) | false ↦ byte b ] ∷ signs_of (at + 1) bs

abbrev pub joined : List Segment → List Sign
joined [] = []
joined (g ∷ gs) = elim g.in_quotes [ true ↦ quoted g.text ∷ [] | false ↦ signs_of g.place g.text ] ++ joined gs

-- "then split at each dot not inside quotes"; the element so far is e
abbrev pub split : Element → List Sign → List Element
split e [] = e ∷ []
split e (byte b ∷ ss) = split (grown e (b ∷ []) false) ss
split e (quoted t ∷ ss) = split (grown e t true) ss
split e (dot next ∷ ss) = e ∷ split (fresh next) ss
