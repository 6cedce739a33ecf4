-- The elements of a key or path are those of its pieces joined as text.
use Rattle.std.specs.Prelude.{◌≡◌, refl, ℕ, ◌+◌, List, [], ◌∷◌, ◌++◌, Bool, true, false, eqb}
use Rattle.std.proofs.Common.{ap}
use Rattle.rules.specs.Bytes.{Text}
use Rattle.rules.specs.Ascii as ascii
use Rattle.rules.specs.Paths.{Segment, Element, fresh, grown, split_text, split_from, elements_of}
use Rattle.theory_plain.specs.Elements.{Sign, byte, quoted, dot, signs_of, joined, split}

-- the elements of a finished text, one begun before it and one open behind it
text-split : (e : Element) (at : ℕ) (t : Text) (k : Element → List Element) (ss : List Sign)
    → ((e' : Element) → k e' ≡ split e' ss) → split_text e at t k ≡ split e (signs_of at t ++ ss)
unfolding split_text
text-split e at [] k ss h = h e
text-split e at (b ∷ bs) k ss h =
    go (eqb b ascii.dot) (λ e'. text-split e' (at + 1) bs k ss h)
  where
    go : (t : Bool) → ((e' : Element) → split_text e' (at + 1) bs k ≡ split e' (signs_of (at + 1) bs ++ ss))
        → ◌≡◌ {A = List Element} (elim t [
          | true ↦ e ∷ split_text (fresh (at + 1)) (at + 1) bs k
          | false ↦ split_text (grown e (b ∷ []) false) (at + 1) bs k
        ]) (split e (elim t as (λ _. Sign) [ true ↦ dot (at + 1) | false ↦ byte b ] ∷ (signs_of (at + 1) bs ++ ss)))
    go true ih = ap (λ es. e ∷ es) (ih (fresh (at + 1)))
    go false ih = ih (grown e (b ∷ []) false)

from-split : (e : Element) (gs : List Segment) → split_from e gs ≡ split e (joined gs)
unfolding split_from
from-split e [] = refl
from-split e (g ∷ gs) = go g.in_quotes (λ e'. from-split e' gs)
  where
    go : (t : Bool) → ((e' : Element) → split_from e' gs ≡ split e' (joined gs))
        → ◌≡◌ {A = List Element} (elim t [
          | true ↦ split_from (grown e g.text true) gs
          | false ↦ split_text e g.place g.text (λ e'. split_from e' gs)
        ]) (split e (elim t as (λ _. List Sign) [ true ↦ quoted g.text ∷ [] | false ↦ signs_of g.place g.text ] ++ joined gs))
    go true ih = ih (grown e g.text true)
    go false ih = text-split e g.place g.text (λ e'. split_from e' gs) (joined gs) ih

-- The elements of a path's pieces are those of the text that they make; the first begins where the first piece does.
pub elements-split : (g : Segment) (gs : List Segment) → elements_of (g ∷ gs) ≡ split (fresh g.place) (joined (g ∷ gs))
unfolding elements_of
elements-split g gs = from-split (fresh g.place) (g ∷ gs)
