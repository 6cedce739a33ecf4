-- Looking back by the route to a value is what the list of unresolved values has beside each.
use Rattle.std.specs.Prelude.{◌≡◌, refl, ℕ, List, []}
use Rattle.std.proofs.Common.{sym, ap, ◌∙◌}
use Rattle.std.proofs.Math.Option.{Option, none, some}
use Rattle.std.proofs.Math.ListN.{get_elem?}
use Rattle.rules.specs.Bytes.{Text}
use Rattle.rules.specs.Tree.{Key, Fields, Root, root_node}
use Rattle.rules.specs.Unresolved.{Unresolved, field_openness, unresolved_in, layers_for}
use Rattle.theory_back.proofs.Descent.{seen-node}
use Rattle.theory_back.proofs.Openness.{openness-of}
use Rattle.theory_plain.specs.LookBack.{Route, further, route_to, open_by, layers_by}

further-opens : (o : Option Route) (earlier : Fields) (k : Key) → open_by (further o earlier k) ≡ field_openness (open_by o) earlier k
unfolding field_openness
further-opens none earlier k = refl
further-opens (some r) earlier k = refl

-- What the list of unresolved values has beside each is told by its route.
pub route-opens : (root : Root) (b : ℕ) (u : Unresolved) → get_elem? (unresolved_in root) b ≡ some u → u.openness ≡ open_by (route_to root b)
route-opens root b u e =
    sym (openness-of root b u e)
    ∙ sym (seen-node none further none field_openness open_by refl further-opens (some []) 0 (root_node root) b)

-- The layers of a substitution's path, in the unresolved value of a number.
pub look-back : (root : Root) (b : ℕ) (u : Unresolved) → get_elem? (unresolved_in root) b ≡ some u → (p : List Text)
    → layers_for root u.openness p ≡ layers_by root (route_to root b) p
unfolding layers_for
look-back root b u e p = ap (λ o. layers_for root o p) (route-opens root b u e) ∙ go (route_to root b)
  where
    go : (o : Option Route) → layers_for root (open_by o) p ≡ layers_by root o p
    go none = refl
    go (some r) = refl
