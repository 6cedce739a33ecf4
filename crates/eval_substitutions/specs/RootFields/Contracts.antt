-- What walking along the links of the root's fields promises.
use Rattle.std.specs.Prelude.{◌≡◌, ℕ, ◌-◌, ◌≤◌, List, [], ◌∷◌, length, None}
use Rattle.eval_keys.specs.Columns.{first_at, next_at}
use Rattle.eval_root_index.specs.Links.{Follows, Rises, items_before}
use Rattle.eval_stack.specs.Model.{entries}
use Rattle.eval_stack.specs.Clauses.{Same}
use Rattle.eval_layers.specs.Model.{Walk, push_layer_c}
use Rattle.eval_layers.specs.Clauses.{walked}
use Rattle.eval_layers.specs.declared.Walked.{Walked}

-- nodes one above the other
unfoldable pub push_layers_c : List ℕ → ℕ → List ℕ → Walk → Walk
unfolding push_layer_c
push_layers_c T r [] w = w
push_layers_c T r (c ∷ cs) w = push_layers_c T r cs (push_layer_c T r c w)

-- where the links from a key's first field on are the fields js, those before the end are the layers
pub record OfRootIs (T : List ℕ) (k end base : ℕ) (w w' : List ℕ) (r : Walked) : Type 0 where
  pub is : (js : List ℕ) → Follows (next_at T) (first_at T k) js → Rises 1 js
      → walked w' base r ≡ push_layers_c T (entries - base) (items_before end js) ([], None)
  pub same : Same base w w'
  pub low : base ≤ r.top
  pub high : r.top ≤ entries
  pub len : length w' ≡ length w
