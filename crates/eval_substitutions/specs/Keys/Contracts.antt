-- What finding the key numbers of a path promises.
use Rattle.std.specs.Prelude.{◌≡◌, ℕ, ◌+◌, ◌*◌, ◌≤◌, ◌<◌, List, length, get_or}
use Rattle.rules.specs.Sizes.{max_path}
use Rattle.sheet_records.specs.Kinds.Contracts.{max_pair}
use Rattle.doc_items.specs.Room.{number_bound}
use Rattle.eval_keys.specs.Clauses.{FindIs}
use Rattle.eval_substitutions.specs.Keys.Model.{begins_at, text_span, element_at, element_len}
use Rattle.eval_substitutions.specs.declared.keys.Route.{Route}

-- How many elements a path may have here. It is apart from the limit on a path as it is written, which may be put behind another's.
abbrev pub path_capacity : ℕ
path_capacity = max_path

-- a path that a table can name, with few elements
abbrev pub Close : Route → Type 0
Close x = (x.at.0 < number_bound) × (x.len.0 < number_bound) × (x.count ≤ path_capacity)

pub record RouteIs (T : List ℕ) (item : ℕ) (x : Route) : Type 0 where
  pub at : x.at.0 ≡ get_or T (8 * item + 4) 0
  pub len : x.len.0 ≡ get_or T (8 * item + 5) 0
  pub count : get_or T (8 * item + 7) 0 ≤ path_capacity → x.count ≡ get_or T (8 * item + 7) 0
  pub close : Close x

pub record BeginsIs (X : List ℕ) (ends i r : ℕ) : Type 0 where
  pub is : r ≡ begins_at X ends i
  pub small : r ≤ max_pair

pub record SpanIs (from to r : ℕ) : Type 0 where
  pub is : r ≡ text_span from to
  pub small : r < number_bound

pub record PathKeyIs (X T : List ℕ) (x : Route) (i r : ℕ) : Type 0 where
  pub found : FindIs X T (element_at X x i) (element_len X x i) r

pub record PathKeysIs (X T : List ℕ) (x : Route) (K K' : List ℕ) : Type 0 where
  pub found : (i : ℕ) → i < x.count → PathKeyIs X T x i (get_or K' i 0)
  pub len : length K' ≡ length K
