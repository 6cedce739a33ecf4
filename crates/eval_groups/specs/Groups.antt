-- The groups of members on the work slice, by the key numbers that a function gives.
use Rattle.std.specs.Prelude.{◌≡◌, cond, List, [], ◌∷◌, reverse, ℕ, ◌+◌, ◌*◌, ◌≤◌, ◌<◌, eqb, length, get_or}
use Rattle.std.proofs.Common.{ap, ◌∙◌, arith}
use Rattle.doc_items.specs.Room.{capacity}
use Rattle.eval_stack.specs.Model.{stack_at, code_at, link_at, seg}
use Rattle.eval_stack.specs.Pushes.{seg_same}
use Rattle.eval_groups.specs.Links.{Links, Wheres}
use Rattle.eval_groups.specs.Linking.{links-same}

-- each key number has a place in front of the stack
abbrev pub Placed : (ℕ → ℕ) → Type 0
Placed key = (c : ℕ) → key c < capacity

module _ (key : ℕ → ℕ) where
  -- the key number of an entry
  abbrev pub keys_at : List ℕ → ℕ → ℕ
  keys_at w p = key (code_at w p)

  -- what is needed to walk along the groups of the members xs
  pub record Chained (base top : ℕ) (xs w : List ℕ) : Type 0 where
    pub size : top ≡ base + length xs
    pub entries : seg w base (length xs) ≡ reverse xs
    pub links : Links (keys_at w) (link_at w) base top

  -- what is needed to add one more
  pub record Grouped (base top : ℕ) (xs w : List ℕ) : Type 0 where
    pub chained : Chained base top xs w
    pub wheres : Wheres (keys_at w) (λ k. get_or w k 0) base top

  -- the members with key k
  unfoldable pub filter_key : ℕ → List ℕ → List ℕ
  filter_key k [] = []
  filter_key k (c ∷ cs) = cond (eqb (key c) k) (c ∷ filter_key k cs) (filter_key k cs)

  -- Groups hang on their own entries alone: all that stands in front of the stack may be overwritten, and all other entries.
  pub chained_same : {base top : ℕ} {xs w : List ℕ} (w' : List ℕ) → ((j : ℕ) → base ≤ j → j < top → code_at w' j ≡ code_at w j)
      → ((j : ℕ) → base ≤ j → j < top → link_at w' j ≡ link_at w j) → Chained base top xs w → Chained base top xs w'
  chained_same {base} {top} {xs} {w} w' codes links C =
      let n : top ≡ base + length xs = C.size in
      record {
        size = n;
        entries = seg_same w w' base (length xs) (λ j l h. codes j l (omega arith)) ∙ C.entries;
        links = links-same (keys_at w) (link_at w) base top (keys_at w') (link_at w') (λ j l h. ap key (codes j l h)) links C.links;
      }

  -- so they stay where nothing of the stack below some place at or above their top changes
  pub chained-below : {base top : ℕ} {xs w : List ℕ} (w' : List ℕ) (place : ℕ) → top ≤ place
      → ((i : ℕ) → stack_at ≤ i → i < stack_at + 2 * place → get_or w' i 0 ≡ get_or w i 0) → Chained base top xs w → Chained base top xs w'
  chained-below w' place h below C =
      chained_same w' (λ j l z. below (stack_at + 2 * j) (omega arith) (omega arith)) (λ j l z. below (stack_at + 2 * j + 1) (omega arith) (omega arith)) C
