-- What grouping members computes, on the numbers that it has. Nothing is assumed of them; `key` gives a member's key number.
use Rattle.std.specs.Prelude.{ℕ, zero, suc, ◌+◌, ◌*◌, Bool, true, false, cond, List, [], ◌∷◌, ◌++◌, ltb, eqb, get_or, set, Some, None}
use Rattle.eval_nodes.specs.Model.{View, view_at, members_of}
use Rattle.eval_stack.specs.Model.{stack_at, entries, code_at, link_at}

-- whether p, which stands for k in front of the stack, is a member with k: what is left from before fails a test
unfoldable pub holds_key_c : (ℕ → ℕ) → List ℕ → ℕ → ℕ → ℕ → ℕ → Bool
holds_key_c key w base top k p = cond (ltb p base) false (cond (ltb p top) (eqb (key (code_at w p)) k) false)

-- an entry: a layer and a link
unfoldable pub put_entry_c : ℕ → ℕ → ℕ → List ℕ → List ℕ
put_entry_c p c l w = set (set w (stack_at + 2 * p) c) (stack_at + 2 * p + 1) l

-- a member more, of the key whose first member is p
unfoldable pub join_group_c : ℕ → ℕ → ℕ → List ℕ → List ℕ
unfolding put_entry_c
join_group_c p top c w = set (put_entry_c top c (link_at w p) w) (stack_at + 2 * p + 1) top

-- the first member of a key
unfoldable pub begin_group_c : ℕ → ℕ → ℕ → List ℕ → List ℕ
unfolding put_entry_c
begin_group_c k top c w = set (put_entry_c top c top w) k top

-- the work slice, and how far the stack goes
abbrev pub State : Type 0
State = List ℕ × ℕ

abbrev pub placed : Bool → ℕ → ℕ → ℕ → ℕ → List ℕ → List ℕ
placed true k p top c w = join_group_c p top c w
placed false k p top c w = begin_group_c k top c w

unfoldable pub put_c : (ℕ → ℕ) → ℕ → ℕ → ℕ → List ℕ → List ℕ
unfolding holds_key_c
put_c key base top c w = placed (holds_key_c key w base top (key c) (get_or w (key c) 0)) (key c) (get_or w (key c) 0) top c w

unfoldable pub add_c : (ℕ → ℕ) → ℕ → ℕ → State → State
unfolding put_c
add_c key base c s = cond (ltb s.1 entries) (put_c key base s.1 c s.0, s.1 + 1) s

unfoldable pub add_members_c : (ℕ → ℕ) → ℕ → List ℕ → State → State
unfolding add_c
add_members_c key base [] s = s
add_members_c key base (c ∷ cs) s = add_members_c key base cs (add_c key base c s)

-- ---- the members of objects

abbrev pub view_members : List ℕ → List ℕ → View → List ℕ
view_members T R None = []
view_members T R (Some m) = members_of T R m.first m.end

unfoldable pub layer_members : List ℕ → List ℕ → ℕ → List ℕ
unfolding view_at members_of
layer_members T R c = view_members T R (view_at T R c)

-- one object's after the other's
unfoldable pub object_members : List ℕ → List ℕ → List ℕ → List ℕ
unfolding layer_members
object_members T R [] = []
object_members T R (c ∷ cs) = layer_members T R c ++ object_members T R cs

-- ---- the members of a key, from one of them down: links fall, and one that does not fall ends them

unfoldable pub chain_n : ℕ → List ℕ → ℕ → List ℕ
chain_n zero w q = []
chain_n (suc n) w q = code_at w q ∷ cond (ltb (link_at w q) q) (chain_n n w (link_at w q)) []

abbrev pub chain_at : List ℕ → ℕ → List ℕ
chain_at w q = chain_n (suc q) w q

unfoldable pub chain_c : List ℕ → ℕ → ℕ → List ℕ
unfolding chain_n
chain_c w top q = cond (ltb q top) (chain_at w q) []
