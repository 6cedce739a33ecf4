-- Six members with three keys, from entry 1 on, over a work slice that is full of what is left from before.
use Rattle.std.specs.Prelude.{◌≡◌, refl, List, [], ◌∷◌, ℕ, get_or, replicate}
use Rattle.eval_stack.specs.Model.{link_at, seg}
use Rattle.eval_groups.specs.Model.{join_group_c, begin_group_c, add_members_c, chain_c}
use Rattle.eval_groups.specs.Firsts.{first_keys}

-- the key numbers of the members 1 to 5
unfoldable key_of : ℕ → ℕ
key_of c = get_or (0 ∷ 5 ∷ 6 ∷ 5 ∷ 6 ∷ 7 ∷ []) c 0

unfoldable work : List ℕ
unfolding add_members_c key_of
work = (add_members_c key_of 1 (1 ∷ 2 ∷ 3 ∷ 4 ∷ 5 ∷ 1 ∷ []) (replicate 2100 1, 1)).0

layers : seg work 1 6 ≡ 1 ∷ 5 ∷ 4 ∷ 3 ∷ 2 ∷ 1 ∷ []
unfolding work join_group_c begin_group_c
layers = refl

-- each first member links to the last of its key, each other to the one before it
links : link_at work 1 ∷ link_at work 2 ∷ link_at work 3 ∷ link_at work 4 ∷ link_at work 5 ∷ link_at work 6 ∷ [] ≡ 6 ∷ 4 ∷ 1 ∷ 2 ∷ 5 ∷ 3 ∷ []
unfolding work join_group_c begin_group_c
links = refl

keys : first_keys key_of work 1 6 ≡ 5 ∷ 6 ∷ 7 ∷ []
unfolding work join_group_c begin_group_c first_keys key_of
keys = refl

-- the members with key 5, last first
walk : chain_c work 7 (link_at work 1) ≡ 1 ∷ 3 ∷ 1 ∷ []
unfolding work join_group_c begin_group_c chain_c
walk = refl
