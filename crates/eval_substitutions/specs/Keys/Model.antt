-- The elements of a path, where its texts and their ends stand.
use Rattle.std.specs.Prelude.{ℕ, ◌+◌, ◌*◌, ◌-◌, cond, List, eqb, ltb}
use Rattle.rules.specs.Sheet.{pair_at}
use Rattle.doc_items.specs.Room.{number_bound}
use Rattle.eval_substitutions.specs.declared.keys.Route.{Route}

-- where the ends of the elements stand
abbrev pub near_ends : ℕ
near_ends = 131072

abbrev pub ends_at : Route → ℕ
ends_at x = x.at.0 + x.len.0

-- an element begins where the one before it ends
unfoldable pub begins_at : List ℕ → ℕ → ℕ → ℕ
unfolding pair_at
begins_at X ends i = cond (eqb i 0) 0 (pair_at X (ends + 2 * (i - 1)))

-- the length of the text between two places; a longer one than a table can name is none
unfoldable pub text_span : ℕ → ℕ → ℕ
text_span from to = cond (ltb (to - from) number_bound) (to - from) 0

unfoldable pub element_at : List ℕ → Route → ℕ → ℕ
unfolding begins_at
element_at X x i = x.at.0 + begins_at X (ends_at x) i

unfoldable pub element_len : List ℕ → Route → ℕ → ℕ
unfolding begins_at text_span pair_at
element_len X x i = text_span (begins_at X (ends_at x) i) (pair_at X (ends_at x + 2 * i))
