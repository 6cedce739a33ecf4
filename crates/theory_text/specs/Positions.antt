-- Lines and columns: how they go on by one character, how large they are, and that a walk by characters comes to them.
use Rattle.std.specs.Prelude.{◌≡◌, Bool, true, false, ltb}
use Rattle.std.proofs.Math.Path.{refl, sym, ap}
use Rattle.std.proofs.Common.{◌∙◌, lt-ltb, le-ltb}
use Prim.Native.Nat.{ℕ, zero, suc, ◌+◌, ◌≤◌, ◌<◌, min}
use mathlib.Core.List.{List, [], ◌∷◌, ◌++◌}
use native.Mathlib.Omega.{arith}
use Rattle.std.proofs.Math.ListN.{length}
use Rattle.rules.specs.Characters.{next_place, character_at, is_newline}
use Rattle.rules.specs.Positions.{characters_from, characters_before, newlines_in, since_newline, line_at, column_at, line_behind, column_behind}
use Rattle.theory_text.specs.Choices.{by-test}
use Rattle.theory_text.specs.Places.{next-forward}

-- ---- characters up to a place

module _ (s : List ℕ) (end : ℕ) where
  from_more : (n at : ℕ) → at < end
      → characters_from (suc n) s at end ≡ character_at s at ∷ characters_from n s (next_place s at) end
  unfolding characters_from
  from_more n at h = rw (lt-ltb at end h, characters_from)

  from_end : (n at : ℕ) → end ≤ at → characters_from n s at end ≡ []
  unfolding characters_from
  from_end zero at h = refl
  from_end (suc n) at h = rw (le-ltb at end h, characters_from)

-- ---- by one character more, at the front

none_before : (n : ℕ) → 0 + n ≡ n
none_before n = omega arith

newlines-front : (c : ℕ) (cs : List ℕ) (line : ℕ) → newlines_in (c ∷ cs) + line ≡ newlines_in cs + line_behind c line
unfolding newlines_in line_behind
newlines-front c cs line = go (is_newline c) refl
  where
    go : (t : Bool) → is_newline c ≡ t → newlines_in (c ∷ cs) + line ≡ newlines_in cs + line_behind c line
    go true e = let q : newlines_in cs + 1 + line ≡ newlines_in cs + (line + 1) = omega arith in rw (e, newlines_in, line_behind) q
    go false e = rw (e, newlines_in, line_behind)

-- how many characters there are then since the last newline
unfoldable since_behind : (character before : ℕ) → ℕ
since_behind c before = elim (is_newline c) [ true ↦ 0 | false ↦ before + 1 ]

since-front : (c : ℕ) (cs : List ℕ) (before : ℕ) → since_newline before (c ∷ cs) ≡ since_newline (since_behind c before) cs
unfolding since_newline since_behind
since-front c cs before = go (is_newline c) refl
  where
    go : (t : Bool) → is_newline c ≡ t → since_newline before (c ∷ cs) ≡ since_newline (since_behind c before) cs
    go true e = rw (e, since_newline, since_behind)
    go false e = rw (e, since_newline, since_behind)

column-since : (c before : ℕ) → column_behind c (before + 1) ≡ since_behind c before + 1
unfolding column_behind since_behind
column-since c before = go (is_newline c) refl
  where
    go : (t : Bool) → is_newline c ≡ t → column_behind c (before + 1) ≡ since_behind c before + 1
    go true e = rw (e, column_behind, since_behind)
    go false e = rw (e, column_behind, since_behind)

-- ---- a walk from the start: what is to come and what was counted make the line and the column of the place

pub record Walked (s : List ℕ) (place at line column : ℕ) : Type 0 where
  pub fuel : ℕ
  pub enough : length s ≤ fuel + at
  pub before : ℕ
  pub line-is : line_at s place ≡ newlines_in (characters_from fuel s at (min place (length s))) + line
  pub column-is : column_at s place ≡ since_newline before (characters_from fuel s at (min place (length s))) + 1
  pub since : column ≡ before + 1
  pub low : line ≤ at + 1
  pub left : column ≤ at + 1

pub walk_start : (s : List ℕ) (place : ℕ) → Walked s place 0 1 1
unfolding line_at column_at characters_before
walk_start s place = record {
  fuel = length s;
  enough = omega arith;
  before = 0;
  line-is = refl;
  column-is = refl;
  since = refl;
  low = omega arith;
  left = omega arith;
}

line-near : (c line : ℕ) → line_behind c line ≤ line + 1
unfolding line_behind
line-near c line = go (is_newline c) refl
  where
    go : (t : Bool) → is_newline c ≡ t → line_behind c line ≤ line + 1
    go true e = rw (e, line_behind) (omega arith)
    go false e = rw (e, line_behind) (omega arith)

column-near : (c column : ℕ) → column_behind c column ≤ column + 1
unfolding column_behind
column-near c column = go (is_newline c) refl
  where
    go : (t : Bool) → is_newline c ≡ t → column_behind c column ≤ column + 1
    go true e = rw (e, column_behind) (omega arith)
    go false e = rw (e, column_behind) (omega arith)

module _ {s : List ℕ} {place at line column : ℕ} (w : Walked s place at line column) where
  abbrev end : ℕ
  end = min place (length s)

  pub walk_more : at < min place (length s)
      → Walked s place (next_place s at) (line_behind (character_at s at) line) (column_behind (character_at s at) column)
  walk_more h = go w.fuel w.enough w.line-is w.column-is
    where
      c : ℕ
      c = character_at s at

      forward : at < next_place s at
      forward = next-forward s at (omega arith)

      go : (n : ℕ) → length s ≤ n + at → line_at s place ≡ newlines_in (characters_from n s at end) + line
          → column_at s place ≡ since_newline w.before (characters_from n s at end) + 1
          → Walked s place (next_place s at) (line_behind (character_at s at) line) (column_behind (character_at s at) column)
      go zero k l m = absurd (omega arith)
      go (suc n) k l m =
          let rest = characters_from n s (next_place s at) end in
          record {
            fuel = n;
            enough = omega (arith, forward);
            before = since_behind (character_at s at) w.before;
            line-is = l ∙ ap (λ (cs : List ℕ). newlines_in cs + line) (from_more s end n at h) ∙ newlines-front (character_at s at) rest line;
            column-is = m ∙ ap (λ (cs : List ℕ). since_newline w.before cs + 1) (from_more s end n at h)
                ∙ ap (λ (i : ℕ). i + 1) (since-front (character_at s at) rest w.before);
            since = ap (column_behind (character_at s at)) w.since ∙ column-since (character_at s at) w.before;
            low = omega (arith, forward, w.low, line-near (character_at s at) line);
            left = omega (arith, forward, w.left, column-near (character_at s at) column);
          }

  pub walk-line : min place (length s) ≤ at → line ≡ line_at s place
  unfolding newlines_in
  walk-line h = sym (w.line-is ∙ ap (λ (cs : List ℕ). newlines_in cs + line) (from_end s end w.fuel at h) ∙ none_before line)

  pub walk-column : min place (length s) ≤ at → column ≡ column_at s place
  unfolding since_newline
  walk-column h =
      w.since ∙ sym (w.column-is ∙ ap (λ (cs : List ℕ). since_newline w.before cs + 1) (from_end s end w.fuel at h))

-- a place behind the end is the end
pub line-at-end : (s : List ℕ) (place : ℕ) → line_at s (min place (length s)) ≡ line_at s place
unfolding line_at characters_before
line-at-end s place = let z : min (min place (length s)) (length s) ≡ min place (length s) = omega arith in rw z

pub column-at-end : (s : List ℕ) (place : ℕ) → column_at s (min place (length s)) ≡ column_at s place
unfolding column_at characters_before
column-at-end s place = let z : min (min place (length s)) (length s) ≡ min place (length s) = omega arith in rw z

-- ---- by one character more, at the back

newlines-back : (cs : List ℕ) (c line : ℕ) → newlines_in (cs ++ (c ∷ [])) + line ≡ line_behind c (newlines_in cs + line)
unfolding newlines_in
newlines-back [] c line = newlines-front c [] line ∙ none_before (line_behind c line) ∙ ap (line_behind c) (sym (none_before line))
newlines-back (b ∷ cs) c line =
    newlines-front b (cs ++ (c ∷ [])) line ∙ newlines-back cs c (line_behind b line) ∙ ap (line_behind c) (sym (newlines-front b cs line))

since-back : (cs : List ℕ) (c before : ℕ) → since_newline before (cs ++ (c ∷ [])) ≡ since_behind c (since_newline before cs)
unfolding since_newline
since-back [] c before = since-front c [] before
since-back (b ∷ cs) c before =
    since-front b (cs ++ (c ∷ [])) before ∙ since-back cs c (since_behind b before) ∙ ap (since_behind c) (sym (since-front b cs before))

-- ---- places that steps come to

unfoldable pub steps_from : (n : ℕ) (s : List ℕ) (at : ℕ) → ℕ
unfolding next_place
steps_from zero s at = at
steps_from (suc n) s at = steps_from n s (next_place s at)

-- a place that steps from the start come to
pub record Reached (s : List ℕ) (at : ℕ) : Type 0 where
  pub steps : ℕ
  pub is : steps_from steps s 0 ≡ at

module _ (s : List ℕ) where
  one_more : (n at : ℕ) → steps_from (suc n) s at ≡ next_place s (steps_from n s at)
  unfolding steps_from
  one_more zero at = refl
  one_more (suc n) at = one_more n (next_place s at)

  pub reached-start : Reached s 0
  unfolding steps_from
  reached-start = record { steps = 0; is = refl }

  pub reached-next : (at : ℕ) → Reached s at → Reached s (next_place s at)
  reached-next at r = record { steps = suc r.steps; is = one_more r.steps 0 ∙ ap (next_place s) r.is }

  next-inside : (at : ℕ) → next_place s at < length s → at < length s
  unfolding next_place
  next-inside at h = omega arith

  next-within : (at : ℕ) → next_place s at ≤ length s
  unfolding next_place
  next-within at = omega arith

  -- steps that end inside the text went forward inside it
  steps-inside : (n at : ℕ) → steps_from n s at < length s → (at < length s) × (at ≤ steps_from n s at)
  unfolding steps_from
  steps-inside zero at h = (h, omega arith)
  steps-inside (suc n) at h =
      let (i, f) = steps-inside n (next_place s at) h in
      let k = next-inside at i in
      (k, omega (arith, next-forward s at k))

  -- the characters up to the next place are those up to this one, and this one's
  from_next : (n fuel at : ℕ) → length s ≤ fuel + at → steps_from n s at < length s
      → characters_from fuel s at (next_place s (steps_from n s at))
      ≡ characters_from fuel s at (steps_from n s at) ++ (character_at s (steps_from n s at) ∷ [])
  unfolding steps_from
  from_next n zero at h k = absurd (omega (arith, steps-inside n at k))
  from_next zero (suc fuel) at h k =
      from_more s (next_place s at) fuel at (next-forward s at k)
      ∙ ap (λ (cs : List ℕ). character_at s at ∷ cs) (from_end s (next_place s at) fuel (next_place s at) (omega arith))
      ∙ ap (λ (cs : List ℕ). cs ++ (character_at s at ∷ [])) (sym (from_end s at (suc fuel) at (omega arith)))
  from_next (suc n) (suc fuel) at h k =
      let last = steps_from n s (next_place s at) in
      let (i, f) = steps-inside n (next_place s at) k in
      let forward = next-forward s at (next-inside at i) in
      from_more s (next_place s last) fuel at (omega (arith, forward, f, next-forward s last k))
      ∙ ap (λ (cs : List ℕ). character_at s at ∷ cs) (from_next n fuel (next_place s at) (omega (arith, forward)) k)
      ∙ ap (λ (cs : List ℕ). cs ++ (character_at s last ∷ [])) (sym (from_more s last fuel at (omega (arith, forward, f))))

  characters-next : (at : ℕ) → Reached s at → at < length s
      → characters_before s (next_place s at) ≡ characters_before s at ++ (character_at s at ∷ [])
  unfolding characters_before
  characters-next at r h =
      let here : min at (length s) ≡ at = omega arith in
      let next : min (next_place s at) (length s) ≡ next_place s at = omega (arith, next-within at) in
      let k : steps_from r.steps s 0 < length s = rw r.is h in
      rw (here, next) (rw r.is at (from_next r.steps (length s) 0 (omega arith) k))

  -- line and column behind a character, by its own
  pub next-line : (at : ℕ) → Reached s at → at < length s → line_at s (next_place s at) ≡ line_behind (character_at s at) (line_at s at)
  unfolding line_at
  next-line at r h =
      ap (λ (cs : List ℕ). newlines_in cs + 1) (characters-next at r h) ∙ newlines-back (characters_before s at) (character_at s at) 1

  pub next-column : (at : ℕ) → Reached s at → at < length s → column_at s (next_place s at) ≡ column_behind (character_at s at) (column_at s at)
  unfolding column_at
  next-column at r h =
      ap (λ (cs : List ℕ). since_newline 0 cs + 1) (characters-next at r h)
      ∙ ap (λ (n : ℕ). n + 1) (since-back (characters_before s at) (character_at s at) 0)
      ∙ sym (column-since (character_at s at) (since_newline 0 (characters_before s at)))

pub start-line : (s : List ℕ) → line_at s 0 ≡ 1
unfolding line_at characters_before newlines_in
start-line s = ap (λ (cs : List ℕ). newlines_in cs + 1) (from_end s (min 0 (length s)) (length s) 0 (omega arith))

pub start-column : (s : List ℕ) → column_at s 0 ≡ 1
unfolding column_at characters_before since_newline
start-column s = ap (λ (cs : List ℕ). since_newline 0 cs + 1) (from_end s (min 0 (length s)) (length s) 0 (omega arith))

-- ---- how large they are

characters-few : (s : List ℕ) (n at end : ℕ) → length (characters_from n s at end) ≤ n
unfolding characters_from
characters-few s zero at end = omega arith
characters-few s (suc n) at end =
    by-test (λ (cs : List ℕ). length cs ≤ suc n) (ltb at end)
    (λ e. omega (arith, characters-few s n (next_place s at) end)) (λ e. omega arith)

newlines-few : (cs : List ℕ) → newlines_in cs ≤ length cs
unfolding newlines_in
newlines-few [] = omega arith
newlines-few (c ∷ cs) =
    by-test (λ (n : ℕ). n ≤ suc (length cs)) (is_newline c) (λ e. omega (arith, newlines-few cs)) (λ e. omega (arith, newlines-few cs))

since-few : (cs : List ℕ) (before : ℕ) → since_newline before cs ≤ before + length cs
unfolding since_newline
since-few [] before = omega arith
since-few (c ∷ cs) before =
    by-test (λ (n : ℕ). n ≤ before + suc (length cs)) (is_newline c)
    (λ e. omega (arith, since-few cs 0)) (λ e. omega (arith, since-few cs (before + 1)))

pub line-bound : (s : List ℕ) (place : ℕ) → line_at s place ≤ length s + 1
unfolding line_at characters_before
line-bound s place =
    let cs = characters_before s place in
    omega (arith, newlines-few cs, characters-few s (length s) 0 (min place (length s)))

pub column-bound : (s : List ℕ) (place : ℕ) → column_at s place ≤ length s + 1
unfolding column_at characters_before
column-bound s place =
    let cs = characters_before s place in
    omega (arith, since-few cs 0, characters-few s (length s) 0 (min place (length s)))
