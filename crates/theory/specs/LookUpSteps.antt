-- Look-up of what a path names, and its job, step by step: what each definition gives, as equations under what decides between its
-- cases; and back.
use Rattle.std.specs.Prelude.{◌≡◌, ℕ, zero, suc, ◌+◌, ◌-◌, ◌≤◌, List, [], ◌∷◌, Bool, ◌&&◌, leb, length}
use Rattle.std.proofs.Math.Path.{refl, ap}
use Rattle.std.proofs.Common.{sym, ◌∙◌}
use Rattle.std.proofs.Math.Bool.{true, false}
use Rattle.std.proofs.Math.Option.{Option, none, some}
use Rattle.std.proofs.Math.Dec.{eqb}
use borrow.Author.Tests.{le-leb, leb-true, eqb-true, eq-eqb, ne_eqb}
use Rattle.answers.specs.Theory.Sound.{clash}
use Rattle.rules.specs.Sizes.{max_nesting, max_room, max_path_text}
use Rattle.rules.specs.Bytes.{Text, byte_at, same}
use Rattle.rules.specs.Refusals.{Refusal, placed, nowhere, ok, refused}
use Rattle.rules.specs.Utf8.{ill_formed}
use Rattle.rules.specs.Paths.{path_text}
use Rattle.rules.specs.Sheet.{pair_at}
use Rattle.rules.specs.LookUp.{after_value, is_whole, text_at, member_from, member_at, value_named}
use Rattle.rules.specs.Jobs.{not_found, part_at, found_at, looked_up, look_up_job}
use Rattle.theory.specs.Layout.{both_true}

module _ (table text : List ℕ) where
  -- ---- among members

  module _ (key : Text) where
    pub from_zero : (at : ℕ) → member_from zero table text key at ≡ none
    unfolding member_from
    from_zero at = refl

    pub from-here : (n at : ℕ) → same (text_at table text at) key ≡ true → member_from (suc n) table text key at ≡ some (at + 5)
    unfolding member_from
    from-here n at e = rw (member_from, e)

    pub from_cut : (n at : ℕ) → same (text_at table text at) key ≡ false → after_value max_nesting table (length text) (at + 5) ≡ none
        → member_from (suc n) table text key at ≡ none
    unfolding member_from
    from_cut n at e f = rw (member_from, e, f)

    pub from_next : (n at next : ℕ) → same (text_at table text at) key ≡ false → after_value max_nesting table (length text) (at + 5) ≡ some next
        → member_from (suc n) table text key at ≡ member_from n table text key next
    unfolding member_from
    from_next n at next e f = rw (member_from, e, f)

    -- ---- in a value

    pub member-object : (at : ℕ) → byte_at table at ≡ 7 → member_at table text key at ≡ member_from (pair_at table (at + 1)) table text key (at + 3)
    unfolding member_at
    member-object at e = rw (member_at, eq-eqb _ _ e)

    pub member-other : (at : ℕ) → (byte_at table at ≡ 7 → ⊥) → member_at table text key at ≡ none
    unfolding member_at
    member-other at h = rw (member_at, ne_eqb _ _ h)

    -- only an object has a member of that name
    pub member-inv : (at place : ℕ) → member_at table text key at ≡ some place
        → (byte_at table at ≡ 7) × (member_from (pair_at table (at + 1)) table text key (at + 3) ≡ some place)
    unfolding member_at
    member-inv at place e = go (eqb (byte_at table at) 7) refl e
      where
        go : (t : Bool) → eqb (byte_at table at) 7 ≡ t
            → elim t as (λ t. Option ℕ) [ true ↦ member_from (pair_at table (at + 1)) table text key (at + 3) | false ↦ none ] ≡ some place
            → (byte_at table at ≡ 7) × (member_from (pair_at table (at + 1)) table text key (at + 3) ≡ some place)
        go true f k = (eqb-true _ _ f, k)
        go false f k = clash (cc)

  -- ---- along a path

  pub named-nil : (at : ℕ) → value_named table text [] at ≡ some at
  unfolding value_named
  named-nil at = refl

  module _ (key : Text) (path : List Text) where
    pub named_none : (at : ℕ) → member_at table text key at ≡ none → value_named table text (key ∷ path) at ≡ none
    unfolding value_named
    named_none at e = rw (value_named, e)

    pub named-next : (at place : ℕ) → member_at table text key at ≡ some place
        → value_named table text (key ∷ path) at ≡ value_named table text path place
    unfolding value_named
    named-next at place e = rw (value_named, e)

    pub named-inv : (at end : ℕ) → value_named table text (key ∷ path) at ≡ some end
        → (place : ℕ) × (member_at table text key at ≡ some place) × (value_named table text path place ≡ some end)
    named-inv at end e = go (member_at table text key at) refl
      where
        go : (o : Option ℕ) → member_at table text key at ≡ o
            → (place : ℕ) × (member_at table text key at ≡ some place) × (value_named table text path place ≡ some end)
        go none f = clash (cc (named_none at f))
        go (some place) f = (place, f, sym (named-next at place f) ∙ e)

  -- ---- the job

  pub found_none : found_at table text none ≡ not_found (nowhere 16)
  unfolding found_at
  found_none = refl

  pub found_part : (at end : ℕ) → after_value max_nesting table (length text) at ≡ some end → found_at table text (some at) ≡ part_at at (end - at)
  unfolding found_at
  found_part at end e = rw (found_at, e)

  module _ (path : List ℕ) where
    abbrev lent_bounds : Bool
    lent_bounds = leb (length table) max_room && leb (length text) max_room && leb (length path) max_path_text

    pub look-up-long : (length table ≤ max_room → length text ≤ max_room → length path ≤ max_path_text → ⊥)
        → look_up_job table text path ≡ not_found (nowhere 1)
    unfolding look_up_job
    look-up-long h = go lent_bounds refl
      where
        go : (t : Bool) → lent_bounds ≡ t → look_up_job table text path ≡ not_found (nowhere 1)
        go true e =
            let (f, g) = both_true _ _ e in
            let (k, l) = both_true _ _ f in
            absurd (h (leb-true _ _ k) (leb-true _ _ l) (leb-true _ _ g))
        go false e = rw (look_up_job, e)

    module _ (short : length table ≤ max_room) (short-text : length text ≤ max_room) (short-path : length path ≤ max_path_text) where
      pub look-up-not-whole : is_whole table (length text) ≡ false → look_up_job table text path ≡ not_found (nowhere 15)
      unfolding look_up_job
      look-up-not-whole e = rw (look_up_job, le-leb _ _ short, le-leb _ _ short-text, le-leb _ _ short-path, e)

      module _ (whole : is_whole table (length text) ≡ true) where
        pub look-up-ill-formed : (place : ℕ) → ill_formed path ≡ some place → look_up_job table text path ≡ not_found (placed 2 place)
        unfolding look_up_job
        look-up-ill-formed place e = rw (look_up_job, le-leb _ _ short, le-leb _ _ short-text, le-leb _ _ short-path, whole, e)

        module _ (well-formed : ill_formed path ≡ none) where
          job-path : look_up_job table text path ≡ looked_up table text (path_text path)
          unfolding look_up_job
          job-path = rw (look_up_job, le-leb _ _ short, le-leb _ _ short-text, le-leb _ _ short-path, whole, well-formed)

          pub look-up-bad-path : (x : Refusal) → path_text path ≡ refused x → look_up_job table text path ≡ not_found x
          unfolding looked_up
          look-up-bad-path x e = job-path ∙ ap (looked_up table text) e

          -- 16, or the part: see `found_none` and `found_part`
          pub look-up-path : (names : List Text) (end : ℕ) → path_text path ≡ ok names end
              → look_up_job table text path ≡ found_at table text (value_named table text names 0)
          unfolding looked_up
          look-up-path names end e = job-path ∙ ap (looked_up table text) e
