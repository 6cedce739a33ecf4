-- Members that come one by one, each behind those before it: how records, texts and depth grow.
-- That the records do is shown in proofs/Building.antt.
use Rattle.std.specs.Prelude.{◌≡◌, refl, ℕ, suc, max}
use Rattle.std.proofs.Math.Path.{sym, ap}
use Rattle.std.proofs.Common.{◌∙◌}
use mathlib.Core.List.{List, ◌∷◌, ◌++◌, append_assoc, append-nil}
use native.Mathlib.Omega.{arith}
use Rattle.std.proofs.Math.ListN.{length}
use Rattle.rules.specs.Bytes.{Text}
use Rattle.rules.specs.Values.{nesting_of, deepest_value, deepest_member}
use Rattle.sheet_kept.specs.Kept.{Held, Helds, no-helds, also, HeldFields, no_fields, field, named, named_all, named_fields}
use Rattle.sheet_kept.specs.Kept.{count_helds, count_fields}
use Rattle.sheet_kept.specs.InTurn.{Rec, name, flat, flat_all, flat_fields, words_of}
use Rattle.sheet_kept.specs.Sizes.{words_append}

-- one member more
unfoldable pub with_held : Helds → Held → Helds
with_held no-helds w = also w no-helds
with_held (also v vs) w = also v (with_held vs w)

unfoldable pub with_field : HeldFields → ℕ → Held → HeldFields
with_field no_fields k w = field k w no_fields
with_field (field j v ms) k w = field j v (with_field ms k w)

module _ (key : ℕ → Text) where
  pub flat-held : (vs : Helds) (w : Held) → flat_all key (with_held vs w) ≡ flat_all key vs ++ flat key w
  unfolding flat with_held
  flat-held no-helds w = append-nil (flat key w)
  flat-held (also v vs) w =
      ap (λ (q : List Rec). flat key v ++ q) (flat-held vs w) ∙ sym (append_assoc (flat key v) (flat_all key vs) (flat key w))

  pub flat-field : (ms : HeldFields) (k : ℕ) (w : Held) → flat_fields key (with_field ms k w) ≡ flat_fields key ms ++ (name k (key k) ∷ flat key w)
  unfolding flat with_field
  flat-field no_fields k w = ap (λ (q : List Rec). name k (key k) ∷ q) (append-nil (flat key w))
  flat-field (field j v ms) k w =
      ap (λ (q : List Rec). name j (key j) ∷ flat key v ++ q) (flat-field ms k w)
      ∙ ap (λ (q : List Rec). name j (key j) ∷ q) (sym (append_assoc (flat key v) (flat_fields key ms) (name k (key k) ∷ flat key w)))

  -- ---- texts

  pub words-held : (vs : Helds) (w : Held) → words_of (flat_all key (with_held vs w)) ≡ words_of (flat_all key vs) ++ words_of (flat key w)
  words-held vs w = ap words_of (flat-held vs w) ∙ words_append (flat_all key vs) (flat key w)

  pub words-field : (ms : HeldFields) (k : ℕ) (w : Held)
      → words_of (flat_fields key (with_field ms k w)) ≡ words_of (flat_fields key ms) ++ ((length (key k), key k) ∷ words_of (flat key w))
  unfolding words_of
  words-field ms k w = ap words_of (flat-field ms k w) ∙ words_append (flat_fields key ms) (name k (key k) ∷ flat key w)

  -- ---- depth

  pub deepest-held : (vs : Helds) (w : Held)
      → deepest_value (named_all key (with_held vs w)) ≡ max (deepest_value (named_all key vs)) (nesting_of (named key w))
  unfolding named nesting_of with_held
  deepest-held no-helds w = omega arith
  deepest-held (also v vs) w = let h = deepest-held vs w in omega arith

  pub deepest-field : (ms : HeldFields) (k : ℕ) (w : Held)
      → deepest_member (named_fields key (with_field ms k w)) ≡ max (deepest_member (named_fields key ms)) (nesting_of (named key w))
  unfolding named nesting_of with_field
  deepest-field no_fields k w = omega arith
  deepest-field (field j v ms) k w = let h = deepest-field ms k w in omega arith

-- ---- counts

pub count_held : (vs : Helds) (w : Held) → count_helds (with_held vs w) ≡ suc (count_helds vs)
unfolding count_helds with_held
count_held no-helds w = refl
count_held (also v vs) w = ap suc (count_held vs w)

pub count-field : (ms : HeldFields) (k : ℕ) (w : Held) → count_fields (with_field ms k w) ≡ suc (count_fields ms)
unfolding count_fields with_field
count-field no_fields k w = refl
count-field (field j v ms) k w = ap suc (count-field ms k w)
