-- Members that come one by one, each behind those before it: their records grow so.
use Rattle.std.specs.Prelude.{◌≡◌, ℕ, ◌+◌}
use Rattle.std.proofs.Math.Path.{ap}
use Rattle.std.proofs.Common.{◌∙◌}
use mathlib.Core.List.{◌∷◌, ◌++◌}
use Rattle.std.proofs.Math.ListN.{length}
use Rattle.rules.specs.Bytes.{Text}
use Rattle.sheet_kept.specs.Kept.{Held, Helds, HeldFields}
use Rattle.sheet_kept.specs.Kept.{key_record, kept, kept_all, kept_fields}
use Rattle.sheet_kept.specs.InTurn.{name, text_of, kept_rec, in_turn, texts_of, flat, flat_all, flat_fields, words_of, extent}
use Rattle.sheet_kept.specs.InTurn.{in_turn-append}
use Rattle.sheet_kept.specs.Sizes.{words-extent}
use Rattle.sheet_kept.specs.Building.{with_held, with_field, flat-held, flat-field}
use Rattle.sheet_kept.proofs.InTurn.{kept-flat, kept-flat-all, kept-flat-fields}

module _ (key : ℕ → Text) where
  -- ---- records: those so far, then the new member's, its texts behind theirs

  pub kept-held : (t : ℕ) (vs : Helds) (w : Held)
      → kept_all key t (with_held vs w) ≡ kept_all key t vs ++ kept key (t + extent (words_of (flat_all key vs))) w
  kept-held t vs w =
      let rs = flat_all key vs in
      kept-flat-all key t (with_held vs w) ∙ ap (in_turn kept_rec t) (flat-held key vs w) ∙ in_turn-append kept_rec t rs (flat key w)
      ∙ rw (kept-flat-all key t vs, words-extent rs, kept-flat key (t + length (texts_of rs)) w)

  pub kept_field : (t : ℕ) (ms : HeldFields) (k : ℕ) (w : Held)
      → kept_fields key t (with_field ms k w)
      ≡ kept_fields key t ms ++ (key_record k (key k) ++ kept key (t + extent (words_of (flat_fields key ms)) + length (key k)) w)
  unfolding in_turn kept_rec text_of
  kept_field t ms k w =
      let rs = flat_fields key ms in
      kept-flat-fields key t (with_field ms k w) ∙ ap (in_turn kept_rec t) (flat-field key ms k w)
      ∙ in_turn-append kept_rec t rs (name k (key k) ∷ flat key w)
      ∙ rw (kept-flat-fields key t ms, words-extent rs, kept-flat key (t + length (texts_of rs) + length (key k)) w)
