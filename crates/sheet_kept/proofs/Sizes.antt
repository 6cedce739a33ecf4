-- How long records and texts are: as long kept as public, wherever the texts begin.
use Rattle.std.specs.Prelude.{◌≡◌, ℕ, length}
use Rattle.std.proofs.Common.{sym, ap, ◌∙◌, arith}
use Rattle.rules.specs.Bytes.{Text}
use Rattle.rules.specs.Values.{text_size, record_size, value_record_sizes, member_record_sizes}
use Rattle.rules.specs.Sheet.{two}
use Rattle.theory.specs.Layout.{length-records}
use Rattle.sheet_kept.specs.Kept.{Held, listed, keyed, Helds, HeldFields, named, named_all, named_fields}
use Rattle.sheet_kept.specs.Kept.{kept, kept_all, kept_fields, layout}
use Rattle.sheet_kept.specs.InTurn.{flat, words_of, extent}
use Rattle.sheet_kept.specs.Sizes.{same_size, words-extent}
use Rattle.sheet_kept.proofs.InTurn.{flat-size, kept-flat, layout-flat}

-- as many bytes as kept as in the sheet, wherever the texts stand
pub kept-size : (key : ℕ → Text) (t u : ℕ) (v : Held) → length (kept key t v) ≡ length (layout key u v)
kept-size key t u v = ap length (kept-flat key t v) ∙ same_size t u (flat key v) ∙ ap length (sym (layout-flat key u v))

pub kept-records : (key : ℕ → Text) (t : ℕ) (v : Held) → length (kept key t v) ≡ record_size (named key v)
unfolding layout
kept-records key t v = kept-size key t 0 v ∙ length-records 0 (named key v)

-- what is inside an array or object is as long as its record says
pub all-records : (key : ℕ → Text) (t : ℕ) (vs : Helds) → length (kept_all key t vs) ≡ value_record_sizes (named_all key vs)
unfolding kept named record_size two
all-records key t vs = let e = kept-records key t (listed vs) in omega arith

pub fields-records : (key : ℕ → Text) (t : ℕ) (ms : HeldFields) → length (kept_fields key t ms) ≡ member_record_sizes (named_fields key ms)
unfolding kept named record_size two
fields-records key t ms = let e = kept-records key t (keyed ms) in omega arith

pub kept-length : (key : ℕ → Text) (t u : ℕ) (v : Held) → length (kept key t v) ≡ length (kept key u v)
kept-length key t u v = ap length (kept-flat key t v) ∙ same_size t 0 (flat key v) ∙ sym (same_size u 0 (flat key v)) ∙ ap length (sym (kept-flat key u v))

-- ---- texts

pub value-extent : (key : ℕ → Text) (v : Held) → extent (words_of (flat key v)) ≡ text_size (named key v)
value-extent key v = words-extent (flat key v) ∙ flat-size key v
