-- What the tests compute, on the numbers that they have.
use Rattle.std.specs.Prelude.{Bool, cond, ◌&&◌, leb}
use Rattle.rules.specs.Sizes.{max_nesting, max_records, max_text}
use Rattle.eval_results.specs.declared.extents.Extent.{Extent}
use Rattle.eval_results.specs.declared.sizes.Answered.{Answered}

unfoldable pub within_c : Extent → Bool
within_c b = leb b.deep max_nesting && leb b.out.rec.0 max_records && leb b.out.text.0 max_text

unfoldable pub sized_c : Extent → Answered
unfolding within_c
sized_c b = cond (within_c b) (Answered.Value b) Answered.TooLarge
