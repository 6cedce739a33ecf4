use borrow.Author.Rules.{rules}
use Rattle.std.proofs.lemmas.Result.{err_from_is_err_and}
use Rattle.read_cycle.proofs.Containers.{container-less}
use Rattle.read_cycle.proofs.Objects.{objects, field_is}
use Rattle.read_cycle.proofs.FieldValueLaws.{a-keyed, keyed-named}
use Rattle.read_cycle.proofs.Arrays.{arrays}
use Rattle.read_cycle.proofs.ValueLaws.{a-value, short, space}
use Rattle.read_cycle.proofs.StepLaws.{a-step}
use Rattle.read_cycle.proofs.FieldLaws.{a-field, field-falls, field-asks}
use Rattle.read_cycle.proofs.ElementLaws.{an-element}
use Rattle.read_cycle.proofs.PieceLaws.{a_Piece}
use Rattle.read_cycle.proofs.+array_element_field_field_value_object_piece_step_value.Goals as goal

pub array-loop-next-init : goal.array-loop-next-init
array-loop-next-init t c = search arrays

pub array-returns-in-Close : goal.array-returns-in-Close
array-returns-in-Close t c = search arrays

pub array-returns-in-End : goal.array-returns-in-End
array-returns-in-End t c = search arrays

pub array-returns-in_err-read-in-Member : goal.array-returns-in_err-read-in-Member
array-returns-in_err-read-in-Member t c = let p = err_from_is_err_and c.from_residual.result c.from_residual.ensures.1 in rw (p.1, p.2) (search (arrays, c.in_err-read-in-Member.was))

pub array-loop-next-smaller : goal.array-loop-next-smaller
array-loop-next-smaller t c = search (arrays, c.in_ok-read-in-Member.was)

pub array-loop-next-preserved : goal.array-loop-next-preserved
array-loop-next-preserved t c = search (arrays, c.in_ok-read-in-Member.was)

pub element-returns-then-items-eq-MAX_ITEMS : goal.element-returns-then-items-eq-MAX_ITEMS
element-returns-then-items-eq-MAX_ITEMS t c = search an-element

pub element-finish_element-requires : goal.element-finish_element-requires
element-finish_element-requires t c = search an-element

pub element-returns : goal.element-returns
element-returns t c = search an-element

pub field-field_value-requires : goal.field-field_value-requires
field-field_value-requires t c = (search (field-falls, c.in_ok-read.was), search (field-asks c.requires c.key.ensures c.in_ok-read.was, rules))

pub field-returns-in_err-read : goal.field-returns-in_err-read
field-returns-in_err-read t c = let p = err_from_is_err_and c.from_residual.result c.from_residual.ensures.1 in rw (p.1, p.2) (search (a-field, c.in_err-read.was))

pub field-returns : goal.field-returns
field-returns t c = search (a-field, c.in_ok-read.was)

pub field_value-finish_field-requires : goal.field_value-finish_field-requires
field_value-finish_field-requires t c = keyed-named c.requires c.value-v.ensures

pub field_value-returns : goal.field_value-returns
field_value-returns t c = search a-keyed

pub object-loop-next-init : goal.object-loop-next-init
object-loop-next-init t c = search objects

pub object-returns-in-Close : goal.object-returns-in-Close
object-returns-in-Close t c = search objects

pub object-returns-in-End : goal.object-returns-in-End
object-returns-in-End t c = search objects

pub object-returns-in_err-read-in-Member : goal.object-returns-in_err-read-in-Member
object-returns-in_err-read-in-Member t c = let p = err_from_is_err_and c.from_residual.result c.from_residual.ensures.1 in rw (p.1, p.2) (search (objects, c.in_err-read-in-Member.was))

pub object-loop-next-smaller : goal.object-loop-next-smaller
object-loop-next-smaller t c =
    container-less c.loop-next.invariant c.turn_at.ensures c.in-Member.is (field_is c.field.ensures) c.in_ok-read-in-Member.was

pub object-loop-next-preserved : goal.object-loop-next-preserved
object-loop-next-preserved t c = search (objects, c.in_ok-read-in-Member.was)

pub piece-scalar_piece-requires : goal.piece-scalar_piece-requires
piece-scalar_piece-requires t c = search (a_Piece, c.in_ok-piece_start.ensures)

pub piece-reference_piece-requires : goal.piece-reference_piece-requires
piece-reference_piece-requires t c = search (a_Piece, c.in_ok-piece_start.ensures)

pub piece-overflow_mul-v : goal.piece-overflow_mul-v
piece-overflow_mul-v t c = search (a_Piece, c.in_ok-piece_start.ensures)

pub piece-overflow_sub-v : goal.piece-overflow_sub-v
piece-overflow_sub-v t c = search (a_Piece, c.in_ok-piece_start.ensures)

pub piece-overflow_sub-left : goal.piece-overflow_sub-left
piece-overflow_sub-left t c = search (a_Piece, c.in_ok-piece_start.ensures)

pub piece-slice_bounds-object-count : goal.piece-slice_bounds-object-count
piece-slice_bounds-object-count t c = search (a_Piece, c.in_ok-piece_start.ensures)

pub piece-slice_bounds-object-start : goal.piece-slice_bounds-object-start
piece-slice_bounds-object-start t c = search (a_Piece, c.in_ok-piece_start.ensures)

pub piece-object-r-requires : goal.piece-object-r-requires
piece-object-r-requires t c = search (a_Piece, c.in_ok-piece_start.ensures)

pub piece-overflow_mul-v-in-Array : goal.piece-overflow_mul-v-in-Array
piece-overflow_mul-v-in-Array t c = search (a_Piece, c.in_ok-piece_start.ensures)

pub piece-overflow_sub-v-in-Array : goal.piece-overflow_sub-v-in-Array
piece-overflow_sub-v-in-Array t c = search (a_Piece, c.in_ok-piece_start.ensures)

pub piece-overflow_sub-left-in-Array : goal.piece-overflow_sub-left-in-Array
piece-overflow_sub-left-in-Array t c = search (a_Piece, c.in_ok-piece_start.ensures)

pub piece-slice_bounds-array-count : goal.piece-slice_bounds-array-count
piece-slice_bounds-array-count t c = search (a_Piece, c.in_ok-piece_start.ensures)

pub piece-slice_bounds-array-start : goal.piece-slice_bounds-array-start
piece-slice_bounds-array-start t c = search (a_Piece, c.in_ok-piece_start.ensures)

pub piece-array-r-requires : goal.piece-array-r-requires
piece-array-r-requires t c = search (a_Piece, c.in_ok-piece_start.ensures)

pub piece-returns-in-Nothing : goal.piece-returns-in-Nothing
piece-returns-in-Nothing t c = search (a_Piece, c.in_ok-piece_start.ensures)

pub piece-returns-in_err-piece_start : goal.piece-returns-in_err-piece_start
piece-returns-in_err-piece_start t c = let p = err_from_is_err_and c.from_residual.result c.from_residual.ensures.1 in rw (p.1, p.2) (search (a_Piece, c.in_err-piece_start.ensures))

pub piece-returns-in-Scalar : goal.piece-returns-in-Scalar
piece-returns-in-Scalar t c = search (a_Piece, c.in_ok-piece_start.ensures)

pub piece-returns-in-Reference : goal.piece-returns-in-Reference
piece-returns-in-Reference t c = search (a_Piece, c.in_ok-piece_start.ensures)

pub piece-returns-in-Object : goal.piece-returns-in-Object
piece-returns-in-Object t c = search (a_Piece, c.in_ok-piece_start.ensures)

pub piece-returns-in-Array : goal.piece-returns-in-Array
piece-returns-in-Array t c = search (a_Piece, c.in_ok-piece_start.ensures)

pub step-finish_piece-requires : goal.step-finish_piece-requires
step-finish_piece-requires t c = search a-step

pub step-returns : goal.step-returns
step-returns t c = search a-step

pub value-loop-more-init : goal.value-loop-more-init
value-loop-more-init t c = search a-value

pub value-returns-in_default : goal.value-returns-in_default
value-returns-in_default t c = search (a-value, c.in_ok-more.was)

pub value-returns-in_err-more : goal.value-returns-in_err-more
value-returns-in_err-more t c = let p = err_from_is_err_and c.from_residual.result c.from_residual.ensures.1 in rw (p.1, p.2) (search (a-value, c.in_err-more.was))

pub value-after_inline-at-requires : goal.value-after_inline-at-requires
value-after_inline-at-requires t c = (search short, search (space c.loop-more.invariant c.step.ensures, c.in_ok-more.was))

pub value-loop-more-smaller : goal.value-loop-more-smaller
value-loop-more-smaller t c = search (a-value, c.in_ok-more.was)

pub value-loop-more-preserved : goal.value-loop-more-preserved
value-loop-more-preserved t c = search (a-value, c.in_ok-more.was)
