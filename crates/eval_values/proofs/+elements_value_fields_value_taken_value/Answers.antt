use Rattle.eval_value_laws.specs.Holders.{taken-laws, taken-ended, taken-members, elements-deeper, members-deeper, elements-lent, members-lent}
use mathlib.Core.Path.{◌∙◌}
use borrow.Author.Rules.{rules}
use Rattle.eval_value_laws.specs.Listing.{elements-laws, listing-asked, listing-inside, listing-count, listing-end, listing-need, listing-seam, listing-done}
use Rattle.eval_value_laws.specs.Frames.{asked-source}
use Rattle.eval_value_laws.specs.Holders.{value-less}
use borrow.Fn.PlainCycle.{is}
use Rattle.eval_value_laws.specs.Fields.{fields-laws, fielding-asked, fielding-pass, fielding-need, field-asked, field-inside, fielding-count, fielding-stop, fielding-done, fielding-end}
use Rattle.eval_values.proofs.+elements_value_fields_value_taken_value.Goals as goal

pub elements_value-loop-next-init : goal.elements_value-loop-next-init
elements_value-loop-next-init t c = search elements-laws

pub elements_value-element_at-requires : goal.elements_value-element_at-requires
elements_value-element_at-requires t c = asked-source c.requires.0

pub elements_value-shape_of-work-in-End : goal.elements_value-shape_of-work-in-End
elements_value-shape_of-work-in-End t c = c.loop-next.invariant.left.len

pub elements_value-shape_of-room-in-End : goal.elements_value-shape_of-room-in-End
elements_value-shape_of-room-in-End t c = c.loop-next.invariant.kept

pub elements_value-returns-in-End : goal.elements_value-returns-in-End
elements_value-returns-in-End t c = listing-end c.loop-next.invariant c.element_at.ensures c.in-End.is

pub elements_value-loop-next-smaller-in-Seam : goal.elements_value-loop-next-smaller-in-Seam
elements_value-loop-next-smaller-in-Seam t c = search elements-laws

pub elements_value-loop-next-preserved-in-Seam : goal.elements_value-loop-next-preserved-in-Seam
elements_value-loop-next-preserved-in-Seam t c = listing-seam c.loop-next.invariant c.element_at.ensures c.in-Seam.is

pub elements_value-taken_value-v-requires : goal.elements_value-taken_value-v-requires
elements_value-taken_value-v-requires t c = (value-less c.decreases, (listing-asked c.loop-next.invariant c.requires.0, listing-inside c.loop-next.invariant c.element_taken-taken.ensures))

pub elements_value-one_more-requires : goal.elements_value-one_more-requires
elements_value-one_more-requires t c = listing-count c.loop-next.invariant

pub elements_value-shape_of-work-in-Needs : goal.elements_value-shape_of-work-in-Needs
elements_value-shape_of-work-in-Needs t c = c.taken_value-v.ensures.left.len ∙ c.loop-next.invariant.left.len

pub elements_value-shape_of-room-in-Needs : goal.elements_value-shape_of-room-in-Needs
elements_value-shape_of-room-in-Needs t c = c.taken_value-v.auto.room ∙ c.loop-next.invariant.kept

pub elements_value-returns-in-Needs : goal.elements_value-returns-in-Needs
elements_value-returns-in-Needs t c = listing-need c.loop-next.invariant c.element_at.ensures c.in-At.is c.element_taken-taken.ensures c.taken_value-v.ensures c.one_more.ensures c.in-Needs.is

pub elements_value-loop-next-smaller : goal.elements_value-loop-next-smaller
elements_value-loop-next-smaller t c = search elements-laws

pub elements_value-loop-next-preserved : goal.elements_value-loop-next-preserved
elements_value-loop-next-preserved t c = listing-done c.loop-next.invariant c.element_at.ensures c.in-At.is c.element_taken-taken.ensures c.taken_value-v.ensures c.one_more.ensures c.in-Done.is c.taken_value-v.auto.room

pub fields_value-loop-p-init : goal.fields_value-loop-p-init
fields_value-loop-p-init t c = search fields-laws

pub fields_value-field_at-requires : goal.fields_value-field_at-requires
fields_value-field_at-requires t c = (fielding-asked c.loop-p.invariant c.requires.0, c.loop-p-test.true)

pub fields_value-loop-p-preserved-in-Pass : goal.fields_value-loop-p-preserved-in-Pass
fields_value-loop-p-preserved-in-Pass t c = fielding-pass c.loop-p.invariant c.field_at.ensures c.in-Pass.is

pub fields_value-shape_of-work-in-Needs : goal.fields_value-shape_of-work-in-Needs
fields_value-shape_of-work-in-Needs t c = c.field_at.ensures.left.len ∙ c.loop-p.invariant.left.len

pub fields_value-shape_of-room-in-Needs : goal.fields_value-shape_of-room-in-Needs
fields_value-shape_of-room-in-Needs t c = c.field_at.auto.room ∙ c.loop-p.invariant.kept

pub fields_value-returns-in-Needs : goal.fields_value-returns-in-Needs
fields_value-returns-in-Needs t c = fielding-need c.loop-p.invariant c.field_at.ensures c.in-Needs.is

pub fields_value-taken_value-v-requires : goal.fields_value-taken_value-v-requires
fields_value-taken_value-v-requires t c = (value-less c.decreases, (field-asked c.loop-p.invariant c.field_at.ensures c.in-At.is c.requires.0 c.field_at.auto.room, field-inside c.loop-p.invariant c.field_at.ensures c.in-At.is))

pub fields_value-one_more-requires : goal.fields_value-one_more-requires
fields_value-one_more-requires t c = fielding-count c.loop-p.invariant c.loop-p-test.true c.requires.0.used

pub fields_value-shape_of-work-in-Needs-one_more : goal.fields_value-shape_of-work-in-Needs-one_more
fields_value-shape_of-work-in-Needs-one_more t c = c.taken_value-v.ensures.left.len ∙ (c.field_at.ensures.left.len ∙ c.loop-p.invariant.left.len)

pub fields_value-shape_of-room-in-Needs-one_more : goal.fields_value-shape_of-room-in-Needs-one_more
fields_value-shape_of-room-in-Needs-one_more t c = c.taken_value-v.auto.room ∙ (c.field_at.auto.room ∙ c.loop-p.invariant.kept)

pub fields_value-returns-in-Needs-one_more : goal.fields_value-returns-in-Needs-one_more
fields_value-returns-in-Needs-one_more t c = fielding-stop c.loop-p.invariant c.field_at.ensures c.in-At.is c.taken_value-v.ensures c.one_more.ensures c.in-Needs-one_more.is

pub fields_value-overflow_add-p-in-Done : goal.fields_value-overflow_add-p-in-Done
fields_value-overflow_add-p-in-Done t c = search (rules, c.loop-p-test.true, c.requires.0.used)

pub fields_value-loop-p-smaller : goal.fields_value-loop-p-smaller
fields_value-loop-p-smaller t c = search (rules, c.loop-p-test.true)

pub fields_value-loop-p-preserved : goal.fields_value-loop-p-preserved
fields_value-loop-p-preserved t c = fielding-done c.loop-p.invariant c.field_at.ensures c.in-At.is c.taken_value-v.ensures c.one_more.ensures c.in-Done.is (c.taken_value-v.auto.room ∙ c.field_at.auto.room)

pub fields_value-shape_of-work : goal.fields_value-shape_of-work
fields_value-shape_of-work t c = c.loop-p.invariant.left.len

pub fields_value-shape_of-room : goal.fields_value-shape_of-room
fields_value-shape_of-room t c = c.loop-p.invariant.kept

pub fields_value-returns : goal.fields_value-returns
fields_value-returns t c = fielding-end c.loop-p.invariant c.loop-p-test.false

pub taken_value-begin_value-requires : goal.taken_value-begin_value-requires
taken_value-begin_value-requires t c = c.requires

pub taken_value-behind_head-inner-requires : goal.taken_value-behind_head-inner-requires
taken_value-behind_head-inner-requires t c = c.requires.0.start

pub taken_value-overflow_sub-levels : goal.taken_value-overflow_sub-levels
taken_value-overflow_sub-levels t c = search (rules, elements-deeper)

pub taken_value-elements_value-made-requires : goal.taken_value-elements_value-made-requires
taken_value-elements_value-made-requires t c = elements-lent c.begin_value.ensures c.requires.0 c.behind_head-inner.ensures c.decreases c.in-Elements.is

pub taken_value-headed-requires : goal.taken_value-headed-requires
taken_value-headed-requires t c = (c.elements_value-made.auto.room ∙ (c.begin_value.auto.room ∙ c.requires.0.room), c.requires.0.start, c.elements_value-made.ensures.within)

pub taken_value-behind_head-inner-requires-in-Members : goal.taken_value-behind_head-inner-requires-in-Members
taken_value-behind_head-inner-requires-in-Members t c = c.requires.0.start

pub taken_value-overflow_sub-levels-in-Members : goal.taken_value-overflow_sub-levels-in-Members
taken_value-overflow_sub-levels-in-Members t c = search (rules, members-deeper)

pub taken_value-fields_value-made-requires : goal.taken_value-fields_value-made-requires
taken_value-fields_value-made-requires t c = members-lent c.begin_value.ensures c.requires.0 c.behind_head-inner-in-Members.ensures c.decreases c.in-Members.is

pub taken_value-headed-requires-in-Members : goal.taken_value-headed-requires-in-Members
taken_value-headed-requires-in-Members t c = (c.fields_value-made.auto.room ∙ (c.begin_value.auto.room ∙ c.requires.0.room), c.requires.0.start, c.fields_value-made.ensures.within)

pub taken_value-shape_of-work-in-Ended : goal.taken_value-shape_of-work-in-Ended
taken_value-shape_of-work-in-Ended t c = c.begin_value.ensures.left.len

pub taken_value-shape_of-room-in-Ended : goal.taken_value-shape_of-room-in-Ended
taken_value-shape_of-room-in-Ended t c = c.begin_value.auto.room

pub taken_value-returns-in-Ended : goal.taken_value-returns-in-Ended
taken_value-returns-in-Ended t c = taken-ended c.begin_value.ensures c.in-Ended.is

pub taken_value-shape_of-work-in-Elements : goal.taken_value-shape_of-work-in-Elements
taken_value-shape_of-work-in-Elements t c = c.elements_value-made.ensures.left.len ∙ c.begin_value.ensures.left.len

pub taken_value-shape_of-room-in-Elements : goal.taken_value-shape_of-room-in-Elements
taken_value-shape_of-room-in-Elements t c = c.headed.auto.room ∙ (c.elements_value-made.auto.room ∙ c.begin_value.auto.room)

pub taken_value-returns-in-Elements : goal.taken_value-returns-in-Elements
taken_value-returns-in-Elements t c = search taken-laws

pub taken_value-shape_of-work-in-Members : goal.taken_value-shape_of-work-in-Members
taken_value-shape_of-work-in-Members t c = c.fields_value-made.ensures.left.len ∙ c.begin_value.ensures.left.len

pub taken_value-shape_of-room-in-Members : goal.taken_value-shape_of-room-in-Members
taken_value-shape_of-room-in-Members t c = c.headed-in-Members.auto.room ∙ (c.fields_value-made.auto.room ∙ c.begin_value.auto.room)

pub taken_value-returns-in-Members : goal.taken_value-returns-in-Members
taken_value-returns-in-Members t c = taken-members c.begin_value.ensures c.behind_head-inner-in-Members.ensures c.in-Members.is c.fields_value-made.ensures c.headed-in-Members.ensures
