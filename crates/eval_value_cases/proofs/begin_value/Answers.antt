use Rattle.eval_value_laws.specs.Begins.{begin-laws, simple-low, object-low, objects-high, pushed-high}
use borrow.Author.Rules.{rules}
use Rattle.eval_value_cases.proofs.begin_value.Goals as goal

pub simple_value-requires : goal.simple_value-requires
simple_value-requires c = search (rules, simple-low)

pub push-base-requires : goal.push-base-requires
push-base-requires c = search (rules, object-low)

pub members_from-end-requires : goal.members_from-end-requires
members_from-end-requires c = search (rules, pushed-high)

pub members_from-end-requires-in-Objects : goal.members_from-end-requires-in-Objects
members_from-end-requires-in-Objects c = search (rules, objects-high)

pub returns-in-Nothing : goal.returns-in-Nothing
returns-in-Nothing c = search begin-laws

pub returns-in-Needs : goal.returns-in-Needs
returns-in-Needs c = search begin-laws

pub returns-in-Finished : goal.returns-in-Finished
returns-in-Finished c = search begin-laws

pub returns-in-Simple : goal.returns-in-Simple
returns-in-Simple c = search begin-laws

pub returns-in-Array : goal.returns-in-Array
returns-in-Array c = search begin-laws

pub returns-in-Object : goal.returns-in-Object
returns-in-Object c = search begin-laws

pub returns-in-Objects : goal.returns-in-Objects
returns-in-Objects c = search begin-laws
