use Rattle.read_grammar.proofs.Includes.{includes}
use Rattle.read_grammar.proofs.starts_include.Goals as goal

pub returns-in_default : goal.returns-in_default
returns-in_default c = search includes

pub stops_unquoted-requires : goal.stops_unquoted-requires
stops_unquoted-requires c = search includes

pub returns-then-stops_unquoted : goal.returns-then-stops_unquoted
returns-then-stops_unquoted c = search includes

pub returns : goal.returns
returns c = search includes
