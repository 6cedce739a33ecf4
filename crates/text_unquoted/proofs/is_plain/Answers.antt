use Rattle.text_unquoted.proofs.Stops.{plains}
use Rattle.text_unquoted.proofs.is_plain.Goals as goal

pub returns-then-b-ge97 : goal.returns-then-b-ge97
returns-then-b-ge97 c = search plains

pub returns-then-b-le90 : goal.returns-then-b-le90
returns-then-b-le90 c = search plains

pub returns-then-b-ge65 : goal.returns-then-b-ge65
returns-then-b-ge65 c = search plains

pub returns-then-b-ge48 : goal.returns-then-b-ge48
returns-then-b-ge48 c = search plains

pub returns-then-b-lt45 : goal.returns-then-b-lt45
returns-then-b-lt45 c = search plains

pub returns : goal.returns
returns c = search plains
