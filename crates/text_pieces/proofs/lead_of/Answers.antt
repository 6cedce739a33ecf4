use Rattle.text_pieces.proofs.Tokens.{leads}
use Rattle.text_pieces.proofs.lead_of.Goals as goal

pub returns-then-ch-eq-QUOTE : goal.returns-then-ch-eq-QUOTE
returns-then-ch-eq-QUOTE c = search leads

pub returns-then-ch-eq-MINUS : goal.returns-then-ch-eq-MINUS
returns-then-ch-eq-MINUS c = search leads

pub returns-then-is_digit : goal.returns-then-is_digit
returns-then-is_digit c = search leads

pub returns-else-is_digit : goal.returns-else-is_digit
returns-else-is_digit c = search leads
