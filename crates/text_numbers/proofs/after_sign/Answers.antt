use Rattle.text_numbers.proofs.Digits.{sign-ends}
use Rattle.text_numbers.proofs.after_sign.Goals as goal

pub returns-then-is_sign : goal.returns-then-is_sign
returns-then-is_sign c = search sign-ends

pub returns : goal.returns
returns c = search sign-ends
