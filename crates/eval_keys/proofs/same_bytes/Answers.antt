use Rattle.eval_keys.proofs.Readings.{sames, same-again}
use Rattle.eval_keys.proofs.same_bytes.Goals as goal

pub loop-i-init : goal.loop-i-init
loop-i-init c = search sames

pub loop-i-preserved : goal.loop-i-preserved
loop-i-preserved c = same-again c.loop-i.invariant c.loop-i-test.true c.text_byte.ensures
    c.text_byte-in-loop-i.ensures c.if-text_byte.false

pub returns-then-text_byte : goal.returns-then-text_byte
returns-then-text_byte c = search sames

pub returns : goal.returns
returns c = search sames
