use Rattle.text_scan.proofs.Gaps.{passes}
use Rattle.text_scan.proofs.pass.Goals as goal

pub returns-then-ch-lt-NOT_ASCII : goal.returns-then-ch-lt-NOT_ASCII
returns-then-ch-lt-NOT_ASCII c = search passes

pub returns-then-ch-eq-NEWLINE : goal.returns-then-ch-eq-NEWLINE
returns-then-ch-eq-NEWLINE c = search passes

pub returns-then-is_space : goal.returns-then-is_space
returns-then-is_space c = search passes

pub returns-then-starts_comment : goal.returns-then-starts_comment
returns-then-starts_comment c = search passes

pub returns : goal.returns
returns c = search passes
