use Rattle.text_scan.proofs.Spaces.{spaces}
use Rattle.text_scan.proofs.is_space.Goals as goal

pub returns-then-ch-lt-NOT_ASCII : goal.returns-then-ch-lt-NOT_ASCII
returns-then-ch-lt-NOT_ASCII c = search spaces

pub returns-then-ch-gt-SPACE : goal.returns-then-ch-gt-SPACE
returns-then-ch-gt-SPACE c = search spaces

pub returns-then-ch-eq-SPACE : goal.returns-then-ch-eq-SPACE
returns-then-ch-eq-SPACE c = search spaces

pub returns-then-ch-lt-TAB : goal.returns-then-ch-lt-TAB
returns-then-ch-lt-TAB c = search spaces

pub returns-then-ch-le-CARRIAGE_RETURN : goal.returns-then-ch-le-CARRIAGE_RETURN
returns-then-ch-le-CARRIAGE_RETURN c = search spaces

pub returns : goal.returns
returns c = search spaces
