use Rattle.text_scan.proofs.Gaps.{comments}
use Rattle.text_scan.proofs.starts_comment.Goals as goal

pub returns-then-here-eq-HASH : goal.returns-then-here-eq-HASH
returns-then-here-eq-HASH c = search comments

pub returns-then-here-eq-SLASH : goal.returns-then-here-eq-SLASH
returns-then-here-eq-SLASH c = search comments

pub returns : goal.returns
returns c = search comments
