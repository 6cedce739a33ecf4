use Rattle.read_keys.proofs.Keys.{whole-keys}
use Rattle.read_keys.proofs.key.Goals as goal

pub returns-then-starts_include : goal.returns-then-starts_include
returns-then-starts_include c = search whole-keys

pub returns : goal.returns
returns c = search whole-keys
