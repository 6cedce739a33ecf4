use Rattle.eval_root_index.proofs.Linking.{root-links, root-other}
use Rattle.eval_root_index.proofs.link_root.Goals as goal

pub returns-then-number_at-eq-OBJECT : goal.returns-then-number_at-eq-OBJECT
returns-then-number_at-eq-OBJECT c = search (root-links)

pub returns-else-number_at-eq-OBJECT : goal.returns-else-number_at-eq-OBJECT
returns-else-number_at-eq-OBJECT c = search (root-other)
