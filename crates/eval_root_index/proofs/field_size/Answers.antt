use Rattle.eval_root_index.proofs.Linking.{sizes}
use Rattle.eval_root_index.proofs.field_size.Goals as goal

pub returns-then-number_at-ge-PIECE : goal.returns-then-number_at-ge-PIECE
returns-then-number_at-ge-PIECE c = search sizes

pub returns : goal.returns
returns c = search sizes
