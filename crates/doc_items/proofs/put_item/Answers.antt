use Rattle.doc_items.proofs.Writing.{items}
use Rattle.doc_items.proofs.put_item.Goals as goal

pub returns : goal.returns
returns c = search items
