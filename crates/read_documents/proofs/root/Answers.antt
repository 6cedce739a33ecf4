use Rattle.read_documents.proofs.Bodies.{roots}
use Rattle.read_documents.proofs.root.Goals as goal

pub overflow_mul-v : goal.overflow_mul-v
overflow_mul-v c = search roots

pub slice_bounds-object-count-in-Object : goal.slice_bounds-object-count-in-Object
slice_bounds-object-count-in-Object c = search roots

pub slice_bounds-object-start-in-Object : goal.slice_bounds-object-start-in-Object
slice_bounds-object-start-in-Object c = search roots

pub object-r-requires : goal.object-r-requires
object-r-requires c = search roots

pub put_root-requires : goal.put_root-requires
put_root-requires c = search roots

pub overflow_mul-v-in-Array : goal.overflow_mul-v-in-Array
overflow_mul-v-in-Array c = search roots

pub slice_bounds-array-count-in-Array : goal.slice_bounds-array-count-in-Array
slice_bounds-array-count-in-Array c = search roots

pub slice_bounds-array-start-in-Array : goal.slice_bounds-array-start-in-Array
slice_bounds-array-start-in-Array c = search roots

pub array-r-requires : goal.array-r-requires
array-r-requires c = search roots

pub put_root-requires-in-Array : goal.put_root-requires-in-Array
put_root-requires-in-Array c = search roots

pub returns-in-Object : goal.returns-in-Object
returns-in-Object c = search roots

pub returns-in-Array : goal.returns-in-Array
returns-in-Array c = search roots
