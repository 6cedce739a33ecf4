use Rattle.text_bytes.proofs.Encodes.{encodes}
use Rattle.text_bytes.proofs.encode.Goals as goal

pub returns-then-ch-lt-NOT_ASCII : goal.returns-then-ch-lt-NOT_ASCII
returns-then-ch-lt-NOT_ASCII c = search encodes

pub bounds-out-1 : goal.bounds-out-1
bounds-out-1 c = search encodes

pub returns-then-ch-lt2048 : goal.returns-then-ch-lt2048
returns-then-ch-lt2048 c = search encodes

pub bounds-out-1-then-ch-lt-FIRST_OF_FOUR : goal.bounds-out-1-then-ch-lt-FIRST_OF_FOUR
bounds-out-1-then-ch-lt-FIRST_OF_FOUR c = search encodes

pub bounds-out-2 : goal.bounds-out-2
bounds-out-2 c = search encodes

pub returns-then-ch-lt-FIRST_OF_FOUR : goal.returns-then-ch-lt-FIRST_OF_FOUR
returns-then-ch-lt-FIRST_OF_FOUR c = search encodes

pub bounds-out-1-2 : goal.bounds-out-1-2
bounds-out-1-2 c = search encodes

pub bounds-out-2-2 : goal.bounds-out-2-2
bounds-out-2-2 c = search encodes

pub returns : goal.returns
returns c = search encodes
