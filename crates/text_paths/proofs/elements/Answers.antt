use Rattle.std.proofs.lemmas.Result.{err_from_is_err_and}
use Rattle.text_paths.proofs.Whole.{joinings, joining-asks}
use Rattle.text_paths.proofs.Whole.{joining-less, asks-advance}
use Rattle.text_paths.proofs.elements.Goals as goal

pub loop-marks-init : goal.loop-marks-init
loop-marks-init c = search (joinings, joining-asks)

pub returns-in-Dollar : goal.returns-in-Dollar
returns-in-Dollar c = search (joinings, joining-asks)

pub returns-in-End : goal.returns-in-End
returns-in-End c = search (joinings, joining-asks)

pub advance-requires : goal.advance-requires
advance-requires c = search asks-advance

pub returns-in_err-more-in-Piece : goal.returns-in_err-more-in-Piece
returns-in_err-more-in-Piece c =
    let p = err_from_is_err_and c.from_residual.result c.from_residual.ensures.1 in
    rw (p.1, p.2) (search (joinings, joining-asks, c.in_err-more-in-Piece.was))

pub loop-marks-smaller : goal.loop-marks-smaller
loop-marks-smaller c = search (joining-less, c.in_ok-more-in-Piece.was)

pub loop-marks-preserved : goal.loop-marks-preserved
loop-marks-preserved c = search (joinings, joining-asks, c.in_ok-more-in-Piece.was)
