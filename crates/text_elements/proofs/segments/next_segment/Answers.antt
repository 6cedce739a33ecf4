use Rattle.std.proofs.lemmas.Result.{err_from_is_err_and}
use Rattle.text_elements.proofs.segments.Joining.{segments, segment-asks, asks-plain}
use Rattle.text_elements.proofs.segments.next_segment.Goals as goal

pub add_quoted-requires : goal.add_quoted-requires
add_quoted-requires c = search (segments, segment-asks, c.in_ok-next.was)

pub add_written-requires : goal.add_written-requires
add_written-requires c = search (segments, segment-asks, c.in_ok-next.was)

pub add_written-requires-in-Plain : goal.add_written-requires-in-Plain
add_written-requires-in-Plain c = search (asks-plain, c.in_ok-next.was)

pub returns-in_err-next : goal.returns-in_err-next
returns-in_err-next c =
    let p = err_from_is_err_and c.from_residual.result c.from_residual.ensures.1 in
    rw (p.1, p.2) (search (segments, segment-asks, c.in_err-next.was))

pub returns-in-Quoted : goal.returns-in-Quoted
returns-in-Quoted c = search (segments, segment-asks, c.in_ok-next.was)

pub returns-in-Unquoted : goal.returns-in-Unquoted
returns-in-Unquoted c = search (segments, segment-asks, c.in_ok-next.was)

pub returns-in-Plain : goal.returns-in-Plain
returns-in-Plain c = search (segments, segment-asks, c.in_ok-next.was)
