use Rattle.frame_moves.proofs.InEnds.{rows_begin, rows_fault}
use Rattle.frame_moves.proofs.ends.begin_rows.Goals as goal

pub returns-in-Ok : goal.returns-in-Ok
returns-in-Ok g c =
    rows_begin _ _ _ c.in-Ok.rows _ _ _ _ _ _ _ (rw c.in_ok-lists.ensures at c.in-Ok.ensures)
    (rw c.as_slice.ensures.value at c.most_turns-left.ensures) c.in_ok-next-in-Ok.ensures

pub returns-in-Err-Fault : goal.returns-in-Err-Fault
returns-in-Err-Fault g c =
    let e = c.in-Err-Fault in
    rw c.stop.ensures (rows_fault _ _ _ _ e.fault _ _ _
    (rw (e.field-0-is, c.in_ok-lists.ensures) at e.ensures))
