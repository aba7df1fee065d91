use Rattle.std.proofs.Common.{Ok, Err}
use Rattle.http_messages.proofs.Told.{request_seen, request_unseen}
use Rattle.http_messages.proofs.request.seen_request.Goals as goal

pub returns-in-Ok-framing_of : goal.returns-in-Ok-framing_of
returns-in-Ok-framing_of c =
    let made = request_seen c.args.came c.in-Ok.head (Ok c.in-Ok-framing_of.body) c.in-Ok.ensures c.in-Ok-framing_of.ensures in
    rw c.persists-persists.ensures (rw c.expects.ensures (rw c.asks_continue-asks.ensures made))

pub returns-in-Err-framing_of : goal.returns-in-Err-framing_of
returns-in-Err-framing_of c = request_seen c.args.came c.in-Ok.head (Err c.in-Err-framing_of.fault) c.in-Ok.ensures c.in-Err-framing_of.ensures

pub returns-in-Err : goal.returns-in-Err
returns-in-Err c = request_unseen c.args.came c.in-Err.why c.in-Err.ensures
