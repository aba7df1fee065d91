use Rattle.http_messages.proofs.Told.{request_read, request_unread}
use Rattle.http_messages.proofs.request.request_of.Goals as goal

pub returns-in-Ok : goal.returns-in-Ok
returns-in-Ok c = request_read c.args.bytes.now c.in-Ok.came c.seen_request.result c.in-Ok.ensures.value c.seen_request.ensures

pub returns-in-Err : goal.returns-in-Err
returns-in-Err c = request_unread c.args.bytes.now c.in-Err.why c.in-Err.ensures.value
