use Rattle.std.specs.Prelude.{option_map}
use Rattle.http_messages.proofs.Told.{response_read, response_unread}
use Rattle.http_messages.proofs.response.response_of.Goals as goal

pub returns-in-Ok : goal.returns-in-Ok
returns-in-Ok c = response_read (option_map (λ r. r.now) c.args.asked) c.args.bytes.now c.in-Ok.came c.seen_response.result c.in-Ok.ensures.value c.seen_response.ensures

pub returns-in-Err : goal.returns-in-Err
returns-in-Err c = response_unread (option_map (λ r. r.now) c.args.asked) c.args.bytes.now c.in-Err.why c.in-Err.ensures.value
