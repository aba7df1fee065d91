use Rattle.std.proofs.Common.{◌≡◌, Ok, ap, take}
use Rattle.http_messages.specs.Messages.{response_of}
use Rattle.conn_trace.specs.Host.{http_known}
use Rattle.conn.proofs.Responding.{told_response}
use Rattle.conn.proofs.connection.Conn.response_head.Goals as goal

pub returns-in-Ok : goal.returns-in-Ok
returns-in-Ok c = λ r is.
    (let old = c.args.self.now in
    let bytes = take c.args.n old.ends.server.unread in
    let http = c.in-Some.http in
    let told = told_response c.in-Ok.response (response_of http.came bytes) (rw (c.front.ensures, c.as_ref.ensures.value) at c.in-Ok.ensures) in
    let here = ap (λ o. response_of (http_known o).came bytes) c.in-Some.is in
    let same : c.in-Ok.response ≡ r = cc (told, here, is) in
    ap (λ x. x.head) same)
