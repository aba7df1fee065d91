use Rattle.http_heads.specs.Fronts.{head_part}
use Rattle.conn.specs.Stages.{http_in}
use Rattle.conn.proofs.Responding.{head_is, head_there}
use Rattle.conn.proofs.connection.Conn.take_response.Goals as goal

pub response_head-requires : goal.response_head-requires
response_head-requires c =
    let old = c.args.self.now in
    head_there (http_in old.host).came old.ends.server.unread old.ends.server.ended c.args.n c.args.response c.requires.here

pub begin_response-requires-clause-same : goal.begin_response-requires-clause-same
begin_response-requires-clause-same c =
    let old = c.args.self.now in
    let e = old.ends.server in
    c.in_ok-head.ensures c.args.response (head_is (http_in old.host).came e.unread (head_part e.unread e.ended) c.args.n c.args.response c.requires.here).reads

pub read-requires : goal.read-requires
read-requires c =
    let old = c.args.self.now in
    head_there (http_in old.host).came old.ends.server.unread old.ends.server.ended c.args.n c.args.response c.requires.here
