use Rattle.std.proofs.Common.{IfOk, Err, refl, sym, ap, subst, ◌∙◌, take}
use Rattle.px_bytes.specs.declared.addr.Side.TheVariants.{Client}
use Rattle.http_messages.specs.Messages.{request_of}
use Rattle.conn.specs.Acts.{RequestBy}
use Rattle.conn.specs.Changes.{Enters}
use Rattle.conn.specs.Ends.{is_up}
use Rattle.conn.specs.Hosts.{begun_host, requested_host}
use Rattle.conn.specs.Relaying.{read_ends}
use Rattle.conn.specs.declared.events.At.TheVariants.{Request}
use Rattle.conn.specs.declared.turn.Act.TheVariants.{Goes}
use Rattle.conn.proofs.Requesting.{told_fault, told_request}
use Rattle.conn.proofs.connection.Conn.read_request.Goals as goal

pub returns-in_ok-head-in-Ok-clause-ok : goal.returns-in_ok-head-in-Ok-clause-ok
returns-in_ok-head-in-Ok-clause-ok c =
    let s = c.args.setup.now in
    let old = c.args.self.now in
    let n = c.args.n in
    let r = c.in-Ok.request in
    let before = c.args.notes.now.items in
    let is = told_request r (request_of (take n old.ends.client.unread)) (rw c.front.ensures at c.in-Ok.ensures) in
    let enters : Enters s Request (requested_host r old.host) (read_ends Client n old.ends) old c.enter.new.self = record {
      there = c.enter.ensures.there;
      vars = c.enter.ensures.vars;
      host = c.enter.ensures.host ∙ ap (begun_host Request (is_up old.ends.link)) c.begin_request.ensures;
      ends = c.enter.ensures.ends ∙ ap (λ u. record old.ends { client = record old.ends.client { unread = u } }) c.drop_front.ensures;
    } in
    subst (λ x. RequestBy x n s c.args.number old c.enter.new.self before before Goes) (sym is) (refl, enters, refl)

pub returns-in-Err-Fault-clause-ok : goal.returns-in-Err-Fault-clause-ok
returns-in-Err-Fault-clause-ok c =
    let s = c.args.setup.now in
    let old = c.args.self.now in
    let n = c.args.n in
    let is = told_fault c.in-Err-Fault.fault (request_of (take n old.ends.client.unread)) (rw (c.in-Err-Fault.field-0-is, c.front.ensures) at c.in-Err-Fault.ensures) in
    let new = c.refuse.new.self in
    let before = c.args.notes.now.items in
    let after = c.refuse.new.notes.items in
    subst (λ x. IfOk c.refuse.result (λ act. RequestBy x n s c.args.number old new before after act)) (sym (is ∙ ap Err (sym c.in-Err-Fault.fault-is))) c.refuse.ensures.ok
