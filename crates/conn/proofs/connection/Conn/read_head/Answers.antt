use Rattle.std.proofs.Common.{◌≡◌, ◌≤◌, true, is_some, refl, sym, ap, subst, ◌∙◌, length, take}
use Rattle.http_heads.specs.Fronts.{head_part}
use Rattle.http_heads.specs.declared.front.HeadPart.TheVariants.{HeadOf, StreamEnds, Faulty, NoHead}
use Rattle.http_messages.specs.Messages.{request_of}
use Rattle.conn_trace.proofs.Parts.{HeadIn, head_inside}
use Rattle.conn.specs.Acts.{ReadsHead, Refuses, RequestBy}
use Rattle.conn.specs.declared.turn.Act.TheVariants.{Goes}
use Rattle.conn.proofs.Dropped.{if_ok}
use Rattle.conn.proofs.Requesting.{heads_by, looked_at}
use Rattle.conn.proofs.connection.Conn.read_head.Goals as goal

pub read_request-requires-clause-there : goal.read_request-requires-clause-there
read_request-requires-clause-there c =
    let old = c.args.self.now.ends.client in
    let n = c.in-HeadOf.n in
    let is : head_part old.unread old.ended ≡ HeadOf n = sym c.head.ensures.value ∙ c.in-HeadOf.is in
    let inside : n ≤ length old.unread = subst (HeadIn old.unread) is (head_inside old.unread old.ended) in
    subst (λ u. n ≤ length u) (sym c.head.ensures.same) inside

pub returns-in-HeadOf-clause-ok : goal.returns-in-HeadOf-clause-ok
returns-in-HeadOf-clause-ok c =
    let s = c.args.setup.now in
    let old = c.args.self.now in
    let unread = c.head.new.self in
    let n = c.in-HeadOf.n in
    let before = c.args.notes.now.items in
    let after = c.read_request.new.notes.items in
    let new = c.read_request.new.self in
    if_ok c.read_request.result (λ act. RequestBy (request_of (take n unread)) n s c.args.number (looked_at unread old) new before after act)
    (λ act. (is_some old.host.http ≡ true) × ReadsHead s c.args.number old new before after act)
    (λ act k. (ap is_some c.in-Some.is, heads_by s c.args.number old new before after act (HeadOf n) unread c.head.ensures.same (sym c.in-HeadOf.is ∙ c.head.ensures.value) k)) c.read_request.ensures.ok

pub returns-in-StreamEnds-clause-ok : goal.returns-in-StreamEnds-clause-ok
returns-in-StreamEnds-clause-ok c =
    let old = c.args.self.now in
    (ap is_some c.in-Some.is, heads_by c.args.setup.now c.args.number old c.finish.new.self c.args.notes.now.items c.finish.new.notes.items Goes StreamEnds c.head.new.self c.head.ensures.same (sym c.in-StreamEnds.is ∙ c.head.ensures.value) (refl, (c.finish.ensures.closes, c.finish.ensures.noted)))

pub returns-in-Faulty-clause-ok : goal.returns-in-Faulty-clause-ok
returns-in-Faulty-clause-ok c =
    let s = c.args.setup.now in
    let old = c.args.self.now in
    let unread = c.head.new.self in
    let f = c.in-Faulty.fault in
    let before = c.args.notes.now.items in
    let after = c.refuse.new.notes.items in
    let new = c.refuse.new.self in
    if_ok c.refuse.result (λ act. Refuses f s c.args.number (looked_at unread old) new before after act)
    (λ act. (is_some old.host.http ≡ true) × ReadsHead s c.args.number old new before after act)
    (λ act k. (ap is_some c.in-Some.is, heads_by s c.args.number old new before after act (Faulty f) unread c.head.ensures.same (sym c.in-Faulty.is ∙ c.head.ensures.value) k)) c.refuse.ensures.ok

pub returns-in-NoHead-clause-ok : goal.returns-in-NoHead-clause-ok
returns-in-NoHead-clause-ok c =
    let old = c.args.self.now in
    (ap is_some c.in-Some.is, heads_by c.args.setup.now c.args.number old c.rest_or_cut.new.self c.args.notes.now.items c.rest_or_cut.new.notes.items c.rest_or_cut.result NoHead c.head.new.self c.head.ensures.same (sym c.in-NoHead.is ∙ c.head.ensures.value) c.rest_or_cut.ensures.rests)
