use Rattle.std.proofs.Common.{◌≡◌, true, is_some, refl, sym, ap, subst, ◌∙◌}
use Rattle.conn_trace.specs.Host.{http_known}
use Rattle.conn_trace.specs.Messages.{asked_version, is_interim}
use Rattle.conn.specs.Forwarding.{AnswerStops, InterimsPass, switches}
use Rattle.conn.specs.Messages.{ReadsResponse, StatusBy, with_ends}
use Rattle.conn.specs.Stages.{http_in}
use Rattle.conn.specs.declared.response.Answer.TheVariants.{Ends, Fault, Head, NoHead}
use Rattle.conn.specs.declared.turn.Act.TheVariants.{Goes}
use Rattle.conn.proofs.Dropped.{if_ok}
use Rattle.conn.proofs.Responding.{response_by}
use Rattle.conn.proofs.connection.Conn.read_response.Goals as goal

pub take_response-requires-clause-here : goal.take_response-requires-clause-here
take_response-requires-clause-here c =
    let old = c.args.self.now in
    let to = c.pass_interims.new.self in
    let k = subst (λ o. InterimsPass (http_known o).came old.ends to c.in_ok-answer.answer) (sym c.in-Some.is) c.in_ok-answer.ensures.ok in
    sym k.1.0 ∙ c.in-Head.is

pub take_response-requires-clause-stops : goal.take_response-requires-clause-stops
take_response-requires-clause-stops c =
    let old = c.args.self.now in
    let to = c.pass_interims.new.self in
    let k = subst (λ o. InterimsPass (http_known o).came old.ends to c.in_ok-answer.answer) (sym c.in-Some.is) c.in_ok-answer.ensures.ok in
    subst (λ a. AnswerStops a (asked_version (http_in old.host).came) to) c.in-Head.is k.1.1

pub returns-in-Head-clause-ok : goal.returns-in-Head-clause-ok
returns-in-Head-clause-ok c =
    let s = c.args.setup.now in
    let old = c.args.self.now in
    let to = c.pass_interims.new.self in
    let n = c.in-Head.n in
    let r = c.in-Head.response in
    let before = c.args.notes.now.items in
    let after = c.take_response.new.notes.items in
    let new = c.take_response.new.self in
    let k = subst (λ o. InterimsPass (http_known o).came old.ends to c.in_ok-answer.answer) (sym c.in-Some.is) c.in_ok-answer.ensures.ok in
    let d = subst (InterimsPass (http_in old.host).came old.ends to) c.in-Head.is k in
    if_ok c.take_response.result (λ act. StatusBy (switches r) (is_interim r.head) n r s c.args.number (with_ends to old) new before after act)
    (λ act. (is_some old.host.http ≡ true) × ReadsResponse s c.args.number old new before after act)
    (λ act x. (ap is_some c.in-Some.is, response_by s c.args.number old new to before after act (Head n r) d x)) c.take_response.ensures.ok

pub returns-in-Ends-clause-ok : goal.returns-in-Ends-clause-ok
returns-in-Ends-clause-ok c =
    let old = c.args.self.now in
    let to = c.pass_interims.new.self in
    let k = subst (λ o. InterimsPass (http_known o).came old.ends to c.in_ok-answer.answer) (sym c.in-Some.is) c.in_ok-answer.ensures.ok in
    let d = subst (InterimsPass (http_in old.host).came old.ends to) c.in-Ends.is k in
    (ap is_some c.in-Some.is, response_by c.args.setup.now c.args.number old c.finish.new.self to c.args.notes.now.items c.finish.new.notes.items Goes Ends d (refl, (c.finish.ensures.closes, c.finish.ensures.noted)))

pub returns-in-Fault-clause-ok : goal.returns-in-Fault-clause-ok
returns-in-Fault-clause-ok c =
    let old = c.args.self.now in
    let to = c.pass_interims.new.self in
    let k = subst (λ o. InterimsPass (http_known o).came old.ends to c.in_ok-answer.answer) (sym c.in-Some.is) c.in_ok-answer.ensures.ok in
    let d = subst (InterimsPass (http_in old.host).came old.ends to) c.in-Fault.is k in
    (ap is_some c.in-Some.is, response_by c.args.setup.now c.args.number old c.finish-in-Fault.new.self to c.args.notes.now.items c.finish-in-Fault.new.notes.items Goes (Fault c.in-Fault.fault) d (refl, (c.finish-in-Fault.ensures.closes, c.finish-in-Fault.ensures.noted)))

pub returns-in-NoHead-clause-ok : goal.returns-in-NoHead-clause-ok
returns-in-NoHead-clause-ok c =
    let old = c.args.self.now in
    let to = c.pass_interims.new.self in
    let k = subst (λ o. InterimsPass (http_known o).came old.ends to c.in_ok-answer.answer) (sym c.in-Some.is) c.in_ok-answer.ensures.ok in
    let d = subst (InterimsPass (http_in old.host).came old.ends to) c.in-NoHead.is k in
    (ap is_some c.in-Some.is, response_by c.args.setup.now c.args.number old c.wait_or_cut.new.self to c.args.notes.now.items c.wait_or_cut.new.notes.items c.wait_or_cut.result NoHead d c.wait_or_cut.ensures.waits)
