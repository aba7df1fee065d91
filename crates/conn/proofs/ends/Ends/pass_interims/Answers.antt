use Rattle.std.proofs.Common.{true, false, refl, sym, ap, subst, ◌∙◌}
use Rattle.conn.specs.Forwarding.{AnswerGoes, NoneYet, answer_of}
use Rattle.conn.proofs.Responding.{interims_more, interims_stop}
use Rattle.conn.proofs.ends.Ends.pass_interims.Goals as goal

pub loop-head-init : goal.loop-head-init
loop-head-init c = (NoneYet, refl)

pub pass_answer-requires : goal.pass_answer-requires
pass_answer-requires c =
    c.in_ok-answer.ensures.ok ∙ ap (answer_of c.args.came.now) (sym c.in_ok-answer.ensures.same)

pub loop-head-preserved : goal.loop-head-preserved
loop-head-preserved c =
    let came = c.args.came.now in
    let e = c.loop-head.self in
    let a = c.in_ok-answer.answer in
    let to = c.pass_answer.new.self in
    let goes = subst (λ b. AnswerGoes b came a (record e { server = c.answer.new.self }) to) c.if-not-branch.false c.in_ok-pass_answer.ensures.ok in
    let here = subst (λ s. AnswerGoes true came a (record e { server = s }) to) c.in_ok-answer.ensures.same goes in
    (interims_more came c.args.self.now e to a c.loop-head.invariant.0 c.in_ok-answer.ensures.ok here, c.in_ok-pass_answer.ensures.edges ∙ c.loop-head.invariant.1)

pub returns-then-not-branch-clause-ok : goal.returns-then-not-branch-clause-ok
returns-then-not-branch-clause-ok c =
    let came = c.args.came.now in
    let e = c.loop-head.self in
    let a = c.in_ok-answer.answer in
    let to = c.pass_answer.new.self in
    let stays = subst (λ b. AnswerGoes b came a (record e { server = c.answer.new.self }) to) c.if-not-branch.true c.in_ok-pass_answer.ensures.ok in
    let here = subst (λ s. AnswerGoes false came a (record e { server = s }) to) c.in_ok-answer.ensures.same stays in
    interims_stop came c.args.self.now e to a c.loop-head.invariant.0 c.in_ok-answer.ensures.ok here
