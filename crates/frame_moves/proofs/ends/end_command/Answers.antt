use Rattle.std.proofs.Common.{refl}
use Rattle.rule_model.specs.Commands.{expression_of}
use Rattle.frame_words.specs.CallParts.{caller_view}
use Rattle.frame_words.specs.Calls.{call_move}
use Rattle.frame_moves.specs.Reading.{expression_cost, expression_ticks}
use Rattle.frames.specs.Reads.{known}
use Rattle.frame_moves.proofs.InEnds.{call_free, makes_move, makes_still, makes_written, other_verb}
use Rattle.frame_moves.proofs.InReading.{reading}
use Rattle.frame_moves.proofs.ends.end_command.Goals as goal

pub returns-in_ok-next-in-Call-clause-did : goal.returns-in_ok-next-in-Call-clause-did
returns-in_ok-next-in-Call-clause-did g c =
    let n = c.in_ok-next-in-Call.ensures in
    let caller = caller_view c.args.caller.now in
    rw c.in-Call.is (makes_written (call_move caller c.args.words.now c.args.vars.now) _ _ _ _ _ _
    (call_free caller c.args.words.now c.args.vars.now) n.next n.vars refl)

pub returns-in_ok-next-in-ExprOfWords-clause-did : goal.returns-in_ok-next-in-ExprOfWords-clause-did
returns-in_ok-next-in-ExprOfWords-clause-did g c =
    let n = c.in_ok-next-in-ExprOfWords in
    let k = known (caller_view c.args.caller.now).statics c.args.vars.now in
    let r = c.args.caller.now.room in
    let read = expression_of c.args.words.now in
    let m = reading n.next (expression_cost k r read) (expression_ticks k r read) in
    rw c.in-ExprOfWords.is
    (makes_move m _ _ _ _ _ _ n.ensures.cost n.ensures.ticks (n.next, n.ensures.next, refl))

pub returns-in_default-clause-did : goal.returns-in_default-clause-did
returns-in_default-clause-did g c =
    let d = c.in_default in
    rw (c.stop.ensures, c.empty.ensures)
    (makes_still _ _ _ _ _ (other_verb (caller_view c.args.caller.now) c.args.verb c.args.words.now _ _
    d.not-Call d.not-ExprOfWords))
