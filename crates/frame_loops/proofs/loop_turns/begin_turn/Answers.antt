use Rattle.std.proofs.Common.{rules}
use Rattle.frame_loops.proofs.ShortParts.{from_none, nothing_done, other_is, test_over, test_turn, zero_is}
use Rattle.frame_loops.proofs.loop_turns.begin_turn.Goals as goal

pub returns-then-value-eq0-clause-does : goal.returns-then-value-eq0-clause-does
returns-then-value-eq0-clause-does g c = rw c.add.ensures
    (test_over c.requires.scripts (from_none c.in-Some.ensures.reads) (zero_is c.in-Some.value (search rules) c.if-value-eq0.true))

pub returns-then-left-eq0-clause-does : goal.returns-then-left-eq0-clause-does
returns-then-left-eq0-clause-does g c = nothing_done

pub returns-clause-does : goal.returns-clause-does
returns-clause-does g c =
    rw (c.tick.ensures, c.add-2.ensures)
    (test_turn c.args.left.now c.args.budget.now c.requires.scripts (from_none c.in-Some.ensures.reads)
    (other_is c.in-Some.value c.if-value-eq0.false) c.if-left-eq0.false c.if-budget-eq0.false)
