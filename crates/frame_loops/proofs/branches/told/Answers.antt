use Rattle.frame_loops.specs.ChoiceParts.{choices_view}
use Rattle.frames.specs.Reads.{known_by}
use Rattle.frame_loops.proofs.BranchSteps.{told_false, told_true}
use Rattle.frame_loops.proofs.branches.told.Goals as goal

pub returns-then-holds-clause-next : goal.returns-then-holds-clause-next
returns-then-holds-clause-next g c =
    rw (
      c.if-holds.true,
      told_true (known_by c.args.reads.now) (choices_view c.args.choices.now) c.args.at
          c.args.choices.now.values.now c.in-Some.pair.now (rw c.in-Some.is at c.pair_at.ensures.pair),
    )
    c.value.ensures.next

pub returns-clause-next : goal.returns-clause-next
returns-clause-next g c = rw (
  c.if-holds.false,
  told_false (known_by c.args.reads.now)
      (choices_view c.args.choices.now) c.args.at c.args.choices.now.values.now c.in-Some.pair.now
      (rw c.in-Some.is at c.pair_at.ensures.pair),
) c.condition.ensures.next

pub returns-clause-cost : goal.returns-clause-cost
returns-clause-cost g c = rw (
  c.if-holds.false,
  told_false (known_by c.args.reads.now)
      (choices_view c.args.choices.now) c.args.at c.args.choices.now.values.now c.in-Some.pair.now
      (rw c.in-Some.is at c.pair_at.ensures.pair),
) c.condition.ensures.cost

pub returns-clause-ticks : goal.returns-clause-ticks
returns-clause-ticks g c = rw (
  c.if-holds.false,
  told_false (known_by c.args.reads.now)
      (choices_view c.args.choices.now) c.args.at c.args.choices.now.values.now c.in-Some.pair.now
      (rw c.in-Some.is at c.pair_at.ensures.pair),
) c.condition.ensures.ticks

pub returns-then-holds-clause-cost : goal.returns-then-holds-clause-cost
returns-then-holds-clause-cost g c =
    rw (
      c.if-holds.true,
      told_true (known_by c.args.reads.now) (choices_view c.args.choices.now) c.args.at
          c.args.choices.now.values.now c.in-Some.pair.now (rw c.in-Some.is at c.pair_at.ensures.pair),
    )
    c.value.ensures.cost
