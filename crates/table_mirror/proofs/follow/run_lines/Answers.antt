use Rattle.std.proofs.Common.{arith, map}
use Rattle.table_mirror.specs.Entries.{entry_view}
use Rattle.table_mirror.proofs.Going.{all_but, all_whole, empty_by, ends_at, goes_at, some_by}
use Rattle.table_mirror.proofs.follow.run_lines.Goals as goal

pub returns-in-Some : goal.returns-in-Some
returns-in-Some c =
    ends_at (map entry_view c.args.entries.now) c.args.lines.now c.args.rest.now c.loop-index.index c.args.network.now c.loop-index.network c.run_line.new.network _
    _ c.in-Some.outcome c.in-Some.is c.loop-index-test.true c.loop-index.invariant c.in_ok-outcome.ensures

pub loop-index-preserved : goal.loop-index-preserved
loop-index-preserved c =
    goes_at (map entry_view c.args.entries.now) c.args.lines.now c.args.rest.now c.loop-index.index c.args.network.now c.loop-index.network c.run_line.new.network _
    _ c.in_default.is c.loop-index-test.true c.loop-index.invariant c.in_ok-outcome.ensures

pub returns-then-is_empty : goal.returns-then-is_empty
returns-then-is_empty c =
    all_whole _ _ _ c.loop-index.index _ _ c.mirrored.result (omega (arith, c.loop-index-test.false)) c.loop-index.invariant (empty_by _ c.args.rest.now c.is_empty.ensures c.if-is_empty.true) c.mirrored.ensures

pub returns-else-is_empty : goal.returns-else-is_empty
returns-else-is_empty c =
    all_but _ _ _ c.loop-index.index _ _ _ (omega (arith, c.loop-index-test.false, c.loop-index.auto.index-end)) (omega (arith, c.loop-index-test.false)) c.loop-index.invariant (some_by _ c.args.rest.now c.is_empty.ensures c.if-is_empty.false)
