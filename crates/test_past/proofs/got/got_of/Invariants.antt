use Rattle.std.proofs.Common.{◌≡◌, [], drop}
use Rattle.test_past.specs.Got.{got_from}
use Rattle.test_past.proofs.got.got_of.Given as goal

abbrev pub invariant-loop-entry : goal.invariant-loop-entry
invariant-loop-entry l =
    got_from l.fn.steps l.fn.side l.fn.one l.got (drop l.entry-index l.fn.entries)
    ≡ got_from l.fn.steps l.fn.side l.fn.one [] l.fn.entries
