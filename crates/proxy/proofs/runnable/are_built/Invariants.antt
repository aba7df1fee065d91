use Rattle.std.proofs.Common.{◌≡◌, drop}
use Rattle.tcl_trees.specs.Procedures.{procs_view}
use Rattle.proxy.specs.Runnable.{are_built}
use Rattle.proxy.proofs.runnable.are_built.Given as goal

abbrev pub invariant-loop-number : goal.invariant-loop-number
invariant-loop-number l = are_built l.http (drop l.number (procs_view l.procs)) ≡ are_built l.http (procs_view l.procs)
