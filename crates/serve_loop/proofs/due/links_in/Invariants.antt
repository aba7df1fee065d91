use Rattle.std.proofs.Common.{◌≡◌, ◌++◌, drop}
use Rattle.serve_loop.specs.Turn.{listed_links}
use Rattle.serve_loop.proofs.due.links_in.Given as goal

abbrev pub invariant-loop-at : goal.invariant-loop-at
invariant-loop-at l = l.links ++ listed_links (drop l.at-index l.listed) ≡ listed_links l.listed
