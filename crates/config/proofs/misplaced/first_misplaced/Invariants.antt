use Rattle.std.proofs.Common.{◌≡◌, drop}
use Rattle.config.specs.Misplaced.{first_misplaced}
use Rattle.config.specs.Texts.{place_of}
use Rattle.config.proofs.misplaced.first_misplaced.Given as goal

abbrev pub invariant-loop-server : goal.invariant-loop-server
invariant-loop-server l = first_misplaced (place_of l.index) l.rules l.servers ≡ first_misplaced (place_of l.index) l.rules (drop l.server-index l.servers)
