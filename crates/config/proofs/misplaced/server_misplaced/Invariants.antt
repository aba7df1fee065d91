use Rattle.std.proofs.Common.{◌≡◌, drop}
use Rattle.config.specs.Misplaced.{server_misplaced}
use Rattle.config.specs.Texts.{place_of}
use Rattle.config.proofs.misplaced.server_misplaced.Given as goal

abbrev pub invariant-loop-name : goal.invariant-loop-name
invariant-loop-name l = server_misplaced (place_of l.index) l.rules l.http l.names ≡ server_misplaced (place_of l.index) l.rules l.http (drop l.name-index l.names)
