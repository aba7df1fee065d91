use Rattle.std.proofs.Common.{◌≡◌, ◌++◌, drop, map}
use Rattle.tcl_list_commands.specs.Splitting.{alone}
use Rattle.tcl_list_commands.proofs.splitting.each_alone.Given as goal

abbrev pub invariant-loop-byte : goal.invariant-loop-byte
invariant-loop-byte l = l.pieces ++ map alone (drop l.byte-index l.text) ≡ map alone l.text
