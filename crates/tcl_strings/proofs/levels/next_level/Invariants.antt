use Rattle.std.proofs.Common.{◌+◌, take}
use Rattle.std.specs.List.{All}
use Rattle.tcl_strings.specs.Automaton.{Grows, IsUpTo}
use Rattle.tcl_strings.specs.Suffixes.{IsSound, texts}
use Rattle.tcl_strings.specs.Levels.{IsAtDepth, IsOnItsWay}
use Rattle.tcl_strings.proofs.levels.next_level.Given as goal

abbrev pub invariant-loop-climb : goal.invariant-loop-climb
invariant-loop-climb l = record {
  sound : IsSound l.suffixes;
  grows : Grows (texts l.fn.suffixes) (texts l.suffixes);
  tallest : IsUpTo (texts l.suffixes) (l.depth + 1);
  depth : All (IsAtDepth (texts l.suffixes) (l.depth + 1)) l.next.items;
  whole : All (λ climb. IsOnItsWay (texts l.suffixes) l.next.items climb.key.now) (take l.climb-index l.level);
}
