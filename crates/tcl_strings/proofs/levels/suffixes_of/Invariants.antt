use Rattle.std.specs.List.{All}
use Rattle.tcl_strings.specs.Automaton.{IsUpTo}
use Rattle.tcl_strings.specs.Suffixes.{IsSound, texts}
use Rattle.tcl_strings.specs.Levels.{IsAtDepth, IsOnItsWay}
use Rattle.tcl_strings.proofs.levels.suffixes_of.Given as goal

abbrev pub invariant-loop-depth : goal.invariant-loop-depth
invariant-loop-depth l = record {
  sound : IsSound l.suffixes;
  tallest : IsUpTo (texts l.suffixes) l.depth;
  level : All (IsAtDepth (texts l.suffixes) l.depth) l.level.items;
  keys : All (λ key. IsOnItsWay (texts l.suffixes) l.level.items key.now) l.keys;
}
