-- What stays over the turns of a `foreach`, as the code has it.
use Rattle.std.specs.Prelude.{Vec, option_map}
use Rattle.std.specs.declared.alloc.Global.{Global}
use Rattle.rule_nodes.specs.declared.rows.Row.{Row}
use Rattle.tcl_trees.specs.TreeView.{node_view}
use Rattle.frame_moves.specs.Turns.{Turns}
use Rattle.frame_moves.specs.declared.turns.Turns as code

abbrev pub turns_view : code.Turns → Vec Row Global → Turns
turns_view t rows = record {
  statics = option_map (λ v. v.now.statics) t.statics;
  place = t.place;
  body = node_view t.body.now;
  rows = rows;
}
