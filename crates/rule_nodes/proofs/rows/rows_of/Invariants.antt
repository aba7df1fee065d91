use Rattle.std.proofs.Common.{◌≡◌, ◌++◌, length, map, option_map}
use Rattle.rule_model.specs.Control.{rows_of}
use Rattle.rule_nodes.specs.Rows.{row_view}
use Rattle.rule_nodes.proofs.rows.rows_of.Given as goal

abbrev pub invariant-loop-rest : goal.invariant-loop-rest
invariant-loop-rest l =
    option_map (λ rs. map row_view l.rows.items ++ rs) (rows_of l.rest) ≡ rows_of l.words

abbrev pub decreases-loop-rest : goal.decreases-loop-rest
decreases-loop-rest l = length l.rest
