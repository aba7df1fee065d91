use Rattle.std.proofs.Common.{◌≡◌, drop, map, max}
use Rattle.rule_model.specs.Control.{most_turns}
use Rattle.rule_nodes.specs.Rows.{row_view}
use Rattle.rule_nodes.proofs.rows.most_turns.Given as goal

abbrev pub invariant-loop-each : goal.invariant-loop-each
invariant-loop-each l =
    max (most_turns (map row_view (drop l.each-index l.rows))) l.most ≡ most_turns (map row_view l.rows)
