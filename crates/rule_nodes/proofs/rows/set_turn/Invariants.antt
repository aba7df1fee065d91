use Rattle.std.proofs.Common.{◌≡◌, drop, map, option_map}
use Rattle.rule_model.specs.Control.{turn_assigned}
use Rattle.rule_nodes.specs.Rows.{row_view}
use Rattle.rule_nodes.proofs.rows.set_turn.Given as goal

abbrev pub invariant-loop-each : goal.invariant-loop-each
invariant-loop-each l =
    let level = option_map (λ v. v.now.statics) l.statics in
    turn_assigned level l.number (map row_view (drop l.each-index l.rows)) l.vars
    ≡ turn_assigned level l.number (map row_view l.rows) l.fn.vars
