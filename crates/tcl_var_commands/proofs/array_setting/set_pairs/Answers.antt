use Rattle.std.proofs.Common.{option_map, drop, take, length, ◌-◌}
use Rattle.tcl_var_commands.specs.Array.{element_assigned, in_pairs, pairs_assigned}
use Rattle.tcl_var_commands.proofs.Steps.{changes_residual, pairs_read, turn_goes, turn_stops}
use Rattle.tcl_var_commands.proofs.array_setting.set_pairs.Goals as goal

pub returns-in_err-assign : goal.returns-in_err-assign
returns-in_err-assign c =
    let level = option_map (λ v. v.now.statics) c.args.statics in
    let whole = pairs_assigned level c.args.name.now c.args.pairs.now c.args.vars.now in
    let rest = c.loop-rest.rest.now in
    let behind = take (length rest - 2) (drop 2 rest) in
    let now = pairs_read rest c.index-item.result c.as_bytes-index.result.now c.value-item.result c.as_bytes-value.result.now c.in-len2-up.len_at_least c.index-item.is c.value-item.is c.as_bytes-index.ensures c.as_bytes-value.ensures in
    changes_residual whole c.from_residual.result c.in_err-assign.field-0.0 c.assign.new.vars
    (turn_stops (element_assigned level c.args.name.now) (in_pairs rest) (in_pairs behind) (c.as_bytes-index.result.now, c.as_bytes-value.result.now) c.loop-rest.vars c.assign.new.vars whole now c.loop-rest.invariant c.in_err-assign.field-0.0 c.in_err-assign.ensures.change)
    c.from_residual.ensures

pub loop-rest-preserved : goal.loop-rest-preserved
loop-rest-preserved c =
    let level = option_map (λ v. v.now.statics) c.args.statics in
    let whole = pairs_assigned level c.args.name.now c.args.pairs.now c.args.vars.now in
    let rest = c.loop-rest.rest.now in
    let behind = take (length rest - 2) (drop 2 rest) in
    let now = pairs_read rest c.index-item.result c.as_bytes-index.result.now c.value-item.result c.as_bytes-value.result.now c.in-len2-up.len_at_least c.index-item.is c.value-item.is c.as_bytes-index.ensures c.as_bytes-value.ensures in
    turn_goes (element_assigned level c.args.name.now) (in_pairs rest) (in_pairs behind) (c.as_bytes-index.result.now, c.as_bytes-value.result.now) c.loop-rest.vars c.assign.new.vars whole now c.loop-rest.invariant c.in_ok-assign.ensures.change
