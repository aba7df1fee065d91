use Rattle.std.proofs.Common.{option_map, drop, ◌+◌}
use Rattle.tcl_var_commands.specs.Assigning.{in_row, pair_assigned, row_assigned}
use Rattle.tcl_var_commands.proofs.Steps.{does_residual, drop_read, row_read, turn_goes, turn_stops}
use Rattle.tcl_var_commands.proofs.assigning.assign_row.Goals as goal

pub returns-in_err-assign_named : goal.returns-in_err-assign_named
returns-in_err-assign_named c =
    let level = option_map (λ v. v.now.statics) c.args.statics in
    let whole = row_assigned level c.args.names.now c.args.values.now c.args.vars.now in
    let i = c.loop-name.name-index in
    let left = drop_read c.args.names.now i c.name-item.result c.as_bytes.result.now c.loop-name-test.true c.name-item.is c.as_bytes.ensures in
    let now = row_read (drop i c.args.names.now) (drop (i + 1) c.args.names.now) c.as_bytes.result.now c.loop-name.rest.now c.split_first.result.0.now c.split_first.result.1.now left c.split_first.ensures.first c.split_first.ensures.behind in
    does_residual whole c.from_residual.result c.in_err-assign_named.field-0.0 c.assign_named.new.vars
    (turn_stops (pair_assigned level) (in_row (drop i c.args.names.now) c.loop-name.rest.now) (in_row (drop (i + 1) c.args.names.now) c.split_first.result.1.now) (c.as_bytes.result.now, c.split_first.result.0.now) c.loop-name.vars c.assign_named.new.vars whole now c.loop-name.invariant c.in_err-assign_named.field-0.0 c.in_err-assign_named.ensures.change)
    c.from_residual.ensures

pub loop-name-preserved : goal.loop-name-preserved
loop-name-preserved c =
    let level = option_map (λ v. v.now.statics) c.args.statics in
    let whole = row_assigned level c.args.names.now c.args.values.now c.args.vars.now in
    let i = c.loop-name.name-index in
    let left = drop_read c.args.names.now i c.name-item.result c.as_bytes.result.now c.loop-name-test.true c.name-item.is c.as_bytes.ensures in
    let now = row_read (drop i c.args.names.now) (drop (i + 1) c.args.names.now) c.as_bytes.result.now c.loop-name.rest.now c.split_first.result.0.now c.split_first.result.1.now left c.split_first.ensures.first c.split_first.ensures.behind in
    turn_goes (pair_assigned level) (in_row (drop i c.args.names.now) c.loop-name.rest.now) (in_row (drop (i + 1) c.args.names.now) c.split_first.result.1.now) (c.as_bytes.result.now, c.split_first.result.0.now) c.loop-name.vars c.assign_named.new.vars whole now c.loop-name.invariant c.in_ok-assign_named.ensures.change
