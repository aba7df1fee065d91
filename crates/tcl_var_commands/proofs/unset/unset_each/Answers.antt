use Rattle.std.proofs.Common.{option_map, drop, ◌+◌}
use Rattle.tcl_var_commands.specs.Unset.{unset_each, unset_one}
use Rattle.tcl_var_commands.proofs.Steps.{changes_residual, drop_read, turn_goes, turn_stops}
use Rattle.tcl_var_commands.proofs.unset.unset_each.Goals as goal

pub returns-in_err-unset_one : goal.returns-in_err-unset_one
returns-in_err-unset_one c =
    let level = option_map (λ v. v.now.statics) c.args.statics in
    let whole = unset_each level c.args.lenient c.args.names.now c.args.vars.now in
    let i = c.loop-name.name-index in
    let now = drop_read c.args.names.now i c.name-item.result c.as_bytes.result.now c.loop-name-test.true c.name-item.is c.as_bytes.ensures in
    changes_residual whole c.from_residual.result c.in_err-unset_one.field-0.0 c.unset_one.new.vars
    (turn_stops (unset_one level c.args.lenient) (drop i c.args.names.now) (drop (i + 1) c.args.names.now) c.as_bytes.result.now c.loop-name.vars c.unset_one.new.vars whole now c.loop-name.invariant c.in_err-unset_one.field-0.0 c.in_err-unset_one.ensures)
    c.from_residual.ensures

pub loop-name-preserved : goal.loop-name-preserved
loop-name-preserved c =
    let level = option_map (λ v. v.now.statics) c.args.statics in
    let whole = unset_each level c.args.lenient c.args.names.now c.args.vars.now in
    let i = c.loop-name.name-index in
    let now = drop_read c.args.names.now i c.name-item.result c.as_bytes.result.now c.loop-name-test.true c.name-item.is c.as_bytes.ensures in
    turn_goes (unset_one level c.args.lenient) (drop i c.args.names.now) (drop (i + 1) c.args.names.now) c.as_bytes.result.now c.loop-name.vars c.unset_one.new.vars whole now c.loop-name.invariant c.in_ok-unset_one.ensures
