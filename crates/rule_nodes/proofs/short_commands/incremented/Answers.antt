use Rattle.std.proofs.Common.{option_map, arith, length, rules, w64, ◌≡◌, FitsSigned}
use Rattle.std.proofs.lemmas.Int.{to_z-of_z}
use Rattle.tcl_trees.specs.TreeView.{node_view}
use Rattle.rule_nodes.proofs.ShortParts.{incr_ends, incr_one, no_item, one_word, read_value, verb_on}
use Rattle.rule_nodes.specs.AtOnce.{ReadsPart}
use Rattle.tcl_trees.specs.declared.node.Verb.TheVariants as verb
use Rattle.rule_nodes.proofs.short_commands.incremented.Goals as goal

pub returns-in-empty-clause-done : goal.returns-in-empty-clause-done
returns-in-empty-clause-done c =
    let level = option_map (λ v. v.now.statics) c.args.statics in
    let below = c.in-empty.len_below in
    let none : length c.args.behind.now ≡ 0 = omega arith in
    incr_one c.add_whole.result level c.args.behind.now c.args.name.now c.args.vars.now c.add_whole.new.self c.args.work.now.cost
    (no_item c.args.behind.now none) c.add_whole.ensures.changed c.add_whole.ensures.own c.add_whole.ensures.room

pub returns-in-Some-operand-clause-done : goal.returns-in-Some-operand-clause-done
returns-in-Some-operand-clause-done c =
    let level = option_map (λ v. v.now.statics) c.args.statics in
    let below = c.in-len1.len_below in
    let least = c.in-len1.len_at_least in
    let one : length c.args.behind.now ≡ 1 = omega arith in
    let u = node_view c.in-Some.more.now in
    let n = c.in-Some-operand.more in
    let r : ReadsPart level c.args.vars.now u n = c.in-Some-operand.ensures in
    let call = c.add_whole-in-Some-operand in
    let fits : FitsSigned w64 n = search rules in
    let changed = rw (to_z-of_z w64 n fits) at call.ensures.changed in
    verb_on call.result level verb.Incr c.args.behind.now u c.args.name.now r.value c.args.vars.now call.new.self c.args.work.now.cost c.pay.new.self.cost
    (one_word c.args.behind.now c.word-item.result u one c.word-item.is c.in-Some.ensures)
    (read_value level c.args.vars.now u n r) c.if-not-pay.ensures.paid
    (incr_ends call.result c.args.name.now r.value n c.args.vars.now call.new.self r.reads changed call.ensures.own call.ensures.room)
