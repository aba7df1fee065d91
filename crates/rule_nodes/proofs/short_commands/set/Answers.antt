use Rattle.std.proofs.Common.{◌≡◌, ◌∙◌, ap, sym, refl, option_map, arith, length, Some}
use Rattle.tcl_trees.specs.Tree as tree
use Rattle.tcl_trees.specs.Tree.{trees_of}
use Rattle.tcl_trees.specs.TreeView.{node_view, nodes_view}
use Rattle.tcl_trees.specs.declared.node.Node.{fold-roll-Node}
use Rattle.tcl_trees.specs.declared.node.Node.TheVariants.{rolls-Script}
use Rattle.rule_nodes.specs.AtOnce.{only_part}
use Rattle.rule_nodes.proofs.ShortParts.{OneWord, PartIs, copied_value, literal_value, one_literal, one_word, set_bracket, set_ends, verb_at}
use Rattle.tcl_trees.specs.declared.node.Verb.TheVariants as verb
use Rattle.rule_nodes.proofs.short_commands.set.Goals as goal

pub returns-in-Some-short_bytes-clause-done : goal.returns-in-Some-short_bytes-clause-done
returns-in-Some-short_bytes-clause-done c =
    let level = option_map (λ v. v.now.statics) c.args.statics in
    let below = c.in-len1.len_below in
    let least = c.in-len1.len_at_least in
    let one : length c.args.behind.now ≡ 1 = omega arith in
    let text = c.in-Some-Plain.text in
    let more = c.in-Some-short_bytes.bytes.now in
    let w : OneWord c.args.behind.now (tree.plain text) =
    one_literal c.args.behind.now c.word-item.result c.in-Some-Plain.field-0.now text one c.word-item.is c.in-Some-Plain.field-0-is
    c.in-Some-Plain.ensures in
    let part : PartIs level c.args.vars.now (tree.plain text) more =
    literal_value level c.args.vars.now text more (rw c.in-Some-Plain.text-is at c.in-Some-short_bytes.ensures) in
    verb_at c.refill.result level verb.Set c.args.behind.now (tree.plain text) c.args.name.now more c.args.vars.now c.refill.new.self c.args.budget.now
    c.args.work.now.cost c.pay.new.self.cost w part c.if-not-pay.ensures.paid
    (set_ends c.refill.result c.args.name.now more c.args.vars.now c.refill.new.self c.refill.ensures.changed c.refill.ensures.own c.refill.ensures.room)

pub returns-in-Some-Script-clause-done : goal.returns-in-Some-Script-clause-done
returns-in-Some-Script-clause-done c =
    let level = option_map (λ v. v.now.statics) c.args.statics in
    let below = c.in-len1.len_below in
    let least = c.in-len1.len_at_least in
    let one : length c.args.behind.now ≡ 1 = omega arith in
    let u = tree.script (trees_of (nodes_view c.deref.result.now)) in
    let is : node_view c.in-Some-Script.field-0.now ≡ u =
    rw (c.in-Some-Script.field-0-is, c.deref.ensures.value, c.in-Some-Script.commands-is, ← rolls-Script, fold-roll-Node) refl in
    let only : Some u ≡ only_part (node_view c.word-item.result) = ap Some (sym is) ∙ c.in-Some-Script.ensures in
    let w : OneWord c.args.behind.now u = one_word c.args.behind.now c.word-item.result u one c.word-item.is only in
    set_bracket c.set_to.result level c.args.behind.now u c.args.name.now c.args.vars.now c.set_to.new.vars c.args.budget.now c.args.work.now.cost
    c.pay.new.self.cost c.set_to.new.budget c.set_to.new.work.cost w c.if-not-pay.ensures.paid c.set_to.ensures.done

pub returns-then-add_part : goal.returns-then-add_part
returns-then-add_part c =
    let level = option_map (λ v. v.now.statics) c.args.statics in
    let below = c.in-len1.len_below in
    let least = c.in-len1.len_at_least in
    let one : length c.args.behind.now ≡ 1 = omega arith in
    let u = node_view c.in-Some.part.now in
    let more = c.as_bytes.result.now in
    let call = c.refill-then-add_part in
    let w : OneWord c.args.behind.now u = one_word c.args.behind.now c.word-item.result u one c.word-item.is c.in-Some.ensures in
    let part : PartIs level c.args.vars.now u more =
    copied_value level c.args.vars.now u c.new-text.result c.add_part.new.text more c.if-add_part.ensures.added c.new-text.ensures c.as_bytes.ensures.bytes
    c.as_bytes.ensures.few in
    record {
      done = verb_at call.result level verb.Set c.args.behind.now u c.args.name.now more c.args.vars.now call.new.self c.args.budget.now c.args.work.now.cost
          c.pay.new.self.cost w part c.if-not-pay.ensures.paid
          (set_ends call.result c.args.name.now more c.args.vars.now call.new.self call.ensures.changed call.ensures.own call.ensures.room);
      same_variables = call.ensures.unchanged;
    }
