use Rattle.std.proofs.Common.{option_map, arith, length, ◌≡◌}
use Rattle.tcl_trees.specs.Tree as tree
use Rattle.tcl_trees.specs.TreeView.{node_view}
use Rattle.tcl_trees.specs.declared.node.Verb.TheVariants as verb
use Rattle.rule_nodes.proofs.ShortParts.{OneWord, PartIs, copied_value, literal_value, one_literal, one_word, verb_on}
use Rattle.rule_nodes.proofs.short_commands.extended.Goals as goal

pub returns-in-Some-short_bytes : goal.returns-in-Some-short_bytes
returns-in-Some-short_bytes c =
    let level = option_map (λ v. v.now.statics) c.args.statics in
    let below = c.in-len1.len_below in
    let least = c.in-len1.len_at_least in
    let one : length c.args.behind.now ≡ 1 = omega arith in
    let text = c.in-Some-Plain.text in
    let more = c.in-Some-short_bytes.more.now in
    let w : OneWord c.args.behind.now (tree.plain text) =
    one_literal c.args.behind.now c.word-item.result c.in-Some-Plain.field-0.now text one c.word-item.is c.in-Some-Plain.field-0-is
    c.in-Some-Plain.ensures in
    let part : PartIs level c.args.vars.now (tree.plain text) more =
    literal_value level c.args.vars.now text more (rw c.in-Some-Plain.text-is at c.in-Some-short_bytes.ensures) in
    record {
      appends = λ e. verb_on c.extend.result level verb.Append c.args.behind.now (tree.plain text) c.args.name.now more c.args.vars.now c.extend.new.vars
          c.args.work.now.cost c.pay.new.self.cost w part c.if-not-pay.ensures.paid (c.extend.ensures.appends e);
      lists = λ e. verb_on c.extend.result level verb.Lappend c.args.behind.now (tree.plain text) c.args.name.now more c.args.vars.now c.extend.new.vars
          c.args.work.now.cost c.pay.new.self.cost w part c.if-not-pay.ensures.paid (c.extend.ensures.lists e);
      same_variables = c.extend.ensures.same_variables;
    }

pub returns-then-add_part : goal.returns-then-add_part
returns-then-add_part c =
    let level = option_map (λ v. v.now.statics) c.args.statics in
    let below = c.in-len1.len_below in
    let least = c.in-len1.len_at_least in
    let one : length c.args.behind.now ≡ 1 = omega arith in
    let u = node_view c.in-Some.part.now in
    let more = c.as_bytes.result.now in
    let call = c.extend-then-add_part in
    let w : OneWord c.args.behind.now u = one_word c.args.behind.now c.word-item.result u one c.word-item.is c.in-Some.ensures in
    let part : PartIs level c.args.vars.now u more =
    copied_value level c.args.vars.now u c.new-text.result c.add_part.new.text more c.if-add_part.ensures.added c.new-text.ensures c.as_bytes.ensures.bytes
    c.as_bytes.ensures.few in
    record {
      appends = λ e. verb_on call.result level verb.Append c.args.behind.now u c.args.name.now more c.args.vars.now call.new.vars c.args.work.now.cost
          c.pay.new.self.cost w part c.if-not-pay.ensures.paid (call.ensures.appends e);
      lists = λ e. verb_on call.result level verb.Lappend c.args.behind.now u c.args.name.now more c.args.vars.now call.new.vars c.args.work.now.cost
          c.pay.new.self.cost w part c.if-not-pay.ensures.paid (call.ensures.lists e);
      same_variables = call.ensures.same_variables;
    }
