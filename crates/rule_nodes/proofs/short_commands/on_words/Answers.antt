use Rattle.std.proofs.Common.{◌-◌, refl, option_map, arith, length, drop, take}
use Rattle.tcl_trees.specs.declared.node.Verb.TheVariants as verb
use Rattle.rule_nodes.specs.Short.{purse}
use Rattle.rule_nodes.proofs.ShortParts.{Front, front_each, front_of, front_on}
use Rattle.rule_nodes.proofs.short_commands.on_words.Goals as goal

pub returns-in-Incr-clause-done : goal.returns-in-Incr-clause-done
returns-in-Incr-clause-done c =
    let level = option_map (λ v. v.now.statics) c.args.statics in
    let words = c.args.words.now in
    let behind = take (length words - 2) (drop 2 words) in
    let name = c.in-Some.name.now in
    let front : Front words behind name = front_of words c.head-item.result c.name-item.result c.literal_word.result c.is_none.result name
    (omega (arith, c.in-len2-up.len_at_least)) c.head-item.is c.name-item.is c.literal_word.ensures c.is_none.ensures c.if-is_none.false
    c.in-Some.ensures.literal c.in-Some.ensures.no_index in
    front_each c.incremented.result level verb.Incr c.args.verb words behind name c.args.vars.now c.args.budget.now c.args.work.now.cost
    c.pay.new.self.cost c.incremented.new.vars c.incremented.new.work.cost front c.if-not-pay.ensures.paid c.in-Incr.is c.incremented.ensures.done

pub returns-in-Set-clause-done : goal.returns-in-Set-clause-done
returns-in-Set-clause-done c =
    let level = option_map (λ v. v.now.statics) c.args.statics in
    let words = c.args.words.now in
    let behind = take (length words - 2) (drop 2 words) in
    let name = c.in-Some.name.now in
    let front : Front words behind name = front_of words c.head-item.result c.name-item.result c.literal_word.result c.is_none.result name
    (omega (arith, c.in-len2-up.len_at_least)) c.head-item.is c.name-item.is c.literal_word.ensures c.is_none.ensures c.if-is_none.false
    c.in-Some.ensures.literal c.in-Some.ensures.no_index in
    front_on c.set.result level verb.Set c.args.verb words behind name c.args.vars.now c.args.budget.now c.args.work.now.cost c.pay.new.self.cost
    (purse c.set.new.vars c.set.new.budget c.set.new.work.cost) front c.if-not-pay.ensures.paid c.in-Set.is c.set.ensures.done

pub returns-in-Append-clause-done : goal.returns-in-Append-clause-done
returns-in-Append-clause-done c =
    let level = option_map (λ v. v.now.statics) c.args.statics in
    let words = c.args.words.now in
    let behind = take (length words - 2) (drop 2 words) in
    let name = c.in-Some.name.now in
    let front : Front words behind name = front_of words c.head-item.result c.name-item.result c.literal_word.result c.is_none.result name
    (omega (arith, c.in-len2-up.len_at_least)) c.head-item.is c.name-item.is c.literal_word.ensures c.is_none.ensures c.if-is_none.false
    c.in-Some.ensures.literal c.in-Some.ensures.no_index in
    front_each c.extended.result level verb.Append c.args.verb words behind name c.args.vars.now c.args.budget.now c.args.work.now.cost
    c.pay.new.self.cost c.extended.new.vars c.extended.new.work.cost front c.if-not-pay.ensures.paid c.in-Append.is (c.extended.ensures.appends refl)

pub returns-in-Lappend-clause-done : goal.returns-in-Lappend-clause-done
returns-in-Lappend-clause-done c =
    let level = option_map (λ v. v.now.statics) c.args.statics in
    let words = c.args.words.now in
    let behind = take (length words - 2) (drop 2 words) in
    let name = c.in-Some.name.now in
    let front : Front words behind name = front_of words c.head-item.result c.name-item.result c.literal_word.result c.is_none.result name
    (omega (arith, c.in-len2-up.len_at_least)) c.head-item.is c.name-item.is c.literal_word.ensures c.is_none.ensures c.if-is_none.false
    c.in-Some.ensures.literal c.in-Some.ensures.no_index in
    front_each c.extended-in-Lappend.result level verb.Lappend c.args.verb words behind name c.args.vars.now c.args.budget.now c.args.work.now.cost
    c.pay.new.self.cost c.extended-in-Lappend.new.vars c.extended-in-Lappend.new.work.cost front c.if-not-pay.ensures.paid c.in-Lappend.is
    (c.extended-in-Lappend.ensures.lists refl)
