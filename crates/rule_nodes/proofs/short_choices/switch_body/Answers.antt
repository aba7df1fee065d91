use Rattle.std.proofs.Common.{◌-◌, ◌≤◌, ◌∙◌, length, take, drop, Some, None, Bor, option_map, arith}
use Rattle.tcl_vars.specs.declared.vars.Vars.{Vars}
use Rattle.tcl_trees.specs.Tree.{trees_of}
use Rattle.tcl_trees.specs.TreeView.{nodes_view}
use Rattle.rule_nodes.specs.AtOnce.{AreLiterals}
use Rattle.rule_nodes.specs.Choice.{first_body_of}
use Rattle.rule_nodes.proofs.SwitchHits.{body_is}
use Rattle.rule_nodes.proofs.Switches.{chosen_is, switch_nodes}
use Rattle.rule_nodes.proofs.short_choices.switch_body.Goals as goal

pub returns-in-None : goal.returns-in-None
returns-in-None c =
    let level = option_map (λ (v : Bor Vars). v.now.statics) c.args.statics in
    let front = c.args.front in
    let words = c.args.words.now in
    let o : AreLiterals (nodes_view (take (front - 1) words)) 262144 c.pay.new.self.cost c.are_literals.new.work.cost =
    c.if-not-are_literals.ensures.literals in
    let p : AreLiterals (nodes_view (take (length words - front) (drop front words))) 262144 c.joined.new.work.cost
    c.are_literals-else-not-joined.new.work.cost = c.if-not-are_literals-2.ensures.literals in
    let few : length c.joined.new.text ≤ 64 = rw c.as_bytes.ensures.bytes at c.as_bytes.ensures.few in
    let hit = rw c.as_bytes.ensures.bytes at (c.in-None.ensures.first p.texts p.are) in
    let leads = switch_nodes level c.args.vars.now front words c.index-words-front.result (trees_of (nodes_view c.args.bodies.now))
    c.joined.new.text c.in-Some.by_glob c.args.work.now.cost c.pay.new.self.cost c.are_literals.new.work.cost c.joined.new.work.cost
    c.are_literals-else-not-joined.new.work.cost (omega arith) (omega arith) c.index-words-front.is c.if-not-pay.ensures.paid o
    (c.if-not-joined.ensures.word_is c.new-text.ensures) few p (c.in-Some.ensures.compares o.texts o.are) None hit in
    record { chosen = leads }

pub returns-in-Some-first_hit : goal.returns-in-Some-first_hit
returns-in-Some-first_hit c =
    let level = option_map (λ (v : Bor Vars). v.now.statics) c.args.statics in
    let front = c.args.front in
    let words = c.args.words.now in
    let o : AreLiterals (nodes_view (take (front - 1) words)) 262144 c.pay.new.self.cost c.are_literals.new.work.cost =
    c.if-not-are_literals.ensures.literals in
    let p : AreLiterals (nodes_view (take (length words - front) (drop front words))) 262144 c.joined.new.work.cost
    c.are_literals-else-not-joined.new.work.cost = c.if-not-are_literals-2.ensures.literals in
    let few : length c.joined.new.text ≤ 64 = rw c.as_bytes.ensures.bytes at c.as_bytes.ensures.few in
    let k = c.in-Some-first_hit.number in
    let hit = rw c.as_bytes.ensures.bytes at (c.in-Some-first_hit.ensures.first p.texts p.are) in
    let leads = switch_nodes level c.args.vars.now front words c.index-words-front.result (trees_of (nodes_view c.args.bodies.now))
    c.joined.new.text c.in-Some.by_glob c.args.work.now.cost c.pay.new.self.cost c.are_literals.new.work.cost c.joined.new.work.cost
    c.are_literals-else-not-joined.new.work.cost (omega arith) (omega arith) c.index-words-front.is c.if-not-pay.ensures.paid o
    (c.if-not-joined.ensures.word_is c.new-text.ensures) few p (c.in-Some.ensures.compares o.texts o.are) (Some k) hit in
    record {
      chosen = chosen_is _ _ _ _ c.body_from.result (first_body_of (drop k c.args.bodies.now)) c.body_from.ensures.known c.body_from.ensures.body
          (λ budget. leads budget ∙ body_is _ k c.args.bodies.now _);
    }
