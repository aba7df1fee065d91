use Rattle.std.proofs.Common.{◌≡◌, map, refl, sym, ap, subst, ◌∙◌}
use Rattle.rule_loader.specs.Outcome.{Holds}
use Rattle.rule_loader.specs.declared.rule.Rule.{Rule}
use Rattle.rule_loader.proofs.Rules.{fault_given, rule_given}
use Rattle.rule_loader.proofs.loader.load_rule.Goals as goal
use Rattle.tcl_trees.proofs.PieceLists.{script_commands}
use Rattle.tcl_words.specs.View.{command_view, script_view}

pub returns-in-Some : goal.returns-in-Some
returns-in-Some c =
    let script = c.in_ok-script.script in
    let l = c.in_ok-loader.loader in
    let seen = sym (script_commands script ∙ ap (map command_view) (sym c.as_slice.ensures.value)) in
    fault_given c.args.name.now c.args.text.now (script_view script, c.in_ok-script.fault) c.text.new.self l c.in_ok-script.ensures c.text.ensures
    (subst (λ cs. Holds c.text.new.self cs l) seen c.in_ok-loader.ensures) c.in-Some.fault c.in-Some.is

pub returns : goal.returns
returns c =
    let script = c.in_ok-script.script in
    let l = c.in_ok-loader.loader in
    let seen = sym (script_commands script ∙ ap (map command_view) (sym c.as_slice.ensures.value)) in
    let rule : Rule = record { name = c.in_ok-new-in-None.field-0; procs = l.procs; bodies = l.bodies } in
    rule_given c.args.name.now c.args.text.now (script_view script, c.in_ok-script.fault) c.text.new.self l c.in_ok-script.ensures c.text.ensures
    (subst (λ cs. Holds c.text.new.self cs l) seen c.in_ok-loader.ensures) c.in-None.is rule c.in_ok-new-in-None.ensures refl refl
