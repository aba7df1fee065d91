use Rattle.std.proofs.Common.{ap, sym, ◌∙◌}
use Rattle.tcl_vars.proofs.Parens.{closes, ends_with_paren-is}
use Rattle.rule_nodes.proofs.short_words.ends_with_paren.Goals as goal

pub returns-in-Some : goal.returns-in-Some
returns-in-Some c = ap closes c.in-Some.ensures.value ∙ sym (ends_with_paren-is c.args.text.now)
