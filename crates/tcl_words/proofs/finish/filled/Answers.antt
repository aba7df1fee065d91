use Rattle.std.proofs.Common.{sym, ◌∙◌, arith}
use Rattle.tcl_words.proofs.Finishing.{filled_some, filled_none, no_parts_at_all, is_some, is_none}
use Rattle.tcl_words.proofs.finish.filled.Goals as goal

pub returns-then-not-is_empty : goal.returns-then-not-is_empty
returns-then-not-is_empty c =
    filled_some c.args.at c.args.parts.items
    (is_some _ _ (omega (arith, c.args.parts.ok.0)) (sym c.is_empty.ensures ∙ c.if-not-is_empty.true))

pub returns : goal.returns
returns c =
    let none = no_parts_at_all c.args.parts.items
    (is_none _ _ (omega (arith, c.args.parts.ok.0))
    (sym c.is_empty.ensures ∙ c.if-not-is_empty.false)) in
    filled_none c.args.at c.new-parts.result.items c.args.parts.items c.push.new.self.items
    c.empty-text.result c.empty-text.ensures c.new-parts.ensures.items c.in_ok-push.ensures.items none
