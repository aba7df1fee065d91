use Rattle.std.proofs.Common.{◌++◌, ◌∷◌, ap, ◌∙◌}
use Rattle.tcl_lists.specs.Write.{joined}
use Rattle.tcl_var_commands.proofs.Listed.{nothing_behind, no_elements, blank_behind}
use Rattle.tcl_var_commands.proofs.lappend.elements_behind.Goals.{then-not-has_text-via-then-not-has_text, then-not-has_text-via-else-not-has_text+then-is_empty}
use Rattle.tcl_var_commands.proofs.lappend.elements_behind.Goals as goal

pub returns-then-not-has_text : goal.returns-then-not-has_text
returns-then-not-has_text c = λ old is.
    ap (λ t. old ++ t) (c.in_ok-list.ensures.written ∙ ap joined c.in_ok-copied.ensures) ∙
    elim c.then-not-has_text.branch [
      | then-not-has_text-via-then-not-has_text w ↦ nothing_behind c.args.has_text old c.args.elements.now is w.if-not-has_text.true
      | then-not-has_text-via-else-not-has_text+then-is_empty w ↦ no_elements w.is_empty.result old c.args.elements.now w.is_empty.ensures w.if-is_empty.true
    ]

pub returns : goal.returns
returns c = λ old is.
    let list = c.as_bytes.ensures ∙ c.in_ok-list.ensures.written ∙ ap joined c.in_ok-copied.ensures in
    ap (λ t. old ++ t) (c.in_ok-push.ensures.ok ∙ ap (λ t. t ++ c.as_bytes.result.now) c.in_ok-more.ensures ∙ ap (λ t. 32 ∷ t) list) ∙ blank_behind c.args.has_text c.is_empty.result old c.args.elements.now is c.if-not-has_text.false c.is_empty.ensures c.if-is_empty.false
