use Rattle.std.proofs.Common.{◌≡◌, ◌↔◌, true, ℕ, List, sym, ap, subst, ◌∙◌}
use Rattle.std.specs.Bool.{then_some}
use Rattle.px_bytes.specs.Escapes.{escaped}
use Rattle.journal_value.specs.Exact.{Exact}
use Rattle.journal_value.specs.Words.{AreBytes}
use Rattle.journal_value.proofs.Exactly.{escape_compared}
use Rattle.journal_value.proofs.texts.escaped_text.Goals as goal

pub returns : goal.returns
returns c =
    let text = c.args.text.now in
    let same = c.in_ok-same.same in
    let test = subst (λ bytes. (same ≡ true) ↔ (escaped bytes ≡ text)) c.in_ok-bytes.ensures c.in_ok-same.ensures in
    subst (Exact (List ℕ) (List ℕ) escaped AreBytes text) (sym (c.then_some.ensures ∙ ap (then_some same) c.in_ok-bytes.ensures))
    (escape_compared text same test)
