use Rattle.std.proofs.Common.{◌≡◌, false, rules}
use Rattle.px_outside.specs.MemSink.{next_fails}
use Rattle.px_outside.proofs.Causes.{memory_is_no_fault, not_both}
use Rattle.px_outside.proofs.mem_sink.MemSinkSink.write.Goals as goal

pub returns-in_err-push-clause-fails : goal.returns-in_err-push-clause-fails
returns-in_err-push-clause-fails c =
    let no : next_fails c.args.self.now ≡ false = search rules in
    (memory_is_no_fault _ _ _ c.from_residual.ensures.1, not_both _ _ no)

pub returns-clause-fails : goal.returns-clause-fails
returns-clause-fails c =
    let no : next_fails c.args.self.now ≡ false = search rules in
    (λ e. absurd (cc e), not_both _ _ no)
