use Rattle.std.proofs.Common.{◌≡◌, Some, rules}
use Rattle.px_outside.specs.MemFiles.{next_read}
use Rattle.px_outside.proofs.Causes.{memory_is_no_fault, not_none}
use Rattle.px_outside.proofs.mem_files.MemFilesFiles.read.Goals as goal

pub returns-in_err-new-in-Some-clause-fails : goal.returns-in_err-new-in-Some-clause-fails
returns-in_err-new-in-Some-clause-fails c =
    let gives : next_read c.args.self.now c.args.name.now ≡ Some c.in-Some.contents.now = search rules in
    (memory_is_no_fault _ _ _ c.from_residual.ensures.1, not_none _ _ _ gives)

pub returns-in_ok-new-in-Some-clause-fails : goal.returns-in_ok-new-in-Some-clause-fails
returns-in_ok-new-in-Some-clause-fails c =
    let gives : next_read c.args.self.now c.args.name.now ≡ Some c.in-Some.contents.now = search rules in
    (λ e. absurd (cc e), not_none _ _ _ gives)
