use Rattle.std.proofs.Common.{◌≡◌, false, true, inl, inr, refl, sym, ◌∙◌}
use Rattle.journal_text.specs.declared.line_kind.LineKind.TheVariants.{Memory}
use Rattle.proxy.proofs.report_command.tell_line_fault.Goals as goal

pub returns-then-is_memory : goal.returns-then-is_memory
returns-then-is_memory g c = inr (refl, refl)

pub returns-in-Ok : goal.returns-in-Ok
returns-in-Ok g c =
    let other : ¬ (c.args.fault.kind ≡ Memory) = λ is. let both : false ≡ true = sym c.if-is_memory.false ∙ c.is_memory.ensures.1 is in cc in
    inl (other, rw (c.as_bytes.ensures, c.in-Ok.ensures) at c.tell.ensures)

pub returns-in-Err : goal.returns-in-Err
returns-in-Err g c = inr (refl, refl)
