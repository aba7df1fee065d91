use Rattle.std.proofs.Common.{sym, ap, ◌∙◌}
use Rattle.rule_loader.specs.CommandNames.{kind_faults, name_fault}
use Rattle.rule_loader.specs.Faults.{after_faults}
use Rattle.rule_loader.proofs.told.Told.name.Goals as goal

pub returns-in-Some : goal.returns-in-Some
returns-in-Some c =
    c.note.ensures
    ∙ ap (λ o. after_faults (kind_faults c.args.named.now.place o) c.args.self.now)
    (sym c.in-Some.is ∙ c.name_fault.ensures ∙ ap (λ n. name_fault n c.args.event) c.as_bytes.ensures)

pub returns-in_default : goal.returns-in_default
returns-in_default c =
    ap (λ o. after_faults (kind_faults c.args.named.now.place o) c.args.self.now)
    (sym c.in_default.is ∙ c.name_fault.ensures ∙ ap (λ n. name_fault n c.args.event) c.as_bytes.ensures)
