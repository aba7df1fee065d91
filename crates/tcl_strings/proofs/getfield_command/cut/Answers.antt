use Rattle.std.proofs.Common.{List, ℕ, ◌∷◌, ap₂, sym, ◌∙◌}
use Rattle.tcl_strings.specs.Fields.{fields}
use Rattle.tcl_strings.proofs.Parts.{first_cut, no_cut}
use Rattle.tcl_strings.proofs.getfield_command.cut.Goals as goal

pub returns-in_default : goal.returns-in_default
returns-in_default c = no_cut c.args.separator.now c.args.text.now (sym c.in_default.is ∙ c.first_place.ensures.value)

pub returns : goal.returns
returns c =
    first_cut c.args.separator.now c.args.text.now c.in-Some.place (sym c.in-Some.is ∙ c.first_place.ensures.value)
    ∙ ap₂ (λ (a b : List ℕ). a ∷ fields c.args.separator.now b) (sym c.split_at.ensures.front) (sym c.split_at-2.ensures.back)
