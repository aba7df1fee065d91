-- What a move is given.
use Rattle.std.specs.Prelude.{ℕ, List, Option, option_map}
use Rattle.tcl_trees.specs.Procedures.{Procedure, procs_view}
use Rattle.tcl_vars.specs.Scopes.{Level}
use Rattle.rule_model.specs.Host.{HostStep}
use Rattle.rule_model.specs.Setting.{Setting}
use Rattle.frames.specs.declared.context.Context.{Context}

-- the setting with these static variables, where they are only read, this table and these
-- procedures
abbrev pub setting : {H : Type 0} → Option Level → (H → List (List ℕ) → HostStep H)
    → List Procedure → Setting H
setting statics table procedures =
    record { statics = statics; table = table; procedures = procedures }

abbrev pub setting_of : {E H : Type 0} → (E → H → List (List ℕ) → HostStep H) → Context E
    → Setting H
setting_of table c = setting (option_map (λ v. v.now.statics) c.statics) (table c.env.now)
    (procs_view c.procs.now)
