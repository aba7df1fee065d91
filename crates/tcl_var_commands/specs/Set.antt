-- Variables read and set by name: Tcl 8.4, set(n).
use Rattle.std.specs.Prelude.{ℕ, List, [], ◌∷◌, Option, codes}
use Rattle.px_bytes.specs.FaultText.{wrong_arity}
use Rattle.tcl_vars.specs.Names.{name_of}
use Rattle.tcl_vars.specs.Scopes.{Level, Scopes}
use Rattle.tcl_var_commands.specs.Changed.{Changed, changed_by, fails}
use Rattle.tcl_var_commands.specs.Reading.{read_value}
use Rattle.tcl_var_commands.specs.Assigning.{assigned}

-- set(n): it "returns the value of variable varName. If value is specified, then set the value of
-- varName to value"
abbrev pub set_changed : Option Level → List (List ℕ) → Scopes → Changed
set_changed statics (verb ∷ (text ∷ [])) vars =
    changed_by (read_value statics vars text (name_of text)) vars
set_changed statics (verb ∷ (text ∷ (value ∷ []))) vars =
    assigned statics (name_of text) value vars
set_changed statics words vars = fails (wrong_arity (codes "set")) vars
