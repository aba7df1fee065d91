-- Values with more behind them: Tcl 8.4, append(n).
use Rattle.std.specs.Prelude.{ℕ, List, ◌∷◌, Option, codes, flat_map}
use Rattle.px_bytes.specs.FaultText.{wrong_arity}
use Rattle.tcl_vars.specs.Appended.{appended}
use Rattle.tcl_vars.specs.Names.{Name, name_of}
use Rattle.tcl_vars.specs.Scopes.{Level, Scopes}
use Rattle.tcl_var_commands.specs.Changed.{Changed, fails}
use Rattle.tcl_var_commands.specs.Assigning.{assigned}

-- append(n): "append all of the value arguments to the current value of variable varName"; one that
-- isn't there begins as the empty text
abbrev pub with_behind : Option Level → Name → List (List ℕ) → Scopes → Changed
with_behind statics name values vars =
    assigned statics name (appended vars name.name name.index (flat_map (λ v. v) values)) vars

abbrev pub append_changed : Option Level → List (List ℕ) → Scopes → Changed
append_changed statics (verb ∷ (text ∷ values)) vars =
    with_behind statics (name_of text) values vars
append_changed statics words vars = fails (wrong_arity (codes "append")) vars
