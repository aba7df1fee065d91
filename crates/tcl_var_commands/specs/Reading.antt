-- Variables that are read (Tcl 8.4, set(n), Tcl(n); iRules: static variables are those that
-- RULE_INIT set, and are only read elsewhere).
use Rattle.std.specs.Prelude.{ℕ, List, Bool, ◌&&◌, Option, Some, None, is_some, Result, Ok, Err}
use Rattle.std.specs.Prelude.{if◌then◌else◌}
use Rattle.px_bytes.specs.FaultText.{no_variable}
use Rattle.px_bytes.specs.declared.fault.TclFault.{TclFault}
use Rattle.tcl_vars.specs.Names.{Name}
use Rattle.tcl_vars.specs.Scopes.{Level, Scopes, innermost, is_static, value_at, value_in}

-- The static variables' values are those of `statics` where these are given; with none they are
-- those of the variables, as in RULE_INIT.
abbrev pub value_of : Option Level → Scopes → Name → Option (List ℕ)
value_of None vars name = value_at vars name.name name.index
value_of (Some statics) vars name =
    if is_static name.name then value_in statics name.name name.index
    else value_at vars name.name name.index

-- a value that is there; the text is the name as it was written
abbrev pub found : List ℕ → Option (List ℕ) → Result (List ℕ) TclFault
found text (Some value) = Ok value
found text None = Err (no_variable text)

abbrev pub read_value : Option Level → Scopes → List ℕ → Name → Result (List ℕ) TclFault
read_value statics vars text name = found text (value_of statics vars name)

-- a static name where the static variables are only read
abbrev pub is_only_read : Option Level → List ℕ → Bool
is_only_read statics name = is_some statics && is_static name

-- the level in which a name is looked up
abbrev pub level_read : Option Level → Scopes → List ℕ → Level
level_read None vars name = if is_static name then vars.statics else innermost vars.levels
level_read (Some statics) vars name = if is_static name then statics else innermost vars.levels
