-- Whether a variable is there: Tcl 8.4, info(n).
use Rattle.std.specs.Prelude.{ℕ, List, [], ◌∷◌, Bool, Option, is_some, codes, if◌then◌else◌}
use Rattle.std.specs.Str.{bytes_eq}
use Rattle.px_bytes.specs.FaultText.{syntax_error, wrong_arity}
use Rattle.tcl_vars.specs.Names.{name_of}
use Rattle.tcl_vars.specs.Scopes.{Level, Scopes}
use Rattle.tcl_var_commands.specs.Changed.{Changed, fails, gives}
use Rattle.tcl_var_commands.specs.Reading.{value_of}

-- 1 where it holds, and else 0
abbrev pub flag : Bool → List ℕ
flag holds = if holds then codes "1" else codes "0"

-- info(n): "returns 1 if the variable named varName exists", "and has been defined by being given a
-- value, returns 0 otherwise"
abbrev pub exists_form : Option Level → List (List ℕ) → Scopes → Changed
exists_form statics (text ∷ []) vars =
    gives (flag (is_some (value_of statics vars (name_of text)))) vars
exists_form statics words vars = fails (wrong_arity (codes "info")) vars

-- `exists` is the one form here; another word is a syntax error, before the others are counted
abbrev pub info_changed : Option Level → List (List ℕ) → Scopes → Changed
info_changed statics (verb ∷ (form ∷ words)) vars =
    if bytes_eq form (codes "exists") then exists_form statics words vars
    else fails (syntax_error (codes "info")) vars
info_changed statics words vars = fails (wrong_arity (codes "info")) vars
