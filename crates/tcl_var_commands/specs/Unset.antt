-- Variables taken away: Tcl 8.4, unset(n).
use Rattle.std.specs.Prelude.{ℕ, List, [], ◌∷◌, ◌++◌, Bool, true, false, ◌||◌, Option, codes}
use Rattle.std.specs.Prelude.{if◌then◌else◌}
use Rattle.std.specs.Str.{bytes_eq}
use Rattle.px_bytes.specs.FaultText.{static_set, wrong_arity}
use Rattle.px_bytes.specs.declared.fault.FaultKind.TheVariants.{NoVariable}
use Rattle.px_bytes.specs.declared.fault.TclFault.{TclFault}
use Rattle.tcl_vars.specs.Names.{name_of}
use Rattle.tcl_vars.specs.Scopes.{Level, Scopes, is_set, without_value}
use Rattle.tcl_var_commands.specs.Changed.{Changed, fails, gives, in_turn}
use Rattle.tcl_var_commands.specs.Reading.{is_only_read}

-- there is no variable to take away
abbrev pub cannot_unset : List ℕ → TclFault
cannot_unset name = record {
  kind = NoVariable;
  text = codes "can't unset \"" ++ name
      ++ codes "\": no such variable";
}

-- the variable that a text names is taken away; one that isn't there is a fault, unless that is let
-- pass
abbrev pub unset_one : Option Level → Bool → List ℕ → Scopes → Changed
unset_one statics lenient text vars = let name = name_of text in
    if is_only_read statics name.name then fails static_set vars
    else (if is_set vars name.name name.index || lenient
    then gives [] (without_value name.name name.index vars)
    else fails (cannot_unset text) vars)

-- unset(n): variables after the one that causes an error are not unset
abbrev pub unset_each : Option Level → Bool → List (List ℕ) → Scopes → Changed
unset_each statics lenient texts vars = in_turn (unset_one statics lenient) texts vars

-- one name or more
abbrev pub unset_names : Option Level → Bool → List (List ℕ) → Scopes → Changed
unset_names statics lenient [] vars = fails (wrong_arity (codes "unset")) vars
unset_names statics lenient (text ∷ texts) vars = unset_each statics lenient (text ∷ texts) vars

-- unset(n): "if -nocomplain is specified as the first argument, any possible errors are
-- suppressed", which here are those of variables that aren't there
abbrev pub unset_changed : Option Level → List (List ℕ) → Scopes → Changed
unset_changed statics (verb ∷ (first ∷ texts)) vars =
    if bytes_eq first (codes "-nocomplain") then unset_names statics true texts vars
    else unset_names statics false (first ∷ texts) vars
unset_changed statics words vars = fails (wrong_arity (codes "unset")) vars
