-- What a command of the language itself does that evaluates nothing more than its words.
use Rattle.std.specs.Prelude.{ℕ, List, [], ◌∷◌, Bool, true, false, Option, Result, Ok, Err}
use Rattle.px_bytes.specs.declared.fault.Raise.{Raise}
use Rattle.px_bytes.specs.declared.fault.Raise.TheVariants.{Fault, Memory}
use Rattle.px_bytes.specs.declared.memory.Memory as memory
use Rattle.tcl_commands.specs.Kind.{is_pure}
use Rattle.tcl_commands.specs.PureCommand.{pure_value}
use Rattle.tcl_trees.specs.declared.node.Verb.{Verb}
use Rattle.tcl_trees.specs.declared.node.Verb.TheVariants as verb
use Rattle.tcl_vars.specs.Scopes.{Level, Scopes}
use Rattle.tcl_var_commands.specs.Append.{append_changed}
use Rattle.tcl_var_commands.specs.Array.{array_changed}
use Rattle.tcl_var_commands.specs.Changed.{Changed, gives}
use Rattle.tcl_var_commands.specs.Incr.{incr_changed}
use Rattle.tcl_var_commands.specs.Info.{info_changed}
use Rattle.tcl_var_commands.specs.Lappend.{lappend_changed}
use Rattle.tcl_var_commands.specs.Set.{set_changed}
use Rattle.tcl_var_commands.specs.Unset.{unset_changed}
use Rattle.rule_model.specs.Commands.{error_code, return_code}
use Rattle.rule_model.specs.Outcome.{code_of}
use Rattle.rule_model.specs.declared.code.Code.{Code}
use Rattle.rule_model.specs.declared.code.Code.TheVariants.{Value, Raised, Break, Continue}

-- a command, by its name, that is pure, or no command at all
abbrev pub is_pure_call : List (List ℕ) → Bool
is_pure_call [] = true
is_pure_call (name ∷ words) = is_pure name

abbrev pub is_own : Verb → List (List ℕ) → Bool
is_own verb.Named words = is_pure_call words
is_own verb.Computed words = is_pure_call words
is_own verb.Call words = false
is_own verb.ExprOfWords words = false
is_own other words = true

-- the code that such a command ends with, and the variables after it
pub record Done : Type 0 where
  pub code : Code
  pub vars : Scopes

-- what a command on variables does
abbrev pub verb_changed : Option Level → Verb → List (List ℕ) → Scopes → Changed
verb_changed statics verb.Set words vars = set_changed statics words vars
verb_changed statics verb.Unset words vars = unset_changed statics words vars
verb_changed statics verb.Incr words vars = incr_changed statics words vars
verb_changed statics verb.Append words vars = append_changed statics words vars
verb_changed statics verb.Lappend words vars = lappend_changed statics words vars
verb_changed statics verb.Array words vars = array_changed statics words vars
verb_changed statics verb.Info words vars = info_changed statics words vars
verb_changed statics other words vars = gives [] vars

-- a pure command; with no words nothing is done
abbrev pub named_code : List (List ℕ) → Code
named_code [] = Value []
named_code (name ∷ words) = code_of (pure_value (name ∷ words))

abbrev pub still : Code → Scopes → Done
still code vars = record { code = code; vars = vars }

abbrev pub done_by : Changed → Done
done_by c = record { code = code_of c.value; vars = c.vars }

abbrev pub own_done : Option Level → Verb → List (List ℕ) → Scopes → Done
own_done statics verb.Named words vars = still (named_code words) vars
own_done statics verb.Computed words vars = still (named_code words) vars
own_done statics verb.Return words vars = still (return_code words) vars
own_done statics verb.Break words vars = still Break vars
own_done statics verb.Continue words vars = still Continue vars
own_done statics verb.Error words vars = still (error_code words) vars
own_done statics other words vars = done_by (verb_changed statics other words vars)

-- a pure command ticks once
abbrev pub named_ticks : List (List ℕ) → ℕ
named_ticks [] = 0
named_ticks (name ∷ words) = 1

abbrev pub own_ticks : Verb → List (List ℕ) → ℕ
own_ticks verb.Named words = named_ticks words
own_ticks verb.Computed words = named_ticks words
own_ticks other words = 0

-- a value or a fault as a code
abbrev pub coded : Result (List ℕ) Raise → Result Code memory.Memory
coded (Ok v) = Ok (Value v)
coded (Err (Fault f)) = Ok (Raised f)
coded (Err Memory) = Err (record {})
