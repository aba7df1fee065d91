-- The faults of commands with their texts. Where Tcl 8.4 has the fault, the text is Tcl's own
-- (set(n), Tcl(n)).
use Rattle.std.specs.Prelude.{ℕ, List, ◌++◌, codes}
use Rattle.px_bytes.specs.declared.fault.FaultKind.TheVariants.{NoVariable, NoCommand, Arity}
use Rattle.px_bytes.specs.declared.fault.FaultKind.TheVariants.{NotWhole, OutOfRange, TooLong}
use Rattle.px_bytes.specs.declared.fault.FaultKind.TheVariants.{Budget, Context, Syntax}
use Rattle.px_bytes.specs.declared.fault.TclFault.{TclFault}

-- a variable that isn't there was read
abbrev pub no_variable : List ℕ → TclFault
no_variable name = record {
  kind = NoVariable;
  text = codes "can't read \"" ++ name
      ++ codes "\": no such variable";
}

-- no command of this name may be called
abbrev pub no_command : List ℕ → TclFault
no_command name =
    record { kind = NoCommand; text = codes "invalid command name \"" ++ name ++ codes "\"" }

-- the command of this name was given a wrong number of words
abbrev pub wrong_arity : List ℕ → TclFault
wrong_arity name = record { kind = Arity; text = codes "wrong # args: \"" ++ name ++ codes "\"" }

-- a word isn't a whole number (Tcl_GetInt(3))
abbrev pub not_whole : List ℕ → TclFault
not_whole text =
    record { kind = NotWhole; text = codes "expected integer but got \"" ++ text ++ codes "\"" }

-- a number is out of range
abbrev pub out_of_range : TclFault
out_of_range = record { kind = OutOfRange; text = codes "integer out of range" }

-- the words of the command of this name have none of its forms
abbrev pub syntax_error : List ℕ → TclFault
syntax_error name = record { kind = Syntax; text = codes "syntax error in " ++ name }

-- a text or the variables would be too long
abbrev pub too_long : TclFault
too_long = record { kind = TooLong; text = codes "text too long" }

-- a body has used up its budget
abbrev pub budget_spent : TclFault
budget_spent = record { kind = Budget; text = codes "step budget spent" }

-- a static variable was set where it can only be read
abbrev pub static_set : TclFault
static_set = record { kind = Context; text = codes "static variable set outside RULE_INIT" }

-- `break` or `continue` stands in no loop
abbrev pub outside_loop : List ℕ → TclFault
outside_loop name =
    record { kind = Context; text = codes "invoked \"" ++ name ++ codes "\" outside of a loop" }
