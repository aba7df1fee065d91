-- The commands whose words are all evaluated first (Tcl 8.4: the manual page of each; iRules: call).
use Rattle.std.specs.Prelude.{ℕ, List, [], ◌∷◌, map, codes, Option, Some, None, Result}
use Rattle.std.specs.Prelude.{Ok, Err, if◌then◌else◌}
use Rattle.std.specs.List.{join_by}
use Rattle.px_bytes.specs.FaultText.{no_command, outside_loop, syntax_error, too_long, wrong_arity}
use Rattle.px_bytes.specs.Limit.{is_short}
use Rattle.px_bytes.specs.declared.fault.FaultKind.TheVariants as kind
use Rattle.px_bytes.specs.declared.fault.TclFault.{TclFault}
use Rattle.tcl_commands.specs.Kind.{is_pure}
use Rattle.tcl_commands.specs.PureCommand.{pure_value}
use Rattle.tcl_trees.specs.Compiled.{compiled_expression}
use Rattle.tcl_trees.specs.Flaws.{too_deep as is_too_deep}
use Rattle.tcl_trees.specs.Procedures.{Procedure, procedure_named, values_bound}
use Rattle.tcl_trees.specs.Tree.{Tree}
use Rattle.tcl_trees.specs.declared.flaw.Flaw.{Flaw}
use Rattle.tcl_trees.specs.declared.node.Verb.{Verb}
use Rattle.tcl_trees.specs.declared.node.Verb.TheVariants as verb
use Rattle.tcl_vars.specs.Scopes.{in_proc, out_of_proc}
use Rattle.tcl_var_commands.specs.Append.{append_changed}
use Rattle.tcl_var_commands.specs.Array.{array_changed}
use Rattle.tcl_var_commands.specs.Assigning.{row_assigned}
use Rattle.tcl_var_commands.specs.Incr.{incr_changed}
use Rattle.tcl_var_commands.specs.Info.{info_changed}
use Rattle.tcl_var_commands.specs.Lappend.{lappend_changed}
use Rattle.tcl_var_commands.specs.Set.{set_changed}
use Rattle.tcl_var_commands.specs.Unset.{unset_changed}
use Rattle.rule_model.specs.Children.{alone}
use Rattle.rule_model.specs.Outcome.{State, Outcome, Ends, Meaning, then_code, then_value, ends}
use Rattle.rule_model.specs.Outcome.{changed, answered, paid}
use Rattle.rule_model.specs.declared.code.Code.{Code}
use Rattle.rule_model.specs.declared.code.Code.TheVariants.{Value, Raised, Return, Break, Continue}
use Rattle.rule_model.specs.Expressions.{whole}
use Rattle.rule_model.specs.Setting.{Setting, Inner}

-- A pure command, and else the host's, which says that there is no other. Where no word is, nothing
-- is done.
abbrev pub named_command : {H : Type 0} → Setting H → List (List ℕ) → Meaning H
named_command g [] path st = Ends (Value []) st
named_command g (name ∷ words) path st =
    if is_pure name then ends (pure_value (name ∷ words)) st
    else answered (g.table st.host (name ∷ words)) path st

-- return(n): the text, which is empty where none is given
abbrev pub return_code : List (List ℕ) → Code
return_code (name ∷ []) = Return []
return_code (name ∷ (text ∷ [])) = Return text
return_code words = Raised (wrong_arity (codes "return"))

-- error(n)
abbrev pub error_code : List (List ℕ) → Code
error_code (name ∷ (text ∷ [])) = Raised (record { kind = kind.Raised; text = text })
error_code words = Raised (wrong_arity (codes "error"))

-- as many calls, or expressions that are read when they run, stand inside one another as may
abbrev pub too_deep : TclFault
too_deep = record { kind = kind.TooDeep; text = codes "too many nested calls" }

-- one level deeper, where there is one
abbrev pub deeper : {H : Type 0} → Option (Tree → Meaning H) → Tree → Meaning H
deeper None tree path st = Ends (Raised too_deep) st
deeper (Some eval) tree path st = eval tree path st

-- An expression that is read when it runs (expr(n)): what is no expression has one fault, and so has
-- one that has more inside one another than it may.
abbrev pub flaw_fault : Flaw → TclFault
flaw_fault flaw = if is_too_deep flaw then too_deep else syntax_error (codes "expr")

abbrev pub if_compiled : Result Tree Flaw → Result Tree TclFault
if_compiled (Ok tree) = Ok tree
if_compiled (Err flaw) = Err (flaw_fault flaw)

abbrev pub expression_in : List ℕ → Result Tree TclFault
expression_in text =
    if is_short text then if_compiled (compiled_expression text) else Err too_long

-- expr(n): it "concatenates arg's (adding separator spaces between them)"
abbrev pub expression_of : List (List ℕ) → Result Tree TclFault
expression_of [] = Err (wrong_arity (codes "expr"))
expression_of (name ∷ []) = Err (wrong_arity (codes "expr"))
expression_of (name ∷ (word ∷ words)) =
    expression_in (join_by (λ w. w) (codes " ") (word ∷ words))

abbrev pub expression_read : {H : Type 0} → Inner H → Result Tree TclFault → Meaning H
expression_read i (Ok tree) path st =
    whole (deeper i.expression tree path (paid (alone tree) st))
expression_read i (Err f) path st = Ends (Raised f) st

-- A procedure's body ends (proc(n)): its variables go, `return` gives its value, and `break` and
-- `continue` may stand in a loop of its own alone.
abbrev pub code_left : Code → Code
code_left (Value v) = Value v
code_left (Raised f) = Raised f
code_left (Return v) = Value v
code_left Break = Raised (outside_loop (codes "break"))
code_left Continue = Raised (outside_loop (codes "continue"))

abbrev pub left : {H : Type 0} → State H → State H
left st = record st { vars = out_of_proc st.vars }

abbrev pub leave : {H : Type 0} → Code → State H → Outcome H
leave code st = Ends (code_left code) (left st)

-- a procedure with the values of its parameters
pub record Bound : Type 0 where
  pub procedure : Procedure
  pub values : List (List ℕ)

abbrev pub values_for : Procedure → Option (List (List ℕ)) → Result Bound TclFault
values_for p (Some values) = Ok (record { procedure = p; values = values })
values_for p None = Err (wrong_arity p.name)

abbrev pub bound_by : List ℕ → List (List ℕ) → Option Procedure → Result Bound TclFault
bound_by name words (Some p) = values_for p (values_bound p.parameters words)
bound_by name words None = Err (no_command name)

-- the procedure that the words of a `call` name, with its values (iRules: call)
abbrev pub bound_of : List Procedure → List (List ℕ) → Result Bound TclFault
bound_of procedures [] = Err (wrong_arity (codes "call"))
bound_of procedures (verb ∷ []) = Err (wrong_arity (codes "call"))
bound_of procedures (verb ∷ (name ∷ words)) =
    bound_by name words (procedure_named name procedures)

-- A procedure whose parameters have these values: it begins with no other variables of its own.
abbrev pub entered : {H : Type 0} → Setting H → Inner H → Bound → Meaning H
entered g i b path st =
    then_code
    (then_value (changed (row_assigned g.statics (map (λ q. q.name) b.procedure.parameters)
    b.values (in_proc st.vars)) st)
    (λ v t. deeper i.call b.procedure.body path t))
    leave

abbrev pub called : {H : Type 0} → Setting H → Inner H → Result Bound TclFault → Meaning H
called g i (Ok b) path st = entered g i b path st
called g i (Err f) path st = Ends (Raised f) st

-- `call NAME ..` (iRules: call)
abbrev pub call_command : {H : Type 0} → Setting H → Inner H → List (List ℕ) → Meaning H
call_command g i words = called g i (bound_of g.procedures words)

-- what a command does with its words; those that hold bodies are none of these
abbrev pub command : {H : Type 0} → Setting H → Inner H → Verb → List (List ℕ) → Meaning H
command g i verb.Named words path st = named_command g words path st
command g i verb.Computed words path st = named_command g words path st
command g i verb.Set words path st = changed (set_changed g.statics words st.vars) st
command g i verb.Unset words path st = changed (unset_changed g.statics words st.vars) st
command g i verb.Incr words path st = changed (incr_changed g.statics words st.vars) st
command g i verb.Append words path st = changed (append_changed g.statics words st.vars) st
command g i verb.Lappend words path st = changed (lappend_changed g.statics words st.vars) st
command g i verb.Array words path st = changed (array_changed g.statics words st.vars) st
command g i verb.Info words path st = changed (info_changed g.statics words st.vars) st
command g i verb.Return words path st = Ends (return_code words) st
command g i verb.Break words path st = Ends Break st
command g i verb.Continue words path st = Ends Continue st
command g i verb.Error words path st = Ends (error_code words) st
command g i verb.Call words path st = call_command g i words path st
command g i verb.ExprOfWords words path st = expression_read i (expression_of words) path st
