-- What has its end at once: literals, variables, and what has nothing inside.
use Rattle.std.specs.Prelude.{ℕ, List, [], ◌∷◌, codes, Bool, true, false, Option, None, Result}
use Rattle.px_bytes.specs.FaultText.{wrong_arity}
use Rattle.px_bytes.specs.declared.fault.TclFault.{TclFault}
use Rattle.tcl_trees.specs.Tree.{Tree}
use Rattle.tcl_trees.specs.Tree as tree
use Rattle.tcl_trees.specs.declared.node.Node.{Node}
use Rattle.tcl_trees.specs.declared.node.Node.TheOpen.{Node-F}
use Rattle.tcl_trees.specs.declared.node.Verb.{Verb}
use Rattle.tcl_trees.specs.declared.node.Verb.TheVariants as verb
use Rattle.tcl_vars.specs.Scopes.{Level, Scopes}
use Rattle.tcl_var_commands.specs.Reading.{read_value}
use Rattle.rule_model.specs.Outcome.{code_of}
use Rattle.rule_model.specs.declared.code.Code.{Code}
use Rattle.rule_model.specs.declared.code.Code.TheVariants.{Value, Raised, Break, Continue}
use Rattle.rule_nodes.specs.Values.{element_read}

abbrev pub variable_value : Option Level → Scopes → List ℕ → Result (List ℕ) TclFault
variable_value statics vars name =
    read_value statics vars name (record { name = name; index = None })

-- the name of a command that wants words
abbrev pub bare_name : Verb → List ℕ
bare_name verb.Set = codes "set"
bare_name verb.Unset = codes "unset"
bare_name verb.Incr = codes "incr"
bare_name verb.Append = codes "append"
bare_name verb.Lappend = codes "lappend"
bare_name verb.Array = codes "array"
bare_name verb.Info = codes "info"
bare_name verb.Return = codes "return"
bare_name verb.Error = codes "error"
bare_name verb.Call = codes "call"
bare_name verb.ExprOfWords = codes "expr"
bare_name verb.Named = []
bare_name verb.Computed = []
bare_name verb.Break = []
bare_name verb.Continue = []

-- what a command without words comes to
abbrev pub bare_code : Verb → Code
bare_code verb.Named = Value []
bare_code verb.Computed = Value []
bare_code verb.Break = Break
bare_code verb.Continue = Continue
bare_code v = Raised (wrong_arity (bare_name v))

-- the code that such a tree ends with
abbrev pub leaf_code : Option Level → Scopes → Tree → Code
leaf_code statics vars (tree.plain text) = Value text
leaf_code statics vars (tree.variable name) = code_of (variable_value statics vars name)
leaf_code statics vars (tree.element name ts) = code_of (element_read statics name [] vars)
leaf_code statics vars (tree.command v ts) = bare_code v
leaf_code statics vars t = Value []

-- the same of a node of the code
abbrev pub has_none : {A : Type 0} → List A → Bool
has_none [] = true
has_none (a ∷ more) = false

abbrev pub is_leaf_in : Node-F Node → Bool
is_leaf_in (Node-F.Plain text) = true
is_leaf_in (Node-F.Variable name) = true
is_leaf_in (Node-F.Element name index) = has_none index.items
is_leaf_in (Node-F.Word parts) = has_none parts.items
is_leaf_in (Node-F.Script commands) = has_none commands.items
is_leaf_in (Node-F.Command v words) = has_none words.items
is_leaf_in Node-F.NextBody = true
is_leaf_in node = false

abbrev pub leaf_in : Option Level → Scopes → Node-F Node → Code
leaf_in statics vars (Node-F.Plain text) = Value text
leaf_in statics vars (Node-F.Variable name) = code_of (variable_value statics vars name)
leaf_in statics vars (Node-F.Element name index) = code_of (element_read statics name [] vars)
leaf_in statics vars (Node-F.Command v words) = bare_code v
leaf_in statics vars node = Value []
