-- Which command the first word of a command names: Tcl(n), Evaluation, "the first word is used to
-- locate a command procedure".
use Rattle.std.specs.Prelude.{ℕ, List, [], ◌∷◌, codes, Option, Some, None, if◌then◌else◌}
use Rattle.std.specs.Str.{bytes_eq}
use Rattle.tcl_words.specs.Tree.{Word}
use Rattle.tcl_trees.specs.Texts.{raw_of}
use Rattle.tcl_trees.specs.declared.node.Verb.TheVariants as verb
use Rattle.tcl_trees.specs.declared.shapes.Shape.{Shape}
use Rattle.tcl_trees.specs.declared.shapes.Shape.TheVariants.{Words, Expr, If, While, For}
use Rattle.tcl_trees.specs.declared.shapes.Shape.TheVariants.{Foreach, Switch, Catch}

-- the commands that hold bodies or expressions, and a name that is no command of control
unfoldable pub body_named : List ℕ → Shape
body_named name =
    if bytes_eq name (codes "expr") then Expr
    else (if bytes_eq name (codes "if") then If
    else (if bytes_eq name (codes "while") then While
    else (if bytes_eq name (codes "for") then For
    else (if bytes_eq name (codes "foreach") then Foreach
    else (if bytes_eq name (codes "switch") then Switch
    else (if bytes_eq name (codes "catch") then Catch
    else Words verb.Named))))))

-- before them those that leave a body, or call a procedure
unfoldable pub flow_named : List ℕ → Shape
flow_named name =
    if bytes_eq name (codes "return") then Words verb.Return
    else (if bytes_eq name (codes "break") then Words verb.Break
    else (if bytes_eq name (codes "continue") then Words verb.Continue
    else (if bytes_eq name (codes "error") then Words verb.Error
    else (if bytes_eq name (codes "call") then Words verb.Call
    else body_named name))))

-- and first those on variables
unfoldable pub named : List ℕ → Shape
named name =
    if bytes_eq name (codes "set") then Words verb.Set
    else (if bytes_eq name (codes "unset") then Words verb.Unset
    else (if bytes_eq name (codes "incr") then Words verb.Incr
    else (if bytes_eq name (codes "append") then Words verb.Append
    else (if bytes_eq name (codes "lappend") then Words verb.Lappend
    else (if bytes_eq name (codes "array") then Words verb.Array
    else (if bytes_eq name (codes "info") then Words verb.Info
    else flow_named name))))))

-- a word with a substitution or a backslash is a name when the command runs
abbrev pub shape_named : Option (List ℕ) → Shape
shape_named None = Words verb.Computed
shape_named (Some name) = named name

abbrev pub shape_of : List Word → Shape
shape_of [] = Words verb.Named
shape_of (name ∷ words) = shape_named (raw_of name)
