-- The parameters of a procedure: Tcl 8.4, proc(n), "args ... each element is itself a list with one or
-- two elements": a name, and perhaps its default.
use Rattle.std.specs.Prelude.{ℕ, List, [], ◌∷◌, Option, Some, None, option_and_then, option_map}
use Rattle.std.specs.Result.{result_ok}
use Rattle.tcl_lists.specs.Read.{list_values}
use Rattle.tcl_trees.specs.declared.procs.Parameter.{Parameter}

-- the elements of a list, where a text is one
abbrev pub elements_of : List ℕ → Option (List (List ℕ))
elements_of text = result_ok (list_values text)

-- a parameter has a name
abbrev pub parameter_named : List ℕ → Option (List ℕ) → Option Parameter
parameter_named [] default = None
parameter_named (b ∷ bs) default = Some (record { name = b ∷ bs; default = default })

abbrev pub parameter_of : List (List ℕ) → Option Parameter
parameter_of (name ∷ []) = parameter_named name None
parameter_of (name ∷ default ∷ []) = parameter_named name (Some default)
parameter_of elements = None

abbrev pub read_parameter : List ℕ → Option Parameter
read_parameter text = option_and_then parameter_of (elements_of text)

abbrev pub before_rest : Option Parameter → Option (List Parameter) → Option (List Parameter)
before_rest None rest = None
before_rest (Some p) rest = option_map (λ ps. p ∷ ps) rest

-- None where one of them isn't a parameter
abbrev pub all_parameters : List (List ℕ) → Option (List Parameter)
all_parameters [] = Some []
all_parameters (text ∷ texts) = before_rest (read_parameter text) (all_parameters texts)

abbrev pub parameters_of : List ℕ → Option (List Parameter)
parameters_of text = option_and_then all_parameters (elements_of text)
