-- Lists in variables with more elements: Tcl 8.4, lappend(n).
use Rattle.std.specs.Prelude.{ℕ, List, [], ◌∷◌, ◌++◌, Option, unwrap_or, codes}
use Rattle.px_bytes.specs.FaultText.{wrong_arity}
use Rattle.tcl_lists.specs.Write.{spelled}
use Rattle.tcl_vars.specs.Names.{Name, name_of}
use Rattle.tcl_vars.specs.Scopes.{Level, Scopes, value_at}
use Rattle.tcl_var_commands.specs.Changed.{Changed, fails}
use Rattle.tcl_var_commands.specs.Assigning.{assigned}

-- a list with an element behind it
abbrev pub element_behind : List ℕ → List ℕ → List ℕ
element_behind [] element = spelled element
element_behind (b ∷ bs) element = (b ∷ bs) ++ 32 ∷ spelled element

-- lappend(n): it "appends each of the value arguments to that list as a separate element, with
-- spaces between elements"
abbrev pub elements_behind : List ℕ → List (List ℕ) → List ℕ
elements_behind text [] = text
elements_behind text (element ∷ elements) = elements_behind (element_behind text element) elements

-- lappend(n): "if varName doesn't exist, it is created as a list"
abbrev pub lengthened : Option Level → Name → List (List ℕ) → Scopes → Changed
lengthened statics name elements vars =
    let old = unwrap_or (value_at vars name.name name.index) [] in
    assigned statics name (elements_behind old elements) vars

abbrev pub lappend_changed : Option Level → List (List ℕ) → Scopes → Changed
lappend_changed statics (verb ∷ (text ∷ elements)) vars =
    lengthened statics (name_of text) elements vars
lappend_changed statics words vars = fails (wrong_arity (codes "lappend")) vars
