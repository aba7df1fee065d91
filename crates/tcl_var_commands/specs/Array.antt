-- The indexed values of a name: Tcl 8.4, array(n).
use Rattle.std.specs.Prelude.{ℕ, ◌%◌, List, [], ◌∷◌, length, Option, Some, None, codes}
use Rattle.std.specs.Prelude.{Result, Ok, Err, flat_map, nat_eq, decimal, if◌then◌else◌}
use Rattle.std.specs.Map.{keys_of}
use Rattle.std.specs.Str.{bytes_eq}
use Rattle.px_bytes.specs.FaultText.{static_set, syntax_error, wrong_arity}
use Rattle.px_bytes.specs.Limit.{limited}
use Rattle.px_bytes.specs.declared.fault.TclFault.{TclFault}
use Rattle.tcl_lists.specs.Read.{list_values}
use Rattle.tcl_lists.specs.Write.{joined}
use Rattle.tcl_lists.specs.declared.fault.ListFault.{ListFault}
use Rattle.tcl_vars.specs.Indexes.{indexes_at}
use Rattle.tcl_vars.specs.Names.{Name}
use Rattle.tcl_vars.specs.Scopes.{Level, Scopes, Table, elements, without_value}
use Rattle.tcl_var_commands.specs.Changed.{Changed, changed_by, fails, gives, in_turn}
use Rattle.tcl_var_commands.specs.Reading.{is_only_read, level_read}
use Rattle.tcl_var_commands.specs.Assigning.{Pair, assigned}
use Rattle.tcl_var_commands.specs.declared.array.ArrayForm.{ArrayForm}
use Rattle.tcl_var_commands.specs.declared.array.ArrayForm.TheVariants.{Ask, Set, Unset}
use Rattle.tcl_var_commands.specs.declared.array.Question.{Question}
use Rattle.tcl_var_commands.specs.declared.array.Question.TheVariants.{Exists, Get, Names, Size}

abbrev pub form_of : List ℕ → Option ArrayForm
form_of word =
    if bytes_eq word (codes "exists") then Some (Ask Exists)
    else (if bytes_eq word (codes "get") then Some (Ask Get)
    else (if bytes_eq word (codes "names") then Some (Ask Names)
    else (if bytes_eq word (codes "size") then Some (Ask Size)
    else (if bytes_eq word (codes "set") then Some Set
    else (if bytes_eq word (codes "unset") then Some Unset else None)))))

-- array(n): "returns 1 if arrayName is an array variable, 0 if there is no variable by that name"
abbrev pub exists_text : Table (List ℕ) → List ℕ
exists_text [] = codes "0"
exists_text (e ∷ es) = codes "1"

-- array(n): "the first element in each pair is the name of an element in arrayName and the second
-- element of each pair is the value of the array element"
abbrev pub pairs_of : Table (List ℕ) → List (List ℕ)
pairs_of table = flat_map (λ e. e.0 ∷ (e.1 ∷ [])) table

-- what is asked of the elements of a name, which stand in the order of their indexes' bytes
abbrev pub answer_of : Question → Table (List ℕ) → Result (List ℕ) TclFault
answer_of Exists table = Ok (exists_text table)
answer_of Get table = limited (joined (pairs_of table))
answer_of Names table = limited (joined (keys_of table))
answer_of Size table = Ok (decimal (length table))

-- the name is taken whole
abbrev pub ask_form : Option Level → Question → List (List ℕ) → Scopes → Changed
ask_form statics question (name ∷ []) vars =
    changed_by (answer_of question (elements name (level_read statics vars name))) vars
ask_form statics question words vars = fails (wrong_arity (codes "array")) vars

-- array(n): "each odd-numbered element in list" is "an element name within arrayName" and "the
-- following element in list" "a new value for that array element"
abbrev pub in_pairs : List (List ℕ) → List Pair
in_pairs (index ∷ (value ∷ texts)) = (index, value) ∷ in_pairs texts
in_pairs texts = []

abbrev pub element_assigned : Option Level → List ℕ → Pair → Scopes → Changed
element_assigned statics name pair vars =
    let named : Name = record { name = name; index = Some pair.0 } in
    assigned statics named pair.1 vars

abbrev pub pairs_assigned : Option Level → List ℕ → List (List ℕ) → Scopes → Changed
pairs_assigned statics name texts vars =
    in_turn (element_assigned statics name) (in_pairs texts) vars

-- array(n): a list "consisting of an even number of elements"
abbrev pub even_by : Result (List (List ℕ)) ListFault → Result (List (List ℕ)) TclFault
even_by (Ok pairs) =
    if nat_eq (length pairs % 2) 0 then Ok pairs else Err (syntax_error (codes "array"))
even_by (Err fault) = Err (syntax_error (codes "array"))

abbrev pub even_list : List ℕ → Result (List (List ℕ)) TclFault
even_list list = even_by (list_values list)

-- what the list says is set, where it is one; a static name is a fault also where no pair is there
abbrev pub list_assigned : Option Level → List ℕ → Result (List (List ℕ)) TclFault → Scopes
    → Changed
list_assigned statics name (Err fault) vars = fails fault vars
list_assigned statics name (Ok pairs) vars =
    if is_only_read statics name then fails static_set vars
    else pairs_assigned statics name pairs vars

abbrev pub set_form : Option Level → List (List ℕ) → Scopes → Changed
set_form statics (name ∷ (list ∷ [])) vars = list_assigned statics name (even_list list) vars
set_form statics words vars = fails (wrong_arity (codes "array")) vars

-- the variables without the values of a name at these indexes
abbrev pub without_indexes : List ℕ → List (List ℕ) → Scopes → Scopes
without_indexes name [] vars = vars
without_indexes name (index ∷ indexes) vars =
    without_indexes name indexes (without_value name (Some index) vars)

-- array(n): it "unsets all of the elements in the array"; here the name's plain value stays
abbrev pub unset_form : Option Level → List (List ℕ) → Scopes → Changed
unset_form statics (name ∷ []) vars =
    if is_only_read statics name then fails static_set vars
    else gives [] (without_indexes name (indexes_at vars name) vars)
unset_form statics words vars = fails (wrong_arity (codes "array")) vars

-- a word that is no form is a syntax error, before the others are counted
abbrev pub formed : Option Level → Option ArrayForm → List (List ℕ) → Scopes → Changed
formed statics None words vars = fails (syntax_error (codes "array")) vars
formed statics (Some (Ask question)) words vars = ask_form statics question words vars
formed statics (Some Set) words vars = set_form statics words vars
formed statics (Some Unset) words vars = unset_form statics words vars

abbrev pub array_changed : Option Level → List (List ℕ) → Scopes → Changed
array_changed statics (verb ∷ (form ∷ words)) vars = formed statics (form_of form) words vars
array_changed statics words vars = fails (wrong_arity (codes "array")) vars
