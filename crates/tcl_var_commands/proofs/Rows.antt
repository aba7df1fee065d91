-- Rows of the commands.
use Rattle.std.proofs.Common.{◌≡◌, ℕ, List, [], ◌∷◌, Ok, Err, Some, None, refl}
use Rattle.std.specs.Prelude.{codes}
use Rattle.std.specs.Fmt.{digits}
use Rattle.px_bytes.specs.FaultText.{no_variable, not_whole, out_of_range, static_set, syntax_error, wrong_arity}
use Rattle.tcl_vars.specs.Scopes.{Scopes, no_level, no_scopes}
use Rattle.tcl_var_commands.specs.Changed.{fails, gives}
use Rattle.tcl_var_commands.specs.Assigning.{row_assigned}
use Rattle.tcl_var_commands.specs.Set.{set_changed}
use Rattle.tcl_var_commands.specs.Unset.{cannot_unset, unset_changed}
use Rattle.tcl_var_commands.specs.Incr.{incr_changed}
use Rattle.tcl_var_commands.specs.Append.{append_changed}
use Rattle.tcl_var_commands.specs.Lappend.{lappend_changed}
use Rattle.tcl_var_commands.specs.Array.{array_changed}
use Rattle.tcl_var_commands.specs.Info.{info_changed}

abbrev words_2 : List ℕ → List ℕ → List (List ℕ)
words_2 a b = a ∷ (b ∷ [])

abbrev words_3 : List ℕ → List ℕ → List ℕ → List (List ℕ)
words_3 a b c = a ∷ (b ∷ (c ∷ []))

abbrev words_4 : List ℕ → List ℕ → List ℕ → List ℕ → List (List ℕ)
words_4 a b c d = a ∷ (b ∷ (c ∷ (d ∷ [])))

-- x is 7, and a has a plain value and two elements
abbrev some : Scopes
some =
    let x = (row_assigned None (words_2 (codes "x") (codes "a")) (words_2 (codes " 07") (codes "p")) no_scopes).vars in
    (array_changed None (words_4 (codes "array") (codes "set") (codes "a") (codes "k {v w} B 2")) x).vars

reads_element : set_changed None (words_2 (codes "set") (codes "a(k)")) some ≡ gives (codes "v w") some
reads_element = refl

reads_none : set_changed None (words_2 (codes "set") (codes "a(b)")) some ≡ fails (no_variable (codes "a(b)")) some
reads_none = refl

missing_value : (set_changed None (words_2 (codes "set") (codes "y")) (row_assigned None (words_2 (codes "x") (codes "y")) (codes "1" ∷ []) no_scopes).vars).value ≡ Ok []
missing_value = refl

reads_static : (set_changed (Some no_level) (words_2 (codes "set") (codes "static::s")) (set_changed None (words_3 (codes "set") (codes "static::s") (codes "1")) no_scopes).vars).value ≡ Err (no_variable (codes "static::s"))
reads_static = refl

sets_static : append_changed (Some no_level) (words_3 (codes "append") (codes "static::s") (codes "1")) some ≡ fails static_set some
sets_static = refl

unsets_in_order : unset_changed None (words_4 (codes "unset") (codes "x") (codes "b") (codes "a")) some
    ≡ fails (cannot_unset (codes "b")) (unset_changed None (words_2 (codes "unset") (codes "x")) some).vars
unsets_in_order = refl

passes_over : unset_changed None (words_3 (codes "unset") (codes "-nocomplain") (codes "b")) some ≡ gives [] some
passes_over = refl

no_name : unset_changed None (words_2 (codes "unset") (codes "-nocomplain")) some ≡ fails (wrong_arity (codes "unset")) some
no_name = refl

counts_octal : (incr_changed None (words_2 (codes "incr") (codes "x")) some).value ≡ Ok (codes "8")
unfolding digits
counts_octal = refl

counts_down : (incr_changed None (words_3 (codes "incr") (codes "x") (codes "-0x10")) some).value ≡ Ok (codes "-9")
unfolding digits
counts_down = refl

too_far : incr_changed None (words_3 (codes "incr") (codes "x") (codes "0x7fffffffffffffff")) some ≡ fails out_of_range some
too_far = refl

value_first : incr_changed None (words_3 (codes "incr") (codes "a") (codes "z")) some ≡ fails (not_whole (codes "p")) some
value_first = refl

appends : (append_changed None (words_4 (codes "append") (codes "a") (codes "b") (codes "c d")) some).value ≡ Ok (codes "pbc d")
appends = refl

makes_one : (append_changed None (words_2 (codes "append") (codes "new")) some).value ≡ Ok []
makes_one = refl

lengthens : (lappend_changed None (words_4 (codes "lappend") (codes "a") (codes "b c") []) some).value ≡ Ok (codes "p {b c} {}")
lengthens = refl

begins_a_list : (lappend_changed None (words_4 (codes "lappend") (codes "new") (codes "b") (codes "c")) some).value ≡ Ok (codes "b c")
begins_a_list = refl

gets_in_order : (array_changed None (words_3 (codes "array") (codes "get") (codes "a")) some).value ≡ Ok (codes "B 2 k {v w}")
gets_in_order = refl

names_in_order : (array_changed None (words_3 (codes "array") (codes "names") (codes "a")) some).value ≡ Ok (codes "B k")
names_in_order = refl

two_elements : (array_changed None (words_3 (codes "array") (codes "size") (codes "a")) some).value ≡ Ok (codes "2")
unfolding digits
two_elements = refl

no_array : (array_changed None (words_3 (codes "array") (codes "exists") (codes "x")) some).value ≡ Ok (codes "0")
no_array = refl

odd_list : array_changed (Some no_level) (words_4 (codes "array") (codes "set") (codes "static::s") (codes "k")) some ≡ fails (syntax_error (codes "array")) some
odd_list = refl

empty_list : array_changed (Some no_level) (words_4 (codes "array") (codes "set") (codes "static::s") []) some ≡ fails static_set some
empty_list = refl

unsets_elements : array_changed None (words_3 (codes "array") (codes "unset") (codes "a")) some
    ≡ gives [] (row_assigned None (words_2 (codes "x") (codes "a")) (words_2 (codes " 07") (codes "p")) no_scopes).vars
unsets_elements = refl

unknown_form : array_changed None (words_2 (codes "array") (codes "startsearch")) some ≡ fails (syntax_error (codes "array")) some
unknown_form = refl

element_is_there : info_changed None (words_3 (codes "info") (codes "exists") (codes "a(B)")) some ≡ gives (codes "1") some
element_is_there = refl

plain_is_not : (info_changed None (words_3 (codes "info") (codes "exists") (codes "b")) some).value ≡ Ok (codes "0")
plain_is_not = refl
