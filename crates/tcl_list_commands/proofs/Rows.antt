-- Rows of the commands.
use Rattle.std.proofs.Common.{◌≡◌, [], ◌∷◌, Ok, Err, refl}
use Rattle.std.specs.Prelude.{codes}
use Rattle.std.specs.Fmt.{digits}
use Rattle.px_bytes.specs.FaultText.{not_whole, syntax_error, wrong_arity}
use Rattle.tcl_list_commands.specs.Counting.{llength_value}
use Rattle.tcl_list_commands.specs.Joining.{concat_value, join_value}
use Rattle.tcl_list_commands.specs.Making.{list_value}
use Rattle.tcl_list_commands.specs.Picking.{lindex_value, lrange_value}
use Rattle.tcl_list_commands.specs.Searching.{lsearch_value}
use Rattle.tcl_list_commands.specs.Sorting.{lsort_value}
use Rattle.tcl_list_commands.specs.Splitting.{split_value}

no_words : list_value [] ≡ Ok []
no_words = refl

five_words : list_value (codes "a" ∷ (codes "b c" ∷ (codes "{" ∷ (codes "\\" ∷ (codes "#x" ∷ []))))) ≡ Ok (codes "a {b c} \\{ \\\\ {#x}")
five_words = refl

three_elements : llength_value (codes "a {b {c d}} e" ∷ []) ≡ Ok (codes "3")
unfolding digits
three_elements = refl

no_elements : llength_value ([] ∷ []) ≡ Ok (codes "0")
unfolding digits
no_elements = refl

open_brace : llength_value (codes "{a" ∷ []) ≡ Err (syntax_error (codes "llength"))
open_brace = refl

two_lists : llength_value (codes "a" ∷ (codes "b" ∷ [])) ≡ Err (wrong_arity (codes "llength"))
two_lists = refl

second : lindex_value (codes "a {b c} d" ∷ (codes "1" ∷ [])) ≡ Ok (codes "b c")
second = refl

last_but_one : lindex_value (codes "1 10 9 2 -3" ∷ (codes "end-1" ∷ [])) ≡ Ok (codes "2")
last_but_one = refl

before_the_first : lindex_value (codes "a b c" ∷ (codes "end-3" ∷ [])) ≡ Ok []
before_the_first = refl

no_list_at_no_place : lindex_value (codes "{a" ∷ (codes "x" ∷ [])) ≡ Err (syntax_error (codes "lindex"))
no_list_at_no_place = refl

no_place : lindex_value (codes "a" ∷ (codes "x" ∷ [])) ≡ Err (not_whole (codes "x"))
no_place = refl

up_to_last_but_one : lrange_value (codes "a b c d" ∷ (codes "-1" ∷ (codes "end-1" ∷ []))) ≡ Ok (codes "a b c")
up_to_last_but_one = refl

octal_place : lrange_value (codes "{a b} c" ∷ (codes "end-1" ∷ (codes "010" ∷ []))) ≡ Ok (codes "{a b} c")
octal_place = refl

turned_range : lrange_value (codes "a b c d" ∷ (codes "2" ∷ (codes "1" ∷ []))) ≡ Ok []
turned_range = refl

first_bad_place : lrange_value (codes "a b" ∷ (codes "x" ∷ (codes "end-x" ∷ []))) ≡ Err (not_whole (codes "x"))
first_bad_place = refl

empty_words_left_out : concat_value ([] ∷ (codes "a" ∷ (codes "  " ∷ (codes "b" ∷ [])))) ≡ Ok (codes "a b")
empty_words_left_out = refl

trimmed_and_joined : concat_value (codes " a {b" ∷ (codes "c} d\n" ∷ [])) ≡ Ok (codes "a {b c} d")
trimmed_and_joined = refl

comma_between : join_value (codes "a b c" ∷ (codes ", " ∷ [])) ≡ Ok (codes "a, b, c")
comma_between = refl

blank_between : join_value (codes "a {b {c d}} e" ∷ []) ≡ Ok (codes "a b {c d} e")
blank_between = refl

at_white_space : split_value (codes " a  b " ∷ []) ≡ Ok (codes "{} a {} b {}")
at_white_space = refl

at_two_bytes : split_value (codes "a.b-c" ∷ (codes ".-" ∷ [])) ≡ Ok (codes "a b c")
at_two_bytes = refl

in_bytes : split_value (codes "a{b" ∷ ([] ∷ [])) ≡ Ok (codes "a \\{ b")
in_bytes = refl

nothing_split : split_value ([] ∷ (codes "," ∷ [])) ≡ Ok []
nothing_split = refl

only_a_comma : split_value (codes "," ∷ (codes "," ∷ [])) ≡ Ok (codes "{} {}")
only_a_comma = refl

glob_by_default : lsearch_value (codes "a {b {c d}} e" ∷ (codes "\\a" ∷ [])) ≡ Ok (codes "0")
unfolding digits
glob_by_default = refl

exact_element : lsearch_value (codes "-exact" ∷ (codes "ax a*" ∷ (codes "a*" ∷ []))) ≡ Ok (codes "1")
unfolding digits
exact_element = refl

none_matches : lsearch_value (codes "-glob" ∷ (codes "{a b} c" ∷ (codes "[ab0]" ∷ []))) ≡ Ok (codes "-1")
none_matches = refl

other_option : lsearch_value (codes "-regexp" ∷ (codes "a" ∷ (codes "a" ∷ []))) ≡ Err (syntax_error (codes "lsearch"))
other_option = refl

word_for_option : lsearch_value (codes "\"x y\" z" ∷ (codes "\\a*[a-c]" ∷ (codes "x" ∷ []))) ≡ Err (syntax_error (codes "lsearch"))
word_for_option = refl

four_words : lsearch_value (codes "-exact" ∷ (codes "a" ∷ (codes "b" ∷ (codes "c" ∷ [])))) ≡ Err (wrong_arity (codes "lsearch"))
four_words = refl

by_bytes : lsort_value (codes "B a C" ∷ []) ≡ Ok (codes "B C a")
by_bytes = refl

by_numbers : lsort_value (codes "-integer" ∷ (codes "10 9 010 0x1 -3" ∷ [])) ≡ Ok (codes "-3 0x1 010 9 10")
by_numbers = refl

equal_ones_keep_their_order : lsort_value (codes "-integer" ∷ (codes "-decreasing" ∷ (codes "8 010 7 0x8" ∷ []))) ≡ Ok (codes "8 010 0x8 7")
equal_ones_keep_their_order = refl

last_one_alone : lsort_value (codes "-integer" ∷ (codes "-unique" ∷ (codes "-decreasing" ∷ (codes "8 010 7 0x8" ∷ [])))) ≡ Ok (codes "0x8 7")
last_one_alone = refl

later_option_wins : lsort_value (codes "-integer" ∷ (codes "-ascii" ∷ (codes "10 9" ∷ []))) ≡ Ok (codes "10 9")
later_option_wins = refl

first_that_is_no_number : lsort_value (codes "-integer" ∷ (codes "1 x y" ∷ [])) ≡ Err (not_whole (codes "x"))
first_that_is_no_number = refl

no_option : lsort_value (codes "a" ∷ (codes "b" ∷ [])) ≡ Err (syntax_error (codes "lsort"))
no_option = refl

no_list : lsort_value [] ≡ Err (wrong_arity (codes "lsort"))
no_list = refl
