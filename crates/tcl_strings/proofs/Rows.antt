-- Rows of the commands.
use Rattle.std.proofs.Common.{◌≡◌, [], ◌∷◌, Ok, Err, refl}
use Rattle.std.specs.Prelude.{codes}
use Rattle.std.specs.Fmt.{digits}
use Rattle.px_bytes.specs.FaultText.{not_whole, out_of_range, syntax_error, too_long, wrong_arity}
use Rattle.tcl_strings.specs.Fields.{getfield_value}
use Rattle.tcl_strings.specs.FormatCommand.{format_value}
use Rattle.tcl_strings.specs.StringCommand.{string_value}

no_form : string_value [] ≡ Err (wrong_arity (codes "string"))
no_form = refl

unknown_form : string_value (codes "foo" ∷ codes "a" ∷ []) ≡ Err (syntax_error (codes "string"))
unknown_form = refl

option : string_value (codes "equal" ∷ codes "-nocase" ∷ codes "a" ∷ codes "A" ∷ []) ≡ Err (wrong_arity (codes "string"))
option = refl

size : string_value (codes "length" ∷ codes "abc" ∷ []) ≡ Ok (codes "3")
unfolding digits
size = refl

before_last : string_value (codes "index" ∷ codes "abc" ∷ codes "end-1" ∷ []) ≡ Ok (codes "b")
before_last = refl

behind_last : string_value (codes "index" ∷ codes "abc" ∷ codes "3" ∷ []) ≡ Ok []
behind_last = refl

below_zero : string_value (codes "index" ∷ codes "abc" ∷ codes "-1" ∷ []) ≡ Ok []
below_zero = refl

octal_place : string_value (codes "index" ∷ codes "abc" ∷ codes "010" ∷ []) ≡ Ok []
octal_place = refl

no_place : string_value (codes "index" ∷ codes "abc" ∷ codes "end-" ∷ []) ≡ Err (not_whole (codes "end-"))
no_place = refl

middle : string_value (codes "range" ∷ codes "abcdef" ∷ codes "1" ∷ codes "3" ∷ []) ≡ Ok (codes "bcd")
middle = refl

from_below : string_value (codes "range" ∷ codes "abcdef" ∷ codes "-5" ∷ codes "2" ∷ []) ≡ Ok (codes "abc")
from_below = refl

to_beyond : string_value (codes "range" ∷ codes "abcdef" ∷ codes "2" ∷ codes "99" ∷ []) ≡ Ok (codes "cdef")
to_beyond = refl

backwards : string_value (codes "range" ∷ codes "abcdef" ∷ codes "3" ∷ codes "1" ∷ []) ≡ Ok []
backwards = refl

first_named : string_value (codes "range" ∷ codes "abc" ∷ codes "x" ∷ codes "y" ∷ []) ≡ Err (not_whole (codes "x"))
first_named = refl

upper_case : string_value (codes "toupper" ∷ (97 ∷ 66 ∷ 99 ∷ 233 ∷ []) ∷ []) ≡ Ok (65 ∷ 66 ∷ 67 ∷ 233 ∷ [])
upper_case = refl

lower_case : string_value (codes "tolower" ∷ (65 ∷ 98 ∷ 67 ∷ 201 ∷ []) ∷ []) ≡ Ok (97 ∷ 98 ∷ 99 ∷ 201 ∷ [])
lower_case = refl

both_ends : string_value (codes "trim" ∷ codes "xyaxy" ∷ codes "yx" ∷ []) ≡ Ok (codes "a")
both_ends = refl

white_ends : string_value (codes "trim" ∷ (32 ∷ 9 ∷ 10 ∷ 11 ∷ 12 ∷ 13 ∷ 97 ∷ 32 ∷ 98 ∷ 13 ∷ 12 ∷ 11 ∷ 10 ∷ 9 ∷ 32 ∷ []) ∷ []) ≡ Ok (codes "a b")
white_ends = refl

zero_kept : string_value (codes "trim" ∷ (0 ∷ 97 ∷ 0 ∷ []) ∷ []) ≡ Ok (0 ∷ 97 ∷ 0 ∷ [])
zero_kept = refl

no_range_of_bytes : string_value (codes "trimleft" ∷ codes "a-z-m" ∷ codes "a-z" ∷ []) ≡ Ok (codes "m")
no_range_of_bytes = refl

end_kept : string_value (codes "trimleft" ∷ codes "  a  " ∷ []) ≡ Ok (codes "a  ")
end_kept = refl

front_kept : string_value (codes "trimright" ∷ codes "  a  " ∷ []) ≡ Ok (codes "  a")
front_kept = refl

first_of_two : string_value (codes "first" ∷ codes "ana" ∷ codes "banana" ∷ []) ≡ Ok (codes "1")
unfolding digits
first_of_two = refl

last_of_two : string_value (codes "last" ∷ codes "ana" ∷ codes "banana" ∷ []) ≡ Ok (codes "3")
unfolding digits
last_of_two = refl

nowhere : string_value (codes "first" ∷ codes "abc" ∷ codes "ab" ∷ []) ≡ Ok (codes "-1")
nowhere = refl

empty_nowhere : string_value (codes "last" ∷ [] ∷ codes "abc" ∷ []) ≡ Ok (codes "-1")
empty_nowhere = refl

star : string_value (codes "match" ∷ codes "a*" ∷ codes "abc" ∷ []) ≡ Ok (codes "1")
star = refl

open_set : string_value (codes "match" ∷ codes "[a" ∷ codes "a" ∷ []) ≡ Ok (codes "0")
open_set = refl

unequal : string_value (codes "equal" ∷ codes "1" ∷ codes "01" ∷ []) ≡ Ok (codes "0")
unequal = refl

by_bytes : string_value (codes "compare" ∷ codes "10" ∷ codes "9" ∷ []) ≡ Ok (codes "-1")
by_bytes = refl

longer : string_value (codes "compare" ∷ codes "a" ∷ codes "ab" ∷ []) ≡ Ok (codes "-1")
longer = refl

greatest_byte : string_value (codes "compare" ∷ (255 ∷ []) ∷ codes "a" ∷ []) ≡ Ok (codes "1")
greatest_byte = refl

thrice : string_value (codes "repeat" ∷ codes "ab" ∷ codes "3" ∷ []) ≡ Ok (codes "ababab")
thrice = refl

not_once : string_value (codes "repeat" ∷ codes "ab" ∷ codes "-1" ∷ []) ≡ Ok []
not_once = refl

one_too_long : string_value (codes "repeat" ∷ codes "ab" ∷ codes "524289" ∷ []) ≡ Err too_long
one_too_long = refl

far_too_long : string_value (codes "repeat" ∷ codes "a" ∷ codes "9223372036854775807" ∷ []) ≡ Err too_long
far_too_long = refl

no_count : string_value (codes "repeat" ∷ codes "ab" ∷ [] ∷ []) ≡ Err (not_whole [])
no_count = refl

first_key : string_value (codes "map" ∷ codes "a Y ab X" ∷ codes "abaab" ∷ []) ≡ Ok (codes "YbYYb")
first_key = refl

longer_key : string_value (codes "map" ∷ codes "ab X a Y" ∷ codes "abaab" ∷ []) ≡ Ok (codes "XYX")
longer_key = refl

not_again : string_value (codes "map" ∷ codes "a b b c" ∷ codes "ab" ∷ []) ≡ Ok (codes "bc")
not_again = refl

empty_key : string_value (codes "map" ∷ codes "{} x a b" ∷ codes "aa" ∷ []) ≡ Ok (codes "bb")
empty_key = refl

key_alone : string_value (codes "map" ∷ codes "a" ∷ codes "abc" ∷ []) ≡ Err (syntax_error (codes "string"))
key_alone = refl

no_list : string_value (codes "map" ∷ codes "{a" ∷ codes "abc" ∷ []) ≡ Err (syntax_error (codes "string"))
no_list = refl

third_field : getfield_value (codes "a,b,c" ∷ codes "," ∷ codes "3" ∷ []) ≡ Ok (codes "c")
third_field = refl

fourth_of_three : getfield_value (codes "a,b,c" ∷ codes "," ∷ codes "4" ∷ []) ≡ Ok []
fourth_of_three = refl

field_zero : getfield_value (codes "a,b,c" ∷ codes "," ∷ codes "0" ∷ []) ≡ Ok []
field_zero = refl

from_the_left : getfield_value (codes "a:::b" ∷ codes "::" ∷ codes "2" ∷ []) ≡ Ok (codes ":b")
from_the_left = refl

one_field : getfield_value (codes "abc" ∷ [] ∷ codes "1" ∷ []) ≡ Ok (codes "abc")
one_field = refl

no_field_number : getfield_value (codes "a,b" ∷ codes "," ∷ codes "x" ∷ []) ≡ Err (not_whole (codes "x"))
no_field_number = refl

no_format : format_value [] ≡ Err (wrong_arity (codes "format"))
no_format = refl

percent : format_value (codes "%5%|" ∷ []) ≡ Ok (codes "%|")
percent = refl

percent_alone : format_value (codes "a%" ∷ []) ≡ Err (syntax_error (codes "format"))
percent_alone = refl

value_missing : format_value (codes "%q %d" ∷ []) ≡ Err (wrong_arity (codes "format"))
value_missing = refl

no_conversion : format_value (codes "%d %q" ∷ codes "x" ∷ []) ≡ Err (syntax_error (codes "format"))
no_conversion = refl

number_before_range : format_value (codes "%x %d" ∷ codes "-1" ∷ codes "x" ∷ []) ≡ Err (not_whole (codes "x"))
number_before_range = refl

negative_octal : format_value (codes "%o" ∷ codes "-1" ∷ []) ≡ Err out_of_range
negative_octal = refl

byte_256 : format_value (codes "%c" ∷ codes "256" ∷ []) ≡ Err out_of_range
byte_256 = refl

zeros_behind_sign : format_value (codes "%05d" ∷ codes "-5" ∷ []) ≡ Ok (codes "-0005")
unfolding digits
zeros_behind_sign = refl

left_beats_zeros : format_value (codes "%0-5d|" ∷ codes "5" ∷ []) ≡ Ok (codes "5    |")
unfolding digits
left_beats_zeros = refl

no_zeros_for_text : format_value (codes "%05s|" ∷ codes "a" ∷ []) ≡ Ok (codes "    a|")
no_zeros_for_text = refl

upper_hexadecimal : format_value (codes "%08X" ∷ codes "48879" ∷ []) ≡ Ok (codes "0000BEEF")
unfolding digits
upper_hexadecimal = refl

byte : format_value (codes "%-5c|" ∷ codes "65" ∷ []) ≡ Ok (codes "A    |")
byte = refl

too_wide : format_value (codes "%1001s" ∷ codes "a" ∷ []) ≡ Err (syntax_error (codes "format"))
too_wide = refl

spare_value : format_value (codes "%s" ∷ codes "a" ∷ codes "b" ∷ []) ≡ Ok (codes "a")
spare_value = refl

least_number : format_value (codes "%d" ∷ codes "-9223372036854775808" ∷ []) ≡ Ok (codes "-9223372036854775808")
unfolding digits
least_number = refl
