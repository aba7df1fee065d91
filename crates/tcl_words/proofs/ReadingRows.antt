-- Outside rows, by computation.
use Rattle.std.proofs.Common.{◌≡◌, [], ◌∷◌, ◌++◌, refl, codes, Ok, Err, None}
use Rattle.tcl_words.specs.Escapes.{digit, is_digit, with_digit, digits, letter, after_backslash}
use Rattle.tcl_words.specs.Escapes.{escape, unit}
use Rattle.tcl_words.specs.Faults.{comes_first, noted, closed}
use Rattle.tcl_words.specs.Finish.{is_literal}
use Rattle.tcl_words.specs.Places.{stands, is_letter, letter_stands, names, after_name, opens_name}
use Rattle.tcl_words.specs.Places.{in_name, starts_variable, skips_newline, is_space, is_blank}
use Rattle.tcl_words.specs.Places.{after_blank, separates, closes, ends_run, ends_script}
use Rattle.tcl_words.specs.Places.{ends_command, in_comment, after_comment_byte, in_gap}
use Rattle.tcl_words.specs.Reading.{read_braced, read_name, named, read_variable, read_part, parts}
use Rattle.tcl_words.specs.Reading.{trailing, read_word, words, read_command, commands, level}
use Rattle.tcl_words.specs.Reading.{limit, reading}
use Rattle.tcl_words.specs.Skips.{skip, spaces_end, name_end, brace_end, blanks_end, comment_end}
use Rattle.tcl_words.specs.Skips.{after_gap_part, gap_end}
use Rattle.tcl_words.specs.Tree.{plain, variable, no_parts, and_part, word, no_words, and_word}
use Rattle.tcl_words.specs.Tree.{command, no_commands, and_command, from_to}
use Rattle.tcl_words.specs.Values.{many, next_byte, run, brace_bytes, brace_unit_end, inner_after}
use Rattle.tcl_words.specs.Values.{deepened, ends_braces, braces}
use Rattle.tcl_words.specs.declared.parse_fault.Fault.TheVariants.{MissingBrace, MissingBracket}
use Rattle.tcl_words.specs.declared.parse_fault.Fault.TheVariants.{ExtraAfter, BadEscape}
use Rattle.tcl_words.specs.declared.script.Form.TheVariants.{Bare}

open_brace : reading (codes "set x {") ≡ Err (MissingBrace 6)
unfolding digit is_digit with_digit digits letter after_backslash escape unit comes_first noted closed is_literal stands is_letter letter_stands names after_name opens_name in_name starts_variable skips_newline is_space is_blank after_blank separates closes ends_run ends_script ends_command in_comment after_comment_byte in_gap read_braced read_name named read_variable read_part parts trailing read_word words read_command commands level limit reading skip spaces_end name_end brace_end blanks_end comment_end after_gap_part gap_end many next_byte run brace_bytes brace_unit_end inner_after deepened ends_braces braces
open_brace = refl

open_bracket : reading (codes "set x [a") ≡ Err (MissingBracket 6)
unfolding digit is_digit with_digit digits letter after_backslash escape unit comes_first noted closed is_literal stands is_letter letter_stands names after_name opens_name in_name starts_variable skips_newline is_space is_blank after_blank separates closes ends_run ends_script ends_command in_comment after_comment_byte in_gap read_braced read_name named read_variable read_part parts trailing read_word words read_command commands level limit reading skip spaces_end name_end brace_end blanks_end comment_end after_gap_part gap_end many next_byte run brace_bytes brace_unit_end inner_after deepened ends_braces braces
open_bracket = refl

-- the opener that stays open comes before the fault inside
least_place : reading (codes "[a " ++ 34 ∷ 98 ∷ 34 ∷ 99 ∷ []) ≡ Err (MissingBracket 0)
unfolding digit is_digit with_digit digits letter after_backslash escape unit comes_first noted closed is_literal stands is_letter letter_stands names after_name opens_name in_name starts_variable skips_newline is_space is_blank after_blank separates closes ends_run ends_script ends_command in_comment after_comment_byte in_gap read_braced read_name named read_variable read_part parts trailing read_word words read_command commands level limit reading skip spaces_end name_end brace_end blanks_end comment_end after_gap_part gap_end many next_byte run brace_bytes brace_unit_end inner_after deepened ends_braces braces
least_place = refl

extra : reading (codes "a " ++ 34 ∷ 98 ∷ 34 ∷ 99 ∷ []) ≡ Err (ExtraAfter 5)
unfolding digit is_digit with_digit digits letter after_backslash escape unit comes_first noted closed is_literal stands is_letter letter_stands names after_name opens_name in_name starts_variable skips_newline is_space is_blank after_blank separates closes ends_run ends_script ends_command in_comment after_comment_byte in_gap read_braced read_name named read_variable read_part parts trailing read_word words read_command commands level limit reading skip spaces_end name_end brace_end blanks_end comment_end after_gap_part gap_end many next_byte run brace_bytes brace_unit_end inner_after deepened ends_braces braces
extra = refl

bad_escape : reading (codes "a " ++ 92 ∷ codes "u0100") ≡ Err (BadEscape 2)
unfolding digit is_digit with_digit digits letter after_backslash escape unit comes_first noted closed is_literal stands is_letter letter_stands names after_name opens_name in_name starts_variable skips_newline is_space is_blank after_blank separates closes ends_run ends_script ends_command in_comment after_comment_byte in_gap read_braced read_name named read_variable read_part parts trailing read_word words read_command commands level limit reading skip spaces_end name_end brace_end blanks_end comment_end after_gap_part gap_end many next_byte run brace_bytes brace_unit_end inner_after deepened ends_braces braces
bad_escape = refl

-- two colons go on with a name, and a third doesn't
colons : reading (codes "$a:::b") ≡ Ok (and_command (command (from_to 0 6)
    (and_word (word (from_to 0 6) Bare (from_to 0 6) None
    (and_part (variable (from_to 0 4) (codes "a::"))
    (and_part (plain (from_to 4 6) (codes ":b")) no_parts))) no_words)) no_commands)
unfolding digit is_digit with_digit digits letter after_backslash escape unit comes_first noted closed is_literal stands is_letter letter_stands names after_name opens_name in_name starts_variable skips_newline is_space is_blank after_blank separates closes ends_run ends_script ends_command in_comment after_comment_byte in_gap read_braced read_name named read_variable read_part parts trailing read_word words read_command commands level limit reading skip spaces_end name_end brace_end blanks_end comment_end after_gap_part gap_end many next_byte run brace_bytes brace_unit_end inner_after deepened ends_braces braces
colons = refl
