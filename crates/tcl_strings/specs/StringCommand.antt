-- The command `string`: the value of each of its forms, or its fault (Tcl 8.4, string(n), without
-- its options).
use Rattle.std.specs.Prelude.{ℕ, Bool, List, [], ◌∷◌, codes, length, Option, Some, None, Result, Ok}
use Rattle.std.specs.Prelude.{Err}
use Rattle.std.specs.Str.{bytes_eq}
use Rattle.px_bytes.specs.FaultText.{syntax_error, wrong_arity}
use Rattle.px_bytes.specs.Letters.{lowered}
use Rattle.px_bytes.specs.declared.fault.TclFault.{TclFault}
use Rattle.tcl_strings.specs.Answer.{number_value, test_value}
use Rattle.tcl_strings.specs.Case.{uppered}
use Rattle.tcl_strings.specs.Form.{form_named}
use Rattle.tcl_strings.specs.Mapping.{map_value}
use Rattle.px_bytes.specs.GlobTest.{matches}
use Rattle.tcl_strings.specs.Order.{compare_value}
use Rattle.tcl_strings.specs.Part.{index_value, range_value}
use Rattle.tcl_strings.specs.Repetition.{repeat_value}
use Rattle.tcl_strings.specs.Search.{first_value, last_value}
use Rattle.px_bytes.specs.ByteSet.{is_among}
use Rattle.tcl_strings.specs.Trim.{trimmed, trimmed_left, trimmed_right, white}
use Rattle.tcl_strings.specs.declared.form.Form.{Form}
use Rattle.tcl_strings.specs.declared.form.Form.TheVariants.{Length, Index, Range, ToLower, ToUpper}
use Rattle.tcl_strings.specs.declared.form.Form.TheVariants.{Trim, TrimLeft, TrimRight, First, Last}
use Rattle.tcl_strings.specs.declared.form.Form.TheVariants.{Match, Equal, Compare, Repeat, Map}

abbrev pub wrong_words : Result (List ℕ) TclFault
wrong_words = Err (wrong_arity (codes "string"))

abbrev pub unknown_form : Result (List ℕ) TclFault
unknown_form = Err (syntax_error (codes "string"))

-- a form of one word, of two, and of three
abbrev pub one : (List ℕ → Result (List ℕ) TclFault) → List (List ℕ) → Result (List ℕ) TclFault
one value [] = wrong_words
one value (a ∷ []) = value a
one value (a ∷ b ∷ more) = wrong_words

abbrev pub two : (List ℕ → List ℕ → Result (List ℕ) TclFault) → List (List ℕ)
    → Result (List ℕ) TclFault
two value [] = wrong_words
two value (a ∷ more) = one (value a) more

abbrev pub three : (List ℕ → List ℕ → List ℕ → Result (List ℕ) TclFault) → List (List ℕ)
    → Result (List ℕ) TclFault
three value [] = wrong_words
three value (a ∷ more) = two (value a) more

-- a form of TEXT and BYTES, which are white space where they aren't given
abbrev pub text_and_bytes : ((ℕ → Bool) → List ℕ → List ℕ) → List (List ℕ)
    → Result (List ℕ) TclFault
text_and_bytes cut [] = wrong_words
text_and_bytes cut (text ∷ []) = Ok (cut (is_among white) text)
text_and_bytes cut (text ∷ bytes ∷ []) = Ok (cut (is_among bytes) text)
text_and_bytes cut (text ∷ bytes ∷ other ∷ more) = wrong_words

-- what a form gives of its words
abbrev pub form_value : Form → List (List ℕ) → Result (List ℕ) TclFault
form_value Length = one (λ text. number_value (length text))
form_value Index = two index_value
form_value Range = three range_value
form_value ToLower = one (λ text. Ok (lowered text))
form_value ToUpper = one (λ text. Ok (uppered text))
form_value Trim = text_and_bytes trimmed
form_value TrimLeft = text_and_bytes trimmed_left
form_value TrimRight = text_and_bytes trimmed_right
form_value First = two first_value
form_value Last = two last_value
form_value Match = two (λ pattern text. test_value (matches pattern text))
form_value Equal = two (λ a b. test_value (bytes_eq a b))
form_value Compare = two compare_value
form_value Repeat = two repeat_value
form_value Map = two map_value

-- "string option arg ?arg ...?"
abbrev pub named_value : Option Form → List (List ℕ) → Result (List ℕ) TclFault
named_value (Some form) words = form_value form words
named_value None words = unknown_form

abbrev pub string_value : List (List ℕ) → Result (List ℕ) TclFault
string_value [] = wrong_words
string_value (name ∷ words) = named_value (form_named name) words
