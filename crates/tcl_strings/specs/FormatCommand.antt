-- The command `format`: its value, or its fault (Tcl 8.4, format(n)).
use Rattle.std.specs.Prelude.{ℕ, ℤ, pos, negsuc, Bool, true, false, List, [], ◌∷◌, codes, not}
use Rattle.std.specs.Prelude.{Option, Some, None, Result, Err, nat_le, if◌then◌else◌}
use Rattle.std.specs.List.{flat_map, list_any}
use Rattle.px_bytes.specs.FaultText.{not_whole, out_of_range, syntax_error, wrong_arity}
use Rattle.px_bytes.specs.Whole.{whole}
use Rattle.px_bytes.specs.declared.fault.TclFault.{TclFault}
use Rattle.tcl_strings.specs.Field.{Field, value, missing, unknown, fields}
use Rattle.tcl_strings.specs.FieldText.{field_text, number_of}
use Rattle.px_bytes.specs.Limit.{limited}
use Rattle.tcl_strings.specs.declared.conversion.Letter.{Letter}
use Rattle.tcl_strings.specs.declared.conversion.Letter.TheVariants.{Text, Decimal, Byte}
use Rattle.tcl_strings.specs.declared.flaw.Flaw.{Flaw}
use Rattle.tcl_strings.specs.declared.flaw.Flaw.TheVariants.{Missing, Unknown, OutOfRange}

-- whether a number can be written so: below 0 only in decimal, and as a byte only 0 to 255
abbrev pub can_write : Letter → ℤ → Bool
can_write Text n = true
can_write Decimal n = true
can_write Byte (pos n) = nat_le n 255
can_write Byte (negsuc n) = false
can_write letter (pos n) = true
can_write letter (negsuc n) = false

-- what can be wrong with a piece
abbrev pub has_flaw : Flaw → Field → Bool
has_flaw Missing missing = true
has_flaw Unknown unknown = true
has_flaw OutOfRange (value c text) = not (can_write c.letter (number_of text))
has_flaw flaw field = false

-- a text that isn't a whole number
abbrev pub unless_whole : List ℕ → Option ℤ → Option (List ℕ)
unless_whole text (Some n) = None
unless_whole text None = Some text

-- the value of a piece, where it has to be a whole number and isn't one
abbrev pub bad_by : Letter → List ℕ → Option (List ℕ)
bad_by Text text = None
bad_by letter text = unless_whole text (whole text)

abbrev pub bad_value : Field → Option (List ℕ)
bad_value (value c text) = bad_by c.letter text
bad_value field = None

abbrev pub this_or : Option (List ℕ) → Option (List ℕ) → Option (List ℕ)
this_or (Some this) others = Some this
this_or None others = others

-- the first such value
abbrev pub first_bad : List Field → Option (List ℕ)
first_bad [] = None
first_bad (f ∷ fs) = this_or (bad_value f) (first_bad fs)

abbrev pub unless_bad : Option (List ℕ) → Result (List ℕ) TclFault → Result (List ℕ) TclFault
unless_bad (Some word) result = Err (not_whole word)
unless_bad None result = result

-- First every conversion has to have its value, then to be one of those that there are, then each
-- number has to be one, and then to be in range; a value too many is ignored.
abbrev pub fields_value : List Field → Result (List ℕ) TclFault
fields_value fs =
    if list_any (has_flaw Missing) fs then Err (wrong_arity (codes "format"))
    else (if list_any (has_flaw Unknown) fs then Err (syntax_error (codes "format"))
    else unless_bad (first_bad fs)
    (if list_any (has_flaw OutOfRange) fs then Err out_of_range
    else limited (flat_map field_text fs)))

abbrev pub format_value : List (List ℕ) → Result (List ℕ) TclFault
format_value [] = Err (wrong_arity (codes "format"))
format_value (format ∷ values) = fields_value (fields format values)
