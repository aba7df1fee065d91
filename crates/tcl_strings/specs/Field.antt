-- What a format writes, one piece after another: Tcl 8.4, format(n).
use Rattle.std.specs.Prelude.{◌≡◌, ℕ, zero, suc, List, [], ◌∷◌, length, Option, Some, None, ◌==◌}
use Rattle.std.specs.Prelude.{if◌then◌else◌}
use Rattle.tcl_strings.specs.Conversion.{item_len, item_of}
use Rattle.tcl_strings.specs.declared.conversion.Conversion.{Conversion}
use Rattle.tcl_strings.specs.declared.conversion.Item.{Item}
use Rattle.tcl_strings.specs.declared.conversion.Item.TheVariants.{Percent, Asks, TooWide, Unknown}
use Rattle.tcl_strings.specs.declared.field.Field as code
use Rattle.tcl_strings.specs.declared.field.Field.TheVariants as code_field
use Rattle.tcl_strings.specs.declared.field.Next.{Next}
use Rattle.tcl_strings.specs.declared.field.Rest.{Rest}

-- a byte that stands for itself, a conversion with its value or without one, or a conversion that
-- there is not
pub data Field : Type 0 where
  byte : ℕ → Field
  value : Conversion → List ℕ → Field
  missing : Field
  unknown : Field

-- a piece, and those that stand behind it: each conversion takes the next of the values, also one
-- of a width that there is not
abbrev pub with_item : Item → List (List ℕ) → (List (List ℕ) → List Field) → List Field
with_item Percent values more = byte 37 ∷ more values
with_item Unknown values more = unknown ∷ more values
with_item (Asks c) [] more = missing ∷ more []
with_item (Asks c) (v ∷ values) more = value c v ∷ more values
with_item TooWide [] more = missing ∷ more []
with_item TooWide (v ∷ values) more = unknown ∷ more values

-- the pieces of a format behind its first `skip` bytes, with the values for them
abbrev pub fields_from : ℕ → List ℕ → List (List ℕ) → List Field
fields_from skip [] values = []
fields_from (suc skip) (b ∷ format) values = fields_from skip format values
fields_from zero (b ∷ format) values =
    if b == 37 then with_item (item_of format) values (fields_from (item_len format) format)
    else byte b ∷ fields_from 0 format values

abbrev pub fields : List ℕ → List (List ℕ) → List Field
fields format values = fields_from 0 format values

abbrev pub fields_left : Rest → List Field
fields_left rest = fields rest.format.now rest.values.now

-- a piece of the code
abbrev pub field_of : code.Field → Field
field_of (code_field.Byte b) = byte b
field_of (code_field.Value c v) = value c v.now
field_of code_field.Missing = missing
field_of code_field.Unknown = unknown

-- the pieces are this one and those of what is left behind it
abbrev pub IsNext : Rest → Option Next → Type 0
IsNext rest None = fields_left rest ≡ []
IsNext rest (Some next) =
    fields_left rest ≡ field_of next.field ∷ fields_left next.rest

-- the same of an item before a format
abbrev pub IsWith : Item → List ℕ → List (List ℕ) → Next → Type 0
IsWith item format values next =
    with_item item values (fields format) ≡ field_of next.field ∷ fields_left next.rest

abbrev pub IsAsked : Conversion → Rest → Next → Type 0
IsAsked c rest next = IsWith (Asks c) rest.format.now rest.values.now next

-- how many bytes of a format are left
abbrev pub left_of : Rest → ℕ
left_of rest = length rest.format.now
