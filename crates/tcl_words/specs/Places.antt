-- Which bytes part words and commands. All places are places in the whole text.
use Rattle.std.specs.Prelude.{ℕ, ◌+◌, List, length, slice_index, Bool, true, false, ◌&&◌, ◌||◌}
use Rattle.std.specs.Prelude.{◌==◌, nat_lt, nat_le, not, if◌then◌else◌}
use Rattle.tcl_words.specs.declared.places.Closer.{Closer}
use Rattle.tcl_words.specs.declared.places.Closer.TheVariants.{Word, BracketWord, Quote, Paren}

-- the byte stands at the place
unfoldable pub stands : List ℕ → ℕ → ℕ → Bool
stands text at b = nat_lt at (length text) && (slice_index text at == b)

-- Variable substitution: a name's characters are "a letter, digit, underscore, or namespace
-- separators (two or more colons)"; here of two colons
unfoldable pub is_letter : ℕ → Bool
is_letter b = ((nat_le 97 b && nat_le b 122 || nat_le 65 b && nat_le b 90)
    || nat_le 48 b && nat_le b 57) || (b == 95)

unfoldable pub letter_stands : List ℕ → ℕ → Bool
letter_stands text at = nat_lt at (length text) && is_letter (slice_index text at)

unfoldable pub names : List ℕ → ℕ → Bool
names text at = letter_stands text at || stands text at 58 && stands text (at + 1) 58

unfoldable pub after_name : List ℕ → ℕ → ℕ
after_name text at = if letter_stands text at then at + 1 else at + 2

-- `${`
unfoldable pub opens_name : List ℕ → ℕ → Bool
opens_name text at = stands text at 36 && stands text (at + 1) 123

-- `${name}`: the name "may contain any characters whatsoever except for close braces"
unfoldable pub in_name : List ℕ → ℕ → Bool
in_name text at = nat_lt at (length text) && not (stands text at 125)

-- a dollar sign with a name after it; any other dollar sign is itself
unfoldable pub starts_variable : List ℕ → ℕ → Bool
starts_variable text at = opens_name text at || stands text at 36 && names text (at + 1)

unfoldable pub skips_newline : List ℕ → ℕ → Bool
skips_newline text at = stands text at 92 && stands text (at + 1) 10

-- this profile: white space between words is blanks and tabs
unfoldable pub is_space : List ℕ → ℕ → Bool
is_space text at = stands text at 32 || stands text at 9

-- a blank, a tab or a backslash-newline
unfoldable pub is_blank : List ℕ → ℕ → Bool
is_blank text at = is_space text at || skips_newline text at

-- a backslash-newline is two bytes, and any other blank is one
unfoldable pub after_blank : List ℕ → ℕ → ℕ
after_blank text at = if skips_newline text at then at + 2 else at + 1

-- Commands: "semi-colons and newlines are command separators"
unfoldable pub separates : List ℕ → ℕ → Bool
separates text at = is_blank text at || stands text at 10 || stands text at 59

abbrev pub closes_by : Closer → List ℕ → ℕ → Bool
closes_by Word text at = separates text at
closes_by BracketWord text at = separates text at || stands text at 93
closes_by Quote text at = stands text at 34
closes_by Paren text at = stands text at 41

-- the parts end at the place
unfoldable pub closes : Closer → List ℕ → ℕ → Bool
closes c text at = nat_le (length text) at || closes_by c text at

-- what ends a word without quotes, inside a bracket or not
abbrev pub word_closer : Bool → Closer
word_closer false = Word
word_closer true = BracketWord

-- a run of plain bytes ends at the place
unfoldable pub ends_run : Closer → List ℕ → ℕ → Bool
ends_run c text at = closes c text at || stands text at 91 || starts_variable text at

-- the script ends at the place, where it stands inside a bracket or not
unfoldable pub ends_script : Bool → List ℕ → ℕ → Bool
ends_script inside text at = nat_le (length text) at || inside && stands text at 93

unfoldable pub ends_command : Bool → List ℕ → ℕ → Bool
ends_command inside text at = ends_script inside text at || stands text at 10 || stands text at 59

-- Comments: the characters "through the next newline are treated as a comment and ignored"
unfoldable pub in_comment : List ℕ → ℕ → Bool
in_comment text at = nat_lt at (length text) && not (slice_index text at == 10)

-- a backslash takes the byte after it along, so that a backslash-newline continues the comment
unfoldable pub after_comment_byte : List ℕ → ℕ → ℕ
after_comment_byte text at =
    if (slice_index text at == 92) && nat_lt (at + 1) (length text) then at + 2 else at + 1

-- between two commands stand blanks, separators and comments
unfoldable pub in_gap : List ℕ → ℕ → Bool
in_gap text at = separates text at || stands text at 35
