-- Words without substitution, and how a word is written.
use Rattle.std.specs.Prelude.{ℕ, List, [], ◌∷◌, Bool, true, false, ◌==◌, Option, Some, None}
use Rattle.std.specs.Str.{bytes_eq}
use Rattle.tcl_words.specs.Tree.{Word, word}
use Rattle.tcl_words.specs.declared.script.Form.TheVariants.{Quoted, Braced}

-- the bytes of a word without substitution: it stands in braces, or has no variable, bracket or
-- backslash
abbrev pub raw_of : Word → Option (List ℕ)
raw_of (word span form inner raw parts) = raw

abbrev pub are_bytes : List ℕ → Option (List ℕ) → Bool
are_bytes text None = false
are_bytes text (Some bytes) = bytes_eq bytes text

-- the word is this text, without substitution
abbrev pub is_text : List ℕ → Word → Bool
is_text text w = are_bytes text (raw_of w)

abbrev pub begins_with : ℕ → List ℕ → Bool
begins_with byte [] = false
begins_with byte (b ∷ bs) = b == byte

-- the word begins with the byte, without substitution
abbrev pub bytes_begin : ℕ → Option (List ℕ) → Bool
bytes_begin byte None = false
bytes_begin byte (Some bytes) = begins_with byte bytes

abbrev pub is_substituted : Option (List ℕ) → Bool
is_substituted None = true
is_substituted (Some bytes) = false

abbrev pub is_quoted : Word → Bool
is_quoted (word span Quoted inner raw parts) = true
is_quoted w = false

abbrev pub is_braced : Word → Bool
is_braced (word span Braced inner raw parts) = true
is_braced w = false
