-- Sentences of the Tcl 8.4 manual, Tcl(n), and of this profile, said of the definitions, so that a
-- slip in them would break a law.
use Rattle.std.specs.Prelude.{◌≡◌, ◌⊎◌, ℕ, ◌+◌, ◌*◌, ◌%◌, ◌<◌, ◌≤◌, List, [], ◌∷◌, length}
use Rattle.std.specs.Prelude.{slice_index, Bool, true, false, Some, IfSome}
use Rattle.tcl_words.specs.Escapes.{digit, with_digit, unit}
use Rattle.tcl_words.specs.Faults.{place_of, noted}
use Rattle.tcl_words.specs.Grammar.{SpellsPart, SpellsParts, SpellsWord, SpellsWords}
use Rattle.tcl_words.specs.Places.{stands, names, opens_name, starts_variable, is_blank, separates}
use Rattle.tcl_words.specs.Places.{closes, in_comment, after_comment_byte, in_gap}
use Rattle.tcl_words.specs.Tree.{Part, plain, variable, element, bracket, Parts, no_parts, and_part}
use Rattle.tcl_words.specs.Tree.{Word, word, Words, and_word, Commands}
use Rattle.tcl_words.specs.Values.{brace_bytes, inner_after}
use Rattle.tcl_words.specs.declared.parse_fault.Fault.{Fault}
use Rattle.tcl_words.specs.declared.places.Closer.{Closer}
use Rattle.tcl_words.specs.declared.places.Closer.TheVariants as closer
use Rattle.tcl_words.specs.declared.progress.Progress.{Progress}
use Rattle.tcl_words.specs.declared.script.Span.{Span}

abbrev pub span_of_part : Part → Span
span_of_part (plain span bytes) = span
span_of_part (variable span name) = span
span_of_part (element span name index) = span
span_of_part (bracket span script) = span

abbrev pub span_of_word : Word → Span
span_of_word (word span form inner raw parts) = span

-- the parts stand from place to place without a gap
abbrev pub Adjoin : ℕ → Parts → ℕ → Type 0
Adjoin at no_parts end = at ≡ end
Adjoin at (and_part p more) end =
    ((span_of_part p).start ≡ at) × Adjoin (span_of_part p).end more end

-- "Substitutions do not affect the word boundaries of a command": what a word substitutes stands in
-- it from end to end, whatever it gives
abbrev pub SubstitutionsSplitNothing : Type 0
SubstitutionsSplitNothing =
    (room : ℕ) (c : Closer) (text : List ℕ) (at : ℕ) (ps : Parts) (end : ℕ)
    → SpellsParts room c text at ps end → Adjoin at ps end

-- "Words of a command are separated by white space"
abbrev pub WhiteSpaceSeparates : Type 0
WhiteSpaceSeparates =
    (room : ℕ) (inside : Bool) (text : List ℕ) (at : ℕ) (v w : Word) (more : Words) (end : ℕ)
    → SpellsWords room inside text at (and_word v (and_word w more)) end
    → (is_blank text (span_of_word v).end ≡ true) × ((span_of_word v).end < (span_of_word w).start)

-- what ends the word around a bracket doesn't end the bracket, nor is it looked for inside
abbrev pub BracketsShield : Type 0
BracketsShield =
    (room : ℕ) (c d : Closer) (text : List ℕ) (at : ℕ) (span : Span) (script : Commands) (end : ℕ)
    → SpellsPart room c text at (bracket span script) end
    → SpellsPart room d text at (bracket span script) end

-- nor an index
abbrev pub IndexesShield : Type 0
IndexesShield =
    (room : ℕ) (c d : Closer) (text : List ℕ) (at : ℕ) (span : Span) (name : List ℕ) (index : Parts) (end : ℕ)
    → SpellsPart room c text at (element span name index) end
    → SpellsPart room d text at (element span name index) end

-- "If the first character of a word is double-quote then the word is terminated by the next
-- double-quote character": white space, separators and close brackets are ordinary in it
abbrev pub QuotesEndAtQuotes : Type 0
QuotesEndAtQuotes =
    (text : List ℕ) (at : ℕ) → at < length text → closes closer.Quote text at ≡ stands text at 34

-- a close bracket ends a word inside a bracket, and none outside
abbrev pub BracketsEndWords : Type 0
BracketsEndWords =
    (text : List ℕ) (at : ℕ) → stands text at 93 ≡ true
    → (closes closer.BracketWord text at ≡ true) × (closes closer.Word text at ≡ false)

-- "Semi-colons and newlines are command separators"
abbrev pub SeparatorsEndWords : Type 0
SeparatorsEndWords =
    (text : List ℕ) (at : ℕ) → (stands text at 59 ≡ true) ⊎ (stands text at 10 ≡ true)
    → closes closer.Word text at ≡ true

-- this profile: a carriage return is no white space
abbrev pub ReturnIsOrdinary : Type 0
ReturnIsOrdinary =
    (text : List ℕ) (at : ℕ) → stands text at 13 ≡ true → separates text at ≡ false

-- "No substitutions are performed on the characters between the braces except for
-- backslash-newline substitutions"
abbrev pub BracesKeepBytes : Type 0
BracesKeepBytes =
    (text : List ℕ) (at : ℕ) → stands text at 92 ≡ false
    → brace_bytes text at ≡ slice_index text at ∷ []

abbrev pub BracesKeepBackslashes : Type 0
BracesKeepBackslashes =
    (text : List ℕ) (at : ℕ) → stands text at 92 ≡ true → stands text (at + 1) 10 ≡ false
    → at + 1 < length text → brace_bytes text at ≡ 92 ∷ slice_index text (at + 1) ∷ []

abbrev pub BracesReplaceNewlines : Type 0
BracesReplaceNewlines =
    (text : List ℕ) (at : ℕ) → stands text at 92 ≡ true → stands text (at + 1) 10 ≡ true
    → brace_bytes text at ≡ 32 ∷ []

-- "If an open brace or close brace within the word is quoted with a backslash then it is not
-- counted"
abbrev pub BackslashedBracesDontCount : Type 0
BackslashedBracesDontCount =
    (text : List ℕ) (at inner : ℕ) → stands text at 92 ≡ true → inner_after text at inner ≡ inner

-- "The characters .. up through the next newline are treated as a comment"
abbrev pub NewlinesEndComments : Type 0
NewlinesEndComments =
    (text : List ℕ) (at : ℕ) → stands text at 10 ≡ true → in_comment text at ≡ false

-- but a backslash before it, which none escapes, continues the comment
abbrev pub BackslashesContinueComments : Type 0
BackslashesContinueComments =
    (text : List ℕ) (at : ℕ) → stands text at 92 ≡ true → at + 1 < length text
    → (in_comment text at ≡ true) × (after_comment_byte text at ≡ at + 2)

-- "If a hash character appears at a point where Tcl is expecting the first character of the first
-- word of a command", a comment begins; anywhere else it is ordinary
abbrev pub HashesBeginComments : Type 0
HashesBeginComments =
    (text : List ℕ) (at : ℕ) → stands text at 35 ≡ true
    → (in_gap text at ≡ true) × (closes closer.Word text at ≡ false)

-- a dollar sign before anything else than a name is itself
abbrev pub LoneDollars : Type 0
LoneDollars =
    (text : List ℕ) (at : ℕ) → stands text at 36 ≡ true → names text (at + 1) ≡ false
    → opens_name text at ≡ false
    → (starts_variable text at ≡ false) × (unit text at ≡ (36, at + 1))

-- "All but the last two hexadecimal digits are ignored"
abbrev pub LastTwoDigits : Type 0
LastTwoDigits =
    (number a b : ℕ)
    → with_digit 16 (with_digit 16 number a) b % 256 ≡ (digit a * 16 + digit b) % 256

-- where there is no room for one more construct, none is opened
abbrev pub DepthIsLimited : Type 0
DepthIsLimited =
    (c : Closer) (text : List ℕ) (at : ℕ) (span : Span) (script : Commands) (end : ℕ)
    → SpellsPart 0 c text at (bracket span script) end → ⊥

abbrev pub DepthLimitsIndexes : Type 0
DepthLimitsIndexes =
    (c : Closer) (text : List ℕ) (at : ℕ) (span : Span) (name : List ℕ) (index : Parts) (end : ℕ)
    → SpellsPart 0 c text at (element span name index) end → ⊥

abbrev pub DepthLimitsWords : Type 0
DepthLimitsWords =
    (inside : Bool) (text : List ℕ) (at : ℕ) (w : Word) (end : ℕ)
    → SpellsWord 0 inside text at w end → (stands text at 34 ≡ false) × (stands text at 123 ≡ false)

-- of the faults of a text the one with the least place is told
abbrev pub LeastPlaceIsTold : Type 0
LeastPlaceIsTold =
    (f g : Fault) (s : Progress) → (noted f s).fault ≡ Some g
    → (place_of g ≤ place_of f) × IfSome s.fault (λ e. place_of g ≤ place_of e)
