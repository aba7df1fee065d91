-- Which script a text spells: one rule for each shape of the tree, each with the sentence of the
-- Tcl 8.4 manual, Tcl(n), that it states. All places are places in the whole text, and the trees
-- stand from one place to another. `room` is how many constructs more may be open.
use Rattle.std.specs.Prelude.{◌≡◌, ◌⊎◌, ℕ, zero, suc, ◌+◌, ◌<◌, List, [], ◌∷◌, ◌++◌, slice_range}
use Rattle.std.specs.Prelude.{Bool, true, false, ◌&&◌, nat_le, Option}
use Rattle.tcl_words.specs.Escapes.{unit}
use Rattle.tcl_words.specs.Finish.{raw_of}
use Rattle.tcl_words.specs.Places.{stands, opens_name, starts_variable, closes, word_closer}
use Rattle.tcl_words.specs.Places.{ends_run, ends_script, ends_command}
use Rattle.tcl_words.specs.Skips.{name_end, brace_end, blanks_end, gap_end}
use Rattle.tcl_words.specs.Tree.{Part, plain, variable, element, bracket, Parts, no_parts, and_part}
use Rattle.tcl_words.specs.Tree.{Word, word, Words, no_words, and_word, Command, command, Commands}
use Rattle.tcl_words.specs.Tree.{no_commands, and_command, from_to}
use Rattle.tcl_words.specs.Values.{brace_bytes, brace_unit_end, inner_after, ends_braces}
use Rattle.tcl_words.specs.declared.places.Closer.{Closer}
use Rattle.tcl_words.specs.declared.places.Closer.TheVariants.{Quote, Paren}
use Rattle.tcl_words.specs.declared.script.Form.{Form}
use Rattle.tcl_words.specs.declared.script.Form.TheVariants.{Bare, Quoted, Braced}
use Rattle.tcl_words.specs.declared.script.Span.{Span}

-- A construct that is open inside another takes one place of the room. It ends with its last byte,
-- after which the text goes on.
pub record Enclosed (room : ℕ) (Inside : ℕ → ℕ → Type 0) (text : List ℕ) (last end : ℕ) : Type 0 where
  pub below : ℕ
  pub close : ℕ
  pub has_room : room ≡ suc below
  pub inside : Inside below close
  pub is_closed : stands text close last ≡ true
  pub end_is : end ≡ close + 1

-- Plain bytes, up to the next construct or the word's end. Backslash substitution: an escape stands
-- for one byte, and a character numbered above 255 has none.
abbrev pub SpellsRun : Closer → List ℕ → ℕ → List ℕ → ℕ → Type 0
SpellsRun c text at [] end = (ends_run c text at ≡ true) × (at ≡ end)
SpellsRun c text at (b ∷ bs) end =
    (mid : ℕ) × (ends_run c text at ≡ false) × (unit text at ≡ (b, mid)) × (b < 256)
    × SpellsRun c text mid bs end

-- Braces: "braces nest within the word: for each additional open brace there must be an additional
-- close brace (however, if an open brace or close brace within the word is quoted with a backslash
-- then it is not counted in locating the matching close brace)". The bytes are n single ones or
-- escapes; `inner` counts the braces that are open inside the word's own.
abbrev pub SpellsBraces : ℕ → ℕ → List ℕ → ℕ → ℕ → List ℕ → ℕ → Type 0
SpellsBraces zero room text inner at bytes end =
    (ends_braces text inner at ≡ true) × (bytes ≡ []) × (at ≡ end)
SpellsBraces (suc n) room text inner at bytes end =
    (more : List ℕ) × (ends_braces text inner at ≡ false)
    × ((stands text at 123 && nat_le room inner) ≡ false) × (bytes ≡ brace_bytes text at ++ more)
    × SpellsBraces n room text (inner_after text at inner) (brace_unit_end text at) more end

-- Variable substitution: "the name is a sequence of one or more characters that are a letter,
-- digit, underscore, or namespace separators"; the name has as many as there are
pub record SpellsName (text : List ℕ) (at : ℕ) (name : List ℕ) (end : ℕ) : Type 0 where
  pub starts : starts_variable text at ≡ true
  pub unbraced : opens_name text at ≡ false
  pub end_is : end ≡ name_end text (at + 1)
  pub name_is : name ≡ slice_range text (at + 1) end

-- `$name`, and no index after it
pub record SpellsVariable (text : List ℕ) (at : ℕ) (name : List ℕ) (end : ℕ) : Type 0 where
  pub named : SpellsName text at name end
  pub no_index : stands text end 40 ≡ false

-- `${name}`: the name "may contain any characters whatsoever except for close braces"
pub record SpellsBracedName (room : ℕ) (text : List ℕ) (at : ℕ) (name : List ℕ) (end : ℕ) : Type 0 where
  pub opens : opens_name text at ≡ true
  pub enclosed : Enclosed room (λ below close. (close ≡ brace_end text (at + 2))
      × (name ≡ slice_range text (at + 2) close)) text 125 end

-- a word stands from its first byte to its last, and its inner bytes between its quotes or braces
pub record IsWhole (text : List ℕ) (form : Form) (at end start close : ℕ) (span inner : Span)
    (raw : Option (List ℕ)) (parts : Parts) : Type 0 where
  pub span_is : span ≡ from_to at end
  pub inner_is : inner ≡ from_to start close
  pub raw_is : raw ≡ raw_of form (slice_range text start close) parts

-- an empty word has one empty plain part
abbrev pub empty_part : ℕ → Parts
empty_part at = and_part (plain (from_to at at) []) no_parts

abbrev mutual
  -- one part, in which the closer ends nothing
  pub SpellsPart : ℕ → Closer → List ℕ → ℕ → Part → ℕ → Type 0
  SpellsPart room c text at (plain span bytes) end =
      (span ≡ from_to at end) × (stands text at 91 ≡ false) × (starts_variable text at ≡ false)
      × SpellsRun c text at bytes end
  -- Variable substitution: "the dollar-sign and the following characters are replaced in the word
  -- by the value of a variable"
  SpellsPart room c text at (variable span name) end =
      (span ≡ from_to at end)
      × (SpellsVariable text at name end ⊎ SpellsBracedName room text at name end)
  -- `$name(index)`: "command substitutions, variable substitutions, and backslash substitutions are
  -- performed on the characters of index"
  SpellsPart room c text at (element span name index) end =
      (open_at : ℕ) × (span ≡ from_to at end) × SpellsName text at name open_at
      × (stands text open_at 40 ≡ true)
      × Enclosed room (λ below close. SpellsParts below Paren text (open_at + 1) index close)
      text 41 end
  -- Command substitution: "the script may contain any number of commands and must be terminated by
  -- a close bracket"
  SpellsPart room c text at (bracket span script) end =
      (span ≡ from_to at end) × (stands text at 91 ≡ true)
      × Enclosed room (λ below close. (last : ℕ) × (close ≡ gap_end text last)
      × SpellsCommands below true text (at + 1) script last) text 93 end

  -- parts up to the closer
  pub SpellsParts : ℕ → Closer → List ℕ → ℕ → Parts → ℕ → Type 0
  SpellsParts room c text at no_parts end = (closes c text at ≡ true) × (at ≡ end)
  SpellsParts room c text at (and_part p more) end =
      (mid : ℕ) × (closes c text at ≡ false) × SpellsPart room c text at p mid
      × SpellsParts room c text mid more end

  -- one word, inside a bracket or not
  pub SpellsWord : ℕ → Bool → List ℕ → ℕ → Word → ℕ → Type 0
  SpellsWord room inside text at (word span Bare inner raw parts) end =
      (stands text at 34 ≡ false) × (stands text at 123 ≡ false)
      × SpellsParts room (word_closer inside) text at parts end
      × IsWhole text Bare at end at end span inner raw parts
  -- Double quotes: "if the first character of a word is double-quote then the word is terminated by
  -- the next double-quote character"; then the word ends
  SpellsWord room inside text at (word span Quoted inner raw parts) end =
      (stands text at 34 ≡ true) × (closes (word_closer inside) text end ≡ true)
      × (e : Enclosed room (λ below close.
      (closes Quote text (at + 1) ≡ true) × (at + 1 ≡ close) × (parts ≡ empty_part (at + 1))
      ⊎ (closes Quote text (at + 1) ≡ false)
      × SpellsParts below Quote text (at + 1) parts close) text 34 end)
      × IsWhole text Quoted at end (at + 1) e.close span inner raw parts
  -- Braces: "if the first character of a word is an open brace then the word is terminated by the
  -- matching close brace"; then the word ends
  SpellsWord room inside text at (word span Braced inner raw parts) end =
      (stands text at 123 ≡ true) × (closes (word_closer inside) text end ≡ true)
      × (e : Enclosed room (λ below close.
      (n : ℕ) × (bytes : List ℕ) × SpellsBraces n below text 0 (at + 1) bytes close
      × (parts ≡ and_part (plain (from_to (at + 1) close) bytes) no_parts)) text 125 end)
      × IsWhole text Braced at end (at + 1) e.close span inner raw parts

  -- Words: "words of a command are separated by white space"
  pub SpellsWords : ℕ → Bool → List ℕ → ℕ → Words → ℕ → Type 0
  SpellsWords room inside text at no_words end =
      (ends_command inside text (blanks_end text at) ≡ true) × (at ≡ end)
  SpellsWords room inside text at (and_word w more) end =
      (mid : ℕ) × (ends_command inside text (blanks_end text at) ≡ false)
      × SpellsWord room inside text (blanks_end text at) w mid
      × SpellsWords room inside text mid more end

  pub SpellsCommand : ℕ → Bool → List ℕ → ℕ → Command → ℕ → Type 0
  SpellsCommand room inside text at (command span words) end =
      (span ≡ from_to at end) × SpellsWords room inside text at words end

  -- Commands: "a Tcl script is a string containing one or more commands"; between them stand
  -- separators, blanks and comments
  pub SpellsCommands : ℕ → Bool → List ℕ → ℕ → Commands → ℕ → Type 0
  SpellsCommands room inside text at no_commands end =
      (ends_script inside text (gap_end text at) ≡ true) × (at ≡ end)
  SpellsCommands room inside text at (and_command c more) end =
      (mid : ℕ) × (ends_script inside text (gap_end text at) ≡ false)
      × SpellsCommand room inside text (gap_end text at) c mid
      × SpellsCommands room inside text mid more end

-- the text is this script, in which no more than a hundred constructs are open at any place
abbrev pub Spells : List ℕ → Commands → Type 0
Spells text tree = (end : ℕ) × SpellsCommands 100 false text 0 tree end
