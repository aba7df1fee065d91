-- What a text says, read from left to right. A text with faults is read on, so that each
-- construct's end is known; the least fault is kept.
use Rattle.std.specs.Prelude.{ℕ, zero, suc, ◌+◌, ◌-◌, List, length, slice_range, Bool, true, false}
use Rattle.std.specs.Prelude.{◌==◌, Option, Some, None, Result, Ok, Err, if◌then◌else◌}
use Rattle.tcl_words.specs.Deep.{deep_end}
use Rattle.tcl_words.specs.Faults.{noted, to, closed}
use Rattle.tcl_words.specs.Finish.{finished}
use Rattle.tcl_words.specs.Places.{stands, opens_name, starts_variable, closes, ends_script}
use Rattle.tcl_words.specs.Places.{ends_command, word_closer}
use Rattle.tcl_words.specs.Skips.{turns, name_end, brace_end, blanks_end, gap_end}
use Rattle.tcl_words.specs.Tree.{Part, plain, variable, element, bracket, Parts, no_parts, and_part}
use Rattle.tcl_words.specs.Tree.{Word, word, Words, no_words, and_word, Command, command, Commands}
use Rattle.tcl_words.specs.Tree.{no_commands, and_command, from_to}
use Rattle.tcl_words.specs.Values.{Read, many, run, braces}
use Rattle.tcl_words.specs.declared.deep.Inside.{Inside}
use Rattle.tcl_words.specs.declared.deep.Inside.TheVariants as inside
use Rattle.tcl_words.specs.declared.parse_fault.Fault.{Fault}
use Rattle.tcl_words.specs.declared.parse_fault.Fault.TheVariants.{MissingBrace, MissingQuote}
use Rattle.tcl_words.specs.declared.parse_fault.Fault.TheVariants.{MissingBracket, ExtraAfter}
use Rattle.tcl_words.specs.declared.parse_fault.Fault.TheVariants.{TooDeep}
use Rattle.tcl_words.specs.declared.places.Closer.{Closer}
use Rattle.tcl_words.specs.declared.places.Closer.TheVariants.{Quote, Paren}
use Rattle.tcl_words.specs.declared.progress.Progress.{Progress}
use Rattle.tcl_words.specs.declared.script.Form.TheVariants.{Bare, Quoted, Braced}

-- an opener with no room is noted, as one that stays open where it does, and what it opens is passed
abbrev pub passed_by : Option ℕ → Fault → ℕ → List ℕ → Progress → Progress
passed_by (Some end) unclosed start text s = to end (noted (TooDeep start) s)
passed_by None unclosed start text s = to (length text) (noted unclosed s)

unfoldable pub passed : Inside → Fault → ℕ → List ℕ → Progress → Progress
passed first unclosed start text s = passed_by (deep_end text first (start + 1)) unclosed start text s

-- an opener with no room is noted
abbrev pub roomed : ℕ → ℕ → Progress → Progress
roomed depth at s = if depth == 0 then noted (TooDeep at) s else s

-- a braced word at its opener
unfoldable pub read_braced : ℕ → List ℕ → Progress → Read Word
read_braced depth text s =
    let r = braces (depth - 1) text (turns text) 0 (to (s.at + 1) (roomed depth s.at s)) in
    let inner = from_to (s.at + 1) r.1.at in
    let last = closed 125 (MissingBrace s.at) text r.1 in
    (finished text (from_to s.at last.at) Braced inner (and_part (plain inner r.0) no_parts), last)

-- `${name}` at its dollar sign
unfoldable pub read_name : ℕ → List ℕ → Progress → Read Part
read_name depth text s =
    let end = brace_end text (s.at + 2) in
    let last = closed 125 (MissingBrace (s.at + 1)) text (to end (roomed depth (s.at + 1) s)) in
    (variable (from_to s.at last.at) (slice_range text (s.at + 2) end), last)

-- how an opener and what it encloses are read
pub record Level : Type 0 where
  pub bracket : List ℕ → Progress → Read Commands
  pub quoted : List ℕ → Progress → Read Word
  pub braced : List ℕ → Progress → Read Word
  pub name : List ℕ → Progress → Read Part
  pub index : List ℕ → Progress → Read Parts

-- a name up to the place, and the index that may stand there
unfoldable pub named : Level → List ℕ → Progress → ℕ → Read Part
named deeper text s end =
    let name = slice_range text (s.at + 1) end in
    if stands text end 40
    then (let i = deeper.index text (to end s) in (element (from_to s.at i.1.at) name i.0, i.1))
    else (variable (from_to s.at end) name, to end s)

unfoldable pub read_variable : Level → List ℕ → Progress → Read Part
read_variable deeper text s = named deeper text s (name_end text (s.at + 1))

unfoldable pub read_part : Level → Closer → List ℕ → Progress → Read Part
read_part deeper c text s =
    if stands text s.at 91
    then (let b = deeper.bracket text s in (bracket (from_to s.at b.1.at) b.0, b.1))
    else (if opens_name text s.at then deeper.name text s
    else (if starts_variable text s.at then read_variable deeper text s
    else (let r = run c text s in (plain (from_to s.at r.1.at) r.0, r.1))))

-- the parts up to their end
unfoldable pub parts : Level → Closer → List ℕ → Progress → Read Parts
parts deeper c text =
    many (λ s. s) (λ s. closes c text s.at) (read_part deeper c text) and_part no_parts (turns text)

-- the text after a closed quote or brace is a fault, and is read on to the word's end
unfoldable pub trailing : Level → Bool → List ℕ → Progress → Progress
trailing deeper inside text s =
    if closes (word_closer inside) text s.at then s
    else (parts deeper (word_closer inside) text (noted (ExtraAfter s.at) s)).1

abbrev pub enclosed : Level → Bool → List ℕ → Read Word → Read Word
enclosed deeper inside text r = (r.0, trailing deeper inside text r.1)

-- a word without quotes or braces
abbrev pub bare : List ℕ → ℕ → Read Parts → Read Word
bare text at r = (finished text (from_to at r.1.at) Bare (from_to at r.1.at) r.0, r.1)

unfoldable pub read_word : Level → Bool → List ℕ → Progress → Read Word
read_word deeper inside text s =
    if stands text s.at 34 then enclosed deeper inside text (deeper.quoted text s)
    else (if stands text s.at 123 then enclosed deeper inside text (deeper.braced text s)
    else bare text s.at (parts deeper (word_closer inside) text s))

-- the words up to the command's end
unfoldable pub words : Level → Bool → List ℕ → Progress → Read Words
words deeper inside text =
    many (λ s. to (blanks_end text s.at) s) (λ s. ends_command inside text s.at)
    (read_word deeper inside text) and_word no_words (turns text)

-- a command stands from its first word's first byte to its last word's end
unfoldable pub read_command : Level → Bool → List ℕ → Progress → Read Command
read_command deeper inside text s =
    let r = words deeper inside text s in (command (from_to s.at r.1.at) r.0, r.1)

-- the commands up to the script's end
unfoldable pub commands : Level → Bool → List ℕ → Progress → Read Commands
commands deeper inside text =
    many (λ s. to (gap_end text s.at) s) (λ s. ends_script inside text s.at)
    (read_command deeper inside text) and_command no_commands (turns text)

-- what stands for a word that is not read
abbrev pub nothing : ℕ → Word
nothing at = word (from_to at at) Quoted (from_to at at) None no_parts

abbrev pub read_bracket : Level → List ℕ → Progress → Read Commands
read_bracket deeper text s =
    let r = commands deeper true text (to (s.at + 1) s) in
    (r.0, closed 93 (MissingBracket s.at) text (to (gap_end text r.1.at) r.1))

abbrev pub read_quoted : Level → List ℕ → Progress → Read Word
read_quoted deeper text s =
    let r = parts deeper Quote text (to (s.at + 1) s) in
    let last = closed 34 (MissingQuote s.at) text r.1 in
    (finished text (from_to s.at last.at) Quoted (from_to (s.at + 1) r.1.at) r.0, last)

abbrev pub read_index : Level → List ℕ → Progress → Read Parts
read_index deeper text s =
    let r = parts deeper Paren text (to (s.at + 1) s) in
    (r.0, closed 41 (MissingBracket s.at) text r.1)

-- with so many openers allowed inside one another
unfoldable pub level : ℕ → Level
level zero = record {
  bracket = λ text s. (no_commands, passed inside.Gap (MissingBracket s.at) s.at text s);
  quoted = λ text s. (nothing s.at, passed inside.Quote (MissingQuote s.at) s.at text s);
  braced = read_braced 0;
  name = read_name 0;
  index = λ text s. (no_parts, passed inside.Paren (MissingBracket s.at) s.at text s);
}
level (suc depth) = record {
  bracket = read_bracket (level depth);
  quoted = read_quoted (level depth);
  braced = read_braced (suc depth);
  name = read_name (suc depth);
  index = read_index (level depth);
}

-- the most constructs that may be open at a place
unfoldable pub limit : ℕ
limit = 100

abbrev pub beginning : Progress
beginning = record { at = 0; fault = None }

abbrev pub unless : {A : Type 0} → Option Fault → A → Result A Fault
unless None a = Ok a
unless (Some f) a = Err f

abbrev pub judged : {A : Type 0} → Read A → Result A Fault
judged r = unless r.1.fault r.0

-- the script that a text is, or its fault
unfoldable pub reading : List ℕ → Result Commands Fault
reading text = judged (commands (level limit) false text beginning)
