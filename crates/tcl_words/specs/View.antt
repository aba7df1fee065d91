-- The tree that a value of the code stands for.
use Rattle.std.specs.Prelude.{List, [], ◌∷◌, map}
use Rattle.tcl_words.specs.Tree.{Part, plain, variable, element, bracket, Parts, no_parts, and_part}
use Rattle.tcl_words.specs.Tree.{Word, word, Words, no_words, and_word, Command, command, Commands}
use Rattle.tcl_words.specs.Tree.{no_commands, and_command}
use Rattle.tcl_words.specs.declared.script.Part.{fold-Part}
use Rattle.tcl_words.specs.declared.script.Part as code
use Rattle.tcl_words.specs.declared.script.Script.{Script, fold-Script}
use Rattle.tcl_words.specs.declared.script.ScriptCommand as code_command
use Rattle.tcl_words.specs.declared.script.ScriptCommand.{fold-ScriptCommand}
use Rattle.tcl_words.specs.declared.script.Word as code_word
use Rattle.tcl_words.specs.declared.script.Word.{fold-Word}
use Rattle.tcl_words.specs.declared.script.Part.TheOpen.{Part-F, ScriptCommand-F, Script-F, Word-F}

abbrev pub parts_of : List Part → Parts
parts_of [] = no_parts
parts_of (p ∷ ps) = and_part p (parts_of ps)

abbrev pub words_of : List Word → Words
words_of [] = no_words
words_of (w ∷ ws) = and_word w (words_of ws)

abbrev pub commands_of : List Command → Commands
commands_of [] = no_commands
commands_of (c ∷ cs) = and_command c (commands_of cs)

-- one level, with all that is inside already seen
abbrev pub part_step : Part-F Part Commands Command Word → Part
part_step (Part-F.Plain s t) = plain s t
part_step (Part-F.Variable s n) = variable s n
part_step (Part-F.Element s n i) = element s n (parts_of i.items)
part_step (Part-F.Bracket s inside) = bracket s inside

abbrev pub word_step : Word-F Part Commands Command Word → Word
word_step w = word w.span w.form w.inner w.raw (parts_of w.parts.items)

abbrev pub command_step : ScriptCommand-F Part Commands Command Word → Command
command_step c = command c.span (words_of c.words.items)

abbrev pub script_step : Script-F Part Commands Command Word → Commands
script_step s = commands_of s.commands.items

abbrev pub part_view : code.Part → Part
part_view = fold-Part Part Commands Command Word part_step script_step command_step word_step

abbrev pub word_view : code_word.Word → Word
word_view = fold-Word Part Commands Command Word part_step script_step command_step word_step

abbrev pub command_view : code_command.ScriptCommand → Command
command_view = fold-ScriptCommand Part Commands Command Word part_step script_step command_step word_step

abbrev pub script_view : Script → Commands
script_view = fold-Script Part Commands Command Word part_step script_step command_step word_step

abbrev pub parts_view : List code.Part → Parts
parts_view ps = parts_of (map part_view ps)

abbrev pub words_view : List code_word.Word → Words
words_view ws = words_of (map word_view ws)
