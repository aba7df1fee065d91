-- The trees of values, one level at a time.
use Rattle.std.proofs.Common.{◌≡◌, ℕ, List, map, rules, Vec}
use Rattle.std.specs.declared.alloc.Global.{Global}
use Rattle.tcl_words.specs.Tree.{plain, variable, element, bracket, word, command}
use Rattle.tcl_words.specs.View.{script_view, command_view, word_view, part_view, commands_of}
use Rattle.tcl_words.specs.View.{words_of, parts_of}
use Rattle.tcl_words.specs.declared.script.ScriptCommand as code_command
use Rattle.tcl_words.specs.declared.script.ScriptCommand.{out-ScriptCommand, roll-ScriptCommand}
use Rattle.tcl_words.specs.declared.script.Part as code
use Rattle.tcl_words.specs.declared.script.Part.{Plain, Variable, Element, Bracket, the_lemmas}
use Rattle.tcl_words.specs.declared.script.Script.{Script, out-Script, roll-Script}
use Rattle.tcl_words.specs.declared.script.Span.{Span}
use Rattle.tcl_words.specs.declared.script.Word as code_word
use Rattle.tcl_words.specs.declared.script.Word.{out-Word}

pub view-Script : (v : Vec code_command.ScriptCommand Global) → script_view (roll-Script (record { commands = v })) ≡ commands_of (map command_view v.items)
view-Script v = search (rules, the_lemmas)

-- for the crates that go over a script
pub script-commands : (s : Script) → script_view s ≡ commands_of (map command_view (out-Script s).commands.items)
script-commands s = search (rules, the_lemmas)

pub command-words : (c : code_command.ScriptCommand) → command_view c ≡ command (out-ScriptCommand c).span (words_of (map word_view (out-ScriptCommand c).words.items))
command-words c = search (rules, the_lemmas)

pub word-parts : (w : code_word.Word) → word_view w ≡ word (out-Word w).span (out-Word w).form (out-Word w).inner (out-Word w).raw (parts_of (map part_view (out-Word w).parts.items))
word-parts w = search (rules, the_lemmas)

pub view-Plain : (s : Span) (text : List ℕ) → part_view (Plain s text) ≡ plain s text
view-Plain s text = search (rules, the_lemmas)

pub view-Variable : (s : Span) (name : List ℕ) → part_view (Variable s name) ≡ variable s name
view-Variable s name = search (rules, the_lemmas)

pub view-Element : (s : Span) (name : List ℕ) (index : Vec code.Part Global) → part_view (Element s name index) ≡ element s name (parts_of (map part_view index.items))
view-Element s name index = search (rules, the_lemmas)

pub view-Bracket : (s : Span) (inside : Script) → part_view (Bracket s inside) ≡ bracket s (script_view inside)
view-Bracket s inside = search (rules, the_lemmas)

pub view-Command : (s : Span) (words : Vec code_word.Word Global) → command_view (roll-ScriptCommand (record { span = s; words = words })) ≡ command s (words_of (map word_view words.items))
view-Command s words = search (rules, the_lemmas)
