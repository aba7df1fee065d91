-- The lines that commands are, and what was read of a text that may be faulty.
use Rattle.std.proofs.Common.{◌≡◌, ◌≤◌, List, [], ◌∷◌, None, arith, length, map, refl, sym, ap, ap₂, ◌∙◌}
use Rattle.tcl_trees.proofs.PieceLists.{all_words-of}
use Rattle.tcl_words.proofs.Views.{command-words}
use Rattle.tcl_words.specs.Tree.{Part, Word, and_part}
use Rattle.tcl_words.specs.View.{command_view, parts_view, word_view}
use Rattle.tcl_words.specs.declared.script.Part as code
use Rattle.tcl_words.specs.declared.script.ScriptCommand.{ScriptCommand, out-ScriptCommand}
use Rattle.test_text.specs.Line.{Line, command_line, line_of, text_in}

pub line_is : (command : ScriptCommand) (words : List Word) → words ≡ map word_view (out-ScriptCommand command).words.items
    → (line : Line) → line.words ≡ words → line.end ≡ (out-ScriptCommand command).span.end → line ≡ line_of (command_view command)
line_is command words is line same end =
    ap₂ (λ ws e. record { words = ws; end = e }) (same ∙ is ∙ sym (all_words-of (map word_view (out-ScriptCommand command).words.items))) end
    ∙ sym (ap line_of (command-words command))

pub lines_are : (commands : List ScriptCommand) → map line_of (map command_view commands) ≡ map command_line commands
lines_are [] = refl
lines_are (c ∷ cs) = ap (λ ls. command_line c ∷ ls) (lines_are cs)

pub not_alone : (part : Part) (rest : List code.Part) → 1 ≤ length rest → None ≡ text_in (and_part part (parts_view rest))
not_alone part [] some = absurd (omega (arith, some))
not_alone part (r ∷ rs) some = refl
