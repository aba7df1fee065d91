use Rattle.std.proofs.Common.{◌≡◌, ◌++◌, drop}
use Rattle.tcl_list_commands.specs.Joining.{trimmed_words}
use Rattle.tcl_list_commands.proofs.joining.trimmed_words.Given as goal

abbrev pub invariant-loop-word : goal.invariant-loop-word
invariant-loop-word l = l.texts ++ trimmed_words (drop l.word-index l.words) ≡ trimmed_words l.words
