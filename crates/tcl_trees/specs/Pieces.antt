-- The pieces of a script as lists.
use Rattle.std.specs.Prelude.{List, [], ◌∷◌}
use Rattle.tcl_words.specs.Tree.{Part, Parts, no_parts, and_part, Word, Words, no_words, and_word}
use Rattle.tcl_words.specs.Tree.{Command, Commands, no_commands, and_command}

abbrev pub all_parts : Parts → List Part
all_parts no_parts = []
all_parts (and_part p ps) = p ∷ all_parts ps

abbrev pub all_words : Words → List Word
all_words no_words = []
all_words (and_word w ws) = w ∷ all_words ws

abbrev pub all_commands : Commands → List Command
all_commands no_commands = []
all_commands (and_command c cs) = c ∷ all_commands cs
