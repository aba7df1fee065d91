-- What holds of every text.
use Rattle.std.specs.Prelude.{◌≡◌, ◌↔◌, ℕ, List, Ok}
use Rattle.tcl_words.specs.Grammar.{Spells}
use Rattle.tcl_words.specs.Reading.{reading}
use Rattle.tcl_words.specs.Tree.{Commands}

-- the reading gives a script exactly where the text spells it
abbrev pub ReadingIsGrammar : Type 0
ReadingIsGrammar = (text : List ℕ) (tree : Commands) → (reading text ≡ Ok tree) ↔ Spells text tree

-- a text spells at most one script
abbrev pub OneReading : Type 0
OneReading = (text : List ℕ) (a b : Commands) → Spells text a → Spells text b → a ≡ b
