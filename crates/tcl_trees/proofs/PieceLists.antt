-- Pieces of scripts as lists.
use Rattle.std.proofs.Common.{◌≡◌, List, [], ◌∷◌, map, refl, ap, ◌∙◌}
use Rattle.tcl_words.proofs.Views.{script-commands}
use Rattle.tcl_words.specs.Tree.{Part, Word, Command}
use Rattle.tcl_words.specs.View.{command_view, script_view, parts_of, words_of, commands_of}
use Rattle.tcl_words.specs.declared.script.Script.{Script, out-Script}
use Rattle.tcl_trees.specs.Pieces.{all_parts, all_words, all_commands}

pub all_parts-of : (ps : List Part) → all_parts (parts_of ps) ≡ ps
all_parts-of [] = refl
all_parts-of (p ∷ ps) = ap (λ l. p ∷ l) (all_parts-of ps)

pub all_words-of : (ws : List Word) → all_words (words_of ws) ≡ ws
all_words-of [] = refl
all_words-of (w ∷ ws) = ap (λ l. w ∷ l) (all_words-of ws)

pub all_commands-of : (cs : List Command) → all_commands (commands_of cs) ≡ cs
all_commands-of [] = refl
all_commands-of (c ∷ cs) = ap (λ l. c ∷ l) (all_commands-of cs)

pub script_commands : (v : Script) → all_commands (script_view v) ≡ map command_view (out-Script v).commands.items
script_commands v = ap all_commands (script-commands v) ∙ all_commands-of (map command_view (out-Script v).commands.items)
