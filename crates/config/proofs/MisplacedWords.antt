-- The first event of a text that a virtual server doesn't have.
use Rattle.std.proofs.Common.{◌≡◌, ◌<◌, ℕ, Bool, List, [], ◌∷◌, Option, None, length, map, refl, ap, sym, ◌∙◌}
use Rattle.std.proofs.Common.{arith}
use Rattle.config.specs.EventWords.{first_misplaced, misplaced_in, misplaced_word}
use Rattle.rule_loader.specs.Loading.{script_of}
use Rattle.tcl_trees.specs.Pieces.{all_commands}
use Rattle.tcl_words.specs.Tree.{Command, Commands}
use Rattle.tcl_words.specs.View.{word_view}
use Rattle.tcl_words.specs.declared.script.Word.{Word}

pub misplaced_found : (http : Bool) (text : List ℕ) (tree : Commands) (cs : List Command) (r : Option ℕ) → (script_of text).0 ≡ tree → cs ≡ all_commands tree → r ≡ first_misplaced http cs → r ≡ misplaced_in http text
unfolding misplaced_in
misplaced_found http text tree cs r is same found = found ∙ ap (first_misplaced http) (same ∙ ap all_commands (sym is))

-- a command of one word is no handler
pub one_word : (http : Bool) (ws : List Word) → length ws < 2 → None ≡ misplaced_word http (map word_view ws)
one_word http [] few = refl
one_word http (w ∷ []) few = refl
one_word http (w ∷ x ∷ ws) few = absurd (omega arith)
