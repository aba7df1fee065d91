-- What the words of a node come to, up to the first part that has to run.
use Rattle.std.specs.Prelude.{◌≡◌, [], ◌∷◌, ◌++◌, false}
use Rattle.tcl_trees.specs.Tree.{Tree}
use Rattle.rule_model.specs.Evaluator.{eval}
use Rattle.rule_model.specs.Outcome.{Ends, Meaning}
use Rattle.rule_model.specs.Setting.{Setting, Inner}
use Rattle.frames.specs.Children.{child_at, node_at, part_at}
use Rattle.frames.specs.Frames.{apply, words_end}
use Rattle.frames.specs.Owed.{is_flat}
use Rattle.frames.specs.declared.frame.Frame.TheVariants as frame
use Rattle.frame_words.specs.declared.words.Gathered.{Gathered}
use Rattle.frame_words.specs.declared.words.Gathered.TheVariants as gathered

abbrev pub words_out : {H : Type 0} → Setting H → Inner H → Tree → Gathered → Meaning H
words_out g i t (gathered.All done) path st = words_end g i t done path st
words_out g i t (gathered.Ends code) path st = Ends code st
words_out g i t (gathered.Child k j done text) path st =
    apply g i t path (frame.Words k j done text)
    (eval g i (part_at (node_at t (k ∷ [])) j) (path ++ k ∷ j ∷ []) st)

-- a part that begins has something to do
abbrev pub WordsReady : Tree → Gathered → Type 0
WordsReady t (gathered.All done) = Unit {0}
WordsReady t (gathered.Ends code) = Unit {0}
WordsReady t (gathered.Child k j done text) = is_flat (part_at (child_at t k) j) ≡ false
