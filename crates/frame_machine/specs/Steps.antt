-- What a step of a machine comes to, before it is told.
use Rattle.std.specs.Prelude.{◌≡◌, ℕ, List, [], ◌++◌, Option}
use Rattle.px_bytes.specs.declared.fault.Reply.{Reply}
use Rattle.tcl_trees.specs.Tree.{Tree}
use Rattle.rule_model.specs.Host.{Effect}
use Rattle.rule_model.specs.Outcome.{Act}
use Rattle.rule_model.specs.Setting.{Setting}
use Rattle.frames.specs.Frames.{full_room, meaning}
use Rattle.frames.specs.Moves.{Now, state_at}
use Rattle.frames.specs.Went.{CalledBy, effects_in}
use Rattle.frames.specs.declared.frame.Frame.{Frame}
use Rattle.frames.specs.declared.frame.Mode.{Mode}
use Rattle.frames.specs.declared.frame.Mode.TheVariants as mode
use Rattle.frames.specs.declared.frame.Standing.{Standing}
use Rattle.frames.specs.declared.turn.Turn.{Turn}
use Rattle.frames.specs.declared.turn.Turn.TheVariants as turn

-- the end of the root is told in the move that makes it
abbrev pub told_turn : List Frame → Mode → Turn
told_turn [] (mode.Back code) = turn.Done code
told_turn fs (mode.Asked call) = turn.Asks call
told_turn fs m = turn.More

abbrev pub told_mode : List Frame → Mode → Mode
told_mode [] (mode.Back code) = mode.Over
told_mode fs m = m

-- the whole body comes to the same from the new frames and mode as from the old ones
pub record StepsTo {H : Type 0} (g : Setting H) (tree : Tree) (fs : List Frame) (m : Mode)
    (fs' : List Frame) (m' : Mode) (old new : Now H) (made : List Effect → Type 0) : Type 0 where
  pub acts : List Act
  pub same : (more : List Reply) (cost : ℕ) (before : List Act)
      → meaning g full_room tree fs m [] (state_at old more cost before)
      ≡ meaning g full_room tree fs' m' [] (state_at new more cost (before ++ acts))
  pub by : made (effects_in acts)
  pub called : Option (List (List ℕ))
  pub once : CalledBy g old.host new.host called acts

-- a step from these frames and this mode, with its counter of cost, and what it tells
pub record StoodFrom {H : Type 0} (g : Setting H) (tree : Tree) (fs : List Frame) (m : Mode)
    (new : Standing) (said : Turn) (before after : Now H) (made : List Effect → Type 0)
    : Type 0 where
  pub mode_before : Mode
  pub steps : StepsTo g tree fs m new.frames.items mode_before before after made
  pub goes : mode_before ≡ mode.Over → ⊥
  pub mode_is : new.mode ≡ told_mode new.frames.items mode_before
  pub told : said ≡ told_turn new.frames.items mode_before

abbrev pub Stood : {H : Type 0} → Setting H → Tree → (old new : Standing) → Turn
    → (before after : Now H) → (List Effect → Type 0) → Type 0
Stood g tree old new said before after made =
    StoodFrom g tree old.frames.items old.mode new said before after made
