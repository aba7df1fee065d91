-- What a step of a machine promises.
use Rattle.std.specs.Prelude.{◌≡◌, ℕ, ◌+◌, ◌*◌, ◌≤◌, List, [], ◌∷◌, ◌++◌, map, Option, Some, None}
use Rattle.px_bytes.specs.declared.fault.Reply.{Reply}
use Rattle.tcl_trees.specs.Tree.{Tree}
use Rattle.tcl_vars.specs.Scopes.{Scopes}
use Rattle.rule_model.specs.Host.{Effect, HostStep, Gives, Faults, Asks}
use Rattle.rule_model.specs.Outcome.{Act, Did, Called, state, Outcome, Ends, reply_code}
use Rattle.rule_model.specs.Setting.{Setting}
use Rattle.frames.specs.Frames.{comes_to}
use Rattle.frames.specs.Owed.{owed, Heavy}
use Rattle.frames.specs.declared.frame.Mode.{Mode}
use Rattle.frames.specs.declared.frame.Mode.TheVariants as mode
use Rattle.frames.specs.declared.frame.Standing.{Standing}
use Rattle.frames.specs.declared.turn.Turn.{Turn}
use Rattle.frames.specs.declared.turn.Turn.TheVariants as turn

-- the effects among acts
abbrev pub effects_in : List Act → List Effect
effects_in [] = []
effects_in (Did e ∷ acts) = e ∷ effects_in acts
effects_in (Called path call ∷ acts) = effects_in acts

-- what is seen of a host after one call of it, and what the call did
abbrev pub IsCall : {H : Type 0} → HostStep H → H → List Act → Type 0
IsCall (Gives v h effects) after acts = (after ≡ h) × (acts ≡ map Did effects)
IsCall (Faults f h effects) after acts = (after ≡ h) × (acts ≡ map Did effects)
IsCall (Asks call h) after acts = (after ≡ h) × (acts ≡ [])

-- the host wasn't called, or once, with these words
abbrev pub CalledBy : {H : Type 0} → Setting H → H → H → Option (List (List ℕ)) → List Act → Type 0
CalledBy g before after None acts = (after ≡ before) × (acts ≡ [])
CalledBy g before after (Some words) acts = IsCall (g.table before words) after acts

-- what a body comes to where a step said this: its end, where that is told
abbrev pub comes_by : {H : Type 0} → Turn → Setting H → Tree → Standing → Scopes → H → List Reply
    → ℕ → List Act → Outcome H
comes_by (turn.Done code) g tree m vars host more cost acts =
    Ends code (state vars host more m.budget cost acts)
comes_by other g tree m vars host more cost acts = comes_to g tree m vars host more cost acts

-- where a machine stands beside the variables and the host's state
pub record Place (H : Type 0) : Type 0 where
  pub machine : Standing
  pub vars : Scopes
  pub host : H

abbrev pub place : {H : Type 0} → Standing → Scopes → H → Place H
place machine vars host = record { machine = machine; vars = vars; host = host }

-- a machine that has more to do, and one that waits for a reply
abbrev pub IsRunning : Mode → Type 0
IsRunning mode.Begin = Unit {0}
IsRunning (mode.Back code) = Unit {0}
IsRunning (mode.Asked call) = ⊥
IsRunning mode.Over = ⊥

abbrev pub IsAsked : Mode → Type 0
IsAsked (mode.Asked call) = Unit {0}
IsAsked m = ⊥

-- the mode of what a step says
abbrev pub TurnIs : Turn → Standing → Type 0
TurnIs turn.More m = IsRunning m.mode
TurnIs (turn.Asks call) m = m.mode ≡ mode.Asked call
TurnIs (turn.Done code) m = m.mode ≡ mode.Over

-- A step from one place to the next, with so many ticks: whatever replies come, and whatever was
-- paid and done before, the body comes to the same, with what the step paid and did. The effects
-- among what it did were made, and they are those of one call of the host at most. What it ticked
-- and still owes is what was owed before, and three for each unit of cost.
pub record Went {H : Type 0} (g : Setting H) (tree : Tree) (old new : Place H) (said : Turn)
    (made : List Effect → Type 0) (ticks : ℕ) : Type 0 where
  pub spent : ℕ
  pub acts : List Act
  pub same : (more : List Reply) (cost : ℕ) (before : List Act)
      → comes_to g tree old.machine old.vars old.host more cost before
      ≡ comes_by said g tree new.machine new.vars new.host more (cost + spent) (before ++ acts)
  pub turn_is : TurnIs said new.machine
  pub by : made (effects_in acts)
  pub called : Option (List (List ℕ))
  pub once : CalledBy g old.host new.host called acts
  pub stays_heavy : Heavy g.procedures tree old.machine.frames.items old.machine.mode
      → Heavy g.procedures tree new.machine.frames.items new.machine.mode
  pub paid : Heavy g.procedures tree old.machine.frames.items old.machine.mode
      → ticks + owed new.machine ≤ owed old.machine + 3 * spent

-- a reply comes: the call's node goes on with it
pub record Resumed {H : Type 0} (old new : Place H) (call : List (List ℕ)) (reply : Reply)
    : Type 0 where
  pub asked : old.machine.mode ≡ mode.Asked call
  pub machine : new.machine ≡ record old.machine { mode = mode.Back (reply_code reply) }
  pub vars : new.vars ≡ old.vars
  pub host : new.host ≡ old.host
