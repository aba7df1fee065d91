-- The moves of a script, and which of its commands are done at once.
use Rattle.std.specs.Prelude.{◌≡◌, ℕ, ◌+◌, ◌-◌, ◌<◌, ◌≤◌, List, drop, length, nat_eq, nat_le}
use Rattle.std.specs.Prelude.{Bool, true, false, ◌&&◌, if◌then◌else◌, Option, Some}
use Rattle.px_bytes.specs.FaultText.{budget_spent}
use Rattle.tcl_trees.specs.Tree.{Tree}
use Rattle.tcl_vars.specs.Scopes.{Level, Scopes}
use Rattle.rule_model.specs.Outcome.{Meaning}
use Rattle.rule_model.specs.Setting.{Setting, Inner}
use Rattle.rule_model.specs.Words.{commands}
use Rattle.rule_model.specs.declared.code.Code.{Code}
use Rattle.rule_model.specs.declared.code.Code.TheVariants.{Value, Raised}
use Rattle.rule_nodes.specs.Short.{Purse, purse, short_front}
use Rattle.frames.specs.Children.{child_at, commands_of}
use Rattle.frames.specs.Frames.{commands_in}
use Rattle.frames.specs.Leafs.{leaf_code}
use Rattle.frames.specs.Moves.{back_under, child_under, stop}
use Rattle.frames.specs.Owed.{is_flat}
use Rattle.frames.specs.Stills.{Change, Spend, change_after, changes, spend_after, spends, spent}
use Rattle.frames.specs.declared.frame.Frame.{Frame}
use Rattle.frames.specs.declared.frame.Frame.TheVariants as frame
use Rattle.frames.specs.declared.next.Next.{Next}

-- a child under a frame: one that has its end at once is done, and any other begins
abbrev pub child_next : Option Level → Scopes → Tree → Frame → Next
child_next statics vars t f =
    if is_flat t then back_under f (leaf_code statics vars t) else child_under f

-- the value of the last command alone is heard
abbrev pub script_frame : Tree → ℕ → Bool → Frame
script_frame t at wanted = frame.Script at (wanted && nat_eq (at + 1) (length (commands_of t)))

-- from the command of this number on, behind the last value
abbrev pub script_from : Option Level → Scopes → Tree → ℕ → List ℕ → Bool → ℕ → Spend
script_from statics vars t at last wanted budget =
    if nat_le (length (commands_of t)) at then spends budget (stop (Value last))
    else (if nat_eq budget 0 then spends budget (stop (Raised budget_spent))
    else spend_after 1 0 (spends (budget - 1)
    (child_next statics vars (child_at t at) (script_frame t at wanted))))

-- how many commands of a script have values that nothing hears
abbrev pub unheard : ℕ → (wanted : Bool) → ℕ
unheard count true = count - 1
unheard count false = count

abbrev pub is_value : Code → Bool
is_value (Value v) = true
is_value code = false

-- a script from its command of a number on, behind the last value
abbrev pub from_command : {H : Type 0} → Setting H → Inner H → Tree → ℕ → List ℕ → Meaning H
from_command g i t at last path st = commands (drop at (commands_in g i t)) last path st

-- A script that rests behind its command of a number, or goes on there in the same move.
abbrev pub script_then : Option Level → Scopes → Tree → ℕ → List ℕ → (wanted : Bool) → ℕ
    → (rests : Bool) → Change
script_then statics vars t at last wanted budget true =
    changes budget vars (back_under (frame.Script (at - 1) false) (Value last))
script_then statics vars t at last wanted budget false =
    spent vars (script_from statics vars t at last wanted budget)

-- A script's move from its command of this number on: so many commands are done at once, none of
-- which is heard, each for a tick, and then the script rests or goes on.
pub record GoesFrom (statics : Option Level) (t : Tree) (at : ℕ) (last : List ℕ) (wanted : Bool)
    (vars : Scopes) (budget : ℕ) (c : Change) : Type 0 where
  pub done : ℕ
  pub left : Purse
  pub rests : Bool
  pub does : short_front statics done (drop at (commands_of t)) (purse vars budget 0) ≡ Some left
  pub goes_unheard : 0 < done → at + done ≤ unheard (length (commands_of t)) wanted
  pub rests_behind : rests ≡ true → 2 ≤ done
  pub change_is : c ≡ change_after left.cost done
      (script_then statics left.vars t (at + done) last wanted left.budget rests)
