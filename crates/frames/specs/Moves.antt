-- What a move of one node says.
use Rattle.std.specs.Prelude.{◌≡◌, ℕ, ◌+◌, List, [], ◌∷◌, ◌++◌, Option, Some, None, Bool, false, ⊤}
use Rattle.px_bytes.specs.declared.fault.Reply.{Reply}
use Rattle.tcl_trees.specs.Procedures.{Procedure}
use Rattle.tcl_trees.specs.Tree.{Tree}
use Rattle.tcl_vars.specs.Scopes.{Scopes}
use Rattle.rule_model.specs.Evaluator.{eval}
use Rattle.rule_model.specs.Host.{Effect}
use Rattle.rule_model.specs.Outcome.{Act, State, state, Ends, Meaning, heard}
use Rattle.rule_model.specs.Setting.{Setting}
use Rattle.rule_model.specs.declared.code.Code.{Code}
use Rattle.frames.specs.Frames.{apply, inner_of, inside, meaning}
use Rattle.frames.specs.Owed.{is_flat, mode_owed, weight}
use Rattle.frames.specs.Went.{CalledBy, effects_in}
use Rattle.frames.specs.declared.frame.Frame.{Frame}
use Rattle.frames.specs.declared.frame.Mode.{Mode}
use Rattle.frames.specs.declared.frame.Mode.TheVariants as mode
use Rattle.frames.specs.declared.frame.Room.{Room}
use Rattle.frames.specs.declared.next.Next.{Next}

-- the node is done, a child begins, and a child is done
abbrev pub stop : Code → Next
stop code = record { frame = None; mode = mode.Back code }

abbrev pub child_under : Frame → Next
child_under f = record { frame = Some f; mode = mode.Begin }

abbrev pub back_under : Frame → Code → Next
back_under f code = record { frame = Some f; mode = mode.Back code }

abbrev pub list_of : {A : Type 0} → Option A → List A
list_of None = []
list_of (Some a) = a ∷ []

-- where a node stands then
abbrev pub stands : {H : Type 0} → Setting H → Room → Tree → Next → Meaning H
stands g r t next = meaning g r t (list_of next.frame) next.mode

-- what a node does from its beginning, and from the code of the child that a frame tells
abbrev pub begins : {H : Type 0} → Setting H → Room → Tree → Meaning H
begins g r t = eval g (inner_of g r) t

abbrev pub goes_on : {H : Type 0} → Setting H → Room → Tree → Frame → Code → Meaning H
goes_on g r t f code path st = apply g (inner_of g r) t path f (Ends code st)

-- variables, what is seen of the host, the budget, and what a move paid so far
pub record Now (H : Type 0) : Type 0 where
  pub vars : Scopes
  pub host : H
  pub budget : ℕ
  pub paid : ℕ

abbrev pub now : {H : Type 0} → Scopes → H → ℕ → ℕ → Now H
now vars host budget paid = record { vars = vars; host = host; budget = budget; paid = paid }

-- the evaluator's state there
abbrev pub state_at : {H : Type 0} → Now H → List Reply → ℕ → List Act → State H
state_at n more cost acts = state n.vars n.host more n.budget (cost + n.paid) acts

-- A node's move: whatever replies come, and whatever was paid and done before, the node comes to
-- the same from where it stands then, with what the move paid and did. The effects among what it
-- did were made, and are those of one call of the host at most.
pub record Moved {H : Type 0} (g : Setting H) (r : Room) (wanted : Bool) (t : Tree)
    (whole : Meaning H) (old new : Now H) (next : Next) (made : List Effect → Type 0) : Type 0 where
  pub acts : List Act
  pub same : (path : List ℕ) (more : List Reply) (cost : ℕ) (before : List Act)
      → heard wanted (whole path (state_at old more cost before))
      ≡ heard wanted (stands g r t next path (state_at new more cost (before ++ acts)))
  pub by : made (effects_in acts)
  pub called : Option (List (List ℕ))
  pub once : CalledBy g old.host new.host called acts

-- what is owed where a node stands then
abbrev pub frame_owed : Option Frame → ℕ
frame_owed None = 0
frame_owed (Some f) = weight f

abbrev pub due : Next → ℕ
due next = frame_owed next.frame + mode_owed next.mode

-- a child that begins has something to do, and no move leaves the body over
abbrev pub ReadyBy : List Procedure → Tree → Option Frame → Mode → Type 0
ReadyBy procedures t (Some f) mode.Begin = is_flat (inside procedures t f) ≡ false
ReadyBy procedures t None mode.Begin = ⊥
ReadyBy procedures t frame mode.Over = ⊥
ReadyBy procedures t frame m = ⊤

abbrev pub Ready : List Procedure → Tree → Next → Type 0
Ready procedures t next = ReadyBy procedures t next.frame next.mode
