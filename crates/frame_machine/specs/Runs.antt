-- Whole runs of a machine: steps and replies in any slicing.
use Rattle.std.specs.Prelude.{◌≡◌, ⊤, ℕ, ◌+◌, ◌*◌, ◌≤◌, List, [], ◌∷◌, ◌++◌}
use Rattle.px_bytes.specs.declared.fault.Reply.{Reply}
use Rattle.tcl_trees.specs.Tree.{Tree}
use Rattle.tcl_vars.specs.Scopes.{Scopes}
use Rattle.rule_model.specs.Evaluator.{evaluate}
use Rattle.rule_model.specs.Outcome.{Act, Called, state, Outcome, Ends, Waits}
use Rattle.rule_model.specs.declared.code.Code.{Code}
use Rattle.rule_model.specs.Setting.{Setting}
use Rattle.frames.specs.Frames.{path_of}
use Rattle.frames.specs.Went.{Place, Went, Resumed, comes_by}
use Rattle.frames.specs.declared.frame.Mode.TheVariants as mode
use Rattle.frames.specs.declared.turn.Turn.{Turn}
use Rattle.frames.specs.declared.turn.Turn.TheVariants as turn

-- where a run stands: the machine's place, what the last step said, the replies that came, and what
-- was paid, done and ticked so far
pub record Reached (H : Type 0) : Type 0 where
  pub place : Place H
  pub said : Turn
  pub replies : List Reply
  pub cost : ℕ
  pub acts : List Act
  pub ticks : ℕ

-- one step with its ticks, or one reply
pub data Link : Type 0 where
  Steps : (ticks : ℕ) → Link
  Replies : Reply → Link

-- a step goes on from where there is more to do
pub record Stepped {H : Type 0} (g : Setting H) (tree : Tree) (ticks : ℕ)
    (old new : Reached H) : Type 0 where
  pub goes_on : old.said ≡ turn.More
  pub went : Went g tree old.place new.place new.said (λ effects. ⊤) ticks
  pub replies : new.replies ≡ old.replies
  pub cost : new.cost ≡ old.cost + went.spent
  pub acts : new.acts ≡ old.acts ++ went.acts
  pub ticks_are : new.ticks ≡ old.ticks + ticks

-- a reply comes where a call waits
pub record Replied {H : Type 0} (reply : Reply) (old new : Reached H) : Type 0 where
  pub call : List (List ℕ)
  pub waits : old.said ≡ turn.Asks call
  pub resumed : Resumed old.place new.place call reply
  pub said : new.said ≡ turn.More
  pub replies : new.replies ≡ old.replies ++ reply ∷ []
  pub cost : new.cost ≡ old.cost
  pub acts : new.acts ≡ old.acts ++ Called (path_of old.place.machine.frames.items) call ∷ []
  pub ticks : new.ticks ≡ old.ticks

abbrev pub Linked : {H : Type 0} → Setting H → Tree → Link → Reached H → Reached H → Type 0
Linked g tree (Steps ticks) old new = Stepped g tree ticks old new
Linked g tree (Replies reply) old new = Replied reply old new

-- a run begins before the body's first command
pub record Starts {H : Type 0} (budget : ℕ) (vars : Scopes) (host : H) (r : Reached H)
    : Type 0 where
  pub frames : r.place.machine.frames.items ≡ []
  pub mode_is : r.place.machine.mode ≡ mode.Begin
  pub budget_is : r.place.machine.budget ≡ budget
  pub vars_are : r.place.vars ≡ vars
  pub host_is : r.place.host ≡ host
  pub said : r.said ≡ turn.More
  pub replies : r.replies ≡ []
  pub cost : r.cost ≡ 0
  pub acts : r.acts ≡ []
  pub ticks : r.ticks ≡ 0

-- the links lead from the body's beginning to here, the newest first
abbrev pub Runs : {H : Type 0} → Setting H → Tree → ℕ → Scopes → H → List Link → Reached H → Type 0
Runs g tree budget vars host [] r = Starts budget vars host r
Runs {H = H} g tree budget vars host (link ∷ links) r =
    (before : Reached H) × Runs g tree budget vars host links before × Linked g tree link before r

-- Whatever replies follow those that came, the evaluator comes to what the machine does from there.
abbrev pub StandsFor : {H : Type 0} → Setting H → Tree → ℕ → Scopes → H → Reached H → Type 0
StandsFor g tree budget vars host r =
    (more : List Reply)
    → evaluate g tree vars host (r.replies ++ more) budget
    ≡ comes_by r.said g tree r.place.machine r.place.vars r.place.host more r.cost r.acts

-- where a run asks, the evaluator on the replies that came waits, with this call at this place and
-- what was done so far
abbrev pub AsksWhereItWaits : {H : Type 0} → Outcome H → Reached H → List (List ℕ) → Type 0
AsksWhereItWaits o r call =
    let path = path_of r.place.machine.frames.items in
    o ≡ Waits path call (state r.place.vars r.place.host [] r.place.machine.budget r.cost
    (r.acts ++ Called path call ∷ []))

-- Where a run of a body stands, in any slicing: the evaluator waits exactly where it asks, and ends
-- exactly where it is done, with the same code, variables, host's state, replies left, budget, cost
-- and acts.
pub record EqualsEvaluator {H : Type 0} (g : Setting H) (tree : Tree) (budget : ℕ) (vars : Scopes)
    (host : H) (r : Reached H) : Type 0 where
  pub stands_for : StandsFor g tree budget vars host r
  pub asks : (call : List (List ℕ)) → r.said ≡ turn.Asks call
      → AsksWhereItWaits (evaluate g tree vars host r.replies budget) r call
  pub done : (code : Code) (more : List Reply) → r.said ≡ turn.Done code
      → evaluate g tree vars host (r.replies ++ more) budget
      ≡ Ends code (state r.place.vars r.place.host more r.place.machine.budget r.cost r.acts)

abbrev pub MachineEqualsEvaluator : Type 0 → Type 0
MachineEqualsEvaluator H =
    (g : Setting H) (tree : Tree) (budget : ℕ) (vars : Scopes) (host : H) (links : List Link)
    (r : Reached H) → Runs g tree budget vars host links r
    → EqualsEvaluator g tree budget vars host r

-- the ticks of a body, all its resumes together, are at most three times its cost and one
abbrev pub TicksAreBounded : Type 0 → Type 0
TicksAreBounded H =
    (g : Setting H) (tree : Tree) (budget : ℕ) (vars : Scopes) (host : H) (links : List Link)
    (r : Reached H) → Runs g tree budget vars host links r → r.ticks ≤ 3 * r.cost + 1
