-- What holds of every evaluation.
use Rattle.std.specs.Prelude.{◌≡◌, ℕ, ◌≤◌, List, [], ◌∷◌, ◌++◌, map, Bool, true, false, length}
use Rattle.std.specs.Prelude.{sum_by, Option}
use Rattle.std.specs.List.{flat_map}
use Rattle.px_bytes.specs.FaultText.{budget_spent}
use Rattle.px_bytes.specs.Limit.{text_limit}
use Rattle.px_bytes.specs.declared.fault.Reply.{Reply}
use Rattle.tcl_vars.specs.Scopes.{Level}
use Rattle.tcl_trees.specs.Tree.{Tree}
use Rattle.rule_model.specs.Host.{HostStep, Gives, Faults, Asks}
use Rattle.rule_model.specs.Outcome.{Act, Did, Called, State, state, Outcome, Ends, Waits, Meaning}
use Rattle.rule_model.specs.declared.code.Code.TheVariants.{Value, Raised}
use Rattle.rule_model.specs.Children.{child, free, alone}
use Rattle.rule_model.specs.Control.{caught_in, turns}
use Rattle.rule_model.specs.Words.{in_order}
use Rattle.rule_model.specs.Commands.{call_command}
use Rattle.rule_model.specs.Setting.{Setting}
use Rattle.rule_model.specs.Evaluator.{eval, inner}

-- a tree's meaning where so many expressions and calls may still stand inside one another
abbrev pub meaning : {H : Type 0} → Setting H → (expressions calls : ℕ) → Tree → Meaning H
meaning g expressions calls tree = eval g (inner g expressions calls) tree

-- where an evaluation stands when it ends or waits
abbrev pub state_after : {H : Type 0} → Outcome H → State H
state_after (Ends code st) = st
state_after (Waits path call st) = st

-- What an evaluation leaves of the state before it: what was done stays and more follows, replies
-- are taken from the front, the cost never falls, and the budget never rises.
pub record Grows {H : Type 0} (before after : State H) : Type 0 where
  pub acts : (new : List Act) × (after.acts ≡ before.acts ++ new)
  pub replies : (taken : List Reply) × (before.replies ≡ taken ++ after.replies)
  pub cost : before.cost ≤ after.cost
  pub budget : after.budget ≤ before.budget

-- what was done before an evaluation stays in front of all that it does
abbrev pub ActsStay : Type 0 → Type 0
ActsStay H =
    (g : Setting H) (expressions calls : ℕ) (tree : Tree) (path : List ℕ) (st : State H)
    → Grows st (state_after (meaning g expressions calls tree path st))

-- the state with these replies behind its own
abbrev pub with_more : {H : Type 0} → List Reply → State H → State H
with_more more st = record st { replies = st.replies ++ more }

-- What an evaluation comes to with more replies: the same end, with those replies left behind the
-- others; where it waited, what it did so far stays in front.
abbrev pub Lengthens : {H : Type 0} → List Reply → Outcome H → Outcome H → Type 0
Lengthens more (Ends code st) longer = longer ≡ Ends code (with_more more st)
Lengthens more (Waits path call st) longer =
    (new : List Act) × ((state_after longer).acts ≡ st.acts ++ new)

-- replies that are added behind those that an evaluation took don't change it
abbrev pub MoreRepliesOnlyLengthen : Type 0 → Type 0
MoreRepliesOnlyLengthen H =
    (g : Setting H) (expressions calls : ℕ) (tree : Tree) (path : List ℕ) (st : State H)
    (more : List Reply)
    → Lengthens more (meaning g expressions calls tree path st)
    (meaning g expressions calls tree path (with_more more st))

-- A host command adds to what is shown of the host's state what is shown of its acts.
abbrev pub StepShows : {H M : Type 0} → (Act → List M) → (H → List M) → H → HostStep H → Type 0
StepShows of shown before (Gives v after effects) =
    shown after ≡ shown before ++ flat_map of (map Did effects)
StepShows of shown before (Faults f after effects) =
    shown after ≡ shown before ++ flat_map of (map Did effects)
StepShows of shown before (Asks call after) =
    (path : List ℕ) → shown after ≡ shown before ++ of (Called path call)

abbrev pub TableShows : {H M : Type 0} → (Act → List M) → (H → List M)
    → (H → List (List ℕ) → HostStep H) → Type 0
TableShows {H = H} of shown table =
    (host : H) (words : List (List ℕ)) → StepShows of shown host (table host words)

-- what is shown of the host's state grew by what is shown of the new acts
pub record ShowsActs {H M : Type 0} (of : Act → List M) (shown : H → List M)
    (before after : State H) : Type 0 where
  pub new : List Act
  pub acts : after.acts ≡ before.acts ++ new
  pub grown : shown after.host ≡ shown before.host ++ flat_map of new

-- A host's state may hold something of all that was done: what each host command shows of its acts,
-- the whole evaluation shows.
abbrev pub HostShowsActs : Type 0 → Type 0 → Type 0
HostShowsActs H M =
    (g : Setting H) (of : Act → List M) (shown : H → List M) → TableShows of shown g.table
    → (expressions calls : ℕ) (tree : Tree) (path : List ℕ) (st : State H)
    → ShowsActs of shown st (state_after (meaning g expressions calls tree path st))

-- what a host command gives, where only this view of the host's state is seen
abbrev pub step_seen : {H K : Type 0} → (K → H) → HostStep K → HostStep H
step_seen view (Gives v host effects) = Gives v (view host) effects
step_seen view (Faults f host effects) = Faults f (view host) effects
step_seen view (Asks call host) = Asks call (view host)

abbrev pub state_seen : {H K : Type 0} → (K → H) → State K → State H
state_seen view st = state st.vars (view st.host) st.replies st.budget st.cost st.acts

abbrev pub outcome_seen : {H K : Type 0} → (K → H) → Outcome K → Outcome H
outcome_seen view (Ends code st) = Ends code (state_seen view st)
outcome_seen view (Waits path call st) = Waits path call (state_seen view st)

-- The two settings have the same static variables and procedures, and each host command of the wider
-- one, where only the view of its host is seen, is that of the other.
pub record SeenAs {H K : Type 0} (view : K → H) (wide : Setting K) (plain : Setting H) : Type 0 where
  pub statics : wide.statics ≡ plain.statics
  pub procedures : wide.procedures ≡ plain.procedures
  pub steps : (host : K) (words : List (List ℕ))
      → step_seen view (wide.table host words) ≡ plain.table (view host) words

-- A host that also holds what no command reads evaluates alike: what is seen of an evaluation is the
-- evaluation from what is seen of the state.
abbrev pub WiderHostAgrees : Type 0 → Type 0 → Type 0
WiderHostAgrees H K =
    (view : K → H) (wide : Setting K) (plain : Setting H) → SeenAs view wide plain
    → (expressions calls : ℕ) (tree : Tree) (path : List ℕ) (st : State K)
    → outcome_seen view (meaning wide expressions calls tree path st)
    ≡ meaning plain expressions calls tree path (state_seen view st)

-- a host command asks no shared call
abbrev pub asks : {H : Type 0} → HostStep H → Bool
asks (Gives v host effects) = false
asks (Faults f host effects) = false
asks (Asks call host) = true

abbrev pub waits : {H : Type 0} → Outcome H → Bool
waits (Ends code st) = false
waits (Waits path call st) = true

-- where no host command asks, no evaluation waits
abbrev pub AskedByNoneWaitsNever : Type 0 → Type 0
AskedByNoneWaitsNever H =
    (g : Setting H) → ((host : H) (words : List (List ℕ)) → asks (g.table host words) ≡ false)
    → (expressions calls : ℕ) (tree : Tree) (path : List ℕ) (st : State H)
    → waits (meaning g expressions calls tree path st) ≡ false

-- the levels outside the innermost are as they were, where an evaluation ends
abbrev pub KeepsOuter : {H : Type 0} → List Level → Outcome H → Type 0
KeepsOuter outer (Ends code st) = (level : Level) × (st.vars.levels ≡ level ∷ outer)
KeepsOuter outer (Waits path call st) = Unit {0}

-- proc(n): a procedure sees variables of its own; whatever its body does, those of its callers stay
abbrev pub CallersVariablesStay : Type 0 → Type 0
CallersVariablesStay H =
    (g : Setting H) (expressions calls : ℕ) (tree : Tree) (path : List ℕ) (st : State H)
    (level : Level) (outer : List Level) → st.vars.levels ≡ level ∷ outer
    → KeepsOuter outer (meaning g expressions calls tree path st)

-- all levels are as they were, where an evaluation ends
abbrev pub KeepsLevels : {H : Type 0} → List Level → Outcome H → Type 0
KeepsLevels levels (Ends code st) = st.vars.levels ≡ levels
KeepsLevels levels (Waits path call st) = Unit {0}

-- proc(n): a call's own variables go with it, and its caller's own are as they were too
abbrev pub CallsKeepLevels : Type 0 → Type 0
CallsKeepLevels H =
    (g : Setting H) (expressions calls : ℕ) (words : List (List ℕ)) (path : List ℕ) (st : State H)
    (level : Level) (outer : List Level) → st.vars.levels ≡ level ∷ outer
    → KeepsLevels (level ∷ outer) (call_command g (inner g expressions calls) words path st)

-- catch(n), in this profile: a spent budget goes through
abbrev pub SpentBudgetPasses : Type 0 → Type 0
SpentBudgetPasses H =
    (statics : Option Level) (body : Meaning H) (words : List (List ℕ)) (path : List ℕ)
    (st after : State H) → body path st ≡ Ends (Raised budget_spent) after
    → caught_in statics body words path st ≡ Ends (Raised budget_spent) after

-- a loop's turns, where so many may be made
abbrev pub loop_turns : {H : Type 0} → Setting H → (expressions calls : ℕ) → (test body next : Tree)
    → ℕ → Meaning H
loop_turns g expressions calls test body next n =
    turns n (child alone 1 test (meaning g expressions calls test))
    (child free 3 body (meaning g expressions calls body))
    (child free 2 next (meaning g expressions calls next))

-- while(n), for(n): a loop's turns, with as many as the budget or more, never show their number: each
-- takes a unit, and where none is left the fault is the same
abbrev pub TurnsShowNoNumber : Type 0 → Type 0
TurnsShowNoNumber H =
    (g : Setting H) (expressions calls : ℕ) (test body next : Tree) (n m : ℕ) (path : List ℕ)
    (st : State H) → st.budget ≤ n → st.budget ≤ m
    → loop_turns g expressions calls test body next n path st
    ≡ loop_turns g expressions calls test body next m path st

-- Tcl(n): "substitutions take place from left to right": the second word is evaluated where the first
-- one ended, and what is done with both comes where the second one did
abbrev pub WordsGoFromTheLeft : Type 0 → Type 0
WordsGoFromTheLeft H =
    (finish : List (List ℕ) → Meaning H) (first second : Meaning H) (v w path : List ℕ)
    (st mid after : State H) → first path st ≡ Ends (Value v) mid
    → second path mid ≡ Ends (Value w) after → sum_by length (v ∷ (w ∷ [])) ≤ text_limit
    → in_order finish (first ∷ (second ∷ [])) [] path st ≡ finish (v ∷ (w ∷ [])) path after
