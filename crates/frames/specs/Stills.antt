-- Moves that ask no host, as exact results on plain values.
use Rattle.std.specs.Prelude.{◌≡◌, ℕ, ◌+◌, List, Bool, Result, Ok, Err}
use Rattle.px_bytes.specs.declared.fault.Reply.{Reply}
use Rattle.px_bytes.specs.declared.fault.TclFault.{TclFault}
use Rattle.tcl_trees.specs.Tree.{Tree}
use Rattle.tcl_vars.specs.Scopes.{Scopes}
use Rattle.rule_model.specs.Outcome.{Act, state, Meaning, heard}
use Rattle.rule_model.specs.Setting.{Setting}
use Rattle.frames.specs.Counted.{Counted, Counts}
use Rattle.frames.specs.Moves.{stands}
use Rattle.frames.specs.declared.frame.Room.{Room}
use Rattle.frames.specs.declared.next.Next.{Next}

-- what a node does next, what it pays for, and the ticks of the operators in it
pub record Move : Type 0 where
  pub next : Next
  pub cost : ℕ
  pub ticks : ℕ

-- the same with the budget that is left
pub record Spend : Type 0 where
  pub move : Move
  pub budget : ℕ

-- the same with the variables after it
pub record Write : Type 0 where
  pub move : Move
  pub vars : Scopes

-- the same with both
pub record Change : Type 0 where
  pub move : Move
  pub budget : ℕ
  pub vars : Scopes

-- nothing is paid
abbrev pub moves : Next → Move
moves next = record { next = next; cost = 0; ticks = 0 }

abbrev pub spends : ℕ → Next → Spend
spends budget next = record { move = moves next; budget = budget }

abbrev pub writes : Scopes → Next → Write
writes vars next = record { move = moves next; vars = vars }

abbrev pub changes : ℕ → Scopes → Next → Change
changes budget vars next = record { move = moves next; budget = budget; vars = vars }

-- so much was paid and ticked before
abbrev pub move_after : (cost ticks : ℕ) → Move → Move
move_after cost ticks m =
    record { next = m.next; cost = cost + m.cost; ticks = ticks + m.ticks }

abbrev pub spend_after : (cost ticks : ℕ) → Spend → Spend
spend_after cost ticks s =
    record { move = move_after cost ticks s.move; budget = s.budget }

abbrev pub write_after : (cost ticks : ℕ) → Write → Write
write_after cost ticks w =
    record { move = move_after cost ticks w.move; vars = w.vars }

abbrev pub change_after : (cost ticks : ℕ) → Change → Change
change_after cost ticks c =
    record { move = move_after cost ticks c.move; budget = c.budget; vars = c.vars }

-- the budget and the variables are those before
abbrev pub still : ℕ → Scopes → Move → Change
still budget vars m = record { move = m; budget = budget; vars = vars }

abbrev pub spent : Scopes → Spend → Change
spent vars s = record { move = s.move; budget = s.budget; vars = vars }

abbrev pub written : ℕ → Write → Change
written budget w = record { move = w.move; budget = budget; vars = w.vars }

-- where a move leads, with what is paid and ticked
abbrev pub counted : Move → Counted Next
counted m = record { value = m.next; cost = m.cost; ticks = m.ticks }

-- a move leads here, and the counters of cost and of ticks go from the first to the last
abbrev pub Pays : Move → (paid ticked : ℕ) → Next → (paid' ticked' : ℕ) → Type 0
Pays m paid ticked next paid' ticked' =
    Counts (counted m) paid ticked next paid' ticked'

-- the same with the budget that is left
pub record Spends (s : Spend) (paid ticked : ℕ) (next : Next) (budget paid' ticked' : ℕ)
    : Type 0 where
  pub pays : Pays s.move paid ticked next paid' ticked'
  pub budget_is : budget ≡ s.budget

-- the variables, the budget, and the counters of cost and of ticks
pub record Tally : Type 0 where
  pub vars : Scopes
  pub budget : ℕ
  pub paid : ℕ
  pub ticked : ℕ

abbrev pub tally : Scopes → (budget paid ticked : ℕ) → Tally
tally vars budget paid ticked =
    record { vars = vars; budget = budget; paid = paid; ticked = ticked }

-- a move of this change leads from the one to the other
pub record Leads (c : Change) (old : Tally) (next : Next) (new : Tally) : Type 0 where
  pub next_is : next ≡ c.move.next
  pub vars_are : new.vars ≡ c.vars
  pub budget_is : new.budget ≡ c.budget
  pub paid_is : new.paid ≡ old.paid + c.move.cost
  pub ticked_is : new.ticked ≡ old.ticked + c.move.ticks

-- a move of some such change does
pub record Makes (Is : Change → Type 0) (old : Tally) (next : Next) (new : Tally) : Type 0 where
  pub change : Change
  pub is : Is change
  pub leads : Leads change old next new

-- goes on with a value; a fault goes to the other
abbrev pub on_result : {A X : Type 0} → Result A TclFault → (A → X) → (TclFault → X) → X
on_result (Ok a) go other = go a
on_result (Err f) go other = other f

-- What a move comes to: whatever is seen of the host, whatever replies come, and whatever was paid
-- and done before, the node comes to the same from where it stands then.
pub record Comes {H : Type 0} (g : Setting H) (r : Room) (wanted : Bool) (t : Tree)
    (whole : Meaning H) (vars : Scopes) (budget : ℕ) (c : Change) : Type 0 where
  pub same : (path : List ℕ) (host : H) (more : List Reply) (cost : ℕ) (acts : List Act)
      → heard wanted (whole path (state vars host more budget cost acts))
      ≡ heard wanted (stands g r t c.move.next path
      (state c.vars host more c.budget (cost + c.move.cost) acts))
