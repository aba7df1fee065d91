-- What the bodies of a trace cost, and how many steps of the evaluator they pay for.
use Rattle.std.specs.Prelude.{ℕ, ◌+◌, ◌*◌, ◌≤◌, List, [], ◌∷◌, Bool, true, false}
use Rattle.rule_model.specs.Laws.{state_after}
use Rattle.conn_trace.specs.Bodies.{run_body}
use Rattle.conn_trace.specs.Item.{Item, Ran, cost_in}
use Rattle.conn_trace.specs.Setup.{Setup}
use Rattle.conn_trace.specs.State.{Phase, InEvent, Running, TraceState}

-- how many bodies ended
abbrev pub ended_bodies : Item → ℕ
ended_bodies (Ran event cost) = 1
ended_bodies other = 0

abbrev pub bodies_in : List Item → ℕ
bodies_in [] = 0
bodies_in (i ∷ items) = ended_bodies i + bodies_in items

-- The steps that bodies that ended pay for: three for each unit of their cost, and two for each of
-- them.
abbrev pub paid_by : List Item → ℕ
paid_by items = 3 * cost_in items + 2 * bodies_in items

-- a body runs or waits there
abbrev pub in_body : Phase → Bool
in_body (InEvent e (Running b bs n)) = true
in_body other = false

-- what the body that runs or waits pays for, by what it costs on the replies so far
abbrev pub open_at : Setup → Phase → TraceState → ℕ
open_at g (InEvent e (Running b bs n)) l = 3 * (state_after (run_body g b l)).cost + 2
open_at g other l = 0

abbrev pub paid_there : Setup → TraceState → ℕ
paid_there g l = open_at g l.phase l

-- So many Runs stopped in the middle of a body, each behind 1,991 steps at least. All of them are
-- paid for by the bodies of these items and by the one that runs or waits behind them.
abbrev pub SlicesPaid : Setup → List Item → TraceState → (slices : ℕ) → Type 0
SlicesPaid g items at slices = 1991 * slices ≤ paid_by items + paid_there g at
