-- The moves of a loop (Tcl 8.4, while(n), for(n)).
use Rattle.std.specs.Prelude.{ℕ, ◌-◌, [], Bool, true, false, ◌||◌, nat_eq, Option, Some, None}
use Rattle.std.specs.Prelude.{Result, Ok, Err, if◌then◌else◌}
use Rattle.px_bytes.specs.FaultText.{budget_spent}
use Rattle.px_bytes.specs.declared.fault.TclFault.{TclFault}
use Rattle.tcl_trees.specs.Tree.{Tree}
use Rattle.rule_model.specs.Children.{alone}
use Rattle.rule_model.specs.declared.code.Code.{Code}
use Rattle.rule_model.specs.declared.code.Code.TheVariants.{Value, Raised}
use Rattle.rule_nodes.specs.Goes.{next_goes}
use Rattle.rule_nodes.specs.Operators.{truth_read}
use Rattle.rule_nodes.specs.declared.goes.Goes.{Goes}
use Rattle.rule_nodes.specs.declared.goes.Goes.TheVariants.{On, Over, Ends}
use Rattle.frames.specs.Leafs.{leaf_code}
use Rattle.frames.specs.Moves.{back_under, child_under, stop}
use Rattle.frames.specs.Owed.{is_flat}
use Rattle.frame_loops.specs.Quick.{quick}
use Rattle.frames.specs.Reads.{Known}
use Rattle.frames.specs.Stills.{Spend, spends, spend_after}
use Rattle.frames.specs.declared.frame.Frame.{Frame}
use Rattle.frames.specs.declared.frame.Frame.TheVariants as frame
use Rattle.frames.specs.declared.next.Next.{Next}

-- a child under this frame; one that has its end at once is done
abbrev pub above : Known → Tree → Frame → Next
above k t f = if is_flat t then back_under f (leaf_code k.statics k.vars t) else child_under f

-- the trees of a loop
pub record Parts : Type 0 where
  pub start : Tree
  pub test : Tree
  pub next : Tree
  pub body : Tree

-- a turn, where so many may still be made and the condition has this value
abbrev pub turn_move : Known → Tree → (left budget : ℕ) → Bool → Spend
turn_move k body left budget false = spends budget (stop (Value []))
turn_move k body left budget true =
    if nat_eq left 0 || nat_eq budget 0 then spends budget (stop (Raised budget_spent))
    else spend_after 1 0 (spends (budget - 1) (above k body (frame.Turn (left - 1))))

abbrev pub holds_move : Known → Tree → (left budget : ℕ) → Result Bool TclFault → Spend
holds_move k body left budget (Ok holds) = turn_move k body left budget holds
holds_move k body left budget (Err f) = spends budget (stop (Raised f))

-- behind the test
abbrev pub test_told : Known → Tree → (left budget : ℕ) → Code → Spend
test_told k body left budget (Value v) = holds_move k body left budget (truth_read v)
test_told k body left budget code = spends budget (stop code)

-- the test, which may have its end at once
abbrev pub test_by : Known → Tree → (left budget : ℕ) → Option Code → Spend
test_by k body left budget (Some code) = test_told k body left budget code
test_by k body left budget None = spends budget (child_under (frame.Test left))

abbrev pub test_move : Known → Parts → (left budget : ℕ) → Spend
test_move k l left budget =
    let q = quick k l.test in
    spend_after (alone l.test) 0
    (spend_after q.cost q.ticks (test_by k l.body left budget q.value))

-- behind what comes after a turn
abbrev pub goes_by : Goes → Code → ℕ → Spend → Spend
goes_by On code budget go = go
goes_by Over code budget go = spends budget (stop (Value []))
goes_by Ends code budget go = spends budget (stop code)

abbrev pub next_told : Known → Parts → (left budget : ℕ) → Code → Spend
next_told k l left budget code =
    goes_by (next_goes code) code budget (test_move k l left budget)

abbrev pub next_move : Known → Parts → (left budget : ℕ) → Spend
next_move k l left budget =
    if is_flat l.next then next_told k l left budget (leaf_code k.statics k.vars l.next)
    else spends budget (child_under (frame.Next left))

-- behind what starts the loop, and the whole loop
abbrev pub start_told : Known → Parts → (budget : ℕ) → Code → Spend
start_told k l budget (Value v) = test_move k l budget budget
start_told k l budget code = spends budget (stop code)

abbrev pub loop_move : Known → Parts → (budget : ℕ) → Spend
loop_move k l budget =
    spend_after 1 0
    (if is_flat l.start then start_told k l budget (leaf_code k.statics k.vars l.start)
    else spends budget (child_under frame.Start))
