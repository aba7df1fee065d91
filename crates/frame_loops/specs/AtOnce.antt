-- Turns of a loop that a move does at once (Tcl 8.4, while(n), for(n)).
use Rattle.std.specs.Prelude.{◌≡◌, ℕ, ◌+◌, ◌≤◌, [], nat_eq}
use Rattle.std.specs.Prelude.{Bool, true, false, ◌&&◌, if◌then◌else◌, Option, Some}
use Rattle.tcl_vars.specs.Scopes.{Level, Scopes}
use Rattle.rule_model.specs.declared.code.Code.{Code}
use Rattle.rule_model.specs.declared.code.Code.TheVariants.{Value}
use Rattle.rule_nodes.specs.Short.{Purse, purse}
use Rattle.rule_nodes.specs.ShortTurns.{Loop, many, point}
use Rattle.rule_nodes.specs.ShortTurns as short
use Rattle.rule_nodes.specs.declared.goes.Goes.{Goes}
use Rattle.rule_nodes.specs.declared.goes.Goes.TheVariants.{On, Over, Ends}
use Rattle.frames.specs.Children.{commands_of, is_script}
use Rattle.frame_loops.specs.Loops.{Parts, above, next_move, test_move}
use Rattle.frames.specs.Moves.{back_under, stop}
use Rattle.frames.specs.Reads.{Known, known}
use Rattle.frames.specs.Stills.{Change, Spend, change_after, changes, spends, spent}
use Rattle.frames.specs.declared.frame.Frame.TheVariants as frame
use Rattle.frame_loops.specs.declared.loop_turns.Part as part
use Rattle.frame_loops.specs.declared.loop_turns.Part.TheVariants as code

-- a loop whose body and whose end of a turn are scripts
abbrev pub are_scripts : Parts → Bool
are_scripts l = is_script l.body && is_script l.next

abbrev pub loop_at : Parts → Loop
loop_at l = record {
  test = l.test;
  body = commands_of l.body;
  next = commands_of l.next;
}

-- a part of a loop, as the code has it, with the commands that are left of it
abbrev pub part_view : Parts → part.Part → short.Part
part_view l code.Test = short.Test
part_view l code.Body = short.Body 0 (commands_of l.body)
part_view l code.Next = short.Next 0 (commands_of l.next)
part_view l code.Over = short.Over

-- a body that comes next has a unit paid for it that ticked nothing
abbrev pub turn_unit : part.Part → ℕ
turn_unit code.Test = 0
turn_unit code.Body = 1
turn_unit code.Next = 0
turn_unit code.Over = 0

-- the parts from which a move's turns go
abbrev pub is_start : part.Part → Bool
is_start code.Test = true
is_start code.Body = false
is_start code.Next = true
is_start code.Over = false

-- Things of a loop that are done at once lead from a part to another, whatever was paid before.
pub record DoesTurns (statics : Option Level) (l : Parts) (from to : part.Part)
    (turns turns' : ℕ) (vars : Scopes) (budget paid : ℕ) (vars' : Scopes) (budget' paid' : ℕ)
    : Type 0 where
  pub things : ℕ
  pub cost : ℕ
  pub does : (before : ℕ) → many statics (loop_at l) things
      (point (part_view l from) turns (purse vars budget before))
      ≡ Some (point (part_view l to) turns' (purse vars' budget' (before + cost)))
  pub in_scripts : nat_eq things 0 ≡ false → are_scripts l ≡ true
  pub paid_is : paid' ≡ paid + cost

-- What is done behind the turns of a move. Where nothing ticked it is what a move does that makes
-- no turn at once.
abbrev pub part_then : Known → Parts → part.Part → (turns budget ticks : ℕ) → Spend
part_then k l code.Over n budget ticks = spends budget (stop (Value []))
part_then k l code.Body n budget ticks =
    spends budget (above k l.body (frame.Turn n))
part_then k l code.Next n budget ticks =
    if nat_eq ticks 0 then next_move k l n budget
    else spends budget (above k l.next (frame.Next n))
part_then k l code.Test n budget ticks =
    if nat_eq ticks 0 then test_move k l n budget
    else spends budget (back_under (frame.Next n) (Value []))

-- A loop's move from a part on: things that are done at once, and what is done behind them.
pub record Turns (statics : Option Level) (l : Parts) (from : part.Part) (turns : ℕ)
    (vars : Scopes) (budget : ℕ) (c : Change) : Type 0 where
  pub to : part.Part
  pub turns' : ℕ
  pub left : Purse
  pub ticks : ℕ
  pub does : DoesTurns statics l from to turns turns' vars budget 0 left.vars left.budget left.cost
  pub pays : ticks + turn_unit to ≤ left.cost
  pub change_is : c ≡ change_after left.cost ticks
      (spent left.vars (part_then (known statics left.vars) l to turns' left.budget ticks))

-- what a loop does that doesn't go on
abbrev pub OnOff : Goes → (Goes → Type 0) → Type 0
OnOff On P = Unit {0}
OnOff Over P = P Over
OnOff Ends P = P Ends

abbrev pub ended : Goes → Code → Scopes → (budget : ℕ) → Change
ended Over code vars budget = changes budget vars (stop (Value []))
ended go code vars budget = changes budget vars (stop code)
