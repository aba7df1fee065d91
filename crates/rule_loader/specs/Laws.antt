-- What holds of the order of handlers, and of the fault that is told.
use Rattle.std.specs.Prelude.{◌≡◌, List, [], Contains, MatchOption, false}
use Rattle.std.specs.List.Sorted.{IsSortedBy, IsPermutation, IsStableBy}
use Rattle.rule_loader.specs.Faults.{comes_first, told_of}
use Rattle.rule_loader.specs.Handlers.{Handled}
use Rattle.rule_loader.specs.Order.{handlers_in_order, in_turn, runs_before}
use Rattle.rule_loader.specs.declared.load_fault.RuleFault.{RuleFault}

-- the bodies of all rules, each once, by their priorities; those of one priority as they stand
pub record InOrder (rules : List (List Handled)) : Type 0 where
  pub sorted : IsSortedBy runs_before (handlers_in_order rules)
  pub each_once : IsPermutation (in_turn rules) (handlers_in_order rules)
  pub stable : IsStableBy runs_before (in_turn rules) (handlers_in_order rules)

abbrev pub HandlersRunInOrder : Type 0
HandlersRunInOrder = (rules : List (List Handled)) → InOrder rules

-- it is one of them, and none of them comes before it
pub record IsLeast (faults : List RuleFault) (f : RuleFault) : Type 0 where
  pub one : Contains faults f
  pub first : (g : RuleFault) → Contains faults g → comes_first g f ≡ false

-- nothing is told only where nothing is wrong
abbrev pub LeastIsTold : Type 0
LeastIsTold = (faults : List RuleFault)
    → MatchOption (told_of faults) (faults ≡ []) (IsLeast faults)
