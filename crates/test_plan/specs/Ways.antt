-- In which orders what a test does together may happen.
use Rattle.std.specs.Prelude.{ℕ, Bool, true, false, List, [], ◌∷◌, ◌++◌, length, map, flat_map, nat_lt, Option, Some, None}
use Rattle.std.specs.Prelude.{if◌then◌else◌}
use Rattle.test_orders.specs.Orders.{most_orders, numbers_from, orders}
use Rattle.test_plan.specs.Plan.{groups_from}
use Rattle.test_text.specs.declared.test_file.PlacedStep.{PlacedStep}
use Rattle.test_text.specs.declared.test_file.TestStep.{TestStep}
use Rattle.test_text.specs.declared.test_file.TestStep.TheVariants as step

-- The orders of what a step does together: all, or the one that is written. What is no such step has one, which is empty.
abbrev pub step_orders : (all : Bool) → (clients : ℕ) → TestStep → List (List ℕ)
step_orders true clients (step.Together deeds) = orders (groups_from clients 0 deeds)
step_orders false clients (step.Together deeds) = numbers_from 0 (length deeds) ∷ []
step_orders all clients (step.One deed) = [] ∷ []
step_orders all clients (step.Expect question) = [] ∷ []

-- each way with each of these orders behind it
abbrev pub with_orders : List (List ℕ) → List (List (List ℕ)) → List (List (List ℕ))
with_orders orders ways = flat_map (λ way. map (λ order. way ++ order ∷ []) orders) ways

-- unless they are more than 10,000
abbrev pub unless_many : List (List (List ℕ)) → Option (List (List (List ℕ)))
unless_many ways = if nat_lt most_orders (length ways) then None else Some ways

abbrev pub grown_by : (orders : List (List ℕ)) → List (List (List ℕ)) → Option (List (List (List ℕ)))
grown_by orders ways = if nat_lt most_orders (length orders) then None else unless_many (with_orders orders ways)

-- the ways of so many steps and one more
abbrev pub grown : (all : Bool) → (clients : ℕ) → List (List (List ℕ)) → TestStep → Option (List (List (List ℕ)))
grown all clients ways step = grown_by (step_orders all clients step) ways

abbrev pub if_some : Option (List (List (List ℕ))) → (List (List (List ℕ)) → Option (List (List (List ℕ))))
    → Option (List (List (List ℕ)))
if_some None next = None
if_some (Some ways) next = next ways

abbrev pub ways_from : (all : Bool) → (clients : ℕ) → List PlacedStep → List (List (List ℕ))
    → Option (List (List (List ℕ)))
ways_from all clients [] ways = Some ways
ways_from all clients (s ∷ ss) ways = if_some (grown all clients ways s.step) (ways_from all clients ss)

-- the ways in which what a test does together may happen, an order for each step; none where they are more than 10,000
abbrev pub ways : (all : Bool) → (clients : ℕ) → List PlacedStep → Option (List (List (List ℕ)))
ways all clients steps = ways_from all clients steps ([] ∷ [])
