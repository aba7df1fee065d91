-- In which orders things may happen whose own parts stay in order. What is ordered are numbers from 0 on, each of which
-- belongs to a group.
use Rattle.std.specs.Prelude.{ℕ, zero, suc, ◌+◌, ◌==◌, Bool, List, [], ◌∷◌, ◌++◌, length, get_or, map, flat_map}
use Rattle.std.specs.Prelude.{if◌then◌else◌}
use Rattle.std.specs.List.{list_any}
use Rattle.test_orders.specs.declared.order.StepOrder.{StepOrder}

-- the group of a number
abbrev pub group_of : List ℕ → ℕ → ℕ
group_of groups n = get_or groups n 0

-- one of the group stands among these
abbrev pub stands : List ℕ → ℕ → List ℕ → Bool
stands groups n before = list_any (λ other. group_of groups other == group_of groups n) before

-- Which may come next of those that are left, each with those that are left behind it: none of its group stands before
-- it.
abbrev pub nexts : List ℕ → List ℕ → List ℕ → List (ℕ × List ℕ)
nexts groups before [] = []
nexts groups before (n ∷ ns) =
    (if stands groups n before then [] else (n, before ++ ns) ∷ []) ++ nexts groups (before ++ n ∷ []) ns

-- the orders of so many that are left
abbrev pub orders_of : List ℕ → ℕ → List ℕ → List (List ℕ)
orders_of groups zero left = [] ∷ []
orders_of groups (suc more) left =
    flat_map (λ next. map (λ order. next.0 ∷ order) (orders_of groups more next.1)) (nexts groups [] left)

-- the numbers from one on
abbrev pub numbers_from : ℕ → ℕ → List ℕ
numbers_from n zero = []
numbers_from n (suc more) = n ∷ numbers_from (n + 1) more

-- the orders of all of them
abbrev pub orders : List ℕ → List (List ℕ)
orders groups = orders_of groups (length groups) (numbers_from 0 (length groups))

-- the beginnings of orders with one number more than this one
abbrev pub steps_of : List ℕ → StepOrder → List StepOrder
steps_of groups order =
    map (λ next. record { done = order.done ++ next.0 ∷ []; left = next.1 }) (nexts groups [] order.left)

abbrev pub grown : List ℕ → List StepOrder → List StepOrder
grown groups orders = flat_map (steps_of groups) orders

-- the most orders that are told
abbrev pub most_orders : ℕ
most_orders = 10000
