-- What bodies cost, along items.
use Rattle.std.proofs.Common.{◌≡◌, refl, ap, ◌∙◌, ℕ, ◌+◌, ◌*◌, List, [], ◌∷◌, ◌++◌, arith}
use Rattle.event_order.specs.declared.event.EventName.{EventName}
use Rattle.event_order.specs.declared.event.EventName.TheVariants.{ClientAccepted, ClientClosed}
use Rattle.conn_trace.specs.Costs.{bodies_in, ended_bodies, paid_by}
use Rattle.conn_trace.specs.Item.{Item, Opened, BeforeBodies, Logged, Ran, cost_in, shown}

costs_join : (some more : List Item) → cost_in (some ++ more) ≡ cost_in some + cost_in more
costs_join [] more = omega arith
costs_join (i ∷ some) more = let k = costs_join some more in omega (arith, k)

bodies_join : (some more : List Item) → bodies_in (some ++ more) ≡ bodies_in some + bodies_in more
bodies_join [] more = omega arith
bodies_join (i ∷ some) more = let k = bodies_join some more in omega (arith, k)

pub paid_joins : (some more : List Item) → paid_by (some ++ more) ≡ paid_by some + paid_by more
paid_joins some more = let k = costs_join some more in let n = bodies_join some more in omega (arith, k, n)

-- a body that ended is paid for by its own item
pub ended_pays : (e : EventName) (some : List Item) (cost : ℕ) → paid_by (some ++ Ran e cost ∷ []) ≡ paid_by some + (3 * cost + 2)
ended_pays e some cost = let own : paid_by (Ran e cost ∷ []) ≡ 3 * cost + 2 = omega arith in paid_joins some (Ran e cost ∷ []) ∙ ap (λ n. paid_by some + n) own

-- two bodies, of 5 and of 3 units
two_bodies : paid_by (Opened BeforeBodies ∷ Logged [] ∷ Ran ClientAccepted 5 ∷ Ran ClientClosed 3 ∷ []) ≡ 28
two_bodies = refl
