-- What a contract sees of a queue of calls.
use Rattle.std.specs.Prelude.{ℕ, List}
use Rattle.proxy_core.specs.declared.call.Asked.{Asked}
use Rattle.proxy_core.specs.declared.call.Asleep.{Asleep}

-- the calls, the next in front, those that sleep before they come to it, and how many there is room
-- for in each of the two
pub record CallQueue : Type 0 where
  pub items : List Asked
  pub asleep : List Asleep
  pub room : ℕ
