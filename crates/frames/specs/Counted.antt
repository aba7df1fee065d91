-- What operators give, with what is paid for them and what they tick.
use Rattle.std.specs.Prelude.{◌≡◌, ℕ, ◌+◌}

pub record Counted (A : Type 0) : Type 0 where
  pub value : A
  pub cost : ℕ
  pub ticks : ℕ

-- nothing was paid
abbrev pub given : {A : Type 0} → A → Counted A
given value = record { value = value; cost = 0; ticks = 0 }

-- so much was paid and ticked before
abbrev pub counted_after : {A : Type 0} → (cost ticks : ℕ) → Counted A → Counted A
counted_after cost ticks c =
    record { value = c.value; cost = cost + c.cost; ticks = ticks + c.ticks }

-- this is what was told, and the counters of cost and of ticks go from the first to the last
pub record Counts {A : Type 0} (c : Counted A) (paid ticked : ℕ) (told : A) (paid' ticked' : ℕ)
    : Type 0 where
  pub value_is : told ≡ c.value
  pub paid_is : paid' ≡ paid + c.cost
  pub ticked_is : ticked' ≡ ticked + c.ticks
