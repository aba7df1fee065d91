-- Items in order, and how many more fit without taking memory.
use Rattle.std.specs.Prelude.{ℕ, List}

pub record Roomy (T : Type 0) : Type 0 where
  pub items : List T
  pub spare : ℕ
