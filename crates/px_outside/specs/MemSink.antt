-- A sink in memory.
use Rattle.std.specs.Prelude.{ℕ, Bool, List, ◌++◌, ◌==◌, if◌then◌else◌}
use Rattle.std.specs.List.{list_any}
use Rattle.px_outside.specs.Outside.{counted_up}

pub record SinkInMemory : Type 0 where
  -- all that was written so far
  pub written : List ℕ
  -- the numbers of the writes that fail, the first write being 1
  pub fails : List ℕ
  -- how many writes there were
  pub calls : ℕ
  -- how many of them failed
  pub faults : ℕ

-- the number of the next write is among those that fail
abbrev pub next_fails : SinkInMemory → Bool
next_fails m = list_any (λ number. number == counted_up m.calls) m.fails

-- the sink after the next write, which is counted, as is its fault where its number is among those
-- that fail; the bytes are written where it succeeds
abbrev pub after_write : SinkInMemory → List ℕ → Bool → SinkInMemory
after_write m bytes succeeds = record m {
  written = if succeeds then m.written ++ bytes else m.written;
  calls = counted_up m.calls;
  faults = if next_fails m then counted_up m.faults else m.faults;
}
