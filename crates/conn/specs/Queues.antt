-- What is queued to a side, and what was dropped.
use Rattle.std.specs.Prelude.{ℕ, ◌+◌, List}
use Rattle.px_bytes.specs.declared.addr.Side.{Side}
use Rattle.conn.specs.Ends.{end_of, lost_at, queue_of}
use Rattle.conn.specs.declared.connection.Conn.{Conn}
use Rattle.conn.specs.declared.stage.Stage.{Stage}
use Rattle.conn.specs.declared.stage.Stage.TheVariants as stage

abbrev pub queue_in : Side → Conn → List ℕ
queue_in side c = queue_of (end_of side c.ends)

-- so many bytes were dropped: those that were queued when it found no memory, or those of resets, of
-- server connections before too
abbrev pub dropped_at : Stage → ℕ → ℕ
dropped_at (stage.Dropped n) lost = n
dropped_at other lost = lost

abbrev pub dropped_by : Conn → ℕ
dropped_by c = dropped_at c.stage (lost_at c.ends.client + (lost_at c.ends.server + c.ends.lost))
