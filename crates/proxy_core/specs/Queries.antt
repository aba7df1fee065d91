-- What a core tells of a connection.
use Rattle.std.specs.Prelude.{ℕ, List, [], Option, Some, None, length, take, nat_le, if◌then◌else◌}
use Rattle.px_bytes.specs.declared.addr.Side.{Side}
use Rattle.conn.specs.declared.connection.Conn.{Conn}
use Rattle.conn.specs.Queues.{queue_in}
use Rattle.proxy_core.specs.declared.live.Live.{Live}

-- the bytes that a side is to take
abbrev pub queue_on : Side → Option Conn → List ℕ
queue_on side None = []
queue_on side (Some conn) = queue_in side conn

abbrev pub pending_on : Side → Option Conn → ℕ
pending_on side conn = length (queue_on side conn)

-- the first n of them, where there are as many
abbrev pub front_in : ℕ → List ℕ → Option (List ℕ)
front_in n queue = if nat_le n (length queue) then Some (take n queue) else None

abbrev pub front_of : Side → ℕ → Option Live → Option (List ℕ)
front_of side n None = None
front_of side n (Some l) = front_in n (queue_on side l.conn)
