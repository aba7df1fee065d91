-- How many bytes of a connection lie unread, are pending to its sides and are kept of its messages, and how many
-- rows the session table has, behind every past.
use Rattle.std.specs.Prelude.{◌≡◌, ◌<◌, ◌≤◌, ℕ, ◌-◌, length, true, is_some}
use Rattle.px_bytes.specs.declared.addr.Side.{Side}
use Rattle.conn_trace.specs.Bounds.{pending_limit, read_limit}
use Rattle.conn_trace.specs.Host.{http_of}
use Rattle.conn_trace.specs.Queries.{arriving, counted_held, unread_at, unread_limit}
use Rattle.conn_trace.specs.State.{TraceState}
use Rattle.irule_http.specs.Laws.{HeadsWithin}
use Rattle.irule_http.specs.Payload.{payload_limit}
use Rattle.irule_http.specs.declared.state.Http.{Http}
use Rattle.proxy_core.specs.Moves.{Leads}
use Rattle.record_model.specs.History.{store_of}
use Rattle.record_model.specs.Past.{Past, heard}
use Rattle.proxy_core.specs.Scheduler.{State, pending}
use Rattle.record_model.specs.Setup.{stand_of}
use Rattle.run_config.specs.declared.config.Config.{Config}

-- what came of a side and wasn't read, without what a collect holds of it
abbrev pub lying : Side → TraceState → ℕ
lying side at = length (unread_at (arriving side at)) - counted_held side at

-- what is known of its messages
abbrev pub messages_of : Config → Past → State → ℕ → Http
messages_of C past s c = http_of (stand_of C (heard c past) (s.places c)).host

-- Of a side no more than 65,536 bytes lie unread, and fewer than 2,400,000 are pending to it:
-- 65,535 at a gate, and behind it at most 1,114,112 of the bodies of one event (`TCP::respond`,
-- `HTTP::respond`), 1,048,576 that they release, those of one pass, or a head with what was gathered of
-- its body. Of a body no more than 1,048,576 bytes are gathered. The heads, as rules left them, have no
-- more than 100 fields, and 66,000 bytes as they are written: the 65,536 of what was read, and what a
-- reader adds to their lines. The session table has no more rows than the configuration says.
pub record BytesBounded (C : Config) (past : Past) (s : State) (c : ℕ) (side : Side) : Type 0 where
  pub unread_is_bounded : lying side (stand_of C (heard c past) (s.places c)) ≤ unread_limit
  pub pending_is_bounded : pending past s c side < pending_limit
  pub payload_is_bounded : length (messages_of C past s c).payload ≤ payload_limit
  pub heads_are_bounded : HeadsWithin read_limit (messages_of C past s c)
  pub rows_are_bounded : length (store_of C past).table.rows ≤ C.rows

-- of each connection that was accepted
abbrev pub BytesAreBounded : Type 0
BytesAreBounded =
    (C : Config) (past : Past) (s : State) → Leads C past s
    → (c : ℕ) → is_some (heard c past).accepted ≡ true → (side : Side)
    → BytesBounded C past s c side
