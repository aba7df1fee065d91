-- What a connection runs on, by the configuration and what was heard of the connection, and where
-- it stands.
use Rattle.std.specs.Prelude.{ℕ, List, [], map, length, Bool, false, slice_get, option_and_then}
use Rattle.std.specs.Prelude.{Option, Some, None}
use Rattle.std.specs.List.{position_from}
use Rattle.std.specs.Str.{bytes_eq}
use Rattle.px_bytes.specs.declared.addr.Addr.{Addr}
use Rattle.tcl_vars.specs.Scopes.{Level}
use Rattle.event_order.specs.declared.event.EventName.{EventName}
use Rattle.core_events.specs.declared.note.Note.{Note}
use Rattle.core_events.specs.declared.note.Note.TheVariants.{Log}
use Rattle.conn_trace.specs.Heard.{Accepted, Heard, start_of}
use Rattle.conn_trace.specs.Http.{the_heads}
use Rattle.conn_trace.specs.Item.{Item}
use Rattle.conn_trace.specs.Setup.{Handler, Setup}
use Rattle.conn_trace.specs.State.{TraceState}
use Rattle.conn_trace.specs.Trace.{behind}
use Rattle.record_model.specs.Bodies.{bodies_of}
use Rattle.record_model.specs.Init.{init}
use Rattle.run_config.specs.declared.config.Config.{Config}
use Rattle.run_config.specs.declared.config.Virtual.{Virtual}

-- the numbers of the rules of a virtual server
abbrev pub numbers_in : Option Virtual → List ℕ
numbers_in None = []
numbers_in (Some v) = v.rules

-- its name
abbrev pub name_in : Option Virtual → List ℕ
name_in None = []
name_in (Some v) = v.name

abbrev pub name_at : Config → ℕ → List ℕ
name_at C place = name_in (slice_get C.virtuals place)

-- its default pool, empty where it has none
abbrev pub pool_in : Option Virtual → List ℕ
pool_in None = []
pool_in (Some v) = v.pool

abbrev pub pool_at : Config → ℕ → List ℕ
pool_at C place = pool_in (slice_get C.virtuals place)

-- whether it speaks HTTP
abbrev pub http_in : Option Virtual → Bool
http_in None = false
http_in (Some v) = v.http

abbrev pub http_at : Config → ℕ → Bool
http_at C place = http_in (slice_get C.virtuals place)

-- its port
abbrev pub port_in : Option Virtual → ℕ
port_in None = 0
port_in (Some v) = v.listen.port

abbrev pub port_of : Config → ℕ → ℕ
port_of C place = port_in (slice_get C.virtuals place)

-- the bodies of an event, in their order
abbrev pub handlers_in : Config → Option Virtual → EventName → List Handler
handlers_in C v e = map (λ b. b.handler) (bodies_of C.rules (numbers_in v) e)

-- the place of the first virtual server of a name
abbrev pub virtual_place : Config → List ℕ → Option ℕ
virtual_place C name = position_from (λ v. bytes_eq v.name name) 0 C.virtuals

-- the virtual server of a name
abbrev pub virtual_named : Config → List ℕ → Option Virtual
virtual_named C name = option_and_then (λ place. slice_get C.virtuals place) (virtual_place C name)

-- what the rules' RULE_INIT leave in the static variables, and the notes of the lines that they
-- log, which are about no connection
abbrev pub statics_of : Config → Level
statics_of C = (init C).vars.statics

abbrev pub init_notes : Config → List Note
init_notes C = map (λ line. Log 0 line) (init C).lines

-- the setup of a connection that the virtual server of this name accepts from an address
abbrev pub setup_for : Config → List ℕ → Addr → Setup
setup_for C name from = record {
  name = name;
  port = port_in (virtual_named C name);
  pool = pool_in (virtual_named C name);
  http = http_in (virtual_named C name);
  from = from;
  budget = C.budget;
  statics = statics_of C;
  groups = C.groups;
  heads = the_heads;
  handlers = handlers_in C (virtual_named C name);
}

abbrev pub setup_in : Config → Option Accepted → Setup
setup_in C None = setup_for C [] (record { ip = 0; port = 0 })
setup_in C (Some a) = setup_for C a.virtual a.from

abbrev pub setup_of : Config → Heard → Setup
setup_of C h = setup_in C h.accepted

-- where a connection's trace begins on what was heard, and where it stands behind these items
abbrev pub begins_at : Config → Heard → TraceState
begins_at C h = start_of (setup_of C h) h

abbrev pub stand_of : Config → Heard → List Item → TraceState
stand_of C h place = behind (length place) (setup_of C h) (begins_at C h)
