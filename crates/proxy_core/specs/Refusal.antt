-- What the scheduler knows of an event, and what a core knows of it, by which each refuses it.
use Rattle.std.specs.Prelude.{ℕ, length, Bool, true, false, Option, Some, None}
use Rattle.std.specs.Prelude.{option_map, if◌then◌else◌}
use Rattle.px_bytes.specs.declared.addr.Side.{Side}
use Rattle.px_bytes.specs.declared.addr.Side.TheVariants.{Client, Server}
use Rattle.core_events.specs.declared.event_kind.EventKind.{EventKind}
use Rattle.core_events.specs.declared.input.Input.{Input}
use Rattle.conn_trace.specs.Queries as query
use Rattle.conn_trace.specs.Queries.{unread_limit}
use Rattle.record_model.specs.History.{store_of}
use Rattle.proxy_core.specs.Live.{edges_in, pending_in, wanted_of}
use Rattle.core_events.specs.Kinds.{kind_of}
use Rattle.record_model.specs.Past.{Past, shared}
use Rattle.proxy_core.specs.Refusals.{live_at}
use Rattle.proxy_core.specs.Scheduler.{State, Seen, seen, untaken_of}
use Rattle.record_model.specs.Setup.{stand_of}
use Rattle.run_config.specs.declared.config.Config.{Config}
use Rattle.proxy_core.specs.declared.core_state.Core.{Core}
use Rattle.core_events.specs.declared.event.Event.{Event}
use Rattle.proxy_core.specs.declared.live.Live.{Live}
use Rattle.core_events.specs.declared.bad_event.BadEvent.{BadEvent}
use Rattle.core_events.specs.declared.bad_event.BadEvent.TheVariants.{AfterEnd, NotConnecting}
use Rattle.core_events.specs.declared.bad_event.BadEvent.TheVariants.{TooMuch, TookTooMuch}
use Rattle.record_model.specs.Refusal.{Standing, Known, named, has_marked, refusal_by}
use Rattle.record_model.specs.Refusal.{is_late, answers_nothing, comes_too_much, takes_too_much}

-- how many bytes of a side may come: as many as its trace wants, and once the connection has
-- finished the most
abbrev pub wants_at : Config → Seen → Side → ℕ
wants_at C z side =
    if z.heard.finished then unread_limit else query.wanted side (stand_of C z.heard z.place)

abbrev pub standing_by : Config → Bool → Seen → Option Standing
standing_by C false z = None
standing_by C true z = Some (record {
  edges = z.heard.edges;
  from_client = wants_at C z Client;
  from_server = wants_at C z Server;
  to_client = untaken_of z.heard z.place Client;
  to_server = untaken_of z.heard z.place Server;
})

abbrev pub standing_of : Config → Seen → Option Standing
standing_of C z = standing_by C z.live z

-- what the scheduler knows of an event
abbrev pub known : Config → Past → State → EventKind → Known
known C past s v = record {
  last = (shared past).last;
  moment = (shared past).moment;
  live = length (shared past).live;
  conn = standing_of C (seen past s (named v));
  member = has_marked (store_of C past) v;
}

-- which event the scheduler refuses, and why
abbrev pub refused : Config → Past → State → EventKind → Option BadEvent
refused C past s v = refusal_by C (known C past s v) v

-- what a core knows of the same
abbrev pub core_standing : Option Live → Option Standing
core_standing o = option_map (λ l. record {
  edges = edges_in l;
  from_client = wanted_of Client l.conn;
  from_server = wanted_of Server l.conn;
  to_client = pending_in Client l.conn;
  to_server = pending_in Server l.conn;
}) o

-- why what comes of a live connection is refused
abbrev pub input_refusal : Live → Input → Option BadEvent
input_refusal l input =
    if is_late (edges_in l) input then Some AfterEnd
    else if answers_nothing (edges_in l) input then Some NotConnecting
    else if comes_too_much (core_standing (Some l)) input then Some TooMuch
    else if takes_too_much (core_standing (Some l)) input then Some TookTooMuch else None

abbrev pub core_known : Core → EventKind → Known
core_known core v = record {
  last = core.last;
  moment = core.moment;
  live = length core.live.items;
  conn = core_standing (live_at core.live.items (named v));
  member = has_marked core.store v;
}

abbrev pub refusal_of : Core → EventKind → Option BadEvent
refusal_of core v = refusal_by core.config (core_known core v) v

abbrev pub refusal : Core → Event → Option BadEvent
refusal core event = refusal_of core (kind_of event)
