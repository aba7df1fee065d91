-- What a loop asks of a core, by the past and the scheduler's state.
use Rattle.std.specs.Prelude.{ℕ, ◌+◌, ◌-◌, ◌^◌, List, [], Bool, false, ◌&&◌, Option, Some, None}
use Rattle.std.specs.Prelude.{nat_lt, slice_get, option_map, unwrap_or, if◌then◌else◌}
use Rattle.px_bytes.specs.declared.addr.Addr.{Addr}
use Rattle.px_bytes.specs.declared.addr.Side.{Side}
use Rattle.px_bytes.specs.declared.addr.Side.TheVariants.{Server}
use Rattle.core_events.specs.declared.edges.Edge.{Edge}
use Rattle.core_events.specs.declared.edges.Edges.{Edges}
use Rattle.core_events.specs.Edges.{edge_of, may_send, may_take, is_connecting}
use Rattle.proxy_core.specs.Asked.{edges_of, live_of, next_due_of, queue_of, wants_of}
use Rattle.record_model.specs.Past.{Past, shared}
use Rattle.proxy_core.specs.Scheduler.{State}
use Rattle.run_config.specs.declared.config.Config.{Config}

-- the next number, where fewer are live than may be
abbrev pub next_number : Config → Past → Option ℕ
next_number C past =
    if nat_lt (live_of past) C.connections && nat_lt (shared past).last (2 ^ 32 - 1)
    then Some ((shared past).last + 1) else None

abbrev pub name_at : Config → ℕ → Option (List ℕ)
name_at C slot = option_map (λ v. v.name) (slice_get C.virtuals slot)

abbrev pub listen_at : Config → ℕ → Option Addr
listen_at C slot = option_map (λ v. v.listen) (slice_get C.virtuals slot)

-- of an end of a live connection
abbrev pub on_edge : Option Edges → Side → (Edge → Bool) → Bool
on_edge None side test = false
on_edge (Some e) side test = test (edge_of side e)

-- so many bytes of a side may come; none where it sends no more
abbrev pub may_come : Config → Past → State → ℕ → Side → ℕ
may_come C past s c side =
    if on_edge (edges_of past c) side may_send then unwrap_or (wants_of C past s c side) 0 else 0

-- the bytes that are pending to a side that takes any
abbrev pub to_write : Past → State → ℕ → Side → List ℕ
to_write past s c side =
    if on_edge (edges_of past c) side may_take then unwrap_or (queue_of past s c side) [] else []

abbrev pub is_waiting : Past → ℕ → Bool
is_waiting past c = on_edge (edges_of past c) Server (λ x. is_connecting x.state)

abbrev pub due_at : Config → Past → State → ℕ
due_at C past s = unwrap_or (next_due_of C past s) (2 ^ 64 - 1)
