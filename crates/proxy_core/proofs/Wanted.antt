-- How many bytes of its sides a connection of the code takes is what its trace wants.
use Rattle.std.proofs.Common.{◌≡◌, inl, inr, refl, sym, ap, ◌∙◌, ℕ, ◌-◌, length, map, Bool, true, false, Option, Some, None, if◌then◌else◌}
use Rattle.px_bytes.specs.declared.addr.Side.{Side}
use Rattle.px_bytes.specs.declared.addr.Side.TheVariants.{Client, Server}
use Rattle.conn_trace.specs.Queries as query
use Rattle.conn_trace.specs.Queries.{unread_limit}
use Rattle.conn_trace.specs.State.{TraceState}
use Rattle.conn_trace.specs.Tellings.{tells, finish_told}
use Rattle.core_events.specs.declared.edges.Edges.{Edges}
use Rattle.conn.specs.Calls.{counted_held, wanted_in}
use Rattle.conn.specs.Ends.{end_of}
use Rattle.conn.specs.Stages.{has_finished}
use Rattle.conn.specs.declared.connection.Conn.{Conn}
use Rattle.conn.proofs.Wanting.{wants}
use Rattle.proxy_core.specs.Live.{edges_by_conn, wanted_of}
use Rattle.proxy_core.specs.Refusal.{wants_at}
use Rattle.proxy_core.specs.Represents.{ConnectionContinues, Continues, around}
use Rattle.proxy_core.specs.Scheduler.{Seen}
use Rattle.record_model.specs.Setup.{setup_of, stand_of}
use Rattle.proxy_core.specs.Sound.{Served}
use Rattle.run_config.specs.declared.config.Config.{Config}
use Rattle.proxy_core.proofs.Finished.{stands_orderly, trace_finished}

module _ (C : Config) (c : ℕ) (z : Seen) (v : Served C c z) (told : z.heard.finished ≡ finish_told (map tells z.heard.notes)) where
  abbrev at : TraceState
  at = stand_of C z.heard z.place

  -- a connection that goes on wants what its trace does, and has finished where that has
  trace_wants : (side : Side) (conn : Conn) → Continues C z conn → wanted_in side conn ≡ query.wanted side at
  trace_wants side conn k = wants side conn (wanted_in side conn) refl (setup_of C z.heard) (around z.heard) at k.holds (stands_orderly C c z v)

  done : (side : Side) (conn : Conn) → Continues C z conn → z.heard.finished ≡ true → wanted_in side conn ≡ unread_limit
  done side conn k e = ap (λ b. if b then unread_limit else unread_limit - (length (end_of side conn.ends).unread - counted_held side conn)) (sym k.holds.finished ∙ trace_finished C c z v told k.not_failed ∙ e)

  -- by whether it has finished
  by_end : (finished : Bool) (n wanted : ℕ) → (finished ≡ true → n ≡ unread_limit) → n ≡ wanted → n ≡ (if finished then unread_limit else wanted)
  by_end true n wanted f is = f refl
  by_end false n wanted f is = is

  pub wants_same : (side : Side) (o : Option Conn) (edges : Edges) → z.heard.edges ≡ edges_by_conn o edges → ConnectionContinues C z o → wanted_of side o ≡ wants_at C z side
  wants_same side None edges same k = sym (ap (λ b. if b then unread_limit else query.wanted side at) k.finished)
  wants_same Client (Some conn) edges same (inr k) =
      ap (λ st. if has_finished st then unread_limit else unread_limit - (length conn.ends.client.unread - counted_held Client conn)) k.there
      ∙ ap (λ b. if b then unread_limit else query.wanted Client at) (sym k.finished)
  wants_same Server (Some conn) edges same (inr k) =
      ap (λ st. if has_finished st then unread_limit else unread_limit - (length conn.ends.server.unread - counted_held Server conn)) k.there
      ∙ ap (λ b. if b then unread_limit else query.wanted Server at) (sym k.finished)
  wants_same side (Some conn) edges same (inl k) =
      by_end z.heard.finished (wanted_in side conn) (query.wanted side at) (done side conn k) (trace_wants side conn k)
