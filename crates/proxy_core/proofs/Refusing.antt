-- Why what comes of a connection is refused, by its live one.
use Rattle.std.proofs.Common.{◌≡◌, refl, ap, ◌∙◌, ℕ, ◌≤◌, length, Bool, true, false, not, Option, Some, None, nat_lt, if◌then◌else◌, arith}
use Rattle.std.proofs.lemmas.Bool.Decides.{nat_tests}
use Rattle.px_bytes.specs.declared.addr.Side.TheVariants.{Client, Server}
use Rattle.core_events.specs.Edges.{is_connecting, may_take}
use Rattle.proxy_core.specs.Live.{MayCome, edges_in, pending_in}
use Rattle.core_events.specs.declared.bad_event.BadEvent.{BadEvent}
use Rattle.core_events.specs.declared.bad_event.BadEvent.TheVariants.{AfterEnd, NotConnecting, TookTooMuch}
use Rattle.core_events.specs.declared.event_kind.EventKind.TheVariants.{Comes}
use Rattle.core_events.specs.declared.input.Input.{Input}
use Rattle.core_events.specs.declared.input.Input.TheVariants.{Bytes, Ends, Resets, Connects, Takes}
use Rattle.record_model.specs.Refusal.{refusal_by}
use Rattle.proxy_core.specs.Refusal.{core_standing, input_refusal, refusal_of}
use Rattle.proxy_core.specs.Refusals.{live_at}
use Rattle.run_config.specs.declared.config.Config.{Config}
use Rattle.proxy_core.specs.declared.core_state.Core.{Core}
use Rattle.proxy_core.specs.declared.live.Live.{Live}

input_at : (C : Config) (last moment live : ℕ) (l : Live) (c : ℕ) (i : Input) → refusal_by C (record { last = last; moment = moment; live = live; conn = core_standing (Some l); member = true }) (Comes c i) ≡ input_refusal l i
input_at C last moment live l c (Bytes side bytes) = refl
input_at C last moment live l c (Ends side) = refl
input_at C last moment live l c (Resets side) = refl
input_at C last moment live l c (Takes side n) = refl
input_at C last moment live l c (Connects made) = refl

pub input_judged : (core : Core) (c : ℕ) (i : Input) (l : Live) → live_at core.live.items c ≡ Some l → refusal_of core (Comes c i) ≡ input_refusal l i
input_judged core c i l there = ap (λ o. refusal_by core.config (record { last = core.last; moment = core.moment; live = length core.live.items; conn = core_standing o; member = true }) (Comes c i)) there ∙ input_at core.config core.last core.moment (length core.live.items) l c i

-- what isn't refused may come
pub may_come : (l : Live) (i : Input) → input_refusal l i ≡ None → MayCome i l
may_come l (Bytes side bytes) e = tt
may_come l (Ends side) e = tt
may_come l (Resets side) e = tt
may_come l (Connects made) e = by_test (is_connecting (edges_in l).server.state) e
  where
    by_test : (b : Bool) → ◌≡◌ {A = Option BadEvent} (if not b then Some NotConnecting else None) None → b ≡ true
    by_test true k = refl
    by_test false k = cc
may_come l (Takes Client n) e = by_test (not (may_take (edges_in l).client)) (nat_lt (pending_in Client l.conn) n) refl e
  where
    by_test : (late much : Bool) → nat_lt (pending_in Client l.conn) n ≡ much → ◌≡◌ {A = Option BadEvent} (if late then Some AfterEnd else if much then Some TookTooMuch else None) None → n ≤ pending_in Client l.conn
    by_test true much t k = cc
    by_test false true t k = cc
    by_test false false t k = grind (arith, nat_tests)
may_come l (Takes Server n) e = by_test (not (may_take (edges_in l).server)) (nat_lt (pending_in Server l.conn) n) refl e
  where
    by_test : (late much : Bool) → nat_lt (pending_in Server l.conn) n ≡ much → ◌≡◌ {A = Option BadEvent} (if late then Some AfterEnd else if much then Some TookTooMuch else None) None → n ≤ pending_in Server l.conn
    by_test true much t k = cc
    by_test false true t k = cc
    by_test false false t k = grind (arith, nat_tests)
