-- A relay passes on or collects bytes that lie unread.
use Rattle.std.proofs.Common.{◌≡◌, refl, subst, ◌≤◌, length, Bool, true, false, ◌&&◌, nat_le, nat_lt, arith, if◌then◌else◌}
use Rattle.std.proofs.lemmas.Bool.Decides.{nat_tests}
use Rattle.px_bytes.specs.declared.addr.Side.{Side}
use Rattle.px_bytes.specs.declared.addr.Side.TheVariants.{Client, Server}
use Rattle.irule_net.specs.declared.state.Asks.{Asks}
use Rattle.irule_net.specs.declared.state.Asks.TheVariants.{NotAsked, Stated}
use Rattle.irule_net.specs.declared.state.NetState.{NetState}
use Rattle.conn_trace.specs.Gates.{other}
use Rattle.conn_trace.specs.Relay.{is_done}
use Rattle.conn.specs.Ends.{end_of}
use Rattle.conn.specs.Relaying.{incoming_of, passes_now, plan_of, relay_plan, side_plan, to_pass}
use Rattle.conn.specs.declared.ends.ConnectionEnd.{ConnectionEnd}
use Rattle.conn.specs.declared.ends.Ends.{Ends}
use Rattle.conn.specs.declared.relay.Relay.{Relay}
use Rattle.conn.specs.declared.relay.Relay.TheVariants as relay

abbrev pub Within : Ends → Relay → Type 0
Within e relay.Done = Unit {0}
Within e (relay.Pass side n) = passes_now side n e
Within e (relay.Fire side n) = passes_now side n e
Within e relay.Rest = Unit {0}

side_within : (side : Side) (e : Ends) (from to : ConnectionEnd) → from ≡ end_of side e → (asks : Asks) (later : Relay) → Within e later → Within e (side_plan side asks from to later)
side_within side e from to here NotAsked later k = by_count (nat_lt 0 (to_pass from to))
  where
    within : to_pass from to ≤ length from.unread
    within = omega arith

    by_count : (b : Bool) → Within e (if b then relay.Pass side (to_pass from to) else later)
    by_count true = subst (λ x. to_pass from to ≤ length x.unread) here within
    by_count false = k
side_within side e from to here (Stated n) later k = by_met (nat_le n (length from.unread)) refl
  where
    by_met : (b : Bool) → nat_le n (length from.unread) ≡ b → Within e (if b then relay.Fire side n else later)
    by_met true is = let met : n ≤ length from.unread = grind (arith, nat_tests, is) in subst (λ x. n ≤ length x.unread) here met
    by_met false is = k

turn_within : (side : Side) (net : NetState) (e : Ends) (later : Relay) → Within e later → Within e (plan_of side net e later)
turn_within Client net e later k = side_within Client e e.client e.server refl net.client.asks later k
turn_within Server net e later k = side_within Server e e.server e.client refl net.server.asks later k

pub plan_within : (first : Side) (net : NetState) (e : Ends) → Within e (relay_plan first net e)
plan_within first net e = by_end (is_done (incoming_of net.client.asks e.client) && is_done (incoming_of net.server.asks e.server))
  where
    by_end : (b : Bool) → Within e (if b then relay.Done else plan_of first net e (plan_of (other first) net e relay.Rest))
    by_end true = tt
    by_end false = turn_within first net e (plan_of (other first) net e relay.Rest) (turn_within (other first) net e relay.Rest tt)
