-- The lines of the connections, as the program writes them, are those of the past and the state.
use Rattle.std.proofs.Common.{◌≡◌, refl, sym, ap, ◌∙◌, ℕ, List, [], ◌∷◌, ◌++◌}
use Rattle.std.proofs.Common.{Bool, true, false, Some, None, option_map, if◌then◌else◌}
use Rattle.px_bytes.specs.declared.addr.Side.{Side}
use Rattle.px_bytes.specs.declared.addr.Side.TheVariants.{Client, Server}
use Rattle.record_model.specs.Past.{Past, shared}
use Rattle.proxy_core.specs.Queries.{pending_on}
use Rattle.proxy_core.specs.Ready.{is_in}
use Rattle.proxy_core.specs.Refusals.{live_at}
use Rattle.proxy_core.specs.Represents.{Represents}
use Rattle.proxy_core.specs.Scheduler.{State, pending}
use Rattle.run_config.specs.declared.config.Config.{Config}
use Rattle.proxy_core.specs.declared.core_state.Core.{Core}
use Rattle.proxy_core.specs.declared.live.Live.{Live}
use Rattle.proxy_core.proofs.Asked.{pending_told}
use Rattle.proxy_core.proofs.LiveLookups.{live_absent, live_present}
use Rattle.proxy.specs.Replay.{taken_bytes, servers_bytes, servers_text, connection_text, connections_text, taken_of}
use Rattle.proxy.specs.Replay.{open_if_live, conns_text}
use Rattle.proxy.specs.Report.{client_text, open_text}

some_is : (m n : ℕ) → Some m ≡ Some n → m ≡ n
some_is m n e = cc

-- what is pending to a side of a live connection is what the past and the state say
pending_is : (C : Config) (past : Past) (s : State) (core : Core) (c : ℕ) (l : Live) (side : Side) → Represents C past s core → is_in (shared past).live c ≡ true → live_at core.live.items c ≡ Some l → pending_on side l.conn ≡ pending past s c side
pending_is C past s core c l side r live there =
    some_is (pending_on side l.conn) (pending past s c side)
    (pending_told C past s core c side (Some (pending_on side l.conn)) (sym (ap (option_map (λ x. pending_on side x.conn)) there)) r
    ∙ ap (λ b. if b then Some (pending past s c side) else None) live)

open_same : (C : Config) (past : Past) (s : State) (core : Core) (c : ℕ) → Represents C past s core → open_if_live c (live_at core.live.items c) ≡ (if is_in (shared past).live c then open_text c (pending past s c Client) (pending past s c Server) else [])
open_same C past s core c r = by_live (is_in (shared past).live c) refl
  where
    by_live : (b : Bool) → is_in (shared past).live c ≡ b → open_if_live c (live_at core.live.items c) ≡ (if b then open_text c (pending past s c Client) (pending past s c Server) else [])
    by_live true e =
        let f = live_present c core.live.items (ap (λ y. is_in y.live c) r.agrees.shared ∙ e) in
        ap (open_if_live c) f.1 ∙ ap (λ n. open_text c n (pending_on Server f.0.conn)) (pending_is C past s core c f.0 Client r e f.1)
        ∙ ap (open_text c (pending past s c Client)) (pending_is C past s core c f.0 Server r e f.1)
    by_live false e = ap (open_if_live c) (live_absent c core.live.items (ap (λ y. is_in y.live c) r.agrees.shared ∙ e))

pub lines_same : (C : Config) (past : Past) (s : State) (core : Core) (numbers : List ℕ) → Represents C past s core → conns_text core (taken_of past s numbers) ≡ connections_text past s numbers
lines_same C past s core [] r = refl
lines_same C past s core (c ∷ numbers) r =
    ap (λ t. (client_text c (taken_bytes past s c) ++ (servers_text c 1 (servers_bytes past s c) ++ t)) ++ conns_text core (taken_of past s numbers)) (open_same C past s core c r)
    ∙ ap (λ t. connection_text past s c ++ t) (lines_same C past s core numbers r)
