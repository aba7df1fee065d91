-- The bodies of an event send bytes to a server connection only where one is up.
use Rattle.std.proofs.Common.{◌≡◌, ◌⊎◌, inl, inr, refl, sym, ap, ◌∙◌, ℕ, zero, suc, ◌+◌, List, [], ◌∷◌, length, Bool, true, false, true≢false, Some, None, arith}
use Rattle.std.specs.Prelude.{slice_get}
use Rattle.px_bytes.specs.Host.{Effect, HostStep, Gives, Faults, Asks, Logged, Sent}
use Rattle.px_bytes.specs.declared.addr.Side.{Side}
use Rattle.px_bytes.specs.declared.addr.Side.TheVariants.{Client, Server}
use Rattle.rule_model.specs.Outcome.{Act, Did}
use Rattle.rule_model.specs.Outcome as act
use Rattle.rule_model.specs.Laws.{state_after}
use Rattle.event_order.specs.declared.event.EventName.{EventName}
use Rattle.event_order.specs.declared.event.EventName.TheVariants.{ServerConnected, ServerData}
use Rattle.irule_net.specs.Laws.{sent_to}
use Rattle.irule_net.specs.State.{side_of}
use Rattle.conn_trace.specs.Bodies.{act_item, run_body}
use Rattle.conn_trace.specs.Host.{HostState, host_table}
use Rattle.conn_trace.specs.Item.{Item}
use Rattle.conn_trace.specs.Phases.{Fits}
use Rattle.conn_trace.specs.Places.{is_up}
use Rattle.conn_trace.specs.Setup.{Handler, Setup}
use Rattle.conn_trace.specs.State.{Link, TraceState}
use Rattle.conn_trace.proofs.BodyKeeps.{act_bytes, acts_bytes, body_holds}
use Rattle.conn_trace.proofs.HostKeeps.{left, made}
use Rattle.conn.specs.Servers.{to_servers}
use Rattle.conn.proofs.Quick.{OneTo, QuickHost, commands_quick}
use Rattle.proxy_core.proofs.ServerGone.{ToldOf}

-- what an item sends to a server connection goes to one that is up
abbrev pub SendsUp : Link → Item → Type 0
SendsUp k i = (is_up k ≡ true) ⊎ (to_servers i ≡ [])

none_of_length : (xs : List ℕ) → length xs ≡ 0 → xs ≡ []
none_of_length [] e = refl
none_of_length (x ∷ xs) e = absurd (omega (arith, e))

-- in an event of the client, where there is no server connection, a command sends nothing to one
one_none : (side : Side) (relays : Bool) (es : List Effect) → (side ≡ Server → ⊥) → (relays ≡ true → ⊥) → OneTo side relays es → sent_to Server es ≡ 0
one_none side relays [] own out k = refl
one_none side relays (Logged text ∷ []) own out k = refl
one_none side relays (Sent Client bytes ∷ []) own out k = refl
one_none Client relays (Sent Server bytes ∷ []) own out k = absurd (out k)
one_none Server relays (Sent Server bytes ∷ []) own out k = absurd (own refl)
one_none side relays (Logged text ∷ (f ∷ es)) own out k = absurd k
one_none side relays (Sent to bytes ∷ (f ∷ es)) own out k = absurd k

-- what holds behind each command, of the host's state and of what was sent to a server
record Kept (began h : HostState) (n : ℕ) : Type 0 where
  event : h.event ≡ began.event
  relays : h.net.relays ≡ began.net.relays
  none : (side_of began.event ≡ Server → ⊥) → (began.net.relays ≡ true → ⊥) → n ≡ 0

kept_step : (began h : HostState) (n : ℕ) (x : HostStep HostState) → Kept began h n → QuickHost h x → Kept began (left x) (n + sent_to Server (made x))
kept_step began h n (Gives v t es) k q = record {
  event = q.0.event ∙ k.event;
  relays = q.0.keeps.relays ∙ k.relays;
  none = λ own out. (
      let before = k.none own out in
      let more = one_none (side_of h.event) h.net.relays es (λ e. own (ap side_of (sym k.event) ∙ e)) (λ e. out (sym k.relays ∙ e)) q.1 in
      omega (arith, before, more)
      );
}
kept_step began h n (Faults f t es) k q = record {
  event = q.0.event ∙ k.event;
  relays = q.0.keeps.relays ∙ k.relays;
  none = λ own out. (
      let before = k.none own out in
      let more = one_none (side_of h.event) h.net.relays es (λ e. own (ap side_of (sym k.event) ∙ e)) (λ e. out (sym k.relays ∙ e)) q.1 in
      omega (arith, before, more)
      );
}
kept_step began h n (Asks call t) k q = record {
  event = q.event ∙ k.event;
  relays = q.keeps.relays ∙ k.relays;
  none = λ own out. (let before = k.none own out in omega (arith, before));
}

body_kept : (g : Setup) (b : Handler) (l : TraceState) → Kept l.host (state_after (run_body g b l)).host (acts_bytes Server (state_after (run_body g b l)).acts)
body_kept g b l =
    body_holds Server (Kept l.host) g b (λ h words n k. kept_step l.host h n (host_table g h words) k (commands_quick g.groups h words)) l
    (record { event = refl; relays = refl; none = λ own out. refl })

-- behind a body its event and what it was told of a server connection stay
pub body_event : (g : Setup) (b : Handler) (l : TraceState) → (state_after (run_body g b l)).host.event ≡ l.host.event
body_event g b l = (body_kept g b l).event

pub body_told : (g : Setup) (b : Handler) (l : TraceState) (k : Link) → ToldOf k l.host → ToldOf k (state_after (run_body g b l)).host
body_told g b l k t r = t (sym (body_kept g b l).relays ∙ r)

-- an event of the server has one
server_up : (e : EventName) (k : Link) → Fits e k → side_of e ≡ Server → is_up k ≡ true
server_up ServerConnected k f s = f
server_up ServerData k f s = f
server_up other k f s = absurd (let x : Client ≡ Server = s in cc)

act_few : (acts : List Act) (n : ℕ) (a : Act) → acts_bytes Server acts ≡ 0 → slice_get acts n ≡ Some a → act_bytes Server a ≡ 0
act_few [] n a none e = absurd (let x : None ≡ Some a = e in cc)
act_few (x ∷ acts) zero a none e = (let same : x ≡ a = cc in ap (act_bytes Server) (sym same) ∙ (let k : act_bytes Server x ≡ 0 = omega (arith, none) in k))
act_few (x ∷ acts) (suc n) a none e = act_few acts n a (omega (arith, none)) e

act_quiet : (number : ℕ) (a : Act) → act_bytes Server a ≡ 0 → to_servers (act_item number a) ≡ []
act_quiet number (Did (Logged text)) none = refl
act_quiet number (Did (Sent Client bytes)) none = refl
act_quiet number (Did (Sent Server bytes)) none = none_of_length bytes none
act_quiet number (act.Called path call) none = refl

pub body_sends : (g : Setup) (e : EventName) (b : Handler) (l : TraceState) (k : Link) (n : ℕ) (a : Act) (number : ℕ) → l.host.event ≡ e → Fits e k → ToldOf k l.host → slice_get (state_after (run_body g b l)).acts n ≡ Some a → SendsUp k (act_item number a)
body_sends g e b l k n a number is fits told at = by_up (is_up k) refl
  where
    by_up : (up : Bool) → is_up k ≡ up → SendsUp k (act_item number a)
    by_up true up = inl up
    by_up false down =
        let none = (body_kept g b l).none (λ s. true≢false (sym (server_up e k fits (ap side_of (sym is) ∙ s)) ∙ down)) (λ r. true≢false (sym (told r) ∙ down)) in
        inr (act_quiet number a (act_few (state_after (run_body g b l)).acts n a none at))
