-- What a step's command made, done: it is what the acts of the step are to do.
use Rattle.std.proofs.Common.{◌≡◌, refl, sym, ap, subst, ◌∙◌, ℕ, List, [], ◌∷◌, ◌++◌, map, Bool, true, Option, Some, None}
use Rattle.std.specs.Option.{is_some}
use Rattle.px_bytes.specs.Host.{Effect, HostStep, Gives, Faults, Asks, Logged, Sent}
use Rattle.px_bytes.specs.declared.addr.Side.{Side}
use Rattle.px_bytes.specs.declared.addr.Side.TheVariants.{Client, Server}
use Rattle.tcl_trees.specs.Tree.{Tree}
use Rattle.rule_model.specs.Outcome.{Act, Did}
use Rattle.rule_model.specs.Outcome as act
use Rattle.rule_model.specs.Setting as given
use Rattle.event_order.specs.declared.event.EventName.{EventName}
use Rattle.irule_net.specs.State.{side_of}
use Rattle.irule_net.specs.declared.groups.Groups.{Groups}
use Rattle.conn_trace.specs.Host.{HostState, commands}
use Rattle.conn_trace.specs.Setup.{Setup}
use Rattle.core_events.specs.declared.note.Note.{Note}
use Rattle.frames.specs.Went.{CalledBy, IsCall, Place, Went, effects_in, place}
use Rattle.frames.specs.declared.turn.Turn.{Turn}
use Rattle.conn.specs.Bodies.{SaidIs}
use Rattle.conn.specs.Events.{event_of}
use Rattle.conn.specs.Hosts.{KeepsCollects, Made, OneAtMost, SendsWhere, Told, cleared_host, client_bytes, seen_host, server_bytes, made_in}
use Rattle.conn.specs.Steps.{DoesMade, one_of, queue_both}
use Rattle.conn.specs.declared.body.RunningBody.{RunningBody}
use Rattle.conn.specs.declared.connection.Conn.{Conn}
use Rattle.conn.specs.declared.host.RuleHost.{RuleHost}
use Rattle.conn.specs.declared.ends.Link.{Link}
use Rattle.conn.proofs.Acting.{DoesActs}
use Rattle.conn.proofs.ActItems.{call_behind, called_is_none, calls_made, effects_call_none}
use Rattle.conn.proofs.Quick.{OneTo, KeepsHost, QuickHost, commands_quick, keeps_all}

-- the same machine, variables and seen host
pub record SameStand (a b : Conn) : Type 0 where
  pub body : b.body ≡ a.body
  pub vars : b.vars ≡ a.vars
  pub seen : seen_host b.host ≡ seen_host a.host

pub made_done : (c : ℕ) (a b : Conn) (before after : List Note) → DoesMade c a b before after → SameStand a b
made_done c a b before after d = record { body = d.body; vars = d.vars; seen = ap seen_host d.host }

pub went_same : (g : given.Setting HostState) (t : Tree) (old : Place HostState) (a b : Conn) (said : Turn) (made : List Effect → Type 0) (ticks : ℕ) → SameStand a b
    → Went g t old (place a.body.machine.at a.vars (seen_host a.host)) said made ticks → Went g t old (place b.body.machine.at b.vars (seen_host b.host)) said made ticks
went_same g t old a b said made ticks k w =
    let P : Place HostState → Type 0 = λ p. Went g t old p said made ticks in
    let is : place a.body.machine.at a.vars (seen_host a.host) ≡ place b.body.machine.at b.vars (seen_host b.host) =
    ap (λ x. place x.machine.at a.vars (seen_host a.host)) (sym k.body) ∙ ap (λ x. place b.body.machine.at x (seen_host a.host)) (sym k.vars) ∙ ap (λ x. place b.body.machine.at b.vars x) (sym k.seen) in
    subst P is w

pub said_same : (said : Turn) (a b : RunningBody) → a ≡ b → SaidIs said a → SaidIs said b
said_same said a b is k = let P : RunningBody → Type 0 = λ x. SaidIs said x in subst P is k

-- one effect at most, and to a server only where one is up
one_first : (up : Bool) (side : Side) (relays : Bool) (es : List Effect) → (side ≡ Server → up ≡ true) → (relays ≡ true → up ≡ true) → OneTo side relays es → SendsWhere up es × OneAtMost es
one_first up side relays [] is to k = (tt, tt)
one_first up side relays (Logged text ∷ []) is to k = (tt, tt)
one_first up side relays (Sent Client bytes ∷ []) is to k = (tt, tt)
one_first up Client relays (Sent Server bytes ∷ []) is to k = ((to k, tt), tt)
one_first up Server relays (Sent Server bytes ∷ []) is to k = ((is refl, tt), tt)
one_first up side relays (Logged text ∷ (f ∷ es)) is to k = absurd k
one_first up side relays (Sent to_side bytes ∷ (f ∷ es)) is to k = absurd k

-- what the rules are told stays
told_on : (g : Setup) (k : Link) (e : EventName) (s t : RuleHost) → KeepsCollects e s.net t.net → is_some t.http ≡ is_some s.http → Told g k s → Told g k t
told_on g k e s t is http told = record { from = is.from ∙ told.from; relays = λ r. told.relays (sym is.relays ∙ r); spoken = http ∙ told.spoken }

effects_of : (es : List Effect) → effects_in (map Did es) ≡ es
effects_of [] = refl
effects_of (e ∷ es) = ap (λ x. e ∷ x) (effects_of es)

-- what one call of the host at most leaves, and what it made
record Called (up : Bool) (h after : HostState) (acts : List Act) : Type 0 where
  keeps : KeepsCollects h.event h.net after.net
  first : SendsWhere up (effects_in acts)
  one : OneAtMost (effects_in acts)
  calls : calls_made acts ≡ []
  event : after.event ≡ h.event
  spoken : is_some after.http ≡ is_some h.http

module _ (up : Bool) (h : HostState) (to_server : side_of h.event ≡ Server → up ≡ true) (relays : h.net.relays ≡ true → up ≡ true) where
  answered : (t after : HostState) (acts : List Act) (es : List Effect) → KeepsHost h t → OneTo (side_of h.event) h.net.relays es → (after ≡ t) × (acts ≡ map Did es) → Called up h after acts
  answered t after acts es k sends is =
      let made : effects_in acts ≡ es = ap effects_in is.1 ∙ effects_of es in
      let one = one_first up (side_of h.event) h.net.relays es to_server relays sends in
      record { keeps = subst (λ x. KeepsCollects h.event h.net x.net) (sym is.0) k.keeps; first = subst (SendsWhere up) (sym made) one.0; one = subst OneAtMost (sym made) one.1; calls = ap calls_made is.1 ∙ effects_call_none es; event = ap (λ x. x.event) is.0 ∙ k.event; spoken = ap (λ x. is_some x.http) is.0 ∙ k.spoken }

  call_answers : (step : HostStep HostState) (after : HostState) (acts : List Act) → QuickHost h step → IsCall step after acts → Called up h after acts
  call_answers (Gives v t es) after acts k is = answered t after acts es k.0 k.1 is
  call_answers (Faults f t es) after acts k is = answered t after acts es k.0 k.1 is
  call_answers (Asks call t) after acts k is = answered t after acts [] k tt is

  called_once : (groups : Groups) (setting : given.Setting HostState) → setting.table ≡ commands groups → (after : HostState) (called : Option (List (List ℕ))) (acts : List Act) → CalledBy setting h after called acts → Called up h after acts
  called_once groups setting is after None acts (same, none) =
      let made : SendsWhere up (effects_in acts) × OneAtMost (effects_in acts) = subst (λ x. SendsWhere up (effects_in x) × OneAtMost (effects_in x)) (sym none) (tt, tt) in
      record { keeps = subst (λ x. KeepsCollects h.event h.net x.net) (sym same) (keeps_all h.event h.net); first = made.0; one = made.1; calls = ap calls_made none; event = ap (λ x. x.event) same; spoken = ap (λ x. is_some x.http) same }
  called_once groups setting is after (Some words) acts call =
      let T : (HostState → List (List ℕ) → HostStep HostState) → Type 0 = λ t. IsCall (t h words) after acts in
      call_answers (commands groups h words) after acts (commands_quick groups h words) (subst T is call)

-- there is no more than one
all_of : (es : List Effect) → OneAtMost es → one_of es ≡ es
all_of [] one = refl
all_of (e ∷ []) one = refl
all_of (e ∷ (f ∷ es)) one = absurd one

-- what a step made was done
pub record ActsDone (g : Setup) (up : Bool) (old stepped mid : Conn) (xs : List Act) : Type 0 where
  pub taken : effects_in xs ≡ one_of (made_in stepped.host)
  pub acts : DoesActs g up xs old mid []
  pub event : event_of mid.host.event ≡ event_of old.host.event
  pub keeps : KeepsCollects (event_of old.host.event) old.host.net mid.host.net

pub acts_done : (g : Setup) (up : Bool) (setting : given.Setting HostState) → setting.table ≡ commands g.groups → (c : ℕ) (old stepped mid : Conn) (before after : List Note) → DoesMade c stepped mid before after → stepped.ends ≡ old.ends → Told g old.ends.link old.host
    → (side_of (event_of old.host.event) ≡ Server → up ≡ true) → (old.host.net.relays ≡ true → up ≡ true) → (acts : List Act) (called : Option (List (List ℕ))) → CalledBy setting (seen_host old.host) (seen_host mid.host) called acts → Made (cleared_host old.host) (effects_in acts) stepped.host
    → ActsDone g up old stepped mid acts
acts_done g up setting is c old stepped mid before after d ends told to_server relays acts called once by =
    let one = called_once up (seen_host old.host) to_server relays g.groups setting is (seen_host mid.host) called acts once in
    let taken : one_of (made_in stepped.host) ≡ effects_in acts = ap one_of by ∙ all_of (effects_in acts) one.one in
    record {
      taken = sym taken;
      acts = record {
        calls = one.calls;
        first = one.first;
        ends = d.ends ∙ ap (queue_both (client_bytes (one_of (made_in stepped.host))) (server_bytes (one_of (made_in stepped.host)))) ends ∙ ap (λ es. queue_both (client_bytes es) (server_bytes es) old.ends) taken;
        told = subst (λ k. Told g k mid.host) (sym (ap (λ e. e.link) (d.ends ∙ ap (queue_both (client_bytes (one_of (made_in stepped.host))) (server_bytes (one_of (made_in stepped.host)))) ends))) (told_on g old.ends.link (event_of old.host.event) old.host mid.host one.keeps one.spoken told);
      };
      event = one.event;
      keeps = one.keeps;
    }

-- a call that was asked does no more
pub calls_too : (g : Setup) (up : Bool) (acts : List Act) (path : List ℕ) (call : List (List ℕ)) (old new : Conn) → DoesActs g up acts old new [] → DoesActs g up (acts ++ act.Called path call ∷ []) old new (call ∷ [])
calls_too g up acts path call old new d =
    let same = called_is_none acts path call in
    record {
      calls = call_behind acts path call ∙ ap (λ cs. cs ++ call ∷ []) d.calls;
      first = subst (SendsWhere up) (sym same) d.first;
      ends = d.ends ∙ ap (λ es. queue_both (client_bytes es) (server_bytes es) old.ends) (sym same);
      told = d.told;
    }
