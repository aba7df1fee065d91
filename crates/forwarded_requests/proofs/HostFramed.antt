-- What a connection knows of a request that isn't answered yet goes by what its head says, and each command of a rule keeps that.
use Rattle.std.proofs.Common.{◌≡◌, refl, sym, ap, subst, ◌∙◌, ℕ, ◌+◌, ◌≤◌, Bool, true, false, List, length, Option, Some, None, option_map}
use Rattle.std.specs.Prelude.{⊤, if◌then◌else◌}
use Rattle.px_bytes.specs.Host.{Gives, Faults, Asks}
use Rattle.px_bytes.specs.declared.addr.Side.TheVariants.{Client}
use Rattle.rule_model.specs.Laws.{state_after}
use Rattle.event_order.specs.declared.event.EventName.{EventName}
use Rattle.irule_net.specs.Commands.{is_http}
use Rattle.irule_net.specs.declared.groups.Groups.{Groups}
use Rattle.irule_net.specs.declared.state.NetState.{NetState}
use Rattle.irule_net.specs.declared.state.Target.{Target}
use Rattle.http_heads.specs.Fields.{are_trimmed}
use Rattle.http_heads.specs.declared.request.RequestHead.{RequestHead}
use Rattle.http_frames.specs.Bodies.{request_body}
use Rattle.http_frames.specs.declared.state.Body.{Body}
use Rattle.http_frames.specs.declared.state.Body.TheVariants as kind
use Rattle.irule_http.specs.Commands.{http_step}
use Rattle.irule_http.specs.Edits.{Step}
use Rattle.irule_http.specs.Framing.{HeadSays, SaysSame}
use Rattle.irule_http.specs.Laws.{left as http_left}
use Rattle.irule_http.specs.Payload.{payload_limit}
use Rattle.irule_http.specs.State.{no_http}
use Rattle.irule_http.specs.declared.state.Http.{Http}
use Rattle.irule_http.proofs.KeptFraming.{framing_kept}
use Rattle.irule_http.proofs.Moves.{any_moves}
use Rattle.conn_trace.specs.Bodies.{run_body}
use Rattle.conn_trace.specs.Host.{HostState, commands, commands_by, first_word, host_table, http_done, http_known, http_of, net_command}
use Rattle.conn_trace.specs.Http.{gathered_so}
use Rattle.conn_trace.specs.Places.{begun, http_begun}
use Rattle.conn_trace.specs.Routing.{chosen}
use Rattle.conn_trace.specs.Setup.{Handler, Setup}
use Rattle.conn_trace.specs.State.{Link, TraceState}
use Rattle.conn_trace.specs.Trace.{served_by, serving}
use Rattle.conn_trace.proofs.BodyKeeps.{body_holds}
use Rattle.conn_trace.proofs.HostKeeps.{left, net_knows}
use Rattle.forwarded_requests.specs.Forwarded.{ChunksStand, Stands}
use Rattle.forwarded_requests.proofs.Framings.{by_fields}
use Rattle.forwarded_requests.proofs.ReadHeads.{Tells}

-- ---- what holds until the response is read

-- a request's head, where there is one, tells how long this body is
abbrev pub HeadTells : Body → Option RequestHead → Type 0
HeadTells b None = ⊤
HeadTells b (Some head) = Tells b head

pub record Framed (h : Http) : Type 0 where
  pub head : HeadTells h.body h.request
  pub payload : length h.payload ≤ payload_limit
  pub stands : Stands h.body h

abbrev pub Awaits : Http → Type 0
Awaits h = h.answered_by ≡ None

abbrev pub UnlessAnswered : Http → Type 0
UnlessAnswered h = Awaits h → Framed h

-- ---- what keeps it

-- of the message at hand all is as before but its head, which tells the same, and its payload
pub record Kept (a b : Http) : Type 0 where
  pub head : (c : Body) → HeadTells c a.request → HeadTells c b.request
  pub few : length a.payload ≤ payload_limit → length b.payload ≤ payload_limit
  pub bodiless : a.body ≡ kind.None → b.payload ≡ a.payload
  pub answered_by : b.answered_by ≡ a.answered_by
  pub framing : b.body ≡ a.body
  pub reader : b.reader ≡ a.reader
  pub whole : b.whole ≡ a.whole
  pub gathered : b.gathered ≡ a.gathered

pub kept_same : (h : Http) → Kept h h
kept_same h = record {
  head = λ c t. t;
  few = λ f. f;
  bodiless = λ e. refl;
  answered_by = refl;
  framing = refl;
  reader = refl;
  whole = refl;
  gathered = refl;
}

pub kept_on : (a b c : Http) → Kept a b → Kept b c → Kept a c
kept_on a b c k m = record {
  head = λ d t. m.head d (k.head d t);
  few = λ f. m.few (k.few f);
  bodiless = λ e. m.bodiless (k.framing ∙ e) ∙ k.bodiless e;
  answered_by = m.answered_by ∙ k.answered_by;
  framing = m.framing ∙ k.framing;
  reader = m.reader ∙ k.reader;
  whole = m.whole ∙ k.whole;
  gathered = m.gathered ∙ k.gathered;
}

module _ (a b : Http) (k : Kept a b) where
  stands_kept : (c : Body) → a.body ≡ c → Stands c a → Stands c b
  stands_kept kind.None is s = (k.bodiless is ∙ s.0, k.reader ∙ s.1)
  stands_kept (kind.Length n) is s = (
    s.0,
    k.reader ∙ s.1,
    subst (λ g. gathered_so g + s.0 ≡ n) (sym k.gathered) s.2,
    λ e. s.3 (sym k.whole ∙ e),
  )
  stands_kept kind.Chunked is s =
      subst (λ w. ChunksStand w b.gathered b.reader) (sym k.whole)
      (subst (λ g. ChunksStand a.whole g b.reader) (sym k.gathered) (subst (ChunksStand a.whole a.gathered) (sym k.reader) s))
  stands_kept kind.ToEnd is s = absurd s

  pub framed_kept : UnlessAnswered a → UnlessAnswered b
  framed_kept is awaits =
      let f = is (sym k.answered_by ∙ awaits) in
      record {
        head = subst (λ c. HeadTells c b.request) (sym k.framing) (k.head a.body f.head);
        payload = k.few f.payload;
        stands = subst (λ c. Stands c b) (sym k.framing) (stands_kept a.body refl f.stands);
      }

-- ---- as an event begins, and as a server connection is made

begun_known : (net : NetState) (o : Option Http) → Kept (http_known o) (http_known (option_map (http_begun net) o))
begun_known net None = kept_same no_http
begun_known net (Some h) = record {
  head = λ c t. t;
  few = λ f. f;
  bodiless = λ e. refl;
  answered_by = refl;
  framing = refl;
  reader = refl;
  whole = refl;
  gathered = refl;
}

pub begun_kept : (e : EventName) (link : Link) (h : HostState) → Kept (http_of h) (http_of (begun e link h))
begun_kept e link h = begun_known h.net h.http

served_known : (target : Target) (o : Option Http) → Kept (http_known o) (http_known (option_map (served_by target) o))
served_known target None = kept_same no_http
served_known target (Some h) = record {
  head = λ c t. t;
  few = λ f. f;
  bodiless = λ e. refl;
  answered_by = refl;
  framing = refl;
  reader = refl;
  whole = refl;
  gathered = refl;
}

pub serving_kept : (h : HostState) → Kept (http_of h) (http_of (serving h))
serving_kept h = served_known (chosen h) h.http

-- ---- a command

says_body : (a b : RequestHead) → SaysSame a b → request_body b ≡ request_body a
says_body a b s = λ i. by_fields (s.version i) (s.codings i) (s.sizes i)

says_tells : (a b : Option RequestHead) → HeadSays a b → (c : Body) → HeadTells c a → HeadTells c b
says_tells None None s c t = tt
says_tells (Some a) (Some b) s c t = record {
  is = s.is t.is;
  codings = ap are_trimmed s.codings ∙ t.codings;
  sizes = ap are_trimmed s.sizes ∙ t.sizes;
  framed = says_body a b s ∙ t.framed;
}
says_tells (Some a) None s c t = absurd s
says_tells None (Some b) s c t = absurd s

step_kept : (event : EventName) (h : Http) (words : List (List ℕ)) → Kept h (http_left (http_step event h words))
step_kept event h words =
    let m = any_moves event h words in
    let f = framing_kept event h words in
    record {
      head = says_tells h.request (http_left (http_step event h words)).request f.head;
      few = m.payload;
      bodiless = f.payload;
      answered_by = m.keeps.answered_by;
      framing = m.keeps.body;
      reader = m.keeps.reader;
      whole = m.keeps.whole;
      gathered = m.keeps.gathered;
    }

done_known : (h : HostState) (x : Step) → http_of (left (http_done h x)) ≡ http_left x
done_known h (Gives v s effects) = refl
done_known h (Faults f s effects) = refl
done_known h (Asks call s) = refl

module _ (groups : Groups) (words : List (List ℕ)) where
  net_kept : (h : HostState) → Kept (http_of h) (http_of (left (net_command groups h words)))
  net_kept h = subst (λ o. Kept (http_of h) (http_known o)) (sym (net_knows groups h words)) (kept_same (http_of h))

  http_kept : (h : HostState) (http : Http) → h.http ≡ Some http
      → Kept (http_of h) (http_of (left (commands_by (Some http) groups h words)))
  http_kept h http is = by_name (is_http (first_word words))
    where
      by_name : (b : Bool)
          → Kept (http_of h) (http_of (left (if b then http_done h (http_step h.event http words) else net_command groups h words)))
      by_name true =
          subst (Kept (http_of h)) (sym (done_known h (http_step h.event http words)))
          (subst (λ t. Kept t (http_left (http_step h.event http words))) (sym (ap http_known is)) (step_kept h.event http words))
      by_name false = net_kept h

  known_kept : (h : HostState) (o : Option Http) → h.http ≡ o → Kept (http_of h) (http_of (left (commands_by o groups h words)))
  known_kept h None is = net_kept h
  known_kept h (Some http) is = http_kept h http is

command_kept : (g : Setup) (h : HostState) (words : List (List ℕ)) → Kept (http_of h) (http_of (left (host_table g h words)))
unfolding commands
command_kept g h words = known_kept g.groups words h h.http refl

pub body_kept : (g : Setup) (b : Handler) (l : TraceState) → Kept (http_of l.host) (http_of (state_after (run_body g b l)).host)
body_kept g b l =
    body_holds Client (λ h n. Kept (http_of l.host) (http_of h)) g b
    (λ h words n k. kept_on (http_of l.host) (http_of h) (http_of (left (host_table g h words))) k (command_kept g h words)) l
    (kept_same (http_of l.host))
