-- Whatever may still come, the trace is what was given, and then what follows by the connection's own fields.
use Rattle.std.proofs.Common.{◌≡◌, refl, sym, ap, subst, ◌∙◌, ℕ, zero, suc, ◌+◌, ◌≤◌, List, [], ◌∷◌, ◌++◌, append-nil, append_assoc, map, take, drop, length, length-append, Bool, true, false, Option, Some, None, arith}
use Rattle.std.specs.Prelude.{slice_get, if◌then◌else◌}
use Rattle.std.proofs.lemmas.Option.{slice_get_past}
use Rattle.px_bytes.specs.declared.addr.Addr.{Addr}
use Rattle.px_bytes.specs.declared.fault.Reply.{Reply}
use Rattle.px_bytes.specs.declared.fault.Reply.TheVariants as reply
use Rattle.tcl_trees.specs.Tree.{Tree}
use Rattle.tcl_vars.specs.Scopes.{Scopes}
use Rattle.event_order.specs.declared.event.EventName.{EventName}
use Rattle.rule_model.specs.Laws.{state_after}
use Rattle.rule_model.specs.Outcome.{Act, Called, Outcome, Ends, Waits as Stops, reply_code}
use Rattle.rule_model.specs.Setting as given
use Rattle.conn_trace.specs.Bodies.{run_body, act_item, act_next, ended_next}
use Rattle.conn_trace.specs.Further.{Further, longer, CutMeets}
use Rattle.conn_trace.specs.Gates.{Counts, TakenCounts, Met, sent_from}
use Rattle.conn_trace.specs.Host.{HostState, body_setting}
use Rattle.conn_trace.specs.Item.{Item, Choice}
use Rattle.conn_trace.specs.Setup.{Handler, Setup}
use Rattle.conn_trace.specs.State.{Running, Phase, InEvent, Selecting, ServerSide, Stream, Cut, TraceState, ForReply, Next, Does, Waits, Over}
use Rattle.conn_trace.specs.Trace.{counted, cut_next, next_item, phase_next, selected_next, selecting_next, Unfolds, trace_from, trace, start}
use Rattle.conn_trace.proofs.BodyItems.{running, acts_unfold}
use Rattle.conn_trace.proofs.Furthering.{further_keeps}
use Rattle.conn_trace.proofs.Given.{cut_keeps}
use Rattle.conn_trace.proofs.Taking.{met_more}
use Rattle.conn_trace.proofs.Unfolding.{trace_unfolds}
use Rattle.frames.specs.Frames.{comes_to, path_of}
use Rattle.frames.specs.declared.frame.Mode.TheVariants as mode
use Rattle.frames.specs.declared.frame.Standing.{Standing}
use Rattle.conn.specs.Continues.{gated_phase, phase_at, sent_by, own_state, items_of, first_ahead, ahead_at, MayCome, ConnectionContinues, made_by}
use Rattle.conn.specs.Events.{event_of}
use Rattle.conn.specs.Holds.{Around, Between, BodyGoesOn, GatedBefore, HoldsEnds, RunsFirst, Stands, Holds, call_of}
use Rattle.conn.specs.Hosts.{seen_host}
use Rattle.conn.specs.Modes.{is_asked}
use Rattle.conn.specs.Stages.{has_finished, selects}
use Rattle.conn.specs.declared.ends.Ends.{Ends as BothEnds}
use Rattle.conn.specs.declared.connection.Conn.{Conn}
use Rattle.conn.specs.declared.stage.Stage.{Stage}
use Rattle.conn.specs.declared.stage.Stage.TheVariants as stage
use Rattle.conn.specs.Ends.{arrived, connects_by, number_by, server_by, has_stream, is_taken, sent_here, servers_by}
use Rattle.conn.proofs.ActItems.{no_tail, acts_met}
use Rattle.conn.proofs.Asking.{asking_waits}
use Rattle.conn.proofs.FramesKeep.{all_behind, frames_keep, acts_behind, acts_stay}
use Rattle.conn.proofs.Replying.{asked_mode, goes_on}
use Rattle.conn.specs.declared.ends.Link.{Link}
use Rattle.conn_trace.specs.Heard.{taken_by}
use Rattle.conn.specs.declared.ends.Link.TheVariants as link

-- the first items
take_more : (n k : ℕ) (g : Setup) (o : Next) → n ≤ k → take n (trace_from k g o) ≡ trace_from n g o
take_more zero k g o within = refl
take_more (suc n) zero g o within = absurd (omega (arith, within))
take_more (suc n) (suc k) g (Does i l) within = ap (λ r. i ∷ r) (take_more n k g (next_item g l) (omega (arith, within)))
take_more (suc n) (suc k) g (Waits kind) within = refl
take_more (suc n) (suc k) g Over within = refl

-- are those of an unfolding, and then those from where it stands
trace_front : (n k : ℕ) (g : Setup) (l m : TraceState) (items : List Item) → n ≤ k → Unfolds g l items m → trace n g l ≡ take n (items ++ trace k g m)
trace_front n k g l m [] within is = ap (trace n g) is ∙ sym (take_more n k g (next_item g m) within)
trace_front zero k g l m (i ∷ items) within (mid, step, more) = refl
trace_front (suc n) k g l m (i ∷ items) within (mid, step, more) =
    ap (trace_from (suc n) g) step ∙ ap (λ r. i ∷ r) (trace_front n k g mid m items (omega (arith, within)) more)

-- the connection's own fields, but for these
abbrev own_at : Around → (before : ℕ) → Conn → Phase → Scopes → HostState → List Reply → TraceState
own_at a before c p v h replies = record {
  phase = p;
  vars = v;
  host = h;
  finished = has_finished c.stage;
  client = arrived c.ends.client;
  server = server_by c.ends.link c.ends.server;
  sent = sent_by before a c.ends;
  answers = record { replies = replies; connects = connects_by c.ends.link c.ends.server; choices = []; cut = None };
}

abbrev counts : ℕ → ℕ → ℕ → Counts
counts client server number = record { client = client; server = server; number = number }

-- as many were made as the trace took, but for one whose answer waits
made_is : (k : Link) (ts : List (Option ℕ)) (b : Bool) (n : ℕ) → number_by k (length ts) ≡ made_by k (length (servers_by ts k b n))
made_is link.Absent ts b n = refl
made_is link.Asked ts b n = refl
made_is link.Refused ts b n = refl
made_is link.Made ts b n = let k = length-append ts (taken_by b n ∷ []) in omega (arith, k)
made_is link.Up ts b n = let k = length-append ts (taken_by b n ∷ []) in omega (arith, k)
made_is link.GivenUp ts b n = let k = length-append ts (taken_by b n ∷ []) in omega (arith, k)
made_is (link.Leaving w) ts b n = let k = length-append ts (taken_by b n ∷ []) in omega (arith, k)

sent_is : (a : Around) (l : TraceState) (e : BothEnds) → HoldsEnds a l e → l.sent ≡ sent_by l.sent.server a e
sent_is a l e h =
    ap (λ x. counts x l.sent.server l.sent.number) (sym h.client_untaken)
    ∙ ap (λ x. counts (sent_by l.sent.server a e).client x l.sent.number) (by_link e.link refl)
    ∙ ap (λ x. counts (sent_by l.sent.server a e).client (sent_by l.sent.server a e).server x) (h.number ∙ made_is e.link h.earlier e.server.reset a.counted_server ∙ ap (λ ts. made_by e.link (length ts)) (sym h.servers_took))
  where
    taken : (k : Link) → e.link ≡ k → has_stream k ≡ true → sent_here k l.sent.server ≡ l.sent.server → l.sent.server ≡ length e.server.queued + a.counted_server
    taken k is there here = sym (h.server_untaken (ap has_stream is ∙ there) ∙ ap (λ x. sent_here x l.sent.server) is ∙ here)

    by_link : (k : Link) → e.link ≡ k → l.sent.server ≡ (sent_by l.sent.server a e).server
    by_link link.Absent is = ap (λ x. if is_taken x then length e.server.queued + a.counted_server else l.sent.server) (sym is)
    by_link link.Asked is = ap (λ x. if is_taken x then length e.server.queued + a.counted_server else l.sent.server) (sym is)
    by_link link.Refused is = ap (λ x. if is_taken x then length e.server.queued + a.counted_server else l.sent.server) (sym is)
    by_link link.Made is = ap (λ x. if is_taken x then length e.server.queued + a.counted_server else l.sent.server) (sym is)
    by_link link.Up is = taken link.Up is refl refl ∙ ap (λ x. if is_taken x then length e.server.queued + a.counted_server else l.sent.server) (sym is)
    by_link link.GivenUp is = taken link.GivenUp is refl refl ∙ ap (λ x. if is_taken x then length e.server.queued + a.counted_server else l.sent.server) (sym is)
    by_link (link.Leaving w) is = taken (link.Leaving w) is refl refl ∙ ap (λ x. if is_taken x then length e.server.queued + a.counted_server else l.sent.server) (sym is)

abbrev own_parts : TraceState → Bool → Stream → ServerSide → Counts → List (Option Stream) → List Choice → Option Cut → TraceState
own_parts l f t s n k ch cut = record l { finished = f; client = t; server = s; sent = n; answers = record l.answers { connects = k; choices = ch; cut = cut } }

is_own : (g : Setup) (a : Around) (l : TraceState) (c : Conn) → Holds g a l c → l ≡ own_at a l.sent.server c l.phase l.vars l.host l.answers.replies
is_own g a l c h =
    let f = has_finished c.stage in
    let t = arrived c.ends.client in
    let s = server_by c.ends.link c.ends.server in
    let n = sent_by l.sent.server a c.ends in
    let k = connects_by c.ends.link c.ends.server in
    ap (λ x. own_parts l x l.client l.server l.sent l.answers.connects l.answers.choices l.answers.cut) h.finished
    ∙ ap (λ x. own_parts l f x l.server l.sent l.answers.connects l.answers.choices l.answers.cut) h.ends.client
    ∙ ap (λ x. own_parts l f t x l.sent l.answers.connects l.answers.choices l.answers.cut) h.ends.server
    ∙ ap (λ x. own_parts l f t s x l.answers.connects l.answers.choices l.answers.cut) (sent_is a l c.ends h.ends)
    ∙ ap (λ x. own_parts l f t s n x l.answers.choices l.answers.cut) h.ends.connects
    ∙ ap (λ x. own_parts l f t s n k x l.answers.cut) h.no_choice
    ∙ ap (λ x. own_parts l f t s n k [] x) h.no_cut

-- acts of the frames that were given at an open call
record FirstGiven (w : ℕ) (o : Outcome HostState) : Type 0 where
  first : List Act
  count : length first ≡ w
  split : (state_after o).acts ≡ first ++ drop w (state_after o).acts

none_given : (o : Outcome HostState) → FirstGiven 0 o
none_given o = record { first = []; count = refl; split = refl }

first_of : (o : Outcome HostState) (x : Act) (more : List Act) → (state_after o).acts ≡ x ∷ more → FirstGiven 1 o
first_of o x more is = record { first = x ∷ []; count = refl; split = is ∙ ap (λ r. x ∷ r) (sym (ap (drop 1) is)) }

call_given : (S : given.Setting HostState) (t : Tree) (m : Standing) (v : Scopes) (h : HostState) (call : List (List ℕ)) (replies : List Reply) (cost : ℕ) → m.mode ≡ mode.Asked call → FirstGiven 1 (comes_to S t m v h replies cost [])
call_given S t m v h call [] cost asked =
    first_of (comes_to S t m v h [] cost []) (Called (path_of m.frames.items) call) [] (ap (λ o. (state_after o).acts) (asking_waits S t m v h call cost [] asked))
call_given S t m v h call (r ∷ more) cost asked =
    let act = Called (path_of m.frames.items) call in
    let next = record m { mode = mode.Back (reply_code r) } in
    let stays = acts_stay S t next v h more cost (act ∷ []) in
    first_of (comes_to S t m v h (r ∷ more) cost []) act stays.0 (ap (λ o. (state_after o).acts) (goes_on S t m v h call r more cost [] asked) ∙ stays.1)

-- where all acts of a body were given
ends_next : (g : Setup) (e : EventName) (b : Handler) (bs : List Handler) (l : TraceState) (m : ℕ) (sent : Counts) (o : Outcome HostState) → run_body g b l ≡ o → slice_get (state_after o).acts m ≡ None
    → next_item g (running e b bs m sent l) ≡ counted sent (cut_next g l.answers.cut (running e b bs m sent l) (ended_next g e b bs (running e b bs m sent l) o))
unfolding next_item
ends_next g e b bs l m sent o is none =
    let r = running e b bs m sent l in
    ap (λ x. counted sent (cut_next g l.answers.cut r (act_next e b bs m r (slice_get (state_after x).acts m) (ended_next g e b bs r x)))) is
    ∙ ap (λ x. counted sent (cut_next g l.answers.cut r (act_next e b bs m r x (ended_next g e b bs r o)))) none

if_same : (b : Bool) (o : Next) → (if b then o else o) ≡ o
if_same true o = refl
if_same false o = refl

-- no cut is taken where a body ends or waits
cut_passes : (g : Setup) (cut : Option Cut) (r : TraceState) (e : EventName) (b : Handler) (bs : List Handler) (o : Outcome HostState) → cut_next g cut r (ended_next g e b bs r o) ≡ ended_next g e b bs r o
cut_passes g None r e b bs o = refl
cut_passes g (Some k) r e b bs (Ends code st) = if_same r.finished (ended_next g e b bs r (Ends code st))
cut_passes g (Some k) r e b bs (Stops path call st) = if_same r.finished (Waits (ForReply call))

-- nor among its acts
abbrev cutting : Option Cut → TraceState → TraceState
cutting cut l = record l { answers = record l.answers { cut = cut } }

cut_front : (g : Setup) (number : ℕ) (l m : TraceState) (acts : List Act) (cut : Option Cut) → l.answers.cut ≡ None → m.answers.cut ≡ None → Unfolds g l (map (act_item number) acts) m → Unfolds g (cutting cut l) (map (act_item number) acts) (cutting cut m)
cut_front g number l m acts None none later is =
    let items = map (act_item number) acts in
    let P : Option Cut → Type 0 = λ k. Unfolds g (cutting k l) items m in
    let Q : Option Cut → Type 0 = λ k. Unfolds g (cutting None l) items (cutting k m) in
    subst Q later (subst P none is)
cut_front g number l m acts (Some k) none later is =
    let items = map (act_item number) acts in
    let M : List Item → Type 0 = λ xs. Met l.sent k.took xs in
    cut_keeps g l m k items none (subst M (append-nil items) (acts_met 0 number k.took [] (no_tail 0 k.took) acts l.sent)) is

module _ (g : Setup) (a : Around) (l : TraceState) (c : Conn) (h : Holds g a l c) where
  -- what was sent to the last server connection
  abbrev before : ℕ
  before = l.sent.server

  abbrev own : TraceState
  own = own_state g a before c

  same_end : (f : Further) (e : EventName) (b : Handler) (bs : List Handler) (p : Phase) (v : Scopes) (hs : HostState) (rs : List Reply) (m : ℕ) (sent : Counts) (acts : List Act) (o : Outcome HostState)
      → counted sent (ended_next g e b bs (running e b bs m sent (longer f (own_at a before c p v hs rs))) (all_behind acts o)) ≡ ended_next g e b bs (record (longer f own) { sent = sent }) o
  same_end f e b bs p v hs rs m sent acts (Ends code st) = refl
  same_end f e b bs p v hs rs m sent acts (Stops path call st) = refl

  -- a body that has begun is ended by its frames
  body_follows : (e : EventName) (b : Handler) (bs : List Handler) (w : ℕ) (k : BodyGoesOn g e b bs w l c)
      → ((replies : List Reply) → FirstGiven w (comes_to (body_setting g b.procedures) b.body c.body.machine.at c.vars (seen_host c.host) replies k.cost []))
      → (f : Further) (n : ℕ) → trace n g (longer f l) ≡ items_of n g (first_ahead g c e (b ∷ bs) w k.cost (longer f own))
  body_follows e b bs w k first f n =
      let S = body_setting g b.procedures in
      let m = c.body.machine.at in
      let o : Outcome HostState = comes_to S b.body m c.vars (seen_host c.host) f.replies k.cost [] in
      let p = first f.replies in
      let todo = drop w (state_after o).acts in
      let done = k.acts ++ p.first in
      let given = length k.acts + w in
      let all_given = given + length todo in
      let now : Phase = InEvent e (Running b bs given) in
      let at : TraceState = own_at a before c now l.vars l.host l.answers.replies in
      let plain : TraceState = longer (record f { cut = None }) at in
      let number = (sent_by before a c.ends).number in
      let items = map (act_item number) todo in
      let sent = sent_from (sent_by before a c.ends) items in
      let is : run_body g b (longer f at) ≡ all_behind k.acts o = k.same f.replies ∙ frames_keep S b.body m c.vars (seen_host c.host) f.replies k.cost k.acts in
      let acts : (state_after (all_behind k.acts o)).acts ≡ done ++ todo = acts_behind k.acts o ∙ ap (λ x. k.acts ++ x) p.split ∙ sym (append_assoc k.acts p.first todo) in
      let here : given ≡ length done = omega (arith, p.count, length-append k.acts p.first) in
      let past : length (state_after (all_behind k.acts o)).acts ≤ all_given = omega (arith, here, ap length acts, length-append done todo) in
      let same : l ≡ at = is_own g a l c h ∙ ap (λ x. own_at a before c x l.vars l.host l.answers.replies) k.phase in
      let front : Unfolds g plain items (running e b bs all_given sent plain) = acts_unfold g e b bs plain (all_behind k.acts o) refl is done todo given all_given number (sent_by before a c.ends) refl acts here refl in
      let stood : TraceState = running e b bs all_given sent (longer f at) in
      let next : next_item g stood ≡ ended_next g e b bs (record (longer f own) { sent = sent }) o =
      ends_next g e b bs (longer f at) all_given sent (all_behind k.acts o) is (slice_get_past (state_after (all_behind k.acts o)).acts all_given past)
      ∙ ap (counted sent) (cut_passes g f.cut stood e b bs (all_behind k.acts o))
      ∙ same_end f e b bs now l.vars l.host l.answers.replies all_given sent k.acts o in
      ap (λ x. trace n g (longer f x)) same
      ∙ trace_front n n g (longer f at) stood items (omega arith) (cut_front g number plain (running e b bs all_given sent plain) todo f.cut refl refl front)
      ∙ ap (λ x. take n (items ++ trace_from n g x)) next

  running_follows : (e : EventName) (hs : List Handler) → RunsFirst g e hs 0 l c → (cost : ℕ) × ((f : Further) (n : ℕ) → trace n g (longer f l) ≡ items_of n g (first_ahead g c e hs 0 cost (longer f own)))
  running_follows e [] k = absurd k
  running_follows e (b ∷ bs) k = (k.cost, body_follows e b bs 0 k (λ rs. none_given (comes_to (body_setting g b.procedures) b.body c.body.machine.at c.vars (seen_host c.host) rs k.cost [])))

  asking_follows : (e : EventName) (hs : List Handler) → RunsFirst g e hs 1 l c → is_asked c.body.machine.at.mode ≡ true → (cost : ℕ) × ((f : Further) (n : ℕ) → trace n g (longer f l) ≡ items_of n g (first_ahead g c e hs 1 cost (longer f own)))
  asking_follows e [] k asked = absurd k
  asking_follows e (b ∷ bs) k asked =
      let is = asked_mode c.body.machine.at.mode asked in
      (k.cost, body_follows e b bs 1 k (λ rs. call_given (body_setting g b.procedures) b.body c.body.machine.at c.vars (seen_host c.host) is.0 rs k.cost is.1))

  -- between bodies it goes on as its own fields say
  between_follows : l.phase ≡ phase_at g c.host.net c.stage → Between l c → (f : Further) (n : ℕ) → trace n g (longer f l) ≡ take n (trace n g (longer f own))
  between_follows here b f n =
      let same : l ≡ own = is_own g a l c h
      ∙ ap (λ x. own_at a before c x l.vars l.host l.answers.replies) here
      ∙ ap (λ x. own_at a before c (phase_at g c.host.net c.stage) x l.host l.answers.replies) b.vars
      ∙ ap (λ x. own_at a before c (phase_at g c.host.net c.stage) c.vars x l.answers.replies) b.host
      ∙ ap (λ x. own_at a before c (phase_at g c.host.net c.stage) c.vars (seen_host c.host) x) b.replies in
      ap (λ x. trace n g (longer f x)) same ∙ sym (take_more n n g (next_item g (longer f own)) (omega arith))

  -- the reply that came selects this address or none
  chosen_next : (f : Further) (k : TraceState) (call : List (List ℕ)) (r : Reply) (addr : Option Addr) → k.phase ≡ Selecting call → k.answers.replies ≡ r ∷ f.replies → addr ≡ selects r → next_item g k ≡ counted k.sent (selected_next g k f.replies addr)
  unfolding next_item
  chosen_next f k call r addr here came is =
      ap (λ p. counted k.sent (cut_next g k.answers.cut k (phase_next g p k))) here
      ∙ ap (λ rs. counted k.sent (cut_next g k.answers.cut k (selecting_next g call k rs))) came
      ∙ ap (λ o. counted k.sent (cut_next g k.answers.cut k o)) (by_reply r)
      ∙ ap (counted k.sent) (cut_passes_on k.answers.cut (selects r))
      ∙ ap (λ o. counted k.sent (selected_next g k f.replies o)) (sym is)
    where
      by_reply : (r : Reply) → selecting_next g call k (r ∷ f.replies) ≡ selected_next g k f.replies (selects r)
      by_reply (reply.Ok v) = refl
      by_reply (reply.Fault e) = refl

      cut_passes_on : (cut : Option Cut) (o : Option Addr) → cut_next g cut k (selected_next g k f.replies o) ≡ selected_next g k f.replies o
      cut_passes_on None o = refl
      cut_passes_on (Some x) None = if_same k.finished (selected_next g k f.replies None)
      cut_passes_on (Some x) (Some a) = if_same k.finished (selected_next g k f.replies (Some a))

  chosen_same : (f : Further) (r : Reply) (addr : Option Addr) → counted (sent_by before a c.ends) (selected_next g (longer f (own_at a before c (phase_at g c.host.net c.stage) c.vars (seen_host c.host) (r ∷ []))) f.replies addr) ≡ counted (sent_by before a c.ends) (selected_next g (longer f own) f.replies addr)
  chosen_same f r None = refl
  chosen_same f r (Some x) = refl

  chosen_follows : (addr : Option Addr) → c.stage ≡ stage.Chosen addr → Stands g (stage.Chosen addr) l c → (f : Further) (n : ℕ) → trace n g (longer f l) ≡ items_of n g (ahead_at (stage.Chosen addr) g c 0 (longer f own))
  chosen_follows addr is k f n =
      let b = k.1 in
      let here : l.phase ≡ phase_at g c.host.net c.stage = k.0 ∙ sym (ap (phase_at g c.host.net) is) in
      let at = own_at a before c (phase_at g c.host.net c.stage) c.vars (seen_host c.host) (b.reply ∷ []) in
      let same : l ≡ at = is_own g a l c h
      ∙ ap (λ x. own_at a before c x l.vars l.host l.answers.replies) here
      ∙ ap (λ x. own_at a before c (phase_at g c.host.net c.stage) x l.host l.answers.replies) b.vars
      ∙ ap (λ x. own_at a before c (phase_at g c.host.net c.stage) c.vars x l.answers.replies) b.host
      ∙ ap (λ x. own_at a before c (phase_at g c.host.net c.stage) c.vars (seen_host c.host) x) b.replies in
      ap (λ x. trace n g (longer f x)) same
      ∙ ap (trace_from n g) (chosen_next f (longer f at) (call_of g c.host.net) b.reply addr (ap (phase_at g c.host.net) is) refl b.selects ∙ chosen_same f b.reply addr)
      ∙ sym (take_more n n g _ (omega arith))

  gated_is : (e : EventName) (hs : List Handler) → GatedBefore e hs l.phase → l.phase ≡ gated_phase e hs
  gated_is e [] k = absurd k
  gated_is e (b ∷ bs) k = k

  follows_at : (st : Stage) → c.stage ≡ st → Stands g st l c → (cost : ℕ) × ((f : Further) (n : ℕ) → trace n g (longer f l) ≡ items_of n g (ahead_at st g c cost (longer f own)))
  follows_at (stage.Gated at) is k = (0, between_follows (gated_is (event_of at) (g.handlers (event_of at)) k.0 ∙ sym (ap (phase_at g c.host.net) is)) k.1)
  follows_at (stage.Running at n) is k = running_follows (event_of at) (drop n (g.handlers (event_of at))) k.0
  follows_at (stage.Asking at n) is k = asking_follows (event_of at) (drop n (g.handlers (event_of at))) k.0 (c.body.asking k.1)
  follows_at (stage.Failing at n kind line) is k = (0, between_follows (k.0 ∙ sym (ap (phase_at g c.host.net) is)) k.1)
  follows_at stage.Choosing is k = (0, between_follows (k.0 ∙ sym (ap (phase_at g c.host.net) is)) k.1)
  follows_at stage.Selecting is k = (0, between_follows (k.0 ∙ sym (ap (phase_at g c.host.net) is)) k.1)
  follows_at (stage.Connecting to) is k = (0, between_follows (k.0 ∙ sym (ap (phase_at g c.host.net) is)) k.1)
  follows_at (stage.Answering to) is k = (0, between_follows (k.0 ∙ sym (ap (phase_at g c.host.net) is)) k.1)
  follows_at stage.Collecting is k = (0, between_follows (k.0 ∙ sym (ap (phase_at g c.host.net) is)) k.1)
  follows_at stage.AtHead is k = (0, between_follows (k.0 ∙ sym (ap (phase_at g c.host.net) is)) k.1)
  follows_at stage.Continuing is k = (0, between_follows (k.0 ∙ sym (ap (phase_at g c.host.net) is)) k.1)
  follows_at (stage.Gathering side wanted reader) is k = (0, between_follows (k.0 ∙ sym (ap (phase_at g c.host.net) is)) k.1)
  follows_at stage.AtReuse is k = (0, between_follows (k.0 ∙ sym (ap (phase_at g c.host.net) is)) k.1)
  follows_at (stage.GivingUp w) is k = (0, between_follows (k.0 ∙ sym (ap (phase_at g c.host.net) is)) k.1)
  follows_at (stage.Retiring w) is k = (0, between_follows (k.0 ∙ sym (ap (phase_at g c.host.net) is)) k.1)
  follows_at (stage.Heading side) is k = (0, between_follows (k.0 ∙ sym (ap (phase_at g c.host.net) is)) k.1)
  follows_at (stage.Forwarding side reader standing) is k = (0, between_follows (k.0 ∙ sym (ap (phase_at g c.host.net) is)) k.1)
  follows_at stage.AtResponse is k = (0, between_follows (k.0 ∙ sym (ap (phase_at g c.host.net) is)) k.1)
  follows_at (stage.Dropping reader) is k = (0, between_follows (k.0 ∙ sym (ap (phase_at g c.host.net) is)) k.1)
  follows_at stage.Releasing is k = (0, between_follows (k.0 ∙ sym (ap (phase_at g c.host.net) is)) k.1)
  follows_at (stage.Relaying first) is k = (0, between_follows (k.0 ∙ sym (ap (phase_at g c.host.net) is)) k.1)
  follows_at (stage.Chosen addr) is k = (0, chosen_follows addr is k)
  follows_at (stage.Finishing f) is k = (0, between_follows (k.0 ∙ sym (ap (phase_at g c.host.net) is)) k.1)
  follows_at stage.Draining is k = (0, between_follows (k.0 ∙ sym (ap (phase_at g c.host.net) is)) k.1)
  follows_at stage.OutOfMemory is k = absurd k
  follows_at (stage.Dropped n) is k = absurd k

-- a cut that may come meets the gates of all that was given
cut_meets : (sent : Counts) (took : TakenCounts) (given : List Item) (cut : Option Cut) → Met sent took given → MayCome took cut → CutMeets cut sent given
cut_meets sent took given None met may = tt
cut_meets sent took given (Some k) met may = met_more sent took k.took given may met

pub continues : ConnectionContinues
continues g a client answers given at c none k =
    let first = start g client answers in
    let more = follows_at g a at c k.holds c.stage refl k.holds.stage in (
      at.sent.server,
      more.0,
      λ f n may.
          trace_unfolds n g (longer f first) (longer f at) given (further_keeps g first at f given none (cut_meets first.sent a.took given f.cut k.met may) k.passed)
          ∙ ap (λ r. given ++ r) (more.1 f n),
    )
