-- The items of a body: its acts one after another, and then its end.
use Rattle.std.proofs.Common.{◌≡◌, refl, sym, ap, ◌∙◌, ℕ, ◌+◌, List, [], ◌∷◌, ◌++◌, None, Some, Option}
use Rattle.std.proofs.Common.{length, map, append_assoc, arith}
use Rattle.std.specs.Prelude.{slice_get}
use Rattle.std.proofs.lemmas.List.{length-append}
use Rattle.std.proofs.lemmas.Option.{slice_get_past}
use Rattle.px_bytes.specs.declared.addr.Side.TheVariants.{Client, Server}
use Rattle.rule_model.specs.Host as effect
use Rattle.rule_model.specs.Outcome.{Act, Did, State, Outcome, Ends, Waits as Stops, uncaught_of}
use Rattle.rule_model.specs.Outcome as act
use Rattle.rule_model.specs.Laws.{state_after}
use Rattle.rule_model.specs.declared.code.Code.{Code}
use Rattle.event_order.specs.declared.event.EventName.{EventName}
use Rattle.conn_trace.specs.Item.{Ran}
use Rattle.conn_trace.specs.Gates.{Counts, sent_after, sent_from}
use Rattle.conn_trace.specs.Setup.{Handler, Setup}
use Rattle.conn_trace.specs.Host.{HostState}
use Rattle.conn_trace.specs.State.{Running, InEvent, TraceState, Does, Waits, ForReply}
use Rattle.conn_trace.specs.State.{link_of, with_replies}
use Rattle.conn_trace.specs.Places.{at, after_body}
use Rattle.conn_trace.specs.Bodies.{run_body, act_item, act_next, ended_next}
use Rattle.conn_trace.specs.Trace.{counted, next_item, Unfolds}
use Rattle.conn_trace.proofs.Longer.{plain_next}
use Rattle.conn_trace.proofs.Unfolding.{unfolds_on, unfolds_one}

-- where a body stands of which so many acts were given, where so much was sent
abbrev pub running : EventName → Handler → List Handler → ℕ → Counts → TraceState → TraceState
running e b bs n sent l = record l { phase = InEvent e (Running b bs n); sent = sent }

-- where a body that ended so leaves the connection
abbrev pub ended : Setup → EventName → Handler → List Handler → Code → State HostState → Counts → TraceState → TraceState
ended g e b bs code st sent l =
    at (after_body g e l.finished (link_of l.server) b bs (uncaught_of code) st.host) (with_replies st.replies (record l { vars = st.vars; sent = sent }))

there : (done todo : List Act) (a : Act) → slice_get (done ++ a ∷ todo) (length done) ≡ Some a
there [] todo a = refl
there (d ∷ done) todo a = there done todo a

act_there : (acts done todo : List Act) (a : Act) (n : ℕ) → acts ≡ done ++ a ∷ todo → n ≡ length done → slice_get acts n ≡ Some a
act_there acts done todo a n is here = ap (λ x. slice_get x n) is ∙ ap (slice_get (done ++ a ∷ todo)) here ∙ there done todo a

-- acts change no server connection
same_number : (number : ℕ) (a : Act) (sent : Counts) → (sent_after (act_item number a) sent).number ≡ sent.number
same_number number (Did (effect.Logged text)) sent = refl
same_number number (Did (effect.Sent Client bytes)) sent = refl
same_number number (Did (effect.Sent Server bytes)) sent = refl
same_number number (act.Called path call) sent = refl

next_act : (g : Setup) (e : EventName) (b : Handler) (bs : List Handler) (l : TraceState) (o : Outcome HostState) (n : ℕ) (sent : Counts) (v : Option Act)
    → l.answers.cut ≡ None → run_body g b l ≡ o → slice_get (state_after o).acts n ≡ v
    → next_item g (running e b bs n sent l) ≡ counted sent (act_next e b bs n (running e b bs n sent l) v (ended_next g e b bs (running e b bs n sent l) o))
next_act g e b bs l o n sent v none is has =
    let r = running e b bs n sent l in
    plain_next g r none ∙ (ap (λ x. counted sent (act_next e b bs n r (slice_get (state_after x).acts n) (ended_next g e b bs r x))) is
    ∙ ap (λ x. counted sent (act_next e b bs n r x (ended_next g e b bs r o))) has)

-- the acts that are left come one after another
pub acts_unfold : (g : Setup) (e : EventName) (b : Handler) (bs : List Handler) (l : TraceState) (o : Outcome HostState) → l.answers.cut ≡ None → run_body g b l ≡ o
    → (done todo : List Act) (n m number : ℕ) (sent : Counts) → sent.number ≡ number → (state_after o).acts ≡ done ++ todo → n ≡ length done → m ≡ n + length todo
    → Unfolds g (running e b bs n sent l) (map (act_item number) todo) (running e b bs m (sent_from sent (map (act_item number) todo)) l)
acts_unfold g e b bs l o none is done [] n m number sent at_number all here last =
    let same : n ≡ m = omega arith in ap (λ k. running e b bs k sent l) same
acts_unfold g e b bs l o none is done (a ∷ todo) n m number sent at_number all here last =
    let more : n + 1 ≡ length (done ++ a ∷ []) = omega (arith, here, length-append done (a ∷ [])) in
    let sent' = sent_after (act_item number a) sent in
    let step = next_act g e b bs l o n sent (Some a) none is (act_there (state_after o).acts done todo a n all here) in (
      running e b bs (n + 1) sent' l,
      step ∙ ap (λ k. Does (act_item k a) (running e b bs (n + 1) (sent_after (act_item k a) sent) l)) at_number,
      acts_unfold g e b bs l o none is (done ++ a ∷ []) todo (n + 1) m number sent' (same_number number a sent ∙ at_number) (all ∙ sym (append_assoc done (a ∷ []) todo)) more (omega arith),
    )

-- a body that ends
pub body_unfolds : (g : Setup) (e : EventName) (b : Handler) (bs : List Handler) (l : TraceState) (code : Code) (st : State HostState) → l.answers.cut ≡ None → run_body g b l ≡ Ends code st
    → Unfolds g (running e b bs 0 l.sent l) (map (act_item l.sent.number) st.acts ++ Ran e st.cost ∷ []) (ended g e b bs code st (sent_from l.sent (map (act_item l.sent.number) st.acts)) l)
body_unfolds g e b bs l code st none is =
    let n = length st.acts in
    let sent = sent_from l.sent (map (act_item l.sent.number) st.acts) in
    unfolds_on g (running e b bs 0 l.sent l) (running e b bs n sent l) (ended g e b bs code st sent l) (map (act_item l.sent.number) st.acts) (Ran e st.cost ∷ [])
    (acts_unfold g e b bs l (Ends code st) none is [] st.acts 0 n l.sent.number l.sent refl refl refl (omega arith))
    (unfolds_one g (running e b bs n sent l) (ended g e b bs code st sent l) (Ran e st.cost) (next_act g e b bs l (Ends code st) n sent None none is (slice_get_past st.acts n (omega arith))))

-- a body that waits for a reply
pub body_waits : (g : Setup) (e : EventName) (b : Handler) (bs : List Handler) (l : TraceState) (path : List ℕ) (call : List (List ℕ)) (st : State HostState) (sent : Counts) → l.answers.cut ≡ None
    → run_body g b l ≡ Stops path call st → next_item g (running e b bs (length st.acts) sent l) ≡ Waits (ForReply call)
body_waits g e b bs l path call st sent none is =
    next_act g e b bs l (Stops path call st) (length st.acts) sent None none is (slice_get_past st.acts (length st.acts) (omega arith))
