-- A body's step is the next items of each state that the connection may stand for.
use Rattle.std.proofs.Common.{◌≡◌, refl, sym, ap, ◌∙◌, ℕ, ◌+◌, List, [], ◌∷◌, ◌++◌, None, Some, Option, length, map, append_assoc, arith}
use Rattle.std.specs.Prelude.{slice_get}
use Rattle.std.proofs.lemmas.List.{length-append}
use Rattle.std.proofs.lemmas.Option.{slice_get_past}
use Rattle.px_bytes.specs.declared.addr.Side.TheVariants.{Client, Server}
use Rattle.rule_model.specs.Host as effect
use Rattle.rule_model.specs.Outcome.{Act, Did, State, Outcome, Ends}
use Rattle.rule_model.specs.Outcome as act
use Rattle.rule_model.specs.Laws.{state_after}
use Rattle.rule_model.specs.declared.code.Code.{Code}
use Rattle.event_order.specs.declared.event.EventName.{EventName}
use Rattle.conn_trace.specs.Item.{Ran}
use Rattle.conn_trace.specs.Gates.{Counts, sent_after, sent_from}
use Rattle.conn_trace.specs.Setup.{Handler, Setup}
use Rattle.conn_trace.specs.Host.{HostState}
use Rattle.conn_trace.specs.State.{TraceState, Does}
use Rattle.conn_trace.specs.Bodies.{run_body, act_item, act_next, ended_next}
use Rattle.conn_trace.specs.Trace.{counted, next_item, Unfolds}
use Rattle.conn_trace.proofs.BodyItems.{running, ended}
use Rattle.conn_trace.proofs.Longer.{plain_next}

there : (done rest : List Act) (a : Act) → slice_get (done ++ a ∷ rest) (length done) ≡ Some a
there [] rest a = refl
there (d ∷ done) rest a = there done rest a

act_there : (acts done rest : List Act) (a : Act) (n : ℕ) → acts ≡ done ++ a ∷ rest → n ≡ length done → slice_get acts n ≡ Some a
act_there acts done rest a n is here = ap (λ x. slice_get x n) is ∙ ap (slice_get (done ++ a ∷ rest)) here ∙ there done rest a

same_number : (number : ℕ) (a : Act) (sent : Counts) → (sent_after (act_item number a) sent).number ≡ sent.number
same_number number (Did (effect.Logged text)) sent = refl
same_number number (Did (effect.Sent Client bytes)) sent = refl
same_number number (Did (effect.Sent Server bytes)) sent = refl
same_number number (act.Called path call) sent = refl

next_act : (g : Setup) (e : EventName) (b : Handler) (bs : List Handler) (l : TraceState) (o : Outcome HostState) (n : ℕ) (sent : Counts) (v : Option Act)
    → l.answers.cut ≡ None → run_body g b l ≡ o → slice_get (state_after o).acts n ≡ v
    → next_item g (running e b bs n sent l) ≡ counted sent (act_next e b bs n (running e b bs n sent l) v (ended_next g e b bs (running e b bs n sent l) o))
next_act g e b bs l o n sent v none is has =
    let r = running e b bs n sent l in
    plain_next g r none ∙ (ap (λ x. counted sent (act_next e b bs n r (slice_get (state_after x).acts n) (ended_next g e b bs r x))) is
    ∙ ap (λ x. counted sent (act_next e b bs n r x (ended_next g e b bs r o))) has)

-- some of the acts that are left come one after another
pub acts_come : (g : Setup) (e : EventName) (b : Handler) (bs : List Handler) (l : TraceState) (o : Outcome HostState) → l.answers.cut ≡ None → run_body g b l ≡ o
    → (done todo rest : List Act) (n m number : ℕ) (sent : Counts) → sent.number ≡ number → (state_after o).acts ≡ done ++ (todo ++ rest) → n ≡ length done → m ≡ n + length todo
    → Unfolds g (running e b bs n sent l) (map (act_item number) todo) (running e b bs m (sent_from sent (map (act_item number) todo)) l)
acts_come g e b bs l o none is done [] rest n m number sent at_number all here last =
    let same : n ≡ m = omega (arith, last) in ap (λ k. running e b bs k sent l) same
acts_come g e b bs l o none is done (a ∷ todo) rest n m number sent at_number all here last =
    let more : n + 1 ≡ length (done ++ a ∷ []) = omega (arith, here, length-append done (a ∷ [])) in
    let sent' = sent_after (act_item number a) sent in
    let step = next_act g e b bs l o n sent (Some a) none is (act_there (state_after o).acts done (todo ++ rest) a n all here) in (
      running e b bs (n + 1) sent' l,
      step ∙ ap (λ k. Does (act_item k a) (running e b bs (n + 1) (sent_after (act_item k a) sent) l)) at_number,
      acts_come g e b bs l o none is (done ++ a ∷ []) todo rest (n + 1) m number sent' (same_number number a sent ∙ at_number) (all ∙ sym (append_assoc done (a ∷ []) (todo ++ rest))) more (omega (arith, last)),
    )

-- and then its end
pub end_comes : (g : Setup) (e : EventName) (b : Handler) (bs : List Handler) (l : TraceState) (code : Code) (st : State HostState) (n : ℕ) (sent : Counts) → l.answers.cut ≡ None → run_body g b l ≡ Ends code st
    → n ≡ length st.acts → next_item g (running e b bs n sent l) ≡ Does (Ran e st.cost) (ended g e b bs code st sent l)
end_comes g e b bs l code st n sent none is here =
    next_act g e b bs l (Ends code st) n sent None none is (slice_get_past st.acts n (omega (arith, here)))
