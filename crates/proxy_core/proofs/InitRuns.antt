-- What RULE_INIT leaves, body by body.
use Rattle.std.proofs.Common.{◌≡◌, refl, sym, ap, ◌∙◌, ℕ, List, [], ◌∷◌, ◌++◌, map, append-nil}
use Rattle.px_bytes.specs.Answered.{DidStep}
use Rattle.px_bytes.specs.Host.{Effect, HostStep, Gives, Faults, Asks}
use Rattle.px_bytes.specs.declared.fault.HostAnswer.{HostAnswer}
use Rattle.px_bytes.specs.declared.fault.HostAnswer.TheVariants as answer
use Rattle.tcl_vars.specs.Scopes.{Scopes, out_of_proc}
use Rattle.event_order.specs.declared.event.EventName.TheVariants.{RuleInit}
use Rattle.irule_net.specs.declared.state.NetState.{NetState}
use Rattle.rule_model.specs.Outcome.{Outcome, Ends, Waits, uncaught_of}
use Rattle.rule_model.specs.declared.code.Code.{Code}
use Rattle.plain_eval.specs.Plain.{Answers, IsOutcome}
use Rattle.plain_eval.specs.declared.plain.Plain.{Plain}
use Rattle.plain_eval.specs.declared.plain.Plain.TheVariants as plain
use Rattle.conn_trace.specs.Host.{HostState}
use Rattle.conn.specs.Hosts.{seen_net}
use Rattle.conn.specs.declared.setup.Place.{Place}
use Rattle.record_model.specs.Bodies.{Body, bodies_of}
use Rattle.proxy_core.specs.Bodies.{places_of}
use Rattle.record_model.specs.Init.{all_ran, ended, fault_lines, init_bodies, kept, kept_with, lines_in, ran}
use Rattle.proxy_core.specs.InitPlaces.{places_ran, plain_lines, ran_by}
use Rattle.run_config.specs.declared.config.Config.{Config}
use Rattle.record_model.specs.declared.left.Left.{Left}
use Rattle.record_model.specs.Init.{InitHost}
use Rattle.proxy_core.proofs.BodyPlaces.{AllFound, places_found}

-- the host keeps what was made
kept_is : (a b : InitHost) (s : HostState) (es : List Effect) → seen_net RuleInit b.net ≡ s → b.made ≡ a.made ++ es → b ≡ kept_with a s es
kept_is a b s es seen made =
    let host : NetState → List Effect → InitHost = λ n m. record { net = n; made = m } in
    ap (λ n. host n b.made) (ap (λ h. h.net) seen) ∙ ap (host s.net) made

pub init_did : (step : HostStep HostState) (r : HostAnswer) (a b : InitHost) → DidStep step r (seen_net RuleInit b.net) (λ es. b.made ≡ a.made ++ es) → Answers (kept a step) r b
init_did (Gives v s es) (answer.Value w) a b d = (d.0, kept_is a b s es d.1 d.2)
init_did (Gives v s es) (answer.Fault f) a b d = d
init_did (Gives v s es) (answer.Ask call) a b d = d
init_did (Gives v s es) answer.Memory a b d = tt
init_did (Faults f s es) (answer.Value w) a b d = d
init_did (Faults f s es) (answer.Fault g) a b d = (d.0, kept_is a b s es d.1 d.2)
init_did (Faults f s es) (answer.Ask call) a b d = d
init_did (Faults f s es) answer.Memory a b d = tt
init_did (Asks call s) (answer.Value w) a b d = d
init_did (Asks call s) (answer.Fault f) a b d = d
init_did (Asks call s) (answer.Ask asked) a b d = (d.0, kept_is a b s [] d.1 d.2)
init_did (Asks call s) answer.Memory a b d = tt

-- what a body left
abbrev pub left : Scopes → List (List ℕ) → Left
left vars lines = record { vars = vars; lines = lines }

pub ended_is : (rule : List ℕ) (s : Left) (o : Outcome InitHost) (p : Plain) (vars : Scopes) (host : InitHost) → IsOutcome o p vars host []
    → left (out_of_proc vars) (s.lines ++ lines_in host.made ++ plain_lines rule p) ≡ ended rule s o
ended_is rule s (Ends code st) (plain.Done c used) vars host k =
    let end : Scopes → InitHost → Code → Left = λ v h e. left (out_of_proc v) (s.lines ++ lines_in h.made ++ fault_lines rule (uncaught_of e)) in
    ap (λ e. end vars host e) (sym k.0) ∙ ap (λ v. end v host code) (sym k.1) ∙ ap (λ h. end st.vars h code) (sym k.2)
ended_is rule s (Ends code st) (plain.Waits call) vars host k = absurd k
ended_is rule s (Waits path call st) (plain.Done c used) vars host k = absurd k
ended_is rule s (Waits path call st) (plain.Waits asked) vars host k =
    let end : Scopes → InitHost → Left = λ v h. left (out_of_proc v) (s.lines ++ lines_in h.made) in
    ap (left (out_of_proc vars)) (append-nil (s.lines ++ lines_in host.made)) ∙ ap (λ v. end v host) (sym k.1) ∙ ap (λ h. end st.vars h) (sym k.2)

-- bodies at their places
ran_found : (C : Config) (ps : List Place) (bs : List Body) → AllFound C.rules RuleInit ps bs → (s : Left) → places_ran C ps s ≡ all_ran C (map (λ b. b.handler) bs) s
ran_found C [] [] f s = refl
ran_found C [] (b ∷ bs) f s = absurd f
ran_found C (p ∷ ps) [] f s = absurd f
ran_found C (p ∷ ps) (b ∷ bs) f s = ap (λ o. places_ran C ps (ran_by C s o)) f.0.there ∙ ran_found C ps bs f.1 (ran C b.handler s)

pub rule_ran : (C : Config) (n : ℕ) (s : Left) → places_ran C (places_of C.rules (n ∷ []) RuleInit) s ≡ all_ran C (init_bodies C n) s
rule_ran C n s = ran_found C (places_of C.rules (n ∷ []) RuleInit) (bodies_of C.rules (n ∷ []) RuleInit) (places_found C.rules RuleInit (n ∷ [])) s
