-- A call of the host's commands.
use Rattle.std.proofs.Common.{◌≡◌, ◌⊎◌, inl, inr, refl, sym, ap, subst, ◌∙◌, List, [], ◌∷◌, ◌++◌, ℕ, Bool, true, false, ◌&&◌, true≢false, Option, Some, None, Result, Ok, Err, IfOk, MatchResult, if◌then◌else◌, append-nil}
use Rattle.std.specs.Option.{is_some}
use Rattle.px_bytes.specs.Answered.{DidStep}
use Rattle.px_bytes.specs.FaultText.{no_command}
use Rattle.px_bytes.specs.Host.{Effect, HostStep, Gives, Faults, Asks, Sent}
use Rattle.px_bytes.specs.declared.addr.Side.TheVariants.{Client}
use Rattle.px_bytes.specs.declared.fault.HostAnswer.{HostAnswer}
use Rattle.px_bytes.specs.declared.fault.HostAnswer.TheVariants as answer
use Rattle.px_bytes.specs.declared.fault.TclFault.{TclFault}
use Rattle.px_bytes.specs.declared.memory.Memory.{Memory}
use Rattle.event_order.specs.declared.event.EventName.{EventName}
use Rattle.irule_net.specs.Checks.{command_of}
use Rattle.irule_net.specs.Commands.{is_http, net_step}
use Rattle.irule_net.specs.declared.groups.Groups.{Groups}
use Rattle.irule_net.specs.declared.state.NetState.{NetState}
use Rattle.irule_http.specs.Commands.{bytes_of, http_step}
use Rattle.irule_http.specs.Laws.{Once, SendsAnswer, SendsNothing, left as step_left, made}
use Rattle.irule_http.specs.declared.state.Http.{Http}
use Rattle.conn_trace.specs.Host.{HostState, commands, commands_by, first_word, host_step, http_done, names_one, net_command}
use Rattle.conn.specs.Hosts.{seen_at, seen_net}

-- what was made stands behind what was made before
abbrev Behind : List Effect → List Effect → List Effect → Type 0
Behind before after es = after ≡ before ++ es

module _ (groups : Groups) (e : EventName) (net : NetState) (http : Option Http) (words : List (List ℕ)) (before : List Effect) where
  abbrev h : HostState
  h = seen_at e net http

  abbrev none : HostStep HostState
  none = Faults (no_command (first_word words)) h []

  -- no command that is there has the name
  pub not_there : (fault : Result TclFault Memory) (r : HostAnswer) → names_one (command_of (first_word words)) ≡ false → IfOk fault (λ f. f ≡ no_command (first_word words))
      → MatchResult fault (λ f. r ≡ answer.Fault f) (λ e. r ≡ answer.Memory) → DidStep (net_command groups h words) r h (Behind before before)
  not_there fault r absent is gives = by_test (names_one (command_of (first_word words))) absent
    where
      by_fault : (fault : Result TclFault Memory) → IfOk fault (λ f. f ≡ no_command (first_word words)) → MatchResult fault (λ f. r ≡ answer.Fault f) (λ e. r ≡ answer.Memory) → DidStep none r h (Behind before before)
      by_fault (Ok f) is gives =
          let P : HostAnswer → Type 0 = λ x. DidStep none x h (Behind before before) in
          subst P (sym gives) (is, refl, sym (append-nil before))
      by_fault (Err e) is gives =
          let P : HostAnswer → Type 0 = λ x. DidStep none x h (Behind before before) in
          subst P (sym gives) tt

      by_test : (b : Bool) → b ≡ false → DidStep (if b then host_step h (net_step groups e net words) else none) r h (Behind before before)
      by_test true absent = absurd (cc)
      by_test false absent = by_fault fault is gives

  -- one that is there has it
  kept : (left : NetState) (after : List Effect) (step : HostStep NetState) (r : HostAnswer) → DidStep step r left (Behind before after) → DidStep (host_step h step) r (seen_at e left http) (Behind before after)
  kept left after (Gives v s es) (answer.Value w) d = (d.0, ap (λ n. seen_at e n http) d.1, d.2)
  kept left after (Gives v s es) (answer.Fault f) d = d
  kept left after (Gives v s es) (answer.Ask call) d = d
  kept left after (Gives v s es) answer.Memory d = tt
  kept left after (Faults f s es) (answer.Value w) d = d
  kept left after (Faults f s es) (answer.Fault g) d = (d.0, ap (λ n. seen_at e n http) d.1, d.2)
  kept left after (Faults f s es) (answer.Ask call) d = d
  kept left after (Faults f s es) answer.Memory d = tt
  kept left after (Asks call s) (answer.Value w) d = d
  kept left after (Asks call s) (answer.Fault f) d = d
  kept left after (Asks call s) (answer.Ask asked) d = (d.0, ap (λ n. seen_at e n http) d.1, d.2)
  kept left after (Asks call s) answer.Memory d = tt

  pub is_called : (left : NetState) (after : List Effect) (r : HostAnswer) → names_one (command_of (first_word words)) ≡ true → DidStep (net_step groups e net words) r left (Behind before after)
      → DidStep (net_command groups h words) r (seen_at e left http) (Behind before after)
  is_called left after r there d = by_test (names_one (command_of (first_word words))) there
    where
      by_test : (b : Bool) → b ≡ true → DidStep (if b then host_step h (net_step groups e net words) else none) r (seen_at e left http) (Behind before after)
      by_test true there = kept left after (net_step groups e net words) r d
      by_test false there = absurd (cc)

-- where no HTTP is spoken, and where the command is none of HTTP
pub plain_called : (groups : Groups) (e : EventName) (net : NetState) (words : List (List ℕ)) (r : HostAnswer) (left : HostState) (made : List Effect → Type 0) → DidStep (net_command groups (seen_net e net) words) r left made → DidStep (commands groups (seen_net e net) words) r left made
unfolding commands
plain_called groups e net words r left made d = d

pub net_called : (groups : Groups) (h : HostState) (words : List (List ℕ)) (r : HostAnswer) (left : HostState) (made : List Effect → Type 0) → (h.http ≡ None) ⊎ (is_http (first_word words) ≡ false) → DidStep (net_command groups h words) r left made → DidStep (commands groups h words) r left made
unfolding commands
net_called groups h words r left made (inl plain) d = subst (λ o. DidStep (commands_by o groups h words) r left made) (sym plain) d
net_called groups h words r left made (inr other) d = by_http h.http
  where
    by_http : (o : Option Http) → DidStep (commands_by o groups h words) r left made
    by_http None = d
    by_http (Some http) = subst (λ b. DidStep (if b then http_done h (http_step h.event http words) else net_command groups h words) r left made) (sym other) d

-- a command of HTTP
http_kept : (h : HostState) (left : Http) (made : List Effect → Type 0) (step : HostStep Http) (r : HostAnswer) → DidStep step r left made → DidStep (http_done h step) r (record h { http = Some left }) made
http_kept h left made (Gives v t es) (answer.Value w) d = (d.0, ap (λ x. record h { http = Some x }) d.1, d.2)
http_kept h left made (Gives v t es) (answer.Fault f) d = d
http_kept h left made (Gives v t es) (answer.Ask call) d = d
http_kept h left made (Gives v t es) answer.Memory d = tt
http_kept h left made (Faults f t es) (answer.Value w) d = d
http_kept h left made (Faults f t es) (answer.Fault g) d = (d.0, ap (λ x. record h { http = Some x }) d.1, d.2)
http_kept h left made (Faults f t es) (answer.Ask call) d = d
http_kept h left made (Faults f t es) answer.Memory d = tt
http_kept h left made (Asks call t) (answer.Value w) d = d
http_kept h left made (Asks call t) (answer.Fault f) d = d
http_kept h left made (Asks call t) (answer.Ask asked) d = (d.0, ap (λ x. record h { http = Some x }) d.1, d.2)
http_kept h left made (Asks call t) answer.Memory d = tt

pub http_called : (groups : Groups) (h : HostState) (http left : Http) (words : List (List ℕ)) (r : HostAnswer) (made : List Effect → Type 0) → h.http ≡ Some http → is_http (first_word words) ≡ true → DidStep (http_step h.event http words) r left made → DidStep (commands groups h words) r (record h { http = Some left }) made
unfolding commands
http_called groups h http left words r made is named d =
    let there = http_kept h left made (http_step h.event http words) r d in
    subst (λ o. DidStep (commands_by o groups h words) r (record h { http = Some left }) made) (sym is)
    (subst (λ b. DidStep (if b then http_done h (http_step h.event http words) else net_command groups h words) r (record h { http = Some left }) made) (sym named) there)

-- what it sent is made, where a rule answered by it
module _ (h left : Http) (before after : List Effect) (sent : List ℕ) where
  abbrev Unanswered : Type 0
  Unanswered = (is_some h.answer ≡ true) ⊎ (is_some left.answer ≡ false)

  not_sent : (step : HostStep Http) → left ≡ step_left step → Unanswered → SendsAnswer h step → ⊥
  not_sent step is (inl before) answers = true≢false (sym before ∙ answers.before)
  not_sent step is (inr none) answers = true≢false (sym answers.after ∙ ap (λ x. is_some x.answer) (sym is) ∙ none)

  quiet_by : (step : HostStep Http) → left ≡ step_left step → Unanswered → Once h step → after ≡ before → after ≡ before ++ made step
  quiet_by step is same (inl quiet) none = none ∙ sym (append-nil before) ∙ ap (λ es. before ++ es) (sym quiet.sent)
  quiet_by step is same (inr answers) none = absurd (not_sent step is same answers)

  abbrev Answered : Type 0
  Answered = (is_some h.answer ≡ false) × (is_some left.answer ≡ true)

  not_quiet : (step : HostStep Http) → left ≡ step_left step → Answered → SendsNothing h step → ⊥
  not_quiet step is (none, some) quiet = true≢false (sym some ∙ ap (λ x. is_some x.answer) is ∙ quiet.same ∙ none)

  answered_by : (step : HostStep Http) → left ≡ step_left step → Answered → Once h step → sent ≡ [] ++ bytes_of (made step) → after ≡ before ++ Sent Client sent ∷ [] → after ≡ before ++ made step
  answered_by step is differ (inl quiet) bytes sends = absurd (not_quiet step is differ quiet)
  answered_by step is differ (inr answers) bytes sends =
      let same : sent ≡ answers.bytes = bytes ∙ ap bytes_of answers.sent ∙ append-nil answers.bytes in
      sends ∙ ap (λ x. before ++ Sent Client x ∷ []) same ∙ ap (λ es. before ++ es) (sym answers.sent)

  pub quiet_did : (step : HostStep Http) (r : HostAnswer) → Unanswered → Once h step → after ≡ before → DidStep step r left (λ es. sent ≡ [] ++ bytes_of es) → DidStep step r left (λ es. after ≡ before ++ es)
  quiet_did (Gives v t es) (answer.Value w) same once none d = (d.0, d.1, quiet_by (Gives v t es) d.1 same once none)
  quiet_did (Gives v t es) (answer.Fault f) same once none d = d
  quiet_did (Gives v t es) (answer.Ask call) same once none d = d
  quiet_did (Gives v t es) answer.Memory same once none d = tt
  quiet_did (Faults f t es) (answer.Value w) same once none d = d
  quiet_did (Faults f t es) (answer.Fault g) same once none d = (d.0, d.1, quiet_by (Faults f t es) d.1 same once none)
  quiet_did (Faults f t es) (answer.Ask call) same once none d = d
  quiet_did (Faults f t es) answer.Memory same once none d = tt
  quiet_did (Asks call t) (answer.Value w) same once none d = d
  quiet_did (Asks call t) (answer.Fault f) same once none d = d
  quiet_did (Asks call t) (answer.Ask asked) same once none d = (d.0, d.1, none ∙ sym (append-nil before))
  quiet_did (Asks call t) answer.Memory same once none d = tt

  pub answered_did : (step : HostStep Http) (r : HostAnswer) → Answered → Once h step → after ≡ before ++ Sent Client sent ∷ [] → DidStep step r left (λ es. sent ≡ [] ++ bytes_of es) → DidStep step r left (λ es. after ≡ before ++ es)
  answered_did (Gives v t es) (answer.Value w) differ once sends d = (d.0, d.1, answered_by (Gives v t es) d.1 differ once d.2 sends)
  answered_did (Gives v t es) (answer.Fault f) differ once sends d = d
  answered_did (Gives v t es) (answer.Ask call) differ once sends d = d
  answered_did (Gives v t es) answer.Memory differ once sends d = tt
  answered_did (Faults f t es) (answer.Value w) differ once sends d = d
  answered_did (Faults f t es) (answer.Fault g) differ once sends d = (d.0, d.1, answered_by (Faults f t es) d.1 differ once d.2 sends)
  answered_did (Faults f t es) (answer.Ask call) differ once sends d = d
  answered_did (Faults f t es) answer.Memory differ once sends d = tt
  answered_did (Asks call t) (answer.Value w) differ once sends d = d
  answered_did (Asks call t) (answer.Fault f) differ once sends d = d
  answered_did (Asks call t) (answer.Ask asked) differ (inl quiet) sends d = absurd (not_quiet (Asks call t) d.1 differ quiet)
  answered_did (Asks call t) (answer.Ask asked) differ (inr answers) sends d = absurd (let e = answers.sent in cc)
  answered_did (Asks call t) answer.Memory differ once sends d = tt

-- the same step, of which more is said of the effects
pub did_as : {H : Type 0} (step : HostStep H) (r : HostAnswer) (left : H) (M N : List Effect → Type 0) → ((es : List Effect) → M es → N es) → DidStep step r left M → DidStep step r left N
did_as (Gives v t es) (answer.Value w) left M N k d = (d.0, d.1, k es d.2)
did_as (Gives v t es) (answer.Fault f) left M N k d = d
did_as (Gives v t es) (answer.Ask call) left M N k d = d
did_as (Gives v t es) answer.Memory left M N k d = tt
did_as (Faults f t es) (answer.Value w) left M N k d = d
did_as (Faults f t es) (answer.Fault g) left M N k d = (d.0, d.1, k es d.2)
did_as (Faults f t es) (answer.Ask call) left M N k d = d
did_as (Faults f t es) answer.Memory left M N k d = tt
did_as (Asks call t) (answer.Value w) left M N k d = d
did_as (Asks call t) (answer.Fault f) left M N k d = d
did_as (Asks call t) (answer.Ask asked) left M N k d = (d.0, d.1, k [] d.2)
did_as (Asks call t) answer.Memory left M N k d = tt

-- out of memory says nothing
pub memory_did : {H : Type 0} (step : HostStep H) (left : H) (M : List Effect → Type 0) → DidStep step answer.Memory left M
memory_did (Gives v t es) left M = tt
memory_did (Faults f t es) left M = tt
memory_did (Asks call t) left M = tt

pub none_is : {A : Type 0} (o : Option A) → is_some o ≡ false → o ≡ None
none_is None is = refl
none_is (Some a) is = absurd (true≢false is)

pub not_asked : (o : Option Http) (b : Bool) → (is_some o && b) ≡ false → (o ≡ None) ⊎ (b ≡ false)
not_asked None b is = inl refl
not_asked (Some http) b is = inr is
