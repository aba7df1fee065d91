-- What holds of the host's state and of what was sent to a side holds behind a body, where each command keeps it.
use Rattle.std.proofs.Common.{◌≡◌, refl, sym, ap, subst, ◌∙◌, ℕ, zero, suc, ◌+◌, ◌≤◌, List, [], ◌∷◌, ◌++◌, length, map, take, Some, None, arith}
use Rattle.std.specs.Prelude.{slice_get}
use Rattle.std.specs.List.{flat_map}
use Rattle.px_bytes.specs.Host.{Effect, HostStep, Gives, Faults, Asks}
use Rattle.px_bytes.specs.declared.addr.Side.{Side}
use Rattle.rule_model.specs.Outcome.{Act, Did, Called, Outcome, Ends, Waits, State, state}
use Rattle.rule_model.specs.Laws.{SeenAs, meaning, outcome_seen, state_after, state_seen, step_seen, StepShows}
use Rattle.rule_model.specs.Evaluator.{evaluate, inner_limit}
use Rattle.rule_model.specs.Setting.{Setting}
use Rattle.rule_model.proofs.Facts.{host_shows}
use Rattle.rule_model.proofs.Pairs.{wider_agrees}
use Rattle.irule_net.specs.Laws.{bytes_to, sent_to}
use Rattle.conn_trace.specs.Bodies.{run_body}
use Rattle.conn_trace.specs.Host.{HostState, body_setting, host_table}
use Rattle.conn_trace.specs.Setup.{Handler, Setup}
use Rattle.conn_trace.specs.State.{TraceState}
use Rattle.conn_trace.proofs.HostKeeps.{left, made}

-- ---- how much acts send

-- how many bytes an act sends to a side
abbrev pub act_bytes : Side → Act → ℕ
act_bytes side (Did effect) = bytes_to side effect
act_bytes side (Called path call) = 0

abbrev pub acts_bytes : Side → List Act → ℕ
acts_bytes side [] = 0
acts_bytes side (a ∷ acts) = act_bytes side a + acts_bytes side acts

-- as many marks as bytes
abbrev marks : ℕ → List (Unit {0})
marks zero = []
marks (suc n) = tt ∷ marks n

marks_add : (a b : ℕ) → marks (a + b) ≡ marks a ++ marks b
marks_add zero b = (let e : zero + b ≡ b = omega arith in ap marks e)
marks_add (suc a) b = (let e : suc a + b ≡ suc (a + b) = omega arith in ap marks e ∙ ap (λ r. tt ∷ r) (marks_add a b))

marked : (n : ℕ) → length (marks n) ≡ n
marked zero = refl
marked (suc n) = (let e = marked n in omega (arith, e))

acts_marked : (side : Side) (acts : List Act) → flat_map (λ a. marks (act_bytes side a)) acts ≡ marks (acts_bytes side acts)
acts_marked side [] = refl
acts_marked side (a ∷ acts) = ap (λ r. marks (act_bytes side a) ++ r) (acts_marked side acts) ∙ sym (marks_add (act_bytes side a) (acts_bytes side acts))

did_bytes : (side : Side) (effects : List Effect) → acts_bytes side (map Did effects) ≡ sent_to side effects
did_bytes side [] = refl
did_bytes side (e ∷ effects) = ap (λ n. bytes_to side e + n) (did_bytes side effects)

-- ---- a host that also holds how much was sent to a side

-- the host's state, how much was sent, and what holds of both
record Ledger (Holds : HostState → ℕ → Type 0) : Type 0 where
  host : HostState
  sent : ℕ
  holds : Holds host sent

module _ (side : Side) (Holds : HostState → ℕ → Type 0) (g : Setup) (b : Handler)
    (keeps : (h : HostState) (words : List (List ℕ)) (n : ℕ) → Holds h n → Holds (left (host_table g h words)) (n + sent_to side (made (host_table g h words)))) where
  abbrev written : (k : Ledger Holds) (x : HostStep HostState) → Holds (left x) (k.sent + sent_to side (made x)) → HostStep (Ledger Holds)
  written k (Gives v h effects) is = Gives v (record { host = h; sent = k.sent + sent_to side effects; holds = is }) effects
  written k (Faults f h effects) is = Faults f (record { host = h; sent = k.sent + sent_to side effects; holds = is }) effects
  written k (Asks call h) is = Asks call (record { host = h; sent = k.sent + 0; holds = is })

  abbrev written_table : Ledger Holds → List (List ℕ) → HostStep (Ledger Holds)
  written_table k words = written k (host_table g k.host words) (keeps k.host words k.sent k.holds)

  abbrev setting : Setting (Ledger Holds)
  setting = record { statics = Some g.statics; table = written_table; procedures = b.procedures }

  abbrev host_of : Ledger Holds → HostState
  host_of k = k.host

  seen_step : (k : Ledger Holds) (x : HostStep HostState) (is : Holds (left x) (k.sent + sent_to side (made x))) → step_seen host_of (written k x is) ≡ x
  seen_step k (Gives v h effects) is = refl
  seen_step k (Faults f h effects) is = refl
  seen_step k (Asks call h) is = refl

  seen_as : SeenAs host_of setting (body_setting g b.procedures)
  seen_as = record { statics = refl; procedures = refl; steps = λ k words. seen_step k (host_table g k.host words) (keeps k.host words k.sent k.holds) }

  abbrev sent_marks : Ledger Holds → List (Unit {0})
  sent_marks k = marks k.sent

  abbrev each : Act → List (Unit {0})
  each a = marks (act_bytes side a)

  marks_step : (k : Ledger Holds) (x : HostStep HostState) (is : Holds (left x) (k.sent + sent_to side (made x))) → StepShows each sent_marks k (written k x is)
  marks_step k (Gives v h effects) is = marks_add k.sent (sent_to side effects) ∙ ap (λ r. marks k.sent ++ r) (ap marks (sym (did_bytes side effects)) ∙ sym (acts_marked side (map Did effects)))
  marks_step k (Faults f h effects) is = marks_add k.sent (sent_to side effects) ∙ ap (λ r. marks k.sent ++ r) (ap marks (sym (did_bytes side effects)) ∙ sym (acts_marked side (map Did effects)))
  marks_step k (Asks call h) is = λ path. marks_add k.sent 0

  seen_after : (o : Outcome (Ledger Holds)) → state_after (outcome_seen host_of o) ≡ state_seen host_of (state_after o)
  seen_after (Ends code st) = refl
  seen_after (Waits path call st) = refl

  pub body_holds : (l : TraceState) → Holds l.host 0 → Holds (state_after (run_body g b l)).host (acts_bytes side (state_after (run_body g b l)).acts)
  unfolding evaluate
  body_holds l is =
      let began : State (Ledger Holds) = state l.vars (record { host = l.host; sent = 0; holds = is }) l.answers.replies g.budget 0 [] in
      let o = meaning setting inner_limit inner_limit b.body [] began in
      let k = (state_after o).host in
      let agrees = wider_agrees host_of setting (body_setting g b.procedures) seen_as inner_limit inner_limit b.body [] began in
      let same : state_after (run_body g b l) ≡ state_seen host_of (state_after o) = ap state_after (sym agrees) ∙ seen_after o in
      let s = host_shows setting each sent_marks (λ h words. marks_step h (host_table g h.host words) (keeps h.host words h.sent h.holds)) inner_limit inner_limit b.body [] began in
      let new : (state_after o).acts ≡ s.new = s.acts in
      let sent : k.sent ≡ acts_bytes side s.new = sym (marked k.sent) ∙ ap length (s.grown ∙ acts_marked side s.new) ∙ marked (acts_bytes side s.new) in
      let all : k.sent ≡ acts_bytes side (state_after (run_body g b l)).acts = sent ∙ ap (acts_bytes side) (sym new) ∙ ap (λ (x : State HostState). acts_bytes side x.acts) (sym same) in
      subst (λ n. Holds (state_after (run_body g b l)).host n) all (subst (λ h. Holds h k.sent) (ap (λ (x : State HostState). x.host) (sym same)) k.holds)

-- ---- the first of them

-- a part sends no more than all
pub part_bytes : (side : Side) (n : ℕ) (acts : List Act) → acts_bytes side (take n acts) ≤ acts_bytes side acts
part_bytes side zero acts = omega arith
part_bytes side (suc n) [] = omega arith
part_bytes side (suc n) (a ∷ acts) = (let m = part_bytes side n acts in omega (arith, m))

-- with the next one
pub next_bytes : (side : Side) (n : ℕ) (acts : List Act) (a : Act) → slice_get acts n ≡ Some a → acts_bytes side (take (n + 1) acts) ≡ acts_bytes side (take n acts) + act_bytes side a
next_bytes side n [] a is = absurd (cc)
next_bytes side zero (b ∷ acts) a is = (let e : b ≡ a = cc in let one : acts_bytes side (take (zero + 1) (b ∷ acts)) ≡ act_bytes side b = omega arith in let f = ap (act_bytes side) e in omega (arith, one, f))
next_bytes side (suc n) (b ∷ acts) a is =
    let more = next_bytes side n acts a is in
    let e : suc n + 1 ≡ suc (n + 1) = omega arith in
    let all = ap (λ k. acts_bytes side (take k (b ∷ acts))) e in
    omega (arith, more, all)

-- behind the last one
pub all_bytes : (side : Side) (n : ℕ) (acts : List Act) → slice_get acts n ≡ None → acts_bytes side (take n acts) ≡ acts_bytes side acts
all_bytes side zero [] is = refl
all_bytes side (suc n) [] is = refl
all_bytes side zero (b ∷ acts) is = absurd (cc)
all_bytes side (suc n) (b ∷ acts) is = ap (λ k. act_bytes side b + k) (all_bytes side n acts is)
