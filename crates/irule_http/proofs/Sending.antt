-- A command that sends nothing, beside what was sent before it.
use Rattle.std.proofs.Common.{◌≡◌, ℕ, List, [], ◌++◌, Result, Ok, Err, sym, ap, ◌∙◌}
use Rattle.std.proofs.lemmas.List.{append-nil}
use Rattle.px_bytes.specs.Answered.{DidStep}
use Rattle.px_bytes.specs.Host.{Effect, Gives, Faults, Asks}
use Rattle.px_bytes.specs.declared.fault.HostAnswer.{HostAnswer}
use Rattle.px_bytes.specs.declared.fault.HostAnswer.TheVariants as answer
use Rattle.px_bytes.specs.declared.fault.Raise.{Raise}
use Rattle.px_bytes.specs.declared.fault.Raise.TheVariants.{Fault, Memory}
use Rattle.irule_net.specs.Answered.{CarriedOut}
use Rattle.irule_http.specs.Commands.{Leaves, bytes_of}
use Rattle.irule_http.specs.Edits.{Step}
use Rattle.irule_http.specs.declared.state.Http.{Http}

none_more : (ms : List ℕ) (es : List Effect) → es ≡ [] → ms ≡ ms ++ bytes_of es
none_more ms es e = sym (ap (λ t. ms ++ bytes_of t) e ∙ append-nil ms)

did : (step : Step) (a : HostAnswer) (h : Http) (ms : List ℕ) → DidStep step a h (λ es. es ≡ [])
    → DidStep step a h (λ es. ms ≡ ms ++ bytes_of es)
did (Gives v t es) (answer.Value w) h ms d = (d.0, d.1, none_more ms es d.2)
did (Gives v t es) (answer.Fault f) h ms d = d
did (Gives v t es) (answer.Ask call) h ms d = d
did (Gives v t es) answer.Memory h ms d = d
did (Faults f t es) (answer.Value w) h ms d = d
did (Faults f t es) (answer.Fault g) h ms d = (d.0, d.1, none_more ms es d.2)
did (Faults f t es) (answer.Ask call) h ms d = d
did (Faults f t es) answer.Memory h ms d = d
did (Asks call t) (answer.Value w) h ms d = d
did (Asks call t) (answer.Fault f) h ms d = d
did (Asks call t) (answer.Ask asked) h ms d = (d.0, d.1, none_more ms [] d.2)
did (Asks call t) answer.Memory h ms d = d

pub sends_nothing : (step : Step) (r : Result HostAnswer Raise) (h : Http) (ms : List ℕ) → Leaves step r h
    → CarriedOut step r h (λ es. ms ≡ ms ++ bytes_of es)
sends_nothing step (Ok a) h ms d = did step a h ms d
sends_nothing step (Err (Fault f)) h ms d = did step (answer.Fault f) h ms d
sends_nothing step (Err Memory) h ms d = tt
