-- A host's answer against what its definition gives.
use Rattle.std.specs.Prelude.{◌≡◌, List, []}
use Rattle.px_bytes.specs.Host.{Effect, HostStep, Gives, Faults, Asks}
use Rattle.px_bytes.specs.declared.fault.HostAnswer.{HostAnswer}
use Rattle.px_bytes.specs.declared.fault.HostAnswer.TheVariants as answer

-- A host's answer is what its definition gives, and so is what is seen of it then; the effects were
-- made. Only out of memory is free.
abbrev pub DidStep : {H : Type 0} → HostStep H → HostAnswer → H → (List Effect → Type 0) → Type 0
DidStep (Gives v h effects) (answer.Value w) seen made = (w ≡ v) × (seen ≡ h) × made effects
DidStep (Gives v h effects) (answer.Fault f) seen made = ⊥
DidStep (Gives v h effects) (answer.Ask call) seen made = ⊥
DidStep (Gives v h effects) answer.Memory seen made = Unit {0}
DidStep (Faults f h effects) (answer.Value w) seen made = ⊥
DidStep (Faults f h effects) (answer.Fault e) seen made = (e ≡ f) × (seen ≡ h) × made effects
DidStep (Faults f h effects) (answer.Ask call) seen made = ⊥
DidStep (Faults f h effects) answer.Memory seen made = Unit {0}
DidStep (Asks call h) (answer.Value w) seen made = ⊥
DidStep (Asks call h) (answer.Fault f) seen made = ⊥
DidStep (Asks call h) (answer.Ask asked) seen made = (asked ≡ call) × (seen ≡ h) × made []
DidStep (Asks call h) answer.Memory seen made = Unit {0}
