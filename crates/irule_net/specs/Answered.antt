-- An answer that may be a fault or out of memory before it is the host's.
use Rattle.std.specs.Prelude.{List, Result, Ok, Err}
use Rattle.px_bytes.specs.Answered.{DidStep}
use Rattle.px_bytes.specs.Host.{Effect, HostStep}
use Rattle.px_bytes.specs.declared.fault.HostAnswer.{HostAnswer}
use Rattle.px_bytes.specs.declared.fault.HostAnswer.TheVariants as answer
use Rattle.px_bytes.specs.declared.fault.Raise.{Raise}
use Rattle.px_bytes.specs.declared.fault.Raise.TheVariants.{Fault, Memory}

abbrev pub CarriedOut : {H : Type 0} → HostStep H → Result HostAnswer Raise → H
    → (List Effect → Type 0) → Type 0
CarriedOut step (Ok answer) seen made = DidStep step answer seen made
CarriedOut step (Err (Fault f)) seen made = DidStep step (answer.Fault f) seen made
CarriedOut step (Err Memory) seen made = Unit {0}
