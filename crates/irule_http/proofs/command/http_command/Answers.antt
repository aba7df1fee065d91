use Rattle.std.proofs.Common.{List}
use Rattle.px_bytes.specs.Host.{Effect, HostStep, Gives, Faults, Asks}
use Rattle.px_bytes.specs.declared.fault.HostAnswer.TheVariants as answer
use Rattle.px_bytes.specs.Answered.{DidStep}
use Rattle.irule_http.proofs.command.http_command.Goals as goal

-- want of memory says nothing
memory_free : {H : Type 0} (step : HostStep H) (s : H) (made : List Effect → Type 0)
    → DidStep step answer.Memory s made
memory_free (Gives v h effects) s made = tt
memory_free (Faults f h effects) s made = tt
memory_free (Asks call h) s made = tt

pub returns-in-Ok : goal.returns-in-Ok
returns-in-Ok c = rw c.as_slice.ensures at c.in-Ok.ensures

pub returns-in-Err-Fault : goal.returns-in-Err-Fault
returns-in-Err-Fault c = rw (c.in-Err-Fault.field-0-is, c.as_slice.ensures) at c.in-Err-Fault.ensures

pub returns-in-Err-Memory : goal.returns-in-Err-Memory
returns-in-Err-Memory c = memory_free _ _ _
