-- A value or a fault as a code.
use Rattle.std.proofs.Common.{◌≡◌, ap, sym, ℕ, List, Result, Ok, Err}
use Rattle.std.specs.Prelude.{IfOk}
use Rattle.px_bytes.specs.Gives.{Gives}
use Rattle.px_bytes.specs.declared.fault.Raise.{Raise}
use Rattle.px_bytes.specs.declared.fault.Raise.TheVariants.{Fault, Memory}
use Rattle.px_bytes.specs.declared.fault.TclFault.{TclFault}
use Rattle.px_bytes.specs.declared.memory.Memory as memory
use Rattle.rule_model.specs.Outcome.{code_of}
use Rattle.rule_model.specs.declared.code.Code.{Code}
use Rattle.rule_nodes.specs.Own.{coded}

given_code : (r : Result (List ℕ) Raise) (wanted : Result (List ℕ) TclFault) → Gives r wanted
    → IfOk (coded r) (λ c. c ≡ code_of wanted)
given_code (Ok v) wanted h = ap code_of (sym h)
given_code (Err (Fault f)) wanted h = ap code_of (sym h)
given_code (Err Memory) wanted h = tt

pub coded_is : (given : Result (List ℕ) Raise) (wanted : Result (List ℕ) TclFault)
    (r : Result Code memory.Memory) → r ≡ coded given → Gives given wanted → IfOk r (λ c. c ≡ code_of wanted)
coded_is given wanted r e h = rw e (given_code given wanted h)
