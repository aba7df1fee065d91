-- The number of a code after a change of variables.
use Rattle.std.proofs.Common.{◌≡◌, ℕ, List, Ok, Err, Result}
use Rattle.std.specs.Prelude.{IsOk}
use Rattle.px_bytes.specs.Gives.{Gives}
use Rattle.px_bytes.specs.declared.fault.Raise.{Raise}
use Rattle.px_bytes.specs.declared.fault.Raise.TheVariants as raise
use Rattle.px_bytes.specs.declared.fault.TclFault.{TclFault}
use Rattle.tcl_vars.specs.Scopes.{Scopes}
use Rattle.tcl_var_commands.specs.Changed.{Changed, gives, then_by, then_changed, Changes}

number_by : (value : Result (List ℕ) TclFault) (vars new : Scopes) (number : List ℕ) (r : Result (List ℕ) Raise) → IsOk value → new ≡ vars → Gives r (Ok number)
    → Changes (then_by value vars (λ t after. gives number after)) r new
number_by (Ok t) vars new number (Ok w) ok same h = (h, same)
number_by (Ok t) vars new number (Err (raise.Fault f)) ok same h = cc
number_by (Ok t) vars new number (Err raise.Memory) ok same h = tt
number_by (Err f) vars new number r ok same h = cc

pub number_after : (c : Changed) (new : Scopes) (number : List ℕ) (r : Result (List ℕ) Raise) → IsOk c.value × (new ≡ c.vars) → Gives r (Ok number)
    → Changes (then_changed c (λ t after. gives number after)) r new
number_after c new number r done h = number_by c.value c.vars new number r done.0 done.1 h
