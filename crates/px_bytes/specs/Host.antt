-- What a host command gives (iRules: the commands that Tcl itself does not have).
use Rattle.std.specs.Prelude.{ℕ, List}
use Rattle.px_bytes.specs.declared.addr.Side.{Side}
use Rattle.px_bytes.specs.declared.fault.TclFault.{TclFault}

-- what a host command does outside the script, in the order in which it is to be seen
pub data Effect : Type 0 where
  Logged : List ℕ → Effect
  Sent : Side → List ℕ → Effect

-- Each with the host's state after it: a value or a fault, with what was done; or a shared call
-- that is to be asked.
pub data HostStep (H : Type 0) : Type 0 where
  Gives : List ℕ → H → List Effect → HostStep H
  Faults : TclFault → H → List Effect → HostStep H
  Asks : List (List ℕ) → H → HostStep H
