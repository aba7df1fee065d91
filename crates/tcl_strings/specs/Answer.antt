-- Numbers and tests as values.
use Rattle.std.specs.Prelude.{ℕ, Bool, List, codes, Result, Ok, if◌then◌else◌}
use Rattle.std.specs.Fmt.{decimal}
use Rattle.px_bytes.specs.declared.fault.TclFault.{TclFault}

-- a number in decimal
abbrev pub number_value : ℕ → Result (List ℕ) TclFault
number_value n = Ok (decimal n)

-- 1 for a test that holds, and else 0
abbrev pub test_value : Bool → Result (List ℕ) TclFault
test_value holds = Ok (if holds then codes "1" else codes "0")
