-- Words that have to be whole numbers.
use Rattle.std.specs.Prelude.{ℕ, ℤ, List, Option, Some, None, Result, Ok, Err}
use Rattle.px_bytes.specs.FaultText.{not_whole}
use Rattle.px_bytes.specs.Whole.{whole}
use Rattle.px_bytes.specs.declared.fault.TclFault.{TclFault}

abbrev pub number_by : Option ℤ → List ℕ → Result ℤ TclFault
number_by (Some n) text = Ok n
number_by None text = Err (not_whole text)

-- the whole number that a word is
abbrev pub number_of : List ℕ → Result ℤ TclFault
number_of text = number_by (whole text) text
