-- A text repeated: Tcl 8.4, string(n), `string repeat`.
use Rattle.std.specs.Prelude.{ℕ, ◌*◌, ℤ, pos, negsuc, List, length, Result, Ok, Err, nat_le}
use Rattle.std.specs.Prelude.{if◌then◌else◌}
use Rattle.std.specs.List.{repeat}
use Rattle.px_bytes.specs.FaultText.{too_long}
use Rattle.px_bytes.specs.Gives.{with_value}
use Rattle.px_bytes.specs.WholeWord.{number_of}
use Rattle.px_bytes.specs.declared.fault.TclFault.{TclFault}

-- a count; one below 1 gives nothing
abbrev pub times : ℤ → ℕ
times (pos n) = n
times (negsuc n) = 0

-- "string repeated count number of times", where that has at most 1,048,576 bytes
abbrev pub repeated : ℕ → List ℕ → Result (List ℕ) TclFault
repeated n text =
    if nat_le (length text * n) 1048576 then Ok (repeat n text) else Err too_long

abbrev pub repeat_value : List ℕ → List ℕ → Result (List ℕ) TclFault
repeat_value text count = with_value (number_of count) (λ n. repeated (times n) text)
