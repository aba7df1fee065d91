-- Places in a text or list, as words of a command write them: Tcl 8.4, string(n), lindex(n).
use Rattle.std.specs.Prelude.{ℕ, ℤ, pos, ◌-ℤ◌, List, codes, drop, Option, Some, None, Result, Ok}
use Rattle.std.specs.Prelude.{Err, nat_eq, if◌then◌else◌}
use Rattle.std.specs.List.{starts_with}
use Rattle.std.specs.Str.{bytes_eq}
use Rattle.px_bytes.specs.FaultText.{not_whole}
use Rattle.px_bytes.specs.Whole.{whole}
use Rattle.px_bytes.specs.WholeWord.{number_of}
use Rattle.px_bytes.specs.declared.fault.TclFault.{TclFault}

-- the place of the last of so many items, which is -1 where there is none
abbrev pub last_place : ℕ → ℤ
last_place size = pos size -ℤ pos 1

abbrev pub before_last : ℕ → List ℕ → Option ℤ → Result ℤ TclFault
before_last size word (Some n) = Ok (last_place size -ℤ n)
before_last size word None = Err (not_whole word)

-- Counting from 0, the place is a whole number, or `end` "for the last element", or `end-N` for N
-- places before it. It may lie outside.
abbrev pub position_of : ℕ → List ℕ → Result ℤ TclFault
position_of size word =
    if bytes_eq word (codes "end") then Ok (last_place size)
    else (if starts_with nat_eq word (codes "end-") then before_last size word (whole (drop 4 word))
    else number_of word)
