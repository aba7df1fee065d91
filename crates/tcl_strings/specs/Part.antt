-- Bytes by their places: Tcl 8.4, string(n), `string index` and `string range`.
use Rattle.std.specs.Prelude.{ℕ, suc, ℤ, pos, negsuc, List, length, take, drop, Result, Ok}
use Rattle.px_bytes.specs.Gives.{with_value}
use Rattle.px_bytes.specs.Position.{position_of}
use Rattle.px_bytes.specs.declared.fault.TclFault.{TclFault}

-- how many bytes stand before a place, and how many up to it, with the byte there
abbrev pub before : ℤ → ℕ
before (pos n) = n
before (negsuc n) = 0

abbrev pub up_to : ℤ → ℕ
up_to (pos n) = suc n
up_to (negsuc n) = 0

-- the bytes from one place to another, both included, as far as they are there: "If first is less
-- than zero then it is treated as if it were zero, and if last is greater than or equal to the
-- length of the string then it is treated as if it were end"
abbrev pub part : ℤ → ℤ → List ℕ → List ℕ
part first last text = drop (before first) (take (up_to last) text)

abbrev pub index_value : List ℕ → List ℕ → Result (List ℕ) TclFault
index_value text at = with_value (position_of (length text) at) (λ p. Ok (part p p text))

abbrev pub range_value : List ℕ → List ℕ → List ℕ → Result (List ℕ) TclFault
range_value text first last =
    with_value (position_of (length text) first)
    (λ a. with_value (position_of (length text) last) (λ b. Ok (part a b text)))
