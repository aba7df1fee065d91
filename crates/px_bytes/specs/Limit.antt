-- Texts that are too long.
use Rattle.std.specs.Prelude.{ℕ, Bool, List, length, Result, Ok, Err, nat_le, if◌then◌else◌}
use Rattle.px_bytes.specs.FaultText.{too_long}
use Rattle.px_bytes.specs.declared.fault.TclFault.{TclFault}

-- the most bytes of a text that a command makes
abbrev pub text_limit : ℕ
text_limit = 1048576

abbrev pub is_short : List ℕ → Bool
is_short text = nat_le (length text) text_limit

-- a text that a command makes, where it isn't too long
abbrev pub limited : List ℕ → Result (List ℕ) TclFault
limited text = if is_short text then Ok text else Err too_long
