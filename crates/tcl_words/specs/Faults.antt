-- A text that spells no script has the fault with the least place.
use Rattle.std.specs.Prelude.{ℕ, ◌+◌, List, Bool, ◌&&◌, ◌||◌, ◌==◌, Option, Some, None, nat_lt}
use Rattle.std.specs.Prelude.{if◌then◌else◌}
use Rattle.tcl_words.specs.Places.{stands}
use Rattle.tcl_words.specs.declared.parse_fault.Fault.{Fault}
use Rattle.tcl_words.specs.declared.parse_fault.Fault.TheVariants.{MissingBrace, MissingQuote}
use Rattle.tcl_words.specs.declared.parse_fault.Fault.TheVariants.{MissingBracket, ExtraAfter}
use Rattle.tcl_words.specs.declared.parse_fault.Fault.TheVariants.{BadEscape, TooDeep}
use Rattle.tcl_words.specs.declared.progress.Progress.{Progress}

abbrev pub place_of : Fault → ℕ
place_of (MissingBrace at) = at
place_of (MissingQuote at) = at
place_of (MissingBracket at) = at
place_of (ExtraAfter at) = at
place_of (BadEscape at) = at
place_of (TooDeep at) = at

abbrev pub number_of : Fault → ℕ
number_of (MissingBrace at) = 1
number_of (MissingQuote at) = 2
number_of (MissingBracket at) = 3
number_of (ExtraAfter at) = 4
number_of (BadEscape at) = 5
number_of (TooDeep at) = 6

-- of two faults the one with the least place is told, and at one place the one of the first kind
unfoldable pub comes_first : Fault → Fault → Bool
comes_first f e = nat_lt (place_of f) (place_of e)
    || (place_of f == place_of e) && nat_lt (number_of f) (number_of e)

abbrev pub least : Option Fault → Fault → Option Fault
least None f = Some f
least (Some e) f = if comes_first f e then Some f else Some e

unfoldable pub noted : Fault → Progress → Progress
noted f s = record { at = s.at; fault = least s.fault f }

-- further on
abbrev pub to : ℕ → Progress → Progress
to at s = record { at = at; fault = s.fault }

-- the construct's last byte is taken, or its fault noted where another stands
unfoldable pub closed : ℕ → Fault → List ℕ → Progress → Progress
closed b f text s = if stands text s.at b then to (s.at + 1) s else noted f s
