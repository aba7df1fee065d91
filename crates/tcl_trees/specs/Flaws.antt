-- The flaws of a script, of which the one with the least place is told.
use Rattle.std.specs.Prelude.{ℕ, ◌+◌, Bool, true, false, ◌&&◌, ◌||◌, ◌==◌, Option, Some, None, nat_lt}
use Rattle.std.specs.Prelude.{if◌then◌else◌}
use Rattle.tcl_words.specs.Faults as words
use Rattle.tcl_words.specs.declared.parse_fault.Fault.{Fault}
use Rattle.tcl_words.specs.declared.parse_fault.Fault.TheVariants as fault
use Rattle.tcl_expr.specs.declared.expr_fault.Misread.{Misread}
use Rattle.tcl_expr.specs.declared.expr_fault.Misread.TheVariants.{Syntax, TooDeep}
use Rattle.tcl_trees.specs.declared.flaw.Flaw.{Flaw}
use Rattle.tcl_trees.specs.declared.flaw.Flaw.TheVariants.{Parse, Expr, Arity, BadBody}
use Rattle.tcl_trees.specs.declared.findings.Findings.{Findings}

-- the greatest place that a number of 64 bits tells
abbrev pub last_place : ℕ
last_place = 18446744073709551615

-- the place in the source of what stands at a place of a text that begins at `base`
unfoldable pub place_in : ℕ → ℕ → ℕ
place_in base at = if nat_lt (base + at) last_place then base + at else last_place

abbrev pub moved_fault : ℕ → Fault → Fault
moved_fault base (fault.MissingBrace at) = fault.MissingBrace (place_in base at)
moved_fault base (fault.MissingQuote at) = fault.MissingQuote (place_in base at)
moved_fault base (fault.MissingBracket at) = fault.MissingBracket (place_in base at)
moved_fault base (fault.ExtraAfter at) = fault.ExtraAfter (place_in base at)
moved_fault base (fault.BadEscape at) = fault.BadEscape (place_in base at)
moved_fault base (fault.TooDeep at) = fault.TooDeep (place_in base at)

abbrev pub moved_misread : ℕ → Misread → Misread
moved_misread base (Syntax at) = Syntax (place_in base at)
moved_misread base (TooDeep at) = TooDeep (place_in base at)

abbrev pub place_of_misread : Misread → ℕ
place_of_misread (Syntax at) = at
place_of_misread (TooDeep at) = at

abbrev pub place_of : Flaw → ℕ
place_of (Parse f) = words.place_of f
place_of (Expr f) = place_of_misread f
place_of (Arity at) = at
place_of (BadBody at) = at

abbrev pub order_of : Flaw → ℕ
order_of (Parse f) = 1
order_of (Expr f) = 2
order_of (Arity at) = 3
order_of (BadBody at) = 4

-- of two flaws the one with the least place is told, and at one place the one of the first kind
unfoldable pub comes_first : Flaw → Flaw → Bool
comes_first f e = nat_lt (place_of f) (place_of e)
    || (place_of f == place_of e) && nat_lt (order_of f) (order_of e)

abbrev pub least : Option Flaw → Flaw → Option Flaw
least None f = Some f
least (Some e) f = if comes_first f e then Some f else Some e

unfoldable pub noted : Flaw → Findings → Findings
noted f s = record { flaw = least s.flaw f; names = s.names }

-- nesting passes a hundred
abbrev pub too_deep : Flaw → Bool
too_deep (Parse (fault.TooDeep at)) = true
too_deep (Expr (TooDeep at)) = true
too_deep f = false
