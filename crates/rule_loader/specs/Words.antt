-- What is wrong with a rule, in English.
use Rattle.std.specs.Prelude.{ℕ, List, codes}
use Rattle.rule_loader.specs.declared.load_fault.LoadKind.{LoadKind}
use Rattle.rule_loader.specs.declared.load_fault.LoadKind.TheVariants as kind
use Rattle.tcl_expr.specs.declared.expr_fault.Misread.{Misread}
use Rattle.tcl_expr.specs.declared.expr_fault.Misread.TheVariants as misread
use Rattle.tcl_trees.specs.declared.flaw.Flaw.{Flaw}
use Rattle.tcl_trees.specs.declared.flaw.Flaw.TheVariants as flaw
use Rattle.tcl_words.specs.declared.parse_fault.Fault.{Fault}
use Rattle.tcl_words.specs.declared.parse_fault.Fault.TheVariants as fault

abbrev pub fault_words : Fault → List ℕ
fault_words (fault.MissingBrace at) = codes "this brace isn't closed"
fault_words (fault.MissingQuote at) = codes "this quote isn't closed"
fault_words (fault.MissingBracket at) = codes "this bracket isn't closed"
fault_words (fault.ExtraAfter at) =
    codes "a blank or an end of a command must follow a closing brace or quote"
fault_words (fault.BadEscape at) = codes "this escape is of a number above 255, which is no byte"
fault_words (fault.TooDeep at) =
    codes "more than 100 braces, brackets or bodies stand inside one another"

abbrev pub misread_words : Misread → List ℕ
misread_words (misread.Syntax at) = codes "this is no expression"
misread_words (misread.TooDeep at) =
    codes "more than 100 parts of an expression stand inside one another"

abbrev pub flaw_words : Flaw → List ℕ
flaw_words (flaw.Parse f) = fault_words f
flaw_words (flaw.Expr m) = misread_words m
flaw_words (flaw.Arity at) = codes "this command has too few or too many words"
flaw_words (flaw.BadBody at) = codes "a body, a condition or a list of cases in braces is due here"

abbrev pub load_words : LoadKind → List ℕ
load_words (kind.Parse f) = flaw_words f
load_words kind.NotWhen = codes "a rule has only `when EVENT {..}` and `proc NAME {..} {..}` here"
load_words kind.NoEvent = codes "there is no such event"
load_words kind.NoCommand = codes "there is no command of this name"
load_words kind.BadPriority = codes "a priority is a whole number from 1 to 1000"
load_words kind.TwiceProc = codes "there is a procedure of this name already"
load_words kind.NotHere = codes "this event doesn't have the command, or the virtual server the event"
