-- What is wrong with a test file, of which the one with the least place is told.
use Rattle.std.specs.Prelude.{◌≡◌, ℕ, List, [], ◌∷◌, codes, Option, Some, None, Result, Ok, Err, nat_lt}
use Rattle.std.specs.Prelude.{if◌then◌else◌}
use Rattle.tcl_words.specs.Faults as words
use Rattle.tcl_words.specs.declared.parse_fault.Fault.{Fault}
use Rattle.tcl_words.specs.declared.parse_fault.Fault.TheVariants as shut
use Rattle.test_text.specs.declared.fault.Stopped.{Stopped}
use Rattle.test_text.specs.declared.fault.Stopped.TheVariants as stopped
use Rattle.test_text.specs.declared.fault.TestFault.{TestFault}
use Rattle.test_text.specs.declared.fault.TestFaultKind.{TestFaultKind}
use Rattle.test_text.specs.declared.fault.TestFaultKind.TheVariants as kind

abbrev pub fault_at : TestFaultKind → ℕ → TestFault
fault_at kind place = record { kind = kind; place = place }

-- what is done with a value; a fault stays
abbrev pub with_value : {A B : Type 0} → Result A TestFault → (A → Result B TestFault) → Result B TestFault
with_value (Ok value) f = f value
with_value (Err fault) f = Err fault

-- what is read of items, one behind the other; the first fault stays
abbrev pub read_all : {S X : Type 0} → (S → X → Result S TestFault) → S → List X → Result S TestFault
read_all f s [] = Ok s
read_all f s (x ∷ xs) = with_value (f s x) (λ more. read_all f more xs)

-- the value or the fault is this one; want of memory says nothing
abbrev pub Gives : {A : Type 0} → Result A Stopped → Result A TestFault → Type 0
Gives (Ok value) wanted = wanted ≡ Ok value
Gives (Err (stopped.Fault fault)) wanted = wanted ≡ Err fault
Gives (Err stopped.Memory) wanted = Unit {0}

-- of a fault of the text as a script, and one of what was read of it, the one that comes first
abbrev pub first_of : Fault → TestFault → TestFault
first_of script fault =
    if nat_lt fault.place (words.place_of script) then fault
    else fault_at (kind.Script script) (words.place_of script)

-- what was read of a text that has this fault as a script
abbrev pub judged : {A : Type 0} → Option Fault → Result A TestFault → Result A TestFault
judged None read = read
judged (Some script) (Ok value) = Err (fault_at (kind.Script script) (words.place_of script))
judged (Some script) (Err fault) = Err (first_of script fault)

-- why a text wasn't read that may have a fault as a script too
abbrev pub spoiled : Option Fault → Stopped → Stopped
spoiled (Some script) (stopped.Fault fault) = stopped.Fault (first_of script fault)
spoiled fault why = why

-- what is wrong, in English
abbrev pub script_words : Fault → List ℕ
script_words (shut.MissingBrace at) = codes "a brace that stays open"
script_words (shut.MissingQuote at) = codes "a quote that stays open"
script_words (shut.MissingBracket at) = codes "a bracket that stays open"
script_words (shut.ExtraAfter at) = codes "a blank or a line's end must follow a closing brace or quote"
script_words (shut.BadEscape at) = codes "an escape of a number above 255, which is no byte"
script_words (shut.TooDeep at) = codes "more than 100 braces or brackets stand inside one another"

abbrev pub fault_words : TestFaultKind → List ℕ
fault_words (kind.Script fault) = script_words fault
fault_words kind.Substituted = codes "a word with a variable or a bracket"
fault_words kind.Unexpected = codes "this word can't stand here"
fault_words kind.Missing = codes "a word is missing behind this line"
fault_words kind.NoAddress = codes "an address A.B.C.D:PORT is due here"
fault_words kind.NoNumber = codes "a whole number is due here"
fault_words kind.NoBraces = codes "braces are due here"
fault_words kind.NoConfig = codes "a test wants a configuration before it"
fault_words kind.NoClient = codes "no client of this name came before"
fault_words kind.TwiceClient = codes "a client of this name came before"
fault_words kind.NoCause = codes "no connection ends for this cause"
