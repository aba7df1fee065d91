-- The lines of a plan: `send AT` and `deliver PACKET`, with one blank or tab between the words.
use Rattle.std.specs.Prelude.{◌≡◌, ℕ, ◌<◌, ◌^◌, Bool, true, false, ◌==◌, List, [], ◌∷◌, codes, IfNone, IfSome}
use Rattle.std.specs.Prelude.{Option, Some, None, option_map, Result, Ok, Err, if◌then◌else◌}
use Rattle.std.specs.Fmt.{decimal}
use Rattle.std.specs.Str.{bytes_eq}
use Rattle.journal_text.specs.Line.{words_of}
use Rattle.journal_text.specs.declared.line_kind.LineKind.{LineKind}
use Rattle.journal_text.specs.declared.line_kind.LineKind.TheVariants.{NotEvent, BadNumber}
use Rattle.journal_text.specs.declared.line_kind.LineKind.TheVariants as kind
use Rattle.table_mirror.specs.declared.plan.PlanLine.{PlanLine}
use Rattle.table_mirror.specs.declared.plan.PlanLine.TheVariants.{Send, Deliver}
use Rattle.table_mirror.specs.declared.plan.PlanVerb.{PlanVerb}
use Rattle.table_mirror.specs.declared.plan.PlanVerb.TheVariants as verb

-- an empty line and one that begins with `#` say nothing
abbrev pub is_comment : List ℕ → Bool
is_comment [] = true
is_comment (first ∷ rest) = first == 35

abbrev pub verb_of : List ℕ → Option PlanVerb
verb_of word =
    if bytes_eq word (codes "send") then Some verb.Send
    else (if bytes_eq word (codes "deliver") then Some verb.Deliver else None)

abbrev pub line_of : PlanVerb → ℕ → PlanLine
line_of verb.Send n = Send n
line_of verb.Deliver n = Deliver n

-- a decimal without needless zeros, of 64 bits
abbrev pub IsNumber : List ℕ → Option ℕ → Type 0
IsNumber word (Some n) = (word ≡ decimal n) × (n < 2 ^ 64)
IsNumber word None = (n : ℕ) → n < 2 ^ 64 → ¬ (word ≡ decimal n)

abbrev pub numbered : PlanVerb → Option ℕ → Result (Option PlanLine) LineKind
numbered verb None = Err BadNumber
numbered verb (Some n) = Ok (Some (line_of verb n))

abbrev pub VerbReads : Option PlanVerb → List ℕ → Result (Option PlanLine) LineKind → Type 0
VerbReads None word read = read ≡ Err NotEvent
VerbReads (Some verb) word read = (n : Option ℕ) × IsNumber word n × (read ≡ numbered verb n)

-- a verb and a number
abbrev pub WordsRead : List (List ℕ) → Result (Option PlanLine) LineKind → Type 0
WordsRead (first ∷ number ∷ []) read = VerbReads (verb_of first) number read
WordsRead words read = read ≡ Err NotEvent

abbrev pub LineReads : Bool → List ℕ → Result (Option PlanLine) LineKind → Type 0
LineReads true line read = read ≡ Ok None
LineReads false line read = WordsRead (words_of line) read

-- what a line says, which is given without its LF: nothing, a step, or what is wrong with it
abbrev pub Reads : List ℕ → Result (Option PlanLine) LineKind → Type 0
Reads line read = LineReads (is_comment line) line read

-- the same, where memory may have been refused
abbrev pub ReadsPlan : List ℕ → Result (Option PlanLine) LineKind → Type 0
ReadsPlan line (Err kind.Memory) = Unit {0}
ReadsPlan line read = Reads line read
