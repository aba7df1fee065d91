-- Which expression a text is: each row of operators over the tighter rows, Tcl 8.4, expr(n),
-- "precedence". A reader stands at the place of a token, and leaves the place of the next one. It
-- faults at the first place with which no expression goes on.
use Rattle.std.specs.Prelude.{ℕ, zero, suc, ◌+◌, List, [], ◌∷◌, length, slice_range, codes, Option}
use Rattle.std.specs.Prelude.{Some, None, Result, Ok, Err, ◌==◌, if◌then◌else◌}
use Rattle.tcl_words.specs.Faults.{place_of}
use Rattle.tcl_words.specs.Places.{stands, opens_name, starts_variable}
use Rattle.tcl_words.specs.Reading.{level, read_braced, read_name, read_variable}
use Rattle.tcl_words.specs.Skips.{turns}
use Rattle.tcl_words.specs.Tree.{Part, bracket, Parts, no_parts, and_part, Word, word, Commands, from_to}
use Rattle.tcl_words.specs.Values as words
use Rattle.tcl_words.specs.declared.parse_fault.Fault as words_fault
use Rattle.tcl_words.specs.declared.parse_fault.Fault.TheVariants as words_faults
use Rattle.tcl_words.specs.declared.progress.Progress.{Progress}
use Rattle.tcl_expr.specs.Expression.{Expression, literal, joined, prefixed, row, choice}
use Rattle.tcl_expr.specs.Expression.{More, no_more, more, Cases, no_cases, case}
use Rattle.tcl_expr.specs.Tokens.{white_end, reads_word, digit_stands, number_end, prefix_at, joint_at}
use Rattle.tcl_expr.specs.declared.expr.Joint.{Joint}
use Rattle.tcl_expr.specs.declared.expr_fault.Misread.{Misread}
use Rattle.tcl_expr.specs.declared.expr_fault.Misread.TheVariants.{Syntax, TooDeep}
use Rattle.tcl_expr.specs.declared.operator.Op1.{Op1}

-- a value and the place of the next token, or the fault
abbrev pub Read : Type 0 → Type 0
Read A = Result (A × ℕ) Misread

abbrev pub and_then : {A B : Type 0} → Read A → (A → ℕ → Read B) → Read B
and_then (Ok r) f = f r.0 r.1
and_then (Err e) f = Err e

-- what is read ends with the byte
unfoldable pub closed_by : ℕ → List ℕ → Expression → ℕ → Read Expression
closed_by byte text e at =
    if stands text at byte then Ok (e, white_end text (at + 1)) else Err (Syntax at)

-- a fault of what stands in quotes, braces or brackets, or of a variable
abbrev pub misread : words_fault.Fault → Misread
misread (words_faults.TooDeep at) = TooDeep at
misread f = Syntax (place_of f)

abbrev pub from : ℕ → Progress
from at = record { at = at; fault = None }

abbrev pub taken_by : Option words_fault.Fault → List ℕ → Parts → ℕ → Read Expression
taken_by None text ps at = Ok (joined ps, white_end text at)
taken_by (Some f) text ps at = Err (misread f)

-- parts that were read are an operand, where they have no fault
unfoldable pub taken : List ℕ → Parts → Progress → Read Expression
taken text ps s = taken_by s.fault text ps s.at

abbrev pub parts_of_word : Word → Parts
parts_of_word (word span form inner raw ps) = ps

abbrev pub taken_word : List ℕ → words.Read Word → Read Expression
taken_word text r = taken text (parts_of_word r.0) r.1

abbrev pub taken_part : List ℕ → words.Read Part → Read Expression
taken_part text r = taken text (and_part r.0 no_parts) r.1

abbrev pub taken_bracket : ℕ → List ℕ → words.Read Commands → Read Expression
taken_bracket at text r = taken text (and_part (bracket (from_to at r.1.at) r.0) no_parts) r.1

-- `true`, `false` or a number
abbrev pub written : List ℕ → ℕ → ℕ → Read Expression
written text at end = Ok (literal (slice_range text at end), white_end text end)

unfoldable pub literal_at : List ℕ → ℕ → Read Expression
literal_at text at =
    if reads_word text at (codes "true") then written text at (at + 4)
    else (if reads_word text at (codes "false") then written text at (at + 5)
    else (if digit_stands 10 text at then written text at (number_end text at)
    else Err (Syntax at)))

-- One operand. `room` is how many openers more may be open, and `enclosed` reads what an opener at
-- the place encloses.
unfoldable pub operand_at : ℕ → (ℕ → Read Expression) → List ℕ → ℕ → Read Expression
operand_at room enclosed text at =
    if stands text at 40 then and_then (enclosed at) (closed_by 41 text)
    else (if stands text at 34 then taken_word text ((level room).quoted text (from at))
    else (if stands text at 123 then taken_word text (read_braced room text (from at))
    else (if stands text at 91 then taken_bracket at text ((level room).bracket text (from at))
    else (if opens_name text at then taken_part text (read_name room text (from at))
    else (if starts_variable text at then taken_part text (read_variable (level room) text (from at))
    else literal_at text at)))))

-- the operators before an operand of the row; n is enough turns
abbrev pub with_prefix : List ℕ → ℕ → (ℕ → List Op1 × ℕ) → Option (Op1 × ℕ) → List Op1 × ℕ
with_prefix text at again None = ([], at)
with_prefix text at again (Some o) = let r = again (white_end text o.1) in (o.0 ∷ r.0, r.1)

unfoldable pub prefixes_at : ℕ → List ℕ → ℕ → ℕ → List Op1 × ℕ
prefixes_at k text zero at = ([], at)
prefixes_at k text (suc n) at = with_prefix text at (prefixes_at k text n) (prefix_at k text at)

abbrev pub prefixed_by : List Op1 → Expression → Expression
prefixed_by [] e = e
prefixed_by (op ∷ ops) e = prefixed (op ∷ ops) e

-- the operators and operands with which a row goes on; n is enough turns
abbrev pub with_joint : (ℕ → Read Expression) → (ℕ → Read More) → List ℕ → ℕ → Option (Joint × ℕ)
    → Read More
with_joint tighter again text at None = Ok (no_more, at)
with_joint tighter again text at (Some o) =
    and_then (tighter (white_end text o.1))
    (λ e mid. and_then (again mid) (λ rest end. Ok (more o.0 e rest, end)))

unfoldable pub more_at : ℕ → (ℕ → Read Expression) → List ℕ → ℕ → ℕ → Read More
more_at k tighter text zero at = Ok (no_more, at)
more_at k tighter text (suc n) at =
    with_joint tighter (more_at k tighter text n) text at (joint_at k text at)

abbrev pub row_of : Expression → More → Expression
row_of e no_more = e
row_of e (more o f rest) = row e (more o f rest)

-- Row k of operators: what stands before its first operand, and the operands, which are of the
-- tighter rows, with what stands between them. Row 0 is a single operand.
unfoldable pub row_at : ℕ → (ℕ → Read Expression) → List ℕ → ℕ → Read Expression
row_at zero operand text at = operand at
row_at (suc k) operand text at =
    let before = prefixes_at (suc k) text (turns text) at in
    and_then (row_at k operand text before.1)
    (λ first mid. and_then (more_at (suc k) (row_at k operand text) text (turns text) mid)
    (λ rest end. Ok (row_of (prefixed_by before.0 first) rest, end)))

-- `CONDITION ? VALUE : ..`; what stands between `?` and `:` is enclosed. n is enough turns.
abbrev pub with_case : (enclosed : ℕ → Read Expression) → (again : ℕ → Read (Cases × Expression))
    → List ℕ → Expression → ℕ → Read (Cases × Expression)
with_case enclosed again text c at =
    if stands text at 63
    then and_then (and_then (enclosed at) (closed_by 58 text))
    (λ v next. and_then (again next) (λ r end. Ok ((case c v r.0, r.1), end)))
    else Ok ((no_cases, c), at)

unfoldable pub cases_at : (enclosed condition : ℕ → Read Expression) → List ℕ → ℕ → ℕ
    → Read (Cases × Expression)
cases_at enclosed condition text zero at = Err (Syntax at)
cases_at enclosed condition text (suc n) at =
    and_then (condition at) (with_case enclosed (cases_at enclosed condition text n) text)

abbrev pub choice_of : Cases → Expression → Expression
choice_of no_cases e = e
choice_of (case c v cs) e = choice (case c v cs) e

-- a whole expression, or one that is enclosed
unfoldable pub whole_at : ℕ → (ℕ → Read Expression) → List ℕ → ℕ → Read Expression
whole_at room enclosed text at =
    and_then (cases_at enclosed (row_at 13 (operand_at room enclosed text) text) text (turns text) at)
    (λ r end. Ok (choice_of r.0 r.1, end))

-- what an opener at the place encloses, with room for so many openers
unfoldable pub enclosed_at : ℕ → List ℕ → ℕ → Read Expression
enclosed_at zero text opener = Err (TooDeep opener)
enclosed_at (suc room) text opener =
    whole_at room (enclosed_at room text) text (white_end text (opener + 1))

abbrev pub ended : List ℕ → Read Expression → Result Expression Misread
ended text (Ok r) = if r.1 == length text then Ok r.0 else Err (Syntax r.1)
ended text (Err e) = Err e

-- the expression that a text is, in which no more constructs are open at any place than there is room
-- for, or its fault
abbrev pub expression_within : ℕ → List ℕ → Result Expression Misread
expression_within room text = ended text (whole_at room (enclosed_at room text) text (white_end text 0))

-- the expression that a text is, in which no more than a hundred constructs are open at any place,
-- or its fault
unfoldable pub expression : List ℕ → Result Expression Misread
expression text = expression_within 100 text
