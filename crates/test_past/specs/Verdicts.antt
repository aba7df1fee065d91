-- What a run comes to.
use Rattle.std.specs.Prelude.{ℕ, ◌==◌, Bool, true, false, not, List, [], ◌∷◌, ◌++◌, length, Option, Some, None}
use Rattle.std.specs.Prelude.{if◌then◌else◌}
use Rattle.px_bytes.specs.declared.addr.Side.{Side}
use Rattle.px_bytes.specs.declared.addr.Side.TheVariants.{Client, Server}
use Rattle.test_past.specs.Got.{got_by, question_at}
use Rattle.test_past.specs.Lines.{has_fault}
use Rattle.test_past.specs.Questions.{holds}
use Rattle.test_past.specs.declared.entry.ClientConn.{ClientConn}
use Rattle.test_past.specs.declared.entry.RunEntry.{RunEntry}
use Rattle.test_past.specs.declared.entry.RunEntry.TheVariants.{Asks}
use Rattle.test_past.specs.declared.verdict.RunEnd.{RunEnd}
use Rattle.test_past.specs.declared.verdict.RunEnd.TheVariants.{Done}
use Rattle.test_past.specs.declared.verdict.Verdict.{Verdict}
use Rattle.test_past.specs.declared.verdict.Verdict.TheVariants.{Passed, Question, Stopped, Unread, Fault}
use Rattle.test_text.specs.declared.expectation.Expectation.{Expectation}
use Rattle.test_text.specs.declared.test_file.PlacedStep.{PlacedStep}

-- ---- questions

abbrev pub fails_if : (rows : ℕ) → List PlacedStep → List ClientConn → List RunEntry → Option Expectation → Bool
fails_if rows steps came before None = false
fails_if rows steps came before (Some question) = not (holds rows steps came question before)

-- the question of a step doesn't hold of what was before it
abbrev pub fails : (rows : ℕ) → List PlacedStep → List ClientConn → List RunEntry → ℕ → Bool
fails rows steps came before step = fails_if rows steps came before (question_at steps step)

abbrev pub failing_at : (rows : ℕ) → List PlacedStep → List ClientConn → List RunEntry → RunEntry → Option ℕ
failing_at rows steps came before (Asks step) = if fails rows steps came before step then Some step else None
failing_at rows steps came before other = None

abbrev pub or_else : Option ℕ → Option ℕ → Option ℕ
or_else None later = later
or_else (Some step) later = Some step

-- the first step whose question doesn't hold, behind what was before
abbrev pub failing : (rows : ℕ) → List PlacedStep → List ClientConn → (before rest : List RunEntry) → Option ℕ
failing rows steps came before [] = None
failing rows steps came before (x ∷ xs) =
    or_else (failing_at rows steps came before x) (failing rows steps came (before ++ x ∷ []) xs)

-- ---- what is left at the end

abbrev pub is_any : List ℕ → Bool
is_any bytes = not (length bytes == 0)

-- a side of a client that took bytes which no question read
abbrev pub unread_side : List PlacedStep → List ClientConn → ℕ → List RunEntry → Option Side
unread_side steps came client entries =
    if is_any (got_by steps came Client client entries) then Some Client
    else (if is_any (got_by steps came Server client entries) then Some Server else None)

abbrev pub left_by : List PlacedStep → List ClientConn → ℕ → List RunEntry → Option Side → Option Verdict
left_by steps came client entries (Some side) = Some (Unread client side)
left_by steps came client entries None =
    if has_fault steps came (Some client) entries then Some (Fault (Some client)) else None

-- what is left of a client: bytes, or a fault that no question asked for
abbrev pub left_of : List PlacedStep → List ClientConn → ℕ → List RunEntry → Option Verdict
left_of steps came client entries = left_by steps came client entries (unread_side steps came client entries)

abbrev pub or_verdict : Option Verdict → Verdict → Verdict
or_verdict None later = later
or_verdict (Some verdict) later = verdict

-- of the first of these clients of which something is left
abbrev pub left : List PlacedStep → (came clients : List ClientConn) → List RunEntry → Verdict
left steps came [] entries = Passed
left steps came (one ∷ clients) entries =
    or_verdict (left_of steps came one.client entries) (left steps came clients entries)

abbrev pub is_done : RunEnd → Bool
is_done Done = true
is_done other = false

abbrev pub closing : List PlacedStep → List ClientConn → RunEnd → List RunEntry → Verdict
closing steps came end entries =
    if not (is_done end) then Stopped
    else (if has_fault steps came None entries then Fault None else left steps came came entries)

-- ---- the verdict

abbrev pub unless_failing : Option ℕ → Verdict → Verdict
unless_failing None verdict = verdict
unless_failing (Some step) verdict = Question step

-- A run passes where it was made to its end, each question holds of what was before it, all bytes that were taken were
-- read, and each fault that nothing caught was asked for.
abbrev pub verdict_of : (rows : ℕ) → List PlacedStep → List ClientConn → RunEnd → List RunEntry → Verdict
verdict_of rows steps came end entries =
    unless_failing (failing rows steps came [] entries) (closing steps came end entries)
