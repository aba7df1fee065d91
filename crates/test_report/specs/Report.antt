-- The report of tests: plain, as TAP, or as JUnit.
use Rattle.std.specs.Prelude.{ℕ, ◌+◌, ◌-◌, ◌==◌, Bool, true, false, not, List, [], ◌∷◌, ◌++◌, codes, length, Option, Some, None}
use Rattle.std.specs.Prelude.{flat_map, take_while, if◌then◌else◌}
use Rattle.std.specs.Fmt.{decimal}
use Rattle.std.specs.List.{count_by}
use Rattle.std.specs.Str.{bytes_eq}
use Rattle.test_report.specs.Parts.{ascii, ascii_lines, joined}
use Rattle.test_report.specs.declared.result.TestResult.{TestResult}
use Rattle.test_words.specs.declared.words.ReportForm.{ReportForm}
use Rattle.test_words.specs.declared.words.ReportForm.TheVariants.{Plain, Tap, Junit}

abbrev pub failures : List TestResult → ℕ
failures rs = count_by (λ r. not r.passed) rs

-- ---- plain

abbrev pub runs_word : ℕ → List ℕ
runs_word runs = if runs == 1 then codes " run)" else codes " runs)"

abbrev pub runs_text : TestResult → List ℕ
runs_text r = if r.passed then joined (codes "  (" ∷ decimal r.runs ∷ runs_word r.runs ∷ []) else []

abbrev pub plain_head : Bool → List ℕ
plain_head passed = if passed then codes "ok   " else codes "FAIL "

abbrev pub plain_place : TestResult → List ℕ
plain_place r = joined (ascii r.file ∷ codes ":" ∷ decimal r.line ∷ [])

abbrev pub plain_line : TestResult → List ℕ
plain_line r = joined (
    plain_head r.passed ∷ plain_place r ∷ codes "  " ∷ ascii r.name ∷ runs_text r ∷ codes "\n" ∷ [])

-- its line, with those of its failure behind it
abbrev pub plain_one : TestResult → List ℕ
plain_one r = joined (plain_line r ∷ ascii_lines (codes "  ") r.failure ∷ [])

abbrev pub plain_all : List TestResult → List ℕ
plain_all rs = flat_map plain_one rs

abbrev pub plain_text : List TestResult → List ℕ
plain_text rs = joined (
    plain_all rs ∷ decimal (length rs - failures rs) ∷ codes " passed, " ∷ decimal (failures rs) ∷ codes " failed\n" ∷ [])

-- ---- TAP

-- In a name `#` begins a directive, unless it stands behind a backslash, and so does a backslash that is one (TAP 14).
abbrev pub tap_byte : ℕ → List ℕ
tap_byte byte = if byte == 35 then codes "\\#" else (if byte == 92 then codes "\\\\" else byte ∷ [])

abbrev pub tap_name : List ℕ → List ℕ
tap_name name = flat_map tap_byte (ascii name)

abbrev pub tap_head : Bool → List ℕ
tap_head passed = if passed then codes "ok " else codes "not ok "

abbrev pub tap_place : TestResult → List ℕ
tap_place r = joined (tap_name r.file ∷ codes ":" ∷ decimal r.line ∷ [])

abbrev pub tap_line : ℕ → TestResult → List ℕ
tap_line number r = joined (
    tap_head r.passed ∷ decimal number ∷ codes " - " ∷ tap_place r ∷ codes " " ∷ tap_name r.name ∷ codes "\n" ∷ [])

abbrev pub tap_one : ℕ → TestResult → List ℕ
tap_one number r = joined (tap_line number r ∷ ascii_lines (codes "# ") r.failure ∷ [])

-- numbered from here on
abbrev pub tap_from : ℕ → List TestResult → List ℕ
tap_from number [] = []
tap_from number (r ∷ rs) = tap_one number r ++ tap_from (number + 1) rs

abbrev pub tap_text : List TestResult → List ℕ
tap_text rs = joined (codes "1.." ∷ decimal (length rs) ∷ codes "\n" ∷ tap_from 1 rs ∷ [])

-- ---- JUnit

abbrev pub xml_byte : ℕ → List ℕ
xml_byte byte =
    if byte == 38 then codes "&amp;"
    else (if byte == 60 then codes "&lt;"
    else (if byte == 62 then codes "&gt;"
    else (if byte == 34 then codes "&quot;" else byte ∷ [])))

abbrev pub xml : List ℕ → List ℕ
xml bytes = flat_map xml_byte (ascii bytes)

abbrev pub xml_line : List ℕ → List ℕ
xml_line line = joined (codes "\n" ∷ xml line ∷ [])

abbrev pub xml_lines : List (List ℕ) → List ℕ
xml_lines lines = flat_map xml_line lines

-- the first line is the message of a failure too
abbrev pub failure_head : List ℕ → List ℕ
failure_head line = joined (codes "      <failure message=\"" ∷ xml line ∷ codes "\">" ∷ [])

abbrev pub failure_text : List (List ℕ) → List ℕ
failure_text [] = codes "      <failure/>\n"
failure_text (line ∷ lines) = joined (failure_head line ∷ xml line ∷ xml_lines lines ∷ codes "</failure>\n" ∷ [])

abbrev pub case_end : TestResult → List ℕ
case_end r =
    if r.passed then codes "\"/>\n"
    else joined (codes "\">\n" ∷ failure_text r.failure ∷ codes "    </testcase>\n" ∷ [])

abbrev pub case_text : TestResult → List ℕ
case_text r = joined (
    codes "    <testcase classname=\"" ∷ xml r.file ∷ codes "\" name=\"" ∷ xml r.name ∷ case_end r ∷ [])

abbrev pub counts_text : List TestResult → List ℕ
counts_text rs = joined (
    codes "\" tests=\"" ∷ decimal (length rs) ∷ codes "\" failures=\"" ∷ decimal (failures rs) ∷ codes "\">\n" ∷ [])

abbrev pub is_of : List ℕ → TestResult → Bool
is_of file r = bytes_eq r.file file

-- the first ones that are of a file
abbrev pub first_of : List ℕ → List TestResult → List TestResult
first_of file rs = take_while (is_of file) rs

abbrev pub suite_begin : List ℕ → List TestResult → List ℕ
suite_begin file rs = joined (codes "  <testsuite name=\"" ∷ xml file ∷ counts_text (first_of file rs) ∷ [])

abbrev pub suite_end : Option (List ℕ) → List ℕ
suite_end None = []
suite_end (Some file) = codes "  </testsuite>\n"

abbrev pub is_open : Option (List ℕ) → TestResult → Bool
is_open None r = false
is_open (Some file) r = is_of file r

abbrev pub new_suite : Option (List ℕ) → TestResult → List TestResult → List ℕ
new_suite before r rs = joined (suite_end before ∷ suite_begin r.file rs ∷ [])

-- a suite ends, and another one begins, where a result is of another file than the one before it
abbrev pub turn_text : Option (List ℕ) → TestResult → List TestResult → List ℕ
turn_text before r rs = if is_open before r then [] else new_suite before r rs

-- the first of these results, with what stands before its case
abbrev pub turned_case : Option (List ℕ) → TestResult → List TestResult → List ℕ
turned_case before r rs = joined (turn_text before r rs ∷ case_text r ∷ [])

abbrev pub suites_from : Option (List ℕ) → List TestResult → List ℕ
suites_from before [] = suite_end before
suites_from before (r ∷ rs) = turned_case before r (r ∷ rs) ++ suites_from (Some r.file) rs

abbrev pub junit_text : List TestResult → List ℕ
junit_text rs = joined (
    codes "<?xml version=\"1.0\" encoding=\"UTF-8\"?>\n<testsuites" ∷ codes " tests=\"" ∷ decimal (length rs) ∷ codes "\" failures=\""
    ∷ decimal (failures rs) ∷ codes "\">\n" ∷ suites_from None rs ∷ codes "</testsuites>\n" ∷ [])

-- ----

abbrev pub report_text : Option ReportForm → List TestResult → List ℕ
report_text None rs = plain_text rs
report_text (Some Plain) rs = plain_text rs
report_text (Some Tap) rs = tap_text rs
report_text (Some Junit) rs = junit_text rs
