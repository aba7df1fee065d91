-- Test files: configurations and tests, and the line that tells what is wrong with one.
use Rattle.std.specs.Prelude.{◌≡◌, ℕ, List, [], ◌∷◌, ◌++◌, codes, length, Option, Result, Ok, Err, if◌then◌else◌}
use Rattle.std.specs.Fmt.{decimal}
use Rattle.text_places.specs.Places.{column_of, line_of}
use Rattle.tcl_words.specs.Tree.{from_to}
use Rattle.tcl_words.specs.declared.parse_fault.Fault.{Fault}
use Rattle.test_text.specs.Deeds.{done, name_at, place_at}
use Rattle.test_text.specs.Expectations.{expected, lines_in}
use Rattle.test_text.specs.Faults.{fault_at, fault_words, judged, read_all, with_value}
use Rattle.test_text.specs.Line.{Line, braces_at, ends_at, has, odd_at, text_at}
use Rattle.test_text.specs.declared.deed.PlacedName.{PlacedName}
use Rattle.test_text.specs.declared.fault.Stopped.{Stopped}
use Rattle.test_text.specs.declared.fault.Stopped.TheVariants as stopped
use Rattle.test_text.specs.declared.fault.TestFault.{TestFault}
use Rattle.test_text.specs.declared.fault.TestFaultKind.TheVariants as kind
use Rattle.test_text.specs.declared.test_file.PlacedDeed.{PlacedDeed}
use Rattle.test_text.specs.declared.test_file.PlacedStep.{PlacedStep}
use Rattle.test_text.specs.declared.test_file.TestCase.{TestCase}
use Rattle.test_text.specs.declared.test_file.TestFile.{TestFile}
use Rattle.test_text.specs.declared.test_file.TestStep.{TestStep}
use Rattle.test_text.specs.declared.test_file.TestStep.TheVariants as step

-- something that was read, and the names of the clients that came up to then
abbrev pub Behind : Type 0 → Type 0
Behind A = Result (A × List (List ℕ)) TestFault

-- what is done by a line more
abbrev pub deed_behind : List PlacedDeed × List (List ℕ) → Line → Behind (List PlacedDeed)
deed_behind s l = with_value (done s.1 l)
    (λ r. Ok (s.0 ++ record { place = place_at l 0; deed = r.0 } ∷ [], r.1))

abbrev pub deeds_of : List (List ℕ) → List Line → Behind (List PlacedDeed)
deeds_of clients ls = read_all deed_behind ([], clients) ls

abbrev pub deeds_read : List (List ℕ) → List Line × Option Fault → Behind (List PlacedDeed)
deeds_read clients r = judged r.1 (deeds_of clients r.0)

-- `together { .. }`: in its braces stands what is done
abbrev pub together : List ℕ → List (List ℕ) → Line → Behind (List PlacedDeed)
together text clients l = with_value (braces_at l 1)
    (λ span. with_value (ends_at l 2) (λ _. deeds_read clients (lines_in text span)))

-- the step that a line is, in a text, behind these clients
abbrev pub step_of : List ℕ → List (List ℕ) → Line → Behind TestStep
step_of text clients l =
    if has l 0 (codes "expect") then with_value (expected text clients l) (λ e. Ok (step.Expect e, clients))
    else (if has l 0 (codes "together")
    then with_value (together text clients l) (λ r. Ok (step.Together r.0, r.1))
    else with_value (done clients l) (λ r. Ok (step.One r.0, r.1)))

-- a step more
abbrev pub step_behind : List ℕ → List PlacedStep × List (List ℕ) → Line → Behind (List PlacedStep)
step_behind text s l = with_value (step_of text s.1 l)
    (λ r. Ok (s.0 ++ record { place = place_at l 0; step = r.0 } ∷ [], r.1))

abbrev pub steps_of : List ℕ → List (List ℕ) → List Line → Behind (List PlacedStep)
steps_of text clients ls = read_all (step_behind text) ([], clients) ls

abbrev pub steps_read : List ℕ → List (List ℕ) → List Line × Option Fault → Behind (List PlacedStep)
steps_read text clients r = judged r.1 (steps_of text clients r.0)

abbrev pub test_with : ℕ → List ℕ → ℕ → List PlacedStep × List (List ℕ) → TestCase
test_with place name config r =
    record { place = place; name = name; config = config; clients = r.1; steps = r.0 }

-- `test NAME { .. }`
abbrev pub test_of : List ℕ → ℕ → Line → Result TestCase TestFault
test_of text config l =
    with_value (text_at l 1) (λ name. with_value (braces_at l 2) (λ span. with_value (ends_at l 3) (λ _.
    with_value (steps_read text [] (lines_in text span)) (λ r. Ok (test_with (place_at l 0) name config r)))))

-- the number of the last configuration
abbrev pub last_config : List PlacedName → Line → Result ℕ TestFault
last_config [] l = Err (fault_at kind.NoConfig (place_at l 0))
last_config (c ∷ cs) l = Ok (length cs)

-- a test has the last configuration before it
abbrev pub with_test : List ℕ → TestFile → Line → Result TestFile TestFault
with_test text f l = with_value (last_config f.configs l) (λ config. with_value (test_of text config l)
    (λ t. Ok (record f { tests = f.tests ++ t ∷ [] })))

-- `config FILE`
abbrev pub with_config : TestFile → Line → Result TestFile TestFault
with_config f l = with_value (name_at l 1) (λ name. with_value (ends_at l 2)
    (λ _. Ok (record f { configs = f.configs ++ name ∷ [] })))

abbrev pub with_line : List ℕ → TestFile → Line → Result TestFile TestFault
with_line text f l =
    if has l 0 (codes "config") then with_config f l
    else (if has l 0 (codes "test") then with_test text f l else Err (odd_at l 0))

abbrev pub no_tests : TestFile
no_tests = record { configs = []; tests = [] }

abbrev pub file_read : List ℕ → List Line × Option Fault → Result TestFile TestFault
file_read text r = judged r.1 (read_all (with_line text) no_tests r.0)

-- the test file that a text is, or its fault
abbrev pub file_of : List ℕ → Result TestFile TestFault
file_of text = file_read text (lines_in text (from_to 0 (length text)))

-- what is wrong with the text of a file of this name, in a line without its end
abbrev pub fault_line : List ℕ → List ℕ → TestFault → List ℕ
fault_line name text fault =
    name ++ codes ":" ++ decimal (line_of text fault.place) ++ codes ":" ++ decimal (column_of text fault.place)
    ++ codes ": " ++ fault_words fault.kind

-- this file was left, or the fault is this one
abbrev pub Leaves : Result (Unit {0}) Stopped → TestFile → Result TestFile TestFault → Type 0
Leaves (Ok done) f wanted = wanted ≡ Ok f
Leaves (Err (stopped.Fault fault)) f wanted = wanted ≡ Err fault
Leaves (Err stopped.Memory) f wanted = Unit {0}
