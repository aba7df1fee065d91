-- What a rule logged.
use Rattle.std.specs.Prelude.{ℕ, ◌==◌, ◌&&◌, ◌-◌, Bool, true, false, not, List, [], ◌∷◌, codes, drop, Option, Some, None}
use Rattle.std.specs.Prelude.{nat_eq, slice_get, if◌then◌else◌}
use Rattle.std.specs.List.{count_by, list_any, starts_with}
use Rattle.test_past.specs.Got.{question_at}
use Rattle.test_past.specs.Standing.{conn_of}
use Rattle.test_past.specs.declared.entry.ClientConn.{ClientConn}
use Rattle.test_past.specs.declared.entry.RunEntry.{RunEntry}
use Rattle.test_past.specs.declared.entry.RunEntry.TheVariants.{Logged, Asks}
use Rattle.test_text.specs.declared.expectation.Expectation.{Expectation}
use Rattle.test_text.specs.declared.expectation.Expectation.TheVariants.{Log}
use Rattle.test_text.specs.declared.expectation.Wished.{Wished}
use Rattle.test_text.specs.declared.expectation.Wished.TheVariants.{Nothing}
use Rattle.test_text.specs.declared.test_file.PlacedStep.{PlacedStep}

-- the line that a connection logs by an entry
abbrev pub line_in : ℕ → RunEntry → Option (List ℕ)
line_in conn (Logged c text) = if c == conn then Some text else None
line_in conn other = None

abbrev pub with_line : Option (List ℕ) → List (List ℕ) → List (List ℕ)
with_line None lines = lines
with_line (Some line) lines = line ∷ lines

-- the lines of a connection
abbrev pub logged : ℕ → List RunEntry → List (List ℕ)
logged conn [] = []
logged conn (x ∷ xs) = with_line (line_in conn x) (logged conn xs)

abbrev pub same_owner : Option ℕ → Option ℕ → Bool
same_owner None None = true
same_owner (Some client) (Some whose) = client == whose
same_owner of other = false

abbrev pub is_nothing : Wished → Bool
is_nothing Nothing = true
is_nothing other = false

-- a question takes a line of a client, or of RULE_INIT
abbrev pub takes_line : Expectation → Option ℕ → Bool
takes_line (Log whose what) of = not (is_nothing what) && same_owner whose of
takes_line other of = false

abbrev pub some_takes_line : Option Expectation → Option ℕ → Bool
some_takes_line None of = false
some_takes_line (Some question) of = takes_line question of

abbrev pub reads_line : List PlacedStep → Option ℕ → RunEntry → Bool
reads_line steps of (Asks step) = some_takes_line (question_at steps step) of
reads_line steps of other = false

-- how many lines questions asked for
abbrev pub lines_read : List PlacedStep → Option ℕ → List RunEntry → ℕ
lines_read steps of entries = count_by (reads_line steps of) entries

-- the connection of a client; 0 for RULE_INIT
abbrev pub conn_named : List ClientConn → Option ℕ → Option ℕ
conn_named came None = Some 0
conn_named came (Some client) = conn_of client came

abbrev pub line_behind : List PlacedStep → Option ℕ → Option ℕ → List RunEntry → Option (List ℕ)
line_behind steps of None entries = None
line_behind steps of (Some conn) entries = slice_get (logged conn entries) (lines_read steps of entries)

-- the next line, behind those that questions asked for
abbrev pub next_line : List PlacedStep → List ClientConn → Option ℕ → List RunEntry → Option (List ℕ)
next_line steps came of entries = line_behind steps of (conn_named came of) entries

-- a line tells a fault that nothing caught
abbrev pub is_fault : List ℕ → Bool
is_fault line = starts_with nat_eq line (codes "TCL error: ")

-- a line behind so many others does; how many are left to pass behind a line
abbrev pub fault_at : Option (List ℕ) → ℕ → Bool
fault_at None left = false
fault_at (Some line) left = (left == 0) && is_fault line

abbrev pub left_by : Option (List ℕ) → ℕ → ℕ
left_by None left = left
left_by (Some line) left = left - 1

abbrev pub fault_behind : List PlacedStep → Option ℕ → Option ℕ → List RunEntry → Bool
fault_behind steps of None entries = false
fault_behind steps of (Some conn) entries = list_any is_fault (drop (lines_read steps of entries) (logged conn entries))

-- a line that no question asked for does
abbrev pub has_fault : List PlacedStep → List ClientConn → Option ℕ → List RunEntry → Bool
has_fault steps came of entries = fault_behind steps of (conn_named came of) entries
