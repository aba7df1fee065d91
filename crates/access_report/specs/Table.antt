-- The text of the report, in this project's own format.
use Rattle.std.specs.Prelude.{◌≡◌, ℕ, ◌-◌, List, ◌++◌, length, map, flat_map, codes, reverse}
use Rattle.std.specs.Prelude.{Some, None, if◌then◌else◌}
use Rattle.std.specs.Cmp.Lexicographic.{slice_cmp}
use Rattle.std.specs.Fmt.{decimal}
use Rattle.std.specs.List.Sorted.{IsStrictlySortedBy}
use Rattle.std.proofs.Math.ListN.{replicate}
use Rattle.std.specs.Map.{lookup}
use Rattle.std.specs.Ordering.{nat_cmp}
use Rattle.std.specs.Str.{bytes_eq}
use Rattle.journal_value.specs.Journal.{IsJournal}
use Rattle.journal_value.specs.declared.journal.JournalLine.{JournalLine}
use Rattle.access_report.specs.declared.counts.ServerCounts.{ServerCounts}
use Rattle.access_report.specs.Sums.{column, is_named, total}

-- a row for each virtual server that an accepted connection names, in the order of their bytes, with
-- its sums
pub record IsTable (past : List JournalLine) (rows : List (List ℕ × ServerCounts)) : Type 0 where
  pub sorted : IsStrictlySortedBy (slice_cmp nat_cmp) (map (λ row. row.0) rows)
  pub sums : (name : List ℕ) → lookup (bytes_eq name) rows
      ≡ (if is_named name past then Some (column name past) else None)

-- so many blanks
abbrev pub blanks : ℕ → List ℕ
blanks n = replicate n 32

-- in so many places at least: a text at the left, one at the right
abbrev pub at_left : ℕ → List ℕ → List ℕ
at_left places text = text ++ blanks (places - length text)

abbrev pub at_right : ℕ → List ℕ → List ℕ
at_right places text = blanks (places - length text) ++ text

abbrev pub row_of : (name conns bytes calls early : List ℕ) → List ℕ
row_of name conns bytes calls early =
    at_left 24 name ++ at_right 8 conns ++ at_right 14 bytes ++ at_right 8 calls
    ++ at_right 8 early ++ codes "\n"

abbrev pub counts_row : List ℕ → ServerCounts → List ℕ
counts_row name counts =
    row_of name (decimal counts.conns) (decimal counts.bytes) (decimal counts.calls)
    (decimal counts.early)

abbrev pub header : List ℕ
header = row_of (codes "virtual") (codes "conns") (codes "bytes") (codes "calls") (codes "early")

-- the report of these lines, the newest first
abbrev pub IsReport : List JournalLine → List ℕ → Type 0
IsReport past text =
    (rows : List (List ℕ × ServerCounts)) × IsTable past rows
    × (text ≡ header ++ flat_map (λ row. counts_row row.0 row.1) rows
    ++ counts_row (codes "total") (total past))

-- the text is the access report of the journal that the record is
pub record ReportsRecord (record_text text : List ℕ) : Type 0 where
  pub told : List JournalLine
  pub journal : IsJournal record_text told
  pub report : IsReport (reverse told) text
