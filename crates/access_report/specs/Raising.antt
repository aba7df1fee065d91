-- The rows of a report after one was raised.
use Rattle.std.specs.Prelude.{List, ℕ, Option, Some, None, if◌then◌else◌}
use Rattle.std.specs.Map.{lookup}
use Rattle.std.specs.Option.{unwrap_or}
use Rattle.std.specs.Str.{bytes_eq}
use Rattle.access_report.specs.Sums.{none, plus}
use Rattle.access_report.specs.declared.counts.ServerCounts.{ServerCounts}

abbrev pub Row : Type 0
Row = List ℕ × ServerCounts

-- what a name has
abbrev pub counts_at : List Row → List ℕ → ServerCounts
counts_at rows name = unwrap_or (lookup (bytes_eq name) rows) none

-- what each has after one was raised
abbrev pub raised : List Row → List ℕ → ServerCounts → List ℕ → Option ServerCounts
raised rows name more asked =
    if bytes_eq asked name then Some (plus (counts_at rows name) more)
    else lookup (bytes_eq asked) rows

abbrev pub raised_if : List Row → Option (List ℕ) → ServerCounts → List ℕ → Option ServerCounts
raised_if rows None more asked = lookup (bytes_eq asked) rows
raised_if rows (Some name) more asked = raised rows name more asked
