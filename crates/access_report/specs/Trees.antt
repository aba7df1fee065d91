-- The rows of a tree's entries.
use Rattle.std.specs.Prelude.{List, ℕ, flat_map, map}
use Rattle.std.specs.Global.{Vec}
use Rattle.access_report.specs.Table.{counts_row}
use Rattle.access_report.specs.declared.counts.ServerCounts.{ServerCounts}

abbrev pub rows_of : List (Vec ℕ × ServerCounts) → List (List ℕ × ServerCounts)
rows_of entries = map (λ (e : Vec ℕ × ServerCounts). (e.0.items, e.1)) entries

abbrev pub names_of : List (List ℕ × ServerCounts) → List (List ℕ)
names_of rows = map (λ (row : List ℕ × ServerCounts). row.0) rows

abbrev pub entry_lines : List (Vec ℕ × ServerCounts) → List ℕ
entry_lines entries =
    flat_map (λ (row : List ℕ × ServerCounts). counts_row row.0 row.1) (rows_of entries)
