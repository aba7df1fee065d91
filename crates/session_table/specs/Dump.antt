-- The rows of a table as lines, in this project's own format.
use Rattle.std.specs.Prelude.{ℕ, List, ◌++◌, Option, Some, None, codes, flat_map}
use Rattle.std.specs.declared.cmp.Ordering.{Ordering}
use Rattle.std.specs.Cmp.Lexicographic.{slice_cmp}
use Rattle.std.specs.Fmt.{decimal}
use Rattle.std.specs.Ordering.{nat_cmp, ordering_then}
use Rattle.px_bytes.specs.Hexadecimal.{hex_text}
use Rattle.session_table.specs.declared.row.TableRow.{TableRow}

-- rows go by their subtables, and then by their keys
abbrev pub row_cmp : TableRow → TableRow → Ordering
row_cmp row other =
    ordering_then (slice_cmp nat_cmp row.subtable other.subtable) (slice_cmp nat_cmp row.key other.key)

-- a time of a row, which may have none
abbrev pub time_text : Option ℕ → List ℕ
time_text None = codes "indefinite"
time_text (Some seconds) = decimal seconds

-- the names and the text of a row, in hexadecimal
abbrev pub names_text : TableRow → List ℕ
names_text row =
    codes "> row " ++ hex_text row.subtable ++ codes " " ++ hex_text row.key ++ codes " " ++ hex_text row.text

-- its times in seconds, and the moments when it was made and touched last, in milliseconds
abbrev pub times_text : TableRow → List ℕ
times_text row =
    codes " " ++ time_text row.times.timeout ++ codes " " ++ time_text row.times.lifetime ++ codes " "
    ++ decimal row.created ++ codes " " ++ decimal row.touched ++ codes "\n"

abbrev pub row_line : TableRow → List ℕ
row_line row = names_text row ++ times_text row

abbrev pub dump_text : List TableRow → List ℕ
dump_text rows = flat_map row_line rows
