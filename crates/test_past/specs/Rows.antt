-- The rows of the session table, by the calls that were answered.
use Rattle.std.specs.Prelude.{ℕ, ◌==◌, Bool, true, false, List, [], ◌∷◌, codes, length, Option, Some, None}
use Rattle.std.specs.Prelude.{if◌then◌else◌}
use Rattle.std.specs.Str.{bytes_eq}
use Rattle.core_events.specs.declared.event.Event.TheVariants.{Tick}
use Rattle.px_bytes.specs.declared.fault.Reply.{Reply}
use Rattle.px_bytes.specs.declared.fault.Reply.TheVariants.{Ok as Replied, Fault as Refused}
use Rattle.session_table.specs.Tables.{TableState, after, new_table, replied}
use Rattle.test_past.specs.declared.entry.RunEntry.{RunEntry}
use Rattle.test_past.specs.declared.entry.RunEntry.TheVariants.{Called, Given}
use Rattle.test_text.specs.declared.expectation.WishedRow.{WishedRow}

-- the table behind an entry
abbrev pub table_behind : RunEntry → TableState → TableState
table_behind (Called moment words) table = after table moment words
table_behind other table = table

abbrev pub table_from : TableState → List RunEntry → TableState
table_from table [] = table
table_from table (x ∷ xs) = table_from (table_behind x table) xs

-- the moment of the last Tick
abbrev pub moment_behind : RunEntry → ℕ → ℕ
moment_behind (Given (Tick moment)) before = moment
moment_behind other before = before

abbrev pub moment_from : ℕ → List RunEntry → ℕ
moment_from before [] = before
moment_from before (x ∷ xs) = moment_from (moment_behind x before) xs

-- `CALL -subtable SUBTABLE KEY`; that it touches the row shows in no reply at its own moment
abbrev pub call_words : (call subtable key : List ℕ) → List (List ℕ)
call_words call subtable key = call ∷ codes "-subtable" ∷ subtable ∷ key ∷ []

-- what is replied; a fault says nothing
abbrev pub text_of : Reply → List ℕ
text_of (Replied text) = text
text_of (Refused fault) = []

abbrev pub asked : (call subtable key : List ℕ) → (moment : ℕ) → TableState → List ℕ
asked call subtable key moment table = text_of (replied table moment (call_words call subtable key))

abbrev pub table_asked : (call subtable key : List ℕ) → (moment : ℕ) → TableState → TableState
table_asked call subtable key moment table = after table moment (call_words call subtable key)

-- The value of a row, as `table lookup` gives it; none where `table timeout` says nothing of it.
abbrev pub told : (subtable key : List ℕ) → (moment : ℕ) → TableState → Option (List ℕ)
told subtable key moment table =
    if length (asked (codes "timeout") subtable key moment table) == 0 then None
    else Some (asked (codes "lookup") subtable key moment
    (table_asked (codes "timeout") subtable key moment table))

-- the value of a row at the present moment
abbrev pub row_told : (rows : ℕ) → (subtable key : List ℕ) → List RunEntry → Option (List ℕ)
row_told rows subtable key entries =
    told subtable key (moment_from 0 entries) (table_from (new_table rows) entries)

abbrev pub same_value : Option (List ℕ) → Option (List ℕ) → Bool
same_value None None = true
same_value (Some text) (Some value) = bytes_eq text value
same_value wished told = false

-- a row is as it is wished
abbrev pub row_holds : (rows : ℕ) → WishedRow → List RunEntry → Bool
row_holds rows row entries = same_value row.value (row_told rows row.subtable row.key entries)
