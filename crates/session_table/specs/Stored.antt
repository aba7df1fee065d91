-- How rows stand under their keys. No public clause cites this module.
use Rattle.std.specs.Prelude.{◌≡◌, ℕ, ◌+◌, ◌*◌, ◌^◌, Bool, true, false, not, List, [], ◌∷◌, map, filter, Option, Some, None}
use Rattle.std.specs.Prelude.{Result, Ok, Err, nat_lt, if◌then◌else◌}
use Rattle.std.specs.declared.cmp.Ordering.{Ordering}
use Rattle.std.specs.Cmp.Lexicographic.{slice_cmp}
use Rattle.std.specs.Global.{Vec}
use Rattle.std.specs.List.{AllByRecursion}
use Rattle.std.specs.Map.{remove_entry, set_value}
use Rattle.std.specs.Ordering.{is_eq, nat_cmp, ordering_then}
use Rattle.std.specs.Str.{bytes_eq}
use Rattle.px_bytes.specs.declared.fault.Raise.{Raise}
use Rattle.timed_rows.specs.Rows.{Timed}
use Rattle.px_bytes.specs.Gives.{with_value}
use Rattle.session_table.specs.Answers.{absent, kept, living}
use Rattle.session_table.specs.Rows.{is_live, is_of}
use Rattle.session_table.specs.Tables.{Served, placed}
use Rattle.session_table.specs.Turns.{Keeps}
use Rattle.session_table.specs.declared.request.RowCall.{RowCall}
use Rattle.session_table.specs.declared.row.TableRow.{TableRow}

-- a moment that a deadline may be; a later one never comes
abbrev pub fitting : ℕ → Option ℕ
fitting end = if nat_lt end (2 ^ 64) then Some end else None

-- the end of what began at a moment
abbrev pub ends : Option ℕ → ℕ → Option ℕ
ends None since = None
ends (Some seconds) since = fitting (since + 1000 * seconds)

abbrev pub sooner : Option ℕ → Option ℕ → Option ℕ
sooner None b = b
sooner (Some a) None = Some a
sooner (Some a) (Some b) = Some (if nat_lt a b then a else b)

-- the deadline of a row
abbrev pub due : TableRow → Option ℕ
due row = sooner (ends row.times.timeout row.touched) (ends row.times.lifetime row.created)

-- a row under these names
abbrev pub named : List ℕ → List ℕ → TableRow → TableRow
named subtable key row = record row { subtable = subtable; key = key }

-- a subtable and a key of it; they go by the subtable, and then by the key
abbrev pub Key : Type 0
Key = Vec ℕ × Vec ℕ

abbrev pub key_cmp : Key → Key → Ordering
key_cmp x y =
    ordering_then (slice_cmp nat_cmp x.0.items y.0.items) (slice_cmp nat_cmp x.1.items y.1.items)

-- whether these are the names of a key
abbrev pub is_key : List ℕ → List ℕ → Key → Bool
is_key subtable key x =
    is_eq (ordering_then (slice_cmp nat_cmp subtable x.0.items) (slice_cmp nat_cmp key x.1.items))

abbrev pub Entries : Type 0
Entries = List (Key × Timed TableRow)

-- the rows, which have their names from their keys
abbrev pub rows_of : Entries → List TableRow
rows_of es = map (λ e. named e.0.0.items e.0.1.items e.1.0) es

-- each row has its deadline
abbrev pub Dues : Entries → Type 0
Dues es = AllByRecursion (λ e. e.1.1 ≡ due e.1.0) es

-- whether a call leaves the row no longer live
abbrev pub goes : Result (List ℕ) Raise → Bool → Bool
goes (Ok text) live = not live
goes (Err raise) live = false

-- the entries with what became of a key's row, which is gone or stays
abbrev pub put_kept : List ℕ → List ℕ → Bool → TableRow → Entries → Entries
put_kept subtable key true row es = remove_entry (is_key subtable key) es
put_kept subtable key false row es = set_value (is_key subtable key) es (row, due row)

-- a call was made on the row of a key, and what became of it was put in its place
pub record KeepsRow (result : Result (List ℕ) Raise) (call : RowCall) (moment : ℕ) (subtable key : List ℕ) (row : TableRow) (old new : Entries) : Type 0 where
  pub after : TableRow
  pub keeps : Keeps result row after (kept call.touches call.act moment row)
  pub entries : new ≡ put_kept subtable key (goes result (is_live moment after)) after old

-- where no row stands under the key of a call
abbrev pub made_new : ℕ → RowCall → ℕ → List TableRow → Served
made_new limit call moment rows =
    placed limit (is_of call.subtable call.key) None
    (with_value (absent call call.act moment) (λ c. Ok (living moment c))) rows

-- the names of a key
abbrev pub Names : Type 0
Names = List ℕ × List ℕ

abbrev pub names_of : Key → Names
names_of k = (k.0.items, k.1.items)

-- the names of the keys of a subtable
abbrev pub names_under : List ℕ → List Key → List Names
names_under subtable ks = map names_of (filter (λ k. bytes_eq subtable k.0.items) ks)

-- the entries without those of these names
abbrev pub removed : List Names → Entries → Entries
removed [] es = es
removed (n ∷ ns) es = removed ns (remove_entry (is_key n.0 n.1) es)
