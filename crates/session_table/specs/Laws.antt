-- What holds of rows and calls.
use Rattle.std.specs.Prelude.{◌≡◌, ℕ, ◌+◌, ◌*◌, ◌≤◌, ℤ, pos, ◌+ℤ◌, Bool, true, false, List, []}
use Rattle.std.specs.Prelude.{◌∷◌, length, Option, Some, None, Result, Ok, Err, nat_lt}
use Rattle.std.specs.Prelude.{sum_by, if◌then◌else◌}
use Rattle.std.specs.Cmp.Lexicographic.{slice_cmp}
use Rattle.std.specs.List.{AllPass, list_any}
use Rattle.std.specs.List.Sorted.{IsSortedBy}
use Rattle.std.specs.Ordering.{is_lt, nat_cmp}
use Rattle.std.specs.Str.{bytes_eq}
use Rattle.px_bytes.specs.Gives.{with_value}
use Rattle.px_bytes.specs.Whole.{whole}
use Rattle.px_bytes.specs.declared.fault.TclFault.{TclFault}
use Rattle.session_table.specs.Answers.{is_in_range, kept, touched}
use Rattle.session_table.specs.Rows.{is_live, is_of}
use Rattle.session_table.specs.Tables.{TableState, after, keys_in, live_after, live_served}
use Rattle.session_table.specs.declared.request.Act.TheVariants.{Incr}
use Rattle.session_table.specs.declared.row.TableRow.{TableRow}

-- to touch a row never shortens its life
abbrev pub TouchNeverShortens : Type 0
TouchNeverShortens = (row : TableRow) (moment later : ℕ) → row.touched ≤ moment
    → is_live later row ≡ true → is_live later (touched true moment row) ≡ true

-- the moment at which what began at another ends
abbrev pub end_of : Option ℕ → ℕ → Option ℕ
end_of None since = None
end_of (Some seconds) since = Some (since + 1000 * seconds)

abbrev pub earlier : Option ℕ → Option ℕ → Option ℕ
earlier None b = b
earlier (Some a) None = Some a
earlier (Some a) (Some b) = Some (if nat_lt a b then a else b)

abbrev pub deadline : TableRow → Option ℕ
deadline row =
    earlier (end_of row.times.timeout row.touched) (end_of row.times.lifetime row.created)

abbrev pub is_before : ℕ → Option ℕ → Bool
is_before moment None = true
is_before moment (Some end) = nat_lt moment end

-- a row is live exactly up to its deadline
abbrev pub LivesToDeadline : Type 0
LivesToDeadline = (row : TableRow) (moment : ℕ) → is_live moment row ≡ is_before moment (deadline row)

-- none of the rows stands under the key of this one
abbrev pub StandsAlone : TableRow → List TableRow → Type 0
StandsAlone row [] = Unit {0}
StandsAlone row (other ∷ rows) =
    (is_of row.subtable row.key other ≡ false) × StandsAlone row rows

-- no two rows stand under one key
abbrev pub KeysAreOnce : List TableRow → Type 0
KeysAreOnce [] = Unit {0}
KeysAreOnce (row ∷ rows) = StandsAlone row rows × KeysAreOnce rows

abbrev pub KeysStayOnce : Type 0
KeysStayOnce = (table : TableState) (moment : ℕ) (words : List (List ℕ))
    → KeysAreOnce table.rows → KeysAreOnce (after table moment words).rows

-- how often a key stands among keys
abbrev pub times : List ℕ → List (List ℕ) → ℕ
times key keys = sum_by (λ other. if bytes_eq key other then 1 else 0) keys

-- the keys of a subtable are sorted, and each key of a row stands there once
abbrev pub KeysAreSorted : Type 0
KeysAreSorted = (subtable : List ℕ) (rows : List TableRow)
    → IsSortedBy (λ x y. is_lt (slice_cmp nat_cmp x y)) (keys_in subtable rows)

abbrev pub KeysAreAll : Type 0
KeysAreAll = (subtable key : List ℕ) (rows : List TableRow) → KeysAreOnce rows
    → times key (keys_in subtable rows)
    ≡ (if list_any (is_of subtable key) rows then 1 else 0)

-- a row after an `incr` at each of these moments
abbrev pub counted : Bool → List ℕ → TableRow → Result TableRow TclFault
counted touches [] row = Ok row
counted touches (moment ∷ moments) row =
    with_value (kept touches (Incr false (pos 1)) moment row)
    (λ k. counted touches moments k.1)

-- a counter that is incremented n times has its start and n, where that is in range
abbrev pub CountersCount : Type 0
CountersCount = (touches : Bool) (moments : List ℕ) (row : TableRow) (start : ℤ)
    → whole row.text ≡ Some start → is_in_range (start +ℤ pos (length moments)) ≡ true
    → (last : TableRow) × (counted touches moments row ≡ Ok last)
    × (whole last.text ≡ Some (start +ℤ pos (length moments)))

-- a fault changes nothing
abbrev pub FaultsChangeNothing : Type 0
FaultsChangeNothing = (table : TableState) (moment : ℕ) (words : List (List ℕ)) (fault : TclFault)
    → (live_served table moment words).given ≡ Err fault
    → (live_served table moment words).rows ≡ table.rows

-- where all rows are live at a moment, a call at it leaves live rows alone
abbrev pub LiveRowsStay : Type 0
LiveRowsStay = (table : TableState) (moment : ℕ) (words : List (List ℕ))
    → AllPass (is_live moment) table.rows
    → AllPass (is_live moment) (live_after table moment words).rows

-- no call leaves more rows than the table's limit, where there were no more
abbrev pub RowsStayFew : Type 0
RowsStayFew = (table : TableState) (moment : ℕ) (words : List (List ℕ))
    → length table.rows ≤ table.limit → length (live_after table moment words).rows ≤ table.limit
