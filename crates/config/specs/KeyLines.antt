-- The line of a configuration's text where a key stands, by the layout in which configurations are written: a table of an array begins
-- with a line `[[NAME]]`, and a key stands first in a line. Lines of a text of several lines, between ''' or """, are none of
-- these. Of a key that has no such line, as one that is missing, it is the line with which its table begins.
use Rattle.std.specs.Prelude.{ℕ, ◌+◌, ◌&&◌, ◌||◌, ◌==◌, Bool, true, false, not, List, [], ◌∷◌, codes}
use Rattle.std.specs.Prelude.{decimal, drop, length, nat_eq, Option, Some, None, option_and_then}
use Rattle.std.specs.Prelude.{option_map, slice_get, if◌then◌else◌}
use Rattle.std.specs.List.{after_first, before_first, slice_split, starts_with}
use Rattle.std.specs.Str.{bytes_eq}
use Rattle.px_outside.specs.Outside.{counted_up}
use Rattle.text_places.specs.Places.{is_newline}
use Rattle.config.specs.declared.fault.ConfigFault.{ConfigFault}
use Rattle.config.specs.declared.key_line.KeyPath.{KeyPath}
use Rattle.config.specs.declared.key_line.Seen.{Seen}
use Rattle.config.specs.declared.spot.Source.TheVariants.{Key}
use Rattle.config.specs.declared.spot.Spot.{Spot}

-- ---- a key, by its place

-- the name of an array of tables and the place of one of them in decimal, and a key of that; of a key at the top its name and no bytes
pub record Path : Type 0 where
  pub table : List ℕ
  pub item : List ℕ
  pub key : List ℕ

abbrev pub path_view : KeyPath → Path
path_view p = record { table = p.table.now; item = p.item.now; key = p.key.now }

abbrev pub before : ℕ → List ℕ → List ℕ
before mark text = before_first (λ byte. byte == mark) text

abbrev pub behind : ℕ → List ℕ → List ℕ
behind mark text = after_first (λ byte. byte == mark) text

abbrev pub head_name : List ℕ → List ℕ
head_name place = before 91 (before 46 place)

abbrev pub head_item : List ℕ → List ℕ
head_item place = before 93 (behind 91 (before 46 place))

abbrev pub inner_name : List ℕ → List ℕ
inner_name place = before 91 (before 46 (behind 46 place))

abbrev pub path_with : List ℕ → List ℕ → List ℕ → Path
path_with table item inner =
    record { table = table; item = item; key = if length item == 0 then table else inner }

abbrev pub key_path : List ℕ → Path
key_path place = path_with (head_name place) (head_item place) (inner_name place)

-- ---- lines

abbrev pub lines_of : List ℕ → List (List ℕ)
lines_of text = slice_split is_newline text

-- a text of several lines begins or ends here
abbrev pub opens : List ℕ → Bool
opens rest = starts_with nat_eq rest (codes "'''") || starts_with nat_eq rest (codes "\"\"\"")

-- whether such a text goes on behind the first of these bytes of a line
abbrev pub switched : Bool → List ℕ → Bool
switched on rest = if opens rest then not on else on

-- and behind all of them
abbrev pub turned : Bool → List ℕ → Bool
turned on [] = on
turned on (b ∷ bs) = turned (switched on (b ∷ bs)) bs

abbrev pub begins_table : List ℕ → Bool
begins_table line = starts_with nat_eq line (codes "[")

-- the line begins a table of this array
abbrev pub is_header : List ℕ → List ℕ → Bool
is_header table line =
    starts_with nat_eq line (codes "[[") && bytes_eq (before 93 (drop 2 line)) table

abbrev pub is_behind_key : Option ℕ → Bool
is_behind_key None = false
is_behind_key (Some b) = (b == 32) || ((b == 9) || (b == 61))

abbrev pub stands_first : List ℕ → List ℕ → Bool
stands_first key line = starts_with nat_eq line key && is_behind_key (slice_get line (length key))

-- ---- the search

-- keys at the top stand before all tables
abbrev pub first_seen : Path → Seen
first_seen p = record { in_text = false; tables = 0; is_inside = nat_eq (length p.item) 0; header = None }

abbrev pub is_key : Path → Seen → List ℕ → Bool
is_key p s line = s.is_inside && (not s.in_text && stands_first p.key line)

-- behind a line that begins a table
abbrev pub behind_own : Bool → Seen → ℕ → Seen
behind_own here s number = record {
  in_text = s.in_text;
  tables = counted_up s.tables;
  is_inside = here;
  header = if here then Some number else s.header;
}

abbrev pub behind_header : Path → Seen → ℕ → List ℕ → Seen
behind_header p s number line =
    if is_header p.table line then behind_own (bytes_eq (decimal s.tables) p.item) s number
    else record { in_text = s.in_text; tables = s.tables; is_inside = false; header = s.header }

abbrev pub behind_line : Path → Seen → ℕ → List ℕ → Seen
behind_line p s number line =
    if not s.in_text && begins_table line then behind_header p s number line
    else record {
      in_text = turned s.in_text line;
      tables = s.tables;
      is_inside = s.is_inside;
      header = s.header;
    }

-- the number of the line, from 0
abbrev pub line_from : Path → Seen → ℕ → List (List ℕ) → Option ℕ
line_from p s number [] = s.header
line_from p s number (line ∷ lines) =
    if is_key p s line then Some number
    else line_from p (behind_line p s number line) (number + 1) lines

abbrev pub key_line : List ℕ → List (List ℕ) → Option ℕ
key_line place lines = line_from (key_path place) (first_seen (key_path place)) 0 lines

abbrev pub line_spot : ℕ → List ℕ → Spot
line_spot number line = record { source = Key; line = number + 1; column = 1; text = line }

abbrev pub spot_of : List (List ℕ) → ℕ → Option Spot
spot_of lines number = option_map (line_spot number) (slice_get lines number)

abbrev pub key_spot : List ℕ → List (List ℕ) → Option Spot
key_spot place lines = option_and_then (spot_of lines) (key_line place lines)

-- the fault with the line of its key
abbrev pub with_line : List ℕ → ConfigFault → ConfigFault
with_line bytes f =
    record { kind = f.kind; place = f.place; spot = key_spot f.place (lines_of bytes) }
