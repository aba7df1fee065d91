-- What a table says at a key.
use Rattle.std.specs.Prelude.{ℕ, zero, suc, min, Bool, false, List, Option, Some, None}
use Rattle.std.specs.Prelude.{is_some, option_and_then, if◌then◌else◌}
use Rattle.toml.specs.Data.{Items, no_items, item, Members, as_bool, as_array, as_table, get_member}
use Rattle.config.specs.Keys.{KeyKind, TableKey, members, whole, truth, text, one_of, array}
use Rattle.config.specs.Texts.{text_at}
use Rattle.config.specs.Values.{word_place}

abbrev pub among : KeyKind → List ℕ → Option ℕ
among (one_of words) t = word_place words t
among (whole low high usual) t = None
among truth t = None
among (text form) t = None
among (array most) t = None

-- the place of the text at a key among its words
abbrev pub chosen : TableKey → Members → Option ℕ
chosen key ms = option_and_then (among key.kind) (text_at key.name ms)

abbrev pub is_true : Option Bool → Bool
is_true (Some b) = b
is_true None = false

abbrev pub truth_at : TableKey → Members → Bool
truth_at key ms = is_true (option_and_then as_bool (get_member key.name ms))

abbrev pub array_at : TableKey → Members → Option Items
array_at key ms = option_and_then as_array (get_member key.name ms)

-- how many of some items are tables
abbrev pub tables_in : Items → ℕ
tables_in no_items = 0
tables_in (item d ds) = if is_some (as_table d) then suc (tables_in ds) else tables_in ds

abbrev pub tables_at : Option Items → ℕ
tables_at None = 0
tables_at (Some ds) = tables_in ds

-- how many members the table of a pool has, faulty ones too
abbrev pub member_count : Members → ℕ
member_count ms = min (tables_at (array_at members ms)) 4294967295
