-- The rows of data groups are texts, since the strings of TOML are.
use Rattle.std.proofs.Common.{◌≡◌, ℕ, true, List, [], ◌∷◌, ◌++◌, Option, Some, None, Ordering, Less, Equal, Greater, String, Global, BTreeMap, refl, sym, ap, subst}
use Rattle.std.proofs.lemmas.Str.{IsUtf8-nil, is_utf8-from_IsUtf8}
use Rattle.std.specs.Cmp.Lexicographic.{slice_cmp}
use Rattle.std.specs.Ordering.{match_ordering, nat_cmp}
use Rattle.std.specs.Prelude.{option_and_then, option_map}
use Rattle.std.specs.Str.{is_utf8}
use Rattle.data_groups.specs.Groups.{Row}
use Rattle.toml.proofs.Views.{view-Table}
use Rattle.toml.specs.Data.{Data, string, integer, float, boolean, datetime, array, table, Items, no_items, item, Members, no_members, member, as_array, as_str, as_table, get_member}
use Rattle.toml.specs.View.{table_view, view}
use Rattle.toml.specs.declared.value.Value.{Value, Table}
use Rattle.toml_strings.proofs.ViewTexts.{texts}
use Rattle.toml_strings.specs.Texts.{AreItemTexts, AreMemberTexts}
use Rattle.toml_strings.specs.Texts.{AreTexts as AreDataTexts}
use Rattle.config.specs.Documents.{items_at, or_none}
use Rattle.config.specs.Groups.{row_in, row_of, row_with}
use Rattle.config.specs.Keys.{groups, rows}
use Rattle.config.specs.Settings.{each, group_item, group_of, one, row_item, settings_of}
use Rattle.config.specs.TextRows.{AllAreTexts, AreTexts, IsText}
use Rattle.config.specs.declared.config.GroupSettings.{GroupSettings}
use Rattle.config.specs.declared.config.Settings.{Settings}

-- ---- what stands in a value

abbrev Maybe : {A : Type 0} → (A → Type 0) → Option A → Type 0
Maybe P None = Unit {0}
Maybe P (Some x) = P x

at_key : (k : List ℕ) (ms : Members) → AreMemberTexts ms → Maybe AreDataTexts (get_member k ms)
at_key k no_members is = tt
at_key k (member l d ms) is =
    elim (slice_cmp nat_cmp k l) as (λ o. Maybe AreDataTexts (match_ordering o (get_member k ms) (Some d) (get_member k ms))) [
      | Less ↦ at_key k ms is.1
      | Equal ↦ is.0
      | Greater ↦ at_key k ms is.1
    ]

in_array : (o : Option Data) → Maybe AreDataTexts o → AreItemTexts (or_none (option_and_then as_array o))
in_array None is = tt
in_array (Some (string s)) is = tt
in_array (Some (integer z)) is = tt
in_array (Some (float x)) is = tt
in_array (Some (boolean b)) is = tt
in_array (Some (datetime x)) is = tt
in_array (Some (array ds)) is = is
in_array (Some (table ms)) is = tt

in_table : (d : Data) → AreDataTexts d → Maybe AreMemberTexts (as_table d)
in_table (string s) is = tt
in_table (integer z) is = tt
in_table (float x) is = tt
in_table (boolean b) is = tt
in_table (datetime x) is = tt
in_table (array ds) is = tt
in_table (table ms) is = is

in_text : (d : Data) → AreDataTexts d → Maybe (λ t. is_utf8 t ≡ true) (as_str d)
in_text (string s) is = is
in_text (integer z) is = tt
in_text (float x) is = tt
in_text (boolean b) is = tt
in_text (datetime x) is = tt
in_text (array ds) is = tt
in_text (table ms) is = tt

-- ---- rows

no_bytes : is_utf8 [] ≡ true
no_bytes = is_utf8-from_IsUtf8 [] IsUtf8-nil

with_both : (k v : Option (List ℕ)) → Maybe (λ t. is_utf8 t ≡ true) k → Maybe (λ t. is_utf8 t ≡ true) v → Maybe IsText (row_with k v)
with_both None v p q = tt
with_both (Some k) None p q = tt
with_both (Some k) (Some v) p q = record { key = p; value = q }

in_row : (ds : Items) → AreItemTexts ds → Maybe IsText (row_in ds)
in_row no_items is = tt
in_row (item k no_items) is = with_both (as_str k) (Some []) (in_text k is.0) no_bytes
in_row (item k (item v no_items)) is = with_both (as_str k) (as_str v) (in_text k is.0) (in_text v is.1.0)
in_row (item k (item v (item d ds))) is = tt

a_row : (d : Data) → AreDataTexts d → Maybe IsText (row_of d)
a_row (string s) is = tt
a_row (integer z) is = tt
a_row (float x) is = tt
a_row (boolean b) is = tt
a_row (datetime x) is = tt
a_row (array ds) is = in_row ds is
a_row (table ms) is = tt

some_row : (o : Option Row) (rs : List Row) → Maybe IsText o → AreTexts rs → AreTexts (one o ++ rs)
some_row None rs p q = q
some_row (Some row) rs p q = (p, q)

all_rows : (ds : Items) → AreItemTexts ds → AreTexts (each row_item ds)
all_rows no_items is = tt
all_rows (item d ds) is = some_row (row_of d) (each row_item ds) (a_row d is.0) (all_rows ds is.1)

-- ---- data groups

a_group : (ms : Members) → AreMemberTexts ms → AreTexts (group_of ms).rows
a_group ms is = all_rows (items_at rows ms) (in_array (get_member rows.name ms) (at_key rows.name ms is))

some_group : (o : Option Members) (gs : List GroupSettings) → Maybe AreMemberTexts o → AllAreTexts gs → AllAreTexts (one (option_map group_of o) ++ gs)
some_group None gs p q = q
some_group (Some ms) gs p q = (a_group ms p, q)

all_groups : (ds : Items) → AreItemTexts ds → AllAreTexts (each group_item ds)
all_groups no_items is = tt
all_groups (item d ds) is = some_group (as_table d) (each group_item ds) (in_table d is.0) (all_groups ds is.1)

-- those of a table of TOML
pub rows_are_texts : (top : BTreeMap (String Global) Value) (s : Settings) → s ≡ settings_of (table_view top) → AllAreTexts s.groups
rows_are_texts top s is =
    let all : AreMemberTexts (table_view top) = subst AreDataTexts (view-Table top) (texts (Table top)) in
    subst (λ x. AllAreTexts x.groups) (sym is) (all_groups (items_at groups (table_view top)) (in_array (get_member groups.name (table_view top)) (at_key groups.name (table_view top) all)))
