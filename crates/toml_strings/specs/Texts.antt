-- The texts of a value are UTF-8.
use Rattle.std.specs.Prelude.{◌≡◌, ℕ, true, List}
use Rattle.std.specs.Str.{is_utf8}
use Rattle.toml.specs.Data.{Data, string, integer, float, boolean, datetime, array, table, Items, no_items, item, Members, no_members, member}
use Rattle.toml.specs.View.{view}
use Rattle.toml.specs.declared.value.Value.{Value}

abbrev mutual
  pub AreTexts : Data → Type 0
  AreTexts (string s) = is_utf8 s ≡ true
  AreTexts (integer z) = Unit {0}
  AreTexts (float x) = Unit {0}
  AreTexts (boolean b) = Unit {0}
  AreTexts (datetime x) = Unit {0}
  AreTexts (array ds) = AreItemTexts ds
  AreTexts (table ms) = AreMemberTexts ms

  pub AreItemTexts : Items → Type 0
  AreItemTexts no_items = Unit {0}
  AreItemTexts (item d ds) = AreTexts d × AreItemTexts ds

  pub AreMemberTexts : Members → Type 0
  AreMemberTexts no_members = Unit {0}
  AreMemberTexts (member k d ms) = AreTexts d × AreMemberTexts ms

abbrev pub TextsAreUtf8 : Type 0
TextsAreUtf8 = (v : Value) → AreTexts (view v)
