-- The rows of data groups are texts: their keys and values are UTF-8.
use Rattle.std.specs.Prelude.{◌≡◌, ℕ, true, List, [], ◌∷◌}
use Rattle.std.specs.Str.{is_utf8}
use Rattle.config.specs.declared.config.GroupSettings.{GroupSettings}
use Rattle.data_groups.specs.Groups.{Row}

pub record IsText (row : Row) : Type 0 where
  pub key : is_utf8 row.0 ≡ true
  pub value : is_utf8 row.1 ≡ true

abbrev pub AreTexts : List Row → Type 0
AreTexts [] = Unit {0}
AreTexts (row ∷ rows) = IsText row × AreTexts rows

abbrev pub AllAreTexts : List GroupSettings → Type 0
AllAreTexts [] = Unit {0}
AllAreTexts (g ∷ gs) = AreTexts g.rows × AllAreTexts gs
