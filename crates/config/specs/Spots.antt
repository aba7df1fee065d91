-- Where something is wrong in a text, as an editor counts it. A rule that stands in a file has the lines and columns of that
-- file, since what is left out of its text are carriage returns at the ends of lines.
use Rattle.std.specs.Prelude.{ℕ, List, Option, Some, None}
use Rattle.text_places.specs.Places.{column_of, line_at, line_of}
use Rattle.config.specs.declared.rule_text.RuleText.{RuleText}
use Rattle.config.specs.declared.spot.Source.{Source}
use Rattle.config.specs.declared.spot.Source.TheVariants as source
use Rattle.config.specs.declared.spot.Spot.{Spot}

abbrev pub spot_at : Source → List ℕ → ℕ → Spot
spot_at of text place = record {
  source = of;
  line = line_of text place;
  column = column_of text place;
  text = line_at text place;
}

-- the text of the rule of this place, which stands in the configuration or in the file
abbrev pub source_of : ℕ → Option (List ℕ) → Source
source_of at None = source.Rule at
source_of at (Some file) = source.File file

abbrev pub spot_in : ℕ → RuleText → ℕ → Spot
spot_in at text place = spot_at (source_of at text.file) text.bytes place
