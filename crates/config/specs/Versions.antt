-- Which version a document has.
use Rattle.std.specs.Prelude.{ℤ, pos, Option, Some, None, option_and_then, if◌then◌else◌}
use Rattle.std.specs.Ordering.{int_eq}
use Rattle.toml.specs.Data.{Members, as_integer, get_member}
use Rattle.config.specs.Keys as key
use Rattle.config.specs.declared.version.Version.{Version}
use Rattle.config.specs.declared.version.Version.TheVariants.{One, Two}

abbrev pub version_said : Option ℤ → Version
version_said None = Two
version_said (Some n) = if int_eq n (pos 1) then One else Two

-- version 1 exactly where the document says so; where it says nothing or something else, its other
-- keys are judged as those of version 2
abbrev pub version_of : Members → Version
version_of ms = version_said (option_and_then as_integer (get_member key.version.name ms))
