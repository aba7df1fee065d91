-- What a machine may do next.
use Rattle.std.specs.Prelude.{Bool, true, false}
use Rattle.frames.specs.declared.frame.Mode.{Mode}
use Rattle.frames.specs.declared.frame.Mode.TheVariants as mode

abbrev pub is_running : Mode → Bool
is_running mode.Begin = true
is_running (mode.Back code) = true
is_running (mode.Asked call) = false
is_running mode.Over = false

abbrev pub is_asked : Mode → Bool
is_asked (mode.Asked call) = true
is_asked other = false
