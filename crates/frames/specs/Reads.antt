-- What a move reads.
use Rattle.std.specs.Prelude.{Option, option_map}
use Rattle.tcl_vars.specs.Scopes.{Level, Scopes}
use Rattle.frames.specs.declared.reads.Reads.{Reads}

-- the static variables, where they are only read, and the variables
pub record Known : Type 0 where
  pub statics : Option Level
  pub vars : Scopes

abbrev pub known : Option Level → Scopes → Known
known statics vars = record { statics = statics; vars = vars }

abbrev pub known_by : Reads → Known
known_by r = known (option_map (λ v. v.now.statics) r.statics) r.vars.now
