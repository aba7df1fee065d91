use Rattle.std.proofs.Common.{◌≡◌, refl, Option, Some, None}
use Rattle.conn_trace.specs.Heard.{Accepted}
use Rattle.record_model.specs.Init.{init}
use Rattle.record_model.specs.Setup.{setup_in}
use Rattle.run_config.specs.declared.config.Config.{Config}
use Rattle.record_model.proofs.laws.statics_stay.Goals as goal

by_accepted : (C : Config) (a : Option Accepted) → (setup_in C a).statics ≡ (init C).vars.statics
by_accepted C None = refl
by_accepted C (Some a) = refl

pub returns : goal.returns
returns c C h = by_accepted C h.accepted
