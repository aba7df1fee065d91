-- What network commands do outside the script, as the definitions see it.
use Rattle.px_bytes.specs.Host.{Effect, Logged, Sent}
use Rattle.irule_net.specs.declared.effects.Made.{Made}
use Rattle.irule_net.specs.declared.effects.Made.TheVariants as made

abbrev pub effect_of : Made → Effect
effect_of (made.Logged line) = Logged line
effect_of (made.Sent side bytes) = Sent side bytes
