-- Where a live connection is found.
use Rattle.std.specs.Prelude.{ℕ, List, Option, Some, None, slice_get, option_and_then}
use Rattle.core_events.specs.declared.bad_event.BadEvent.{BadEvent}
use Rattle.core_events.specs.declared.bad_event.BadEvent.TheVariants.{NoConn}
use Rattle.proxy_core.specs.declared.live.Live.{Live}
use Rattle.proxy_core.specs.Ready.{place_of}

-- the live connection of a number
abbrev pub live_at : List Live → ℕ → Option Live
live_at live number = option_and_then (λ at. slice_get live at) (place_of live number)

-- the reason, unless there is no such connection
abbrev pub unless_unknown : Option Live → BadEvent → BadEvent
unless_unknown None why = NoConn
unless_unknown (Some l) why = why
