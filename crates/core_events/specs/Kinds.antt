-- What an event may mean to a connection: who is accepted, what comes of whom, the rest.
use Rattle.std.specs.Prelude.{true, false}
use Rattle.px_bytes.specs.declared.addr.Side.TheVariants.{Client, Server}
use Rattle.core_events.specs.declared.event.Event.{Event}
use Rattle.core_events.specs.declared.event.Event.TheVariants as event
use Rattle.core_events.specs.declared.event_kind.EventKind.{EventKind}
use Rattle.core_events.specs.declared.event_kind.EventKind.TheVariants.{Accepts, Comes, Ticks}
use Rattle.core_events.specs.declared.event_kind.EventKind.TheVariants.{Turns, Runs, Marks}
use Rattle.core_events.specs.declared.input.Input.TheVariants.{Bytes, Ends, Resets}
use Rattle.core_events.specs.declared.input.Input.TheVariants.{Connects, Takes}

abbrev pub kind_of : Event → EventKind
kind_of (event.Accept c vs from) = Accepts c vs from
kind_of (event.FromClient c bytes) = Comes c (Bytes Client bytes)
kind_of (event.ClientEnd c) = Comes c (Ends Client)
kind_of (event.ClientReset c) = Comes c (Resets Client)
kind_of (event.Connected c) = Comes c (Connects true)
kind_of (event.Refused c) = Comes c (Connects false)
kind_of (event.FromServer c bytes) = Comes c (Bytes Server bytes)
kind_of (event.ServerEnd c) = Comes c (Ends Server)
kind_of (event.ServerReset c) = Comes c (Resets Server)
kind_of (event.ClientTook c n) = Comes c (Takes Client n)
kind_of (event.ServerTook c n) = Comes c (Takes Server n)
kind_of (event.Tick moment) = Ticks moment
kind_of event.Turn = Turns
kind_of event.Run = Runs
kind_of (event.Mark pool member up) = Marks pool member up
