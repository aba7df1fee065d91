-- The events of a connection, by their names.
use Rattle.std.specs.Prelude.{Bool, true, false}
use Rattle.px_bytes.specs.declared.addr.Side.{Side}
use Rattle.px_bytes.specs.declared.addr.Side.TheVariants.{Client, Server}
use Rattle.event_order.specs.declared.event.EventName.{EventName}
use Rattle.event_order.specs.declared.event.EventName.TheVariants as event
use Rattle.conn.specs.declared.events.At.{At}
use Rattle.conn.specs.declared.events.At.TheVariants as at

abbrev pub event_of : At → EventName
event_of at.Accepted = event.ClientAccepted
event_of at.ClientData = event.ClientData
event_of at.Selected = event.LbSelected
event_of at.Failed = event.LbFailed
event_of at.Connected = event.ServerConnected
event_of at.Request = event.HttpRequest
event_of at.RequestData = event.HttpRequestData
event_of at.ServerData = event.ServerData
event_of at.Response = event.HttpResponse
event_of at.ResponseData = event.HttpResponseData
event_of at.Leaving = event.ServerClosed
event_of at.ServerClosed = event.ServerClosed
event_of at.Closed = event.ClientClosed

-- the closing events run once it has finished
abbrev pub is_closed : At → Bool
is_closed at.ServerClosed = true
is_closed at.Closed = true
is_closed other = false

-- they, and the one behind which a server connection is given up
abbrev pub is_closing : At → Bool
is_closing at.ServerClosed = true
is_closing at.Closed = true
is_closing at.Leaving = true
is_closing other = false

-- the event of the bytes that a collect of a side asked for
abbrev pub data_at : Side → At
data_at Client = at.ClientData
data_at Server = at.ServerData

-- the event of the bytes of a body that a rule collects
abbrev pub gathered_at : Side → At
gathered_at Client = at.RequestData
gathered_at Server = at.ResponseData

abbrev pub is_data : At → Bool
is_data at.ClientData = true
is_data at.ServerData = true
is_data other = false

-- bytes of this side are collected in an event, or its bodies may ask for them
abbrev pub collects_in : Side → EventName → Bool
collects_in Client event.ClientAccepted = true
collects_in Client event.ClientData = true
collects_in Server event.ServerConnected = true
collects_in Server event.ServerData = true
collects_in side other = false

abbrev pub is_event_of : Side → At → Bool
is_event_of side at = collects_in side (event_of at)
