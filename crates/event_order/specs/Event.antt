-- The events of a rule (iRules reference: the events of a virtual server for TCP and for HTTP).
use Rattle.std.specs.Prelude.{ℕ, List, [], ◌∷◌, codes}
use Rattle.event_order.specs.declared.event.EventName.{EventName}
use Rattle.event_order.specs.declared.event.EventName.TheVariants.{RuleInit, ClientAccepted}
use Rattle.event_order.specs.declared.event.EventName.TheVariants.{ClientData, ClientClosed}
use Rattle.event_order.specs.declared.event.EventName.TheVariants.{ServerConnected, ServerData}
use Rattle.event_order.specs.declared.event.EventName.TheVariants.{ServerClosed, LbSelected}
use Rattle.event_order.specs.declared.event.EventName.TheVariants.{LbFailed, HttpRequest}
use Rattle.event_order.specs.declared.event.EventName.TheVariants.{HttpRequestData, HttpResponse}
use Rattle.event_order.specs.declared.event.EventName.TheVariants.{HttpResponseData}

-- how a rule writes it
abbrev pub event_text : EventName → List ℕ
event_text RuleInit = codes "RULE_INIT"
event_text ClientAccepted = codes "CLIENT_ACCEPTED"
event_text ClientData = codes "CLIENT_DATA"
event_text ClientClosed = codes "CLIENT_CLOSED"
event_text ServerConnected = codes "SERVER_CONNECTED"
event_text ServerData = codes "SERVER_DATA"
event_text ServerClosed = codes "SERVER_CLOSED"
event_text LbSelected = codes "LB_SELECTED"
event_text LbFailed = codes "LB_FAILED"
event_text HttpRequest = codes "HTTP_REQUEST"
event_text HttpRequestData = codes "HTTP_REQUEST_DATA"
event_text HttpResponse = codes "HTTP_RESPONSE"
event_text HttpResponseData = codes "HTTP_RESPONSE_DATA"

-- all but the one that runs before there is a connection
abbrev pub started_events : List EventName
started_events =
    ClientAccepted ∷ ClientData ∷ ClientClosed ∷ ServerConnected ∷ ServerData
    ∷ ServerClosed ∷ LbSelected ∷ LbFailed ∷ HttpRequest ∷ HttpRequestData ∷ HttpResponse
    ∷ HttpResponseData ∷ []

abbrev pub every_event : List EventName
every_event = RuleInit ∷ started_events
