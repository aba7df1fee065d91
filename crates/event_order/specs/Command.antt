-- The host commands of a rule, and the events in which each may be called (iRules reference: the
-- page of each command, its valid events).
use Rattle.std.specs.Prelude.{ℕ, ◌≡◌, List, [], ◌∷◌, ◌++◌, codes, Contains, ◌↔◌}
use Rattle.event_order.specs.Event.{every_event, started_events}
use Rattle.event_order.specs.declared.event.EventName.{EventName}
use Rattle.event_order.specs.declared.event.EventName.TheVariants.{ClientAccepted, ClientData}
use Rattle.event_order.specs.declared.event.EventName.TheVariants.{ClientClosed, ServerConnected}
use Rattle.event_order.specs.declared.event.EventName.TheVariants.{ServerData, ServerClosed}
use Rattle.event_order.specs.declared.event.EventName.TheVariants.{LbSelected, LbFailed}
use Rattle.event_order.specs.declared.event.EventName.TheVariants.{HttpRequest, HttpRequestData}
use Rattle.event_order.specs.declared.event.EventName.TheVariants.{HttpResponse, HttpResponseData}
use Rattle.event_order.specs.declared.command.HostCommand.{HostCommand}
use Rattle.event_order.specs.declared.command.HostCommand.TheVariants.{Log, Class, Table, After}
use Rattle.event_order.specs.declared.command.HostCommand.TheVariants.{ActiveMembers, Clock}
use Rattle.event_order.specs.declared.command.HostCommand.TheVariants.{IpClientAddr, TcpClientPort}
use Rattle.event_order.specs.declared.command.HostCommand.TheVariants.{LbServer, Pool, Node, Reject}
use Rattle.event_order.specs.declared.command.HostCommand.TheVariants.{Drop, TcpClose, TcpCollect}
use Rattle.event_order.specs.declared.command.HostCommand.TheVariants.{TcpRelease, TcpRespond}
use Rattle.event_order.specs.declared.command.HostCommand.TheVariants.{TcpPayload, IpServerAddr}
use Rattle.event_order.specs.declared.command.HostCommand.TheVariants.{LbReselect, LbDetach}
use Rattle.event_order.specs.declared.command.HostCommand.TheVariants.{HttpUri, HttpPath, HttpQuery}
use Rattle.event_order.specs.declared.command.HostCommand.TheVariants.{HttpMethod, HttpHost}
use Rattle.event_order.specs.declared.command.HostCommand.TheVariants.{HttpRequestNum, HttpVersion}
use Rattle.event_order.specs.declared.command.HostCommand.TheVariants.{HttpHeader, HttpCookie}
use Rattle.event_order.specs.declared.command.HostCommand.TheVariants.{HttpStatus, HttpCollect}
use Rattle.event_order.specs.declared.command.HostCommand.TheVariants.{HttpRelease, HttpClose}
use Rattle.event_order.specs.declared.command.HostCommand.TheVariants.{HttpPayload, HttpRespond}
use Rattle.event_order.specs.declared.command.HostCommand.TheVariants.{HttpRedirect}

-- a host command: its name, and the events in which at least one of its forms may be called
pub record CommandRow : Type 0 where
  pub name : List ℕ
  pub events : List EventName

-- the client's bytes, without HTTP
abbrev pub client_events : List EventName
client_events = ClientAccepted ∷ ClientData ∷ []

-- the server's bytes, without HTTP
abbrev pub server_events : List EventName
server_events = ServerConnected ∷ ServerData ∷ []

abbrev pub request_events : List EventName
request_events = HttpRequest ∷ HttpRequestData ∷ []

abbrev pub response_events : List EventName
response_events = HttpResponse ∷ HttpResponseData ∷ []

abbrev pub http_events : List EventName
http_events = request_events ++ response_events

abbrev pub stream_events : List EventName
stream_events = client_events ++ server_events

-- a server is still to be chosen
abbrev pub choosing_events : List EventName
choosing_events = client_events ++ request_events

-- bytes flow, so that the connection can be closed
abbrev pub closing_events : List EventName
closing_events = stream_events ++ http_events

-- the connection isn't closing yet
abbrev pub ending_events : List EventName
ending_events = LbSelected ∷ LbFailed ∷ closing_events

-- a server was chosen
abbrev pub chosen_events : List EventName
chosen_events = LbSelected ∷ server_events ++ response_events ++ ServerClosed ∷ ClientClosed ∷ []

-- the request's target is there; from LB_SELECTED on it is only read
abbrev pub target_events : List EventName
target_events = request_events ++ LbSelected ∷ LbFailed ∷ server_events

-- the head of a request or a response is there
abbrev pub head_events : List EventName
head_events = response_events ++ target_events

-- a collected body is there
abbrev pub body_events : List EventName
body_events = HttpRequestData ∷ HttpResponseData ∷ []

-- the client still waits for its answer
abbrev pub answering_events : List EventName
answering_events = LbFailed ∷ http_events

abbrev pub row : List ℕ → List EventName → CommandRow
row name events = record { name = name; events = events }

abbrev pub command_row : HostCommand → CommandRow
command_row Log = row (codes "log") every_event
command_row Class = row (codes "class") every_event
command_row Table = row (codes "table") started_events
command_row After = row (codes "after") started_events
command_row ActiveMembers = row (codes "active_members") started_events
command_row Clock = row (codes "clock") started_events
command_row IpClientAddr = row (codes "IP::client_addr") started_events
command_row TcpClientPort = row (codes "TCP::client_port") started_events
command_row LbServer = row (codes "LB::server") started_events
command_row Pool = row (codes "pool") choosing_events
command_row Node = row (codes "node") choosing_events
command_row Reject = row (codes "reject") ending_events
command_row Drop = row (codes "drop") ending_events
command_row TcpClose = row (codes "TCP::close") closing_events
command_row TcpCollect = row (codes "TCP::collect") stream_events
command_row TcpRelease = row (codes "TCP::release") stream_events
command_row TcpRespond = row (codes "TCP::respond") stream_events
command_row TcpPayload = row (codes "TCP::payload") stream_events
command_row IpServerAddr = row (codes "IP::server_addr") chosen_events
command_row LbReselect = row (codes "LB::reselect") (LbFailed ∷ [])
command_row LbDetach = row (codes "LB::detach") http_events
command_row HttpUri = row (codes "HTTP::uri") target_events
command_row HttpPath = row (codes "HTTP::path") target_events
command_row HttpQuery = row (codes "HTTP::query") head_events
command_row HttpMethod = row (codes "HTTP::method") head_events
command_row HttpHost = row (codes "HTTP::host") head_events
command_row HttpRequestNum = row (codes "HTTP::request_num") head_events
command_row HttpVersion = row (codes "HTTP::version") head_events
command_row HttpHeader = row (codes "HTTP::header") head_events
command_row HttpCookie = row (codes "HTTP::cookie") head_events
command_row HttpStatus = row (codes "HTTP::status") response_events
command_row HttpCollect = row (codes "HTTP::collect") http_events
command_row HttpRelease = row (codes "HTTP::release") http_events
command_row HttpClose = row (codes "HTTP::close") http_events
command_row HttpPayload = row (codes "HTTP::payload") body_events
command_row HttpRespond = row (codes "HTTP::respond") answering_events
command_row HttpRedirect = row (codes "HTTP::redirect") answering_events

abbrev pub every_command : List HostCommand
every_command =
    Log ∷ Class ∷ Table ∷ After ∷ ActiveMembers ∷ Clock
    ∷ IpClientAddr ∷ TcpClientPort ∷ LbServer ∷ Pool ∷ Node ∷ Reject
    ∷ Drop ∷ TcpClose ∷ TcpCollect ∷ TcpRelease ∷ TcpRespond ∷ TcpPayload
    ∷ IpServerAddr ∷ LbReselect ∷ LbDetach ∷ HttpUri ∷ HttpPath ∷ HttpQuery
    ∷ HttpMethod ∷ HttpHost ∷ HttpRequestNum ∷ HttpVersion ∷ HttpHeader ∷ HttpCookie
    ∷ HttpStatus ∷ HttpCollect ∷ HttpRelease ∷ HttpClose ∷ HttpPayload ∷ HttpRespond
    ∷ HttpRedirect ∷ []

-- a name is that of a host command
abbrev pub IsHostCommand : List ℕ → Type 0
IsHostCommand name = (c : HostCommand) × (name ≡ (command_row c).name)

-- some form of the host command of this name may be called in the event
abbrev pub Allows : List ℕ → EventName → Type 0
Allows name e = (c : HostCommand) × (name ≡ (command_row c).name) × Contains (command_row c).events e

-- a name is that of a host command exactly where some event allows it
abbrev pub HostCommandsHaveEvents : Type 0
HostCommandsHaveEvents = (name : List ℕ) → IsHostCommand name ↔ ((e : EventName) × Allows name e)

-- a command has one name, and no two share one
abbrev pub NamesDiffer : Type 0
NamesDiffer = (c d : HostCommand) → (command_row c).name ≡ (command_row d).name → c ≡ d
