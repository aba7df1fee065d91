-- Each host command may be called in some event.
use Rattle.std.proofs.Common.{refl, lit<, Contains}
use Rattle.event_order.specs.Command.{command_row, HostCommandsHaveEvents}
use Rattle.event_order.specs.declared.event.EventName.{EventName}
use Rattle.event_order.specs.declared.event.EventName.TheVariants.{ClientAccepted, HttpRequest}
use Rattle.event_order.specs.declared.event.EventName.TheVariants.{HttpRequestData, HttpResponse}
use Rattle.event_order.specs.declared.event.EventName.TheVariants.{LbFailed, LbSelected, RuleInit}
use Rattle.event_order.specs.declared.command.HostCommand.{HostCommand}
use Rattle.event_order.specs.declared.command.HostCommand.TheVariants.{Log, Class, Table, After}
use Rattle.event_order.specs.declared.command.HostCommand.TheVariants.{ActiveMembers, Clock}
use Rattle.event_order.specs.declared.command.HostCommand.TheVariants.{IpClientAddr, TcpClientPort}
use Rattle.event_order.specs.declared.command.HostCommand.TheVariants.{LbServer, Pool, Node, Reject}
use Rattle.event_order.specs.declared.command.HostCommand.TheVariants.{Drop, TcpClose, TcpCollect}
use Rattle.event_order.specs.declared.command.HostCommand.TheVariants.{TcpRelease, TcpRespond}
use Rattle.event_order.specs.declared.command.HostCommand.TheVariants.{TcpPayload, IpServerAddr}
use Rattle.event_order.specs.declared.command.HostCommand.TheVariants.{LbReselect, LbDetach}
use Rattle.event_order.specs.declared.command.HostCommand.TheVariants.{HttpUri, HttpPath, HttpQuery}
use Rattle.event_order.specs.declared.command.HostCommand.TheVariants.{HttpMethod, HttpHost}
use Rattle.event_order.specs.declared.command.HostCommand.TheVariants.{HttpRequestNum, HttpVersion}
use Rattle.event_order.specs.declared.command.HostCommand.TheVariants.{HttpHeader, HttpCookie}
use Rattle.event_order.specs.declared.command.HostCommand.TheVariants.{HttpStatus, HttpCollect}
use Rattle.event_order.specs.declared.command.HostCommand.TheVariants.{HttpRelease, HttpClose}
use Rattle.event_order.specs.declared.command.HostCommand.TheVariants.{HttpPayload, HttpRespond}
use Rattle.event_order.specs.declared.command.HostCommand.TheVariants.{HttpRedirect}

some_event : (c : HostCommand) → (e : EventName) × Contains (command_row c).events e
some_event Log = (RuleInit, (0, lit< tt, refl))
some_event Class = (RuleInit, (0, lit< tt, refl))
some_event Table = (ClientAccepted, (0, lit< tt, refl))
some_event After = (ClientAccepted, (0, lit< tt, refl))
some_event ActiveMembers = (ClientAccepted, (0, lit< tt, refl))
some_event Clock = (ClientAccepted, (0, lit< tt, refl))
some_event IpClientAddr = (ClientAccepted, (0, lit< tt, refl))
some_event TcpClientPort = (ClientAccepted, (0, lit< tt, refl))
some_event LbServer = (ClientAccepted, (0, lit< tt, refl))
some_event Pool = (ClientAccepted, (0, lit< tt, refl))
some_event Node = (ClientAccepted, (0, lit< tt, refl))
some_event Reject = (LbSelected, (0, lit< tt, refl))
some_event Drop = (LbSelected, (0, lit< tt, refl))
some_event TcpClose = (ClientAccepted, (0, lit< tt, refl))
some_event TcpCollect = (ClientAccepted, (0, lit< tt, refl))
some_event TcpRelease = (ClientAccepted, (0, lit< tt, refl))
some_event TcpRespond = (ClientAccepted, (0, lit< tt, refl))
some_event TcpPayload = (ClientAccepted, (0, lit< tt, refl))
some_event IpServerAddr = (LbSelected, (0, lit< tt, refl))
some_event LbReselect = (LbFailed, (0, lit< tt, refl))
some_event LbDetach = (HttpRequest, (0, lit< tt, refl))
some_event HttpUri = (HttpRequest, (0, lit< tt, refl))
some_event HttpPath = (HttpRequest, (0, lit< tt, refl))
some_event HttpQuery = (HttpResponse, (0, lit< tt, refl))
some_event HttpMethod = (HttpResponse, (0, lit< tt, refl))
some_event HttpHost = (HttpResponse, (0, lit< tt, refl))
some_event HttpRequestNum = (HttpResponse, (0, lit< tt, refl))
some_event HttpVersion = (HttpResponse, (0, lit< tt, refl))
some_event HttpHeader = (HttpResponse, (0, lit< tt, refl))
some_event HttpCookie = (HttpResponse, (0, lit< tt, refl))
some_event HttpStatus = (HttpResponse, (0, lit< tt, refl))
some_event HttpCollect = (HttpRequest, (0, lit< tt, refl))
some_event HttpRelease = (HttpRequest, (0, lit< tt, refl))
some_event HttpClose = (HttpRequest, (0, lit< tt, refl))
some_event HttpPayload = (HttpRequestData, (0, lit< tt, refl))
some_event HttpRespond = (LbFailed, (0, lit< tt, refl))
some_event HttpRedirect = (LbFailed, (0, lit< tt, refl))

pub have_events : HostCommandsHaveEvents
have_events name = (
  λ (c, same). let some = some_event c in (some.0, (c, same, some.1)),
  λ (e, allows). (allows.0, allows.1),
)
