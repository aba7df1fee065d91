-- The name of an event or of a host command is that of no other one, so that it is found by its name.
use Rattle.std.proofs.Common.{◌≡◌, ℕ, List, find, Some, refl, ◌↔◌, subst, sym}
use Rattle.std.specs.Str.{bytes_eq}
use Rattle.std.proofs.lemmas.Slice.Eq.{bytes_eq-Decides}
use Rattle.event_order.specs.Command.{command_row, every_command}
use Rattle.event_order.specs.Event.{event_text, every_event}
use Rattle.event_order.specs.declared.event.EventName.{EventName}
use Rattle.event_order.specs.declared.event.EventName.TheVariants.{RuleInit, ClientAccepted}
use Rattle.event_order.specs.declared.event.EventName.TheVariants.{ClientData, ClientClosed}
use Rattle.event_order.specs.declared.event.EventName.TheVariants.{ServerConnected, ServerData}
use Rattle.event_order.specs.declared.event.EventName.TheVariants.{ServerClosed, LbSelected}
use Rattle.event_order.specs.declared.event.EventName.TheVariants.{LbFailed, HttpRequest}
use Rattle.event_order.specs.declared.event.EventName.TheVariants.{HttpRequestData, HttpResponse}
use Rattle.event_order.specs.declared.event.EventName.TheVariants.{HttpResponseData}
use Rattle.event_order.specs.declared.command.HostCommand.{HostCommand}
use Rattle.event_order.specs.declared.command.HostCommand.TheVariants.{Log, Class, Table, After}
use Rattle.event_order.specs.declared.command.HostCommand.TheVariants.{ActiveMembers, Clock}
use Rattle.event_order.specs.declared.command.HostCommand.TheVariants.{IpClientAddr, TcpClientPort}
use Rattle.event_order.specs.declared.command.HostCommand.TheVariants.{LbServer, Pool, Node, Reject}
use Rattle.event_order.specs.declared.command.HostCommand.TheVariants.{Drop, TcpClose, TcpCollect}
use Rattle.event_order.specs.declared.command.HostCommand.TheVariants.{TcpRelease, TcpRespond}
use Rattle.event_order.specs.declared.command.HostCommand.TheVariants.{TcpPayload, IpServerAddr}
use Rattle.event_order.specs.declared.command.HostCommand.TheVariants.{LbReselect, LbDetach}
use Rattle.event_order.specs.declared.command.HostCommand.TheVariants.{HttpUri, HttpPath, HttpQuery}
use Rattle.event_order.specs.declared.command.HostCommand.TheVariants.{HttpMethod, HttpHost}
use Rattle.event_order.specs.declared.command.HostCommand.TheVariants.{HttpRequestNum, HttpVersion}
use Rattle.event_order.specs.declared.command.HostCommand.TheVariants.{HttpHeader, HttpCookie}
use Rattle.event_order.specs.declared.command.HostCommand.TheVariants.{HttpStatus, HttpCollect}
use Rattle.event_order.specs.declared.command.HostCommand.TheVariants.{HttpRelease, HttpClose}
use Rattle.event_order.specs.declared.command.HostCommand.TheVariants.{HttpPayload, HttpRespond}
use Rattle.event_order.specs.declared.command.HostCommand.TheVariants.{HttpRedirect}
use Rattle.event_order.proofs.Found.{found_passes}

abbrev pub event_named : List ℕ → EventName → Type 0
event_named t e = find (λ x. bytes_eq (event_text x) t) every_event ≡ Some e

abbrev pub command_named : List ℕ → HostCommand → Type 0
command_named t c = find (λ x. bytes_eq (command_row x).name t) every_command ≡ Some c

event_at_text : (e : EventName) → event_named (event_text e) e
event_at_text RuleInit = refl
event_at_text ClientAccepted = refl
event_at_text ClientData = refl
event_at_text ClientClosed = refl
event_at_text ServerConnected = refl
event_at_text ServerData = refl
event_at_text ServerClosed = refl
event_at_text LbSelected = refl
event_at_text LbFailed = refl
event_at_text HttpRequest = refl
event_at_text HttpRequestData = refl
event_at_text HttpResponse = refl
event_at_text HttpResponseData = refl

command_at_name : (c : HostCommand) → command_named (command_row c).name c
command_at_name Log = refl
command_at_name Class = refl
command_at_name Table = refl
command_at_name After = refl
command_at_name ActiveMembers = refl
command_at_name Clock = refl
command_at_name IpClientAddr = refl
command_at_name TcpClientPort = refl
command_at_name LbServer = refl
command_at_name Pool = refl
command_at_name Node = refl
command_at_name Reject = refl
command_at_name Drop = refl
command_at_name TcpClose = refl
command_at_name TcpCollect = refl
command_at_name TcpRelease = refl
command_at_name TcpRespond = refl
command_at_name TcpPayload = refl
command_at_name IpServerAddr = refl
command_at_name LbReselect = refl
command_at_name LbDetach = refl
command_at_name HttpUri = refl
command_at_name HttpPath = refl
command_at_name HttpQuery = refl
command_at_name HttpMethod = refl
command_at_name HttpHost = refl
command_at_name HttpRequestNum = refl
command_at_name HttpVersion = refl
command_at_name HttpHeader = refl
command_at_name HttpCookie = refl
command_at_name HttpStatus = refl
command_at_name HttpCollect = refl
command_at_name HttpRelease = refl
command_at_name HttpClose = refl
command_at_name HttpPayload = refl
command_at_name HttpRespond = refl
command_at_name HttpRedirect = refl

pub event_by_text : (t : List ℕ) (e : EventName) → event_named t e ↔ (t ≡ event_text e)
event_by_text t e = (
  λ h. sym ((bytes_eq-Decides (event_text e) t).0 (found_passes (λ x. bytes_eq (event_text x) t) every_event e h)),
  λ h. subst (λ u. event_named u e) (sym h) (event_at_text e),
)

pub command_by_name : (t : List ℕ) (c : HostCommand) → command_named t c ↔ (t ≡ (command_row c).name)
command_by_name t c = (
  λ h. sym ((bytes_eq-Decides (command_row c).name t).0 (found_passes (λ x. bytes_eq (command_row x).name t) every_command c h)),
  λ h. subst (λ u. command_named u c) (sym h) (command_at_name c),
)
