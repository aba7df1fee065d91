-- The state of a connection's host, and what the host's commands give: the network commands of
-- irule_net, in the event that runs.
use Rattle.std.specs.Prelude.{ℕ, List, [], ◌∷◌, Bool, true, false, Option, Some, None}
use Rattle.std.specs.Prelude.{is_some, if◌then◌else◌}
use Rattle.px_bytes.specs.FaultText.{no_command}
use Rattle.px_bytes.specs.Host.{HostStep, Gives, Faults, Asks}
use Rattle.px_bytes.specs.declared.addr.Side.{Side}
use Rattle.tcl_trees.specs.Procedures.{Procedure}
use Rattle.event_order.specs.declared.command.HostCommand.{HostCommand}
use Rattle.event_order.specs.declared.command.HostCommand.TheVariants.{Log, Class, TcpRespond}
use Rattle.event_order.specs.declared.command.HostCommand.TheVariants.{IpClientAddr, IpServerAddr}
use Rattle.event_order.specs.declared.command.HostCommand.TheVariants.{ActiveMembers, Pool, Node}
use Rattle.event_order.specs.declared.command.HostCommand.TheVariants.{LbDetach, LbReselect, Reject, Drop}
use Rattle.event_order.specs.declared.command.HostCommand.TheVariants.{TcpClose, TcpCollect}
use Rattle.event_order.specs.declared.command.HostCommand.TheVariants.{TcpRelease, TcpPayload}
use Rattle.event_order.specs.declared.command.HostCommand.TheVariants.{TcpClientPort, LbServer}
use Rattle.event_order.specs.declared.command.HostCommand.TheVariants.{Table, Clock, After}
use Rattle.event_order.specs.declared.event.EventName.{EventName}
use Rattle.event_order.specs.declared.event.EventName.TheVariants.{ClientAccepted}
use Rattle.irule_net.specs.Checks.{command_of}
use Rattle.irule_net.specs.Commands.{is_http, net_step}
use Rattle.irule_net.specs.State.{new_state, with_collected}
use Rattle.irule_net.specs.declared.groups.Groups.{Groups}
use Rattle.irule_net.specs.declared.state.Collected.{Collected}
use Rattle.irule_net.specs.declared.state.NetState.{NetState}
use Rattle.irule_net.specs.declared.state.Selected.{Selected}
use Rattle.rule_model.specs.Setting.{Setting}
use Rattle.irule_http.specs.Commands.{http_step}
use Rattle.irule_http.specs.State.{no_http}
use Rattle.irule_http.specs.declared.state.Http.{Http}
use Rattle.conn_trace.specs.Setup.{Setup}

-- What the host's commands read and leave: the event that runs, and what network commands leave; where the
-- virtual server speaks HTTP, also what is known of the request at hand.
pub record HostState : Type 0 where
  pub event : EventName
  pub net : NetState
  pub http : Option Http

abbrev pub http_known : Option Http → Http
http_known None = no_http
http_known (Some http) = http

abbrev pub http_of : HostState → Http
http_of h = http_known h.http

-- the virtual server speaks HTTP
abbrev pub speaks_http : HostState → Bool
speaks_http h = is_some h.http

-- the host's state of an accepted connection
abbrev pub first_host : Setup → HostState
first_host g = record {
  event = ClientAccepted;
  net = new_state g.from g.port g.pool g.http;
  http = if g.http then Some no_http else None;
}

-- the same with this server selected, with this collect of a side, with these bytes that wait
abbrev pub with_selected : Option Selected → HostState → HostState
with_selected selected h = record h { net = record h.net { selected = selected } }

abbrev pub with_collect : Side → Collected → HostState → HostState
with_collect side c h = record h { net = with_collected side c h.net }

abbrev pub with_loose : List ℕ → HostState → HostState
with_loose loose h = record h { net = record h.net { loose = loose } }

-- The commands that there are today.
abbrev pub is_there : HostCommand → Bool
is_there Log = true
is_there Class = true
is_there IpClientAddr = true
is_there IpServerAddr = true
is_there TcpClientPort = true
is_there LbServer = true
is_there TcpRespond = true
is_there ActiveMembers = true
is_there Table = true
is_there Clock = true
is_there After = true
is_there Pool = true
is_there Node = true
is_there LbReselect = true
is_there LbDetach = true
is_there Reject = true
is_there Drop = true
is_there TcpClose = true
is_there TcpCollect = true
is_there TcpRelease = true
is_there TcpPayload = true
is_there other = false

-- the name is that of one of them
abbrev pub names_one : Option HostCommand → Bool
names_one None = false
names_one (Some command) = is_there command

-- what a network command gives, of the host's state
abbrev pub host_step : HostState → HostStep NetState → HostStep HostState
host_step h (Gives v s effects) = Gives v (record h { net = s }) effects
host_step h (Faults f s effects) = Faults f (record h { net = s }) effects
host_step h (Asks call s) = Asks call (record h { net = s })

abbrev pub first_word : List (List ℕ) → List ℕ
first_word [] = []
first_word (name ∷ words) = name

-- what a command with these words gives; a name of no command that is there is no command
abbrev pub net_command : Groups → HostState → List (List ℕ) → HostStep HostState
net_command groups h words =
    if names_one (command_of (first_word words))
    then host_step h (net_step groups h.event h.net words)
    else Faults (no_command (first_word words)) h []

-- what an HTTP command gives, of the host's state
abbrev pub http_done : HostState → HostStep Http → HostStep HostState
http_done h (Gives v http effects) = Gives v (record h { http = Some http }) effects
http_done h (Faults f http effects) = Faults f (record h { http = Some http }) effects
http_done h (Asks call http) = Asks call (record h { http = Some http })

-- where the virtual server speaks HTTP its commands are there too
abbrev pub commands_by : Option Http → Groups → HostState → List (List ℕ) → HostStep HostState
commands_by None groups h words = net_command groups h words
commands_by (Some http) groups h words =
    if is_http (first_word words) then http_done h (http_step h.event http words)
    else net_command groups h words

unfoldable pub commands : Groups → HostState → List (List ℕ) → HostStep HostState
commands groups h words = commands_by h.http groups h words

-- the host's commands on this setup; no law of the trace looks into them
abbrev pub host_table : Setup → HostState → List (List ℕ) → HostStep HostState
host_table g = commands g.groups

-- a body reads the static variables, uses the host's commands and calls its rule's procedures
abbrev pub body_setting : Setup → List Procedure → Setting HostState
body_setting g procedures =
    record { statics = Some g.statics; table = host_table g; procedures = procedures }
