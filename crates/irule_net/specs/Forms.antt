-- The forms of network commands, with their words (iRules: the page of each command). Each form may
-- be called in all events of its command's row, which `command_row` of event_order has.
use Rattle.std.specs.Prelude.{ℕ, Bool, true, false, ◌||◌, List, [], ◌∷◌, codes, Option, Some}
use Rattle.std.specs.Prelude.{None, ◌==◌, nat_le, if◌then◌else◌}
use Rattle.std.specs.Str.{bytes_eq}
use Rattle.event_order.specs.declared.command.HostCommand.{HostCommand}
use Rattle.event_order.specs.declared.command.HostCommand.TheVariants as command
use Rattle.irule_net.specs.declared.form.Form.{Form}
use Rattle.irule_net.specs.declared.form.Form.TheVariants as form

-- `class`, and the word behind it
abbrev pub class_form : List (List ℕ) → Option Form
class_form [] = None
class_form (word ∷ words) =
    if bytes_eq word (codes "match") then Some form.Match
    else (if bytes_eq word (codes "search") then Some form.Search
    else (if bytes_eq word (codes "lookup") then Some form.Lookup
    else (if bytes_eq word (codes "exists") then Some form.Exists
    else (if bytes_eq word (codes "size") then Some form.Size
    else (if bytes_eq word (codes "names") then Some form.Names else None)))))

abbrev pub clock_form : List (List ℕ) → Option Form
clock_form [] = None
clock_form (word ∷ words) = if bytes_eq word (codes "seconds") then Some form.Seconds else None

abbrev pub server_form : List (List ℕ) → Option Form
server_form [] = None
server_form (word ∷ words) =
    if bytes_eq word (codes "pool") then Some form.SelectedPool
    else (if bytes_eq word (codes "addr") then Some form.SelectedAddr
    else (if bytes_eq word (codes "port") then Some form.SelectedPort else None))

-- The word behind the command is an option, which has the number of words of one of its forms.
abbrev pub payload_form : List (List ℕ) → Option Form
payload_form [] = Some form.Payload
payload_form (word ∷ []) =
    if bytes_eq word (codes "length") then Some form.PayloadLength else None
payload_form (word ∷ (at ∷ (n ∷ (text ∷ [])))) =
    if bytes_eq word (codes "replace") then Some form.Replace else None
payload_form words = None

abbrev pub reselect_form : List (List ℕ) → Option Form
reselect_form [] = Some form.Reselect
reselect_form (word ∷ (name ∷ [])) =
    if bytes_eq word (codes "pool") then Some form.ReselectPool
    else (if bytes_eq word (codes "node") then Some form.ReselectNode else None)
reselect_form (word ∷ (addr ∷ (port ∷ []))) =
    if bytes_eq word (codes "node") then Some form.ReselectNode else None
reselect_form words = None

-- The form of a command by the words behind it. A command that has one form alone has that one,
-- whatever its words.
abbrev pub form_of : HostCommand → List (List ℕ) → Option Form
form_of command.Log words = Some form.Log
form_of command.Class words = class_form words
form_of command.Table words = Some form.Table
form_of command.After words = Some form.After
form_of command.ActiveMembers words = Some form.ActiveMembers
form_of command.Clock words = clock_form words
form_of command.IpClientAddr words = Some form.ClientAddr
form_of command.TcpClientPort words = Some form.ClientPort
form_of command.LbServer words = server_form words
form_of command.Pool words = Some form.Pool
form_of command.Node words = Some form.Node
form_of command.Reject words = Some form.Reject
form_of command.Drop words = Some form.Reject
form_of command.TcpClose words = Some form.Close
form_of command.TcpCollect words = Some form.Collect
form_of command.TcpRelease words = Some form.Release
form_of command.TcpRespond words = Some form.Respond
form_of command.TcpPayload words = payload_form words
form_of command.IpServerAddr words = Some form.ServerAddr
form_of command.LbReselect words = reselect_form words
form_of command.LbDetach words = Some form.Detach
form_of other words = None

-- How many words stand behind the command in a form, its own word counted. `table` has rules of its
-- own.
abbrev pub arity_fits : Form → ℕ → Bool
arity_fits form.Log n = n == 1 || n == 2
arity_fits form.Table n = true
arity_fits form.Pool n = n == 1 || n == 3 || n == 4
arity_fits form.Node n = n == 1 || n == 2
arity_fits form.Replace n = n == 4
arity_fits form.Match n = n == 4 || n == 5
arity_fits form.Search n = n == 4 || n == 5
arity_fits form.Lookup n = n == 3
arity_fits form.Exists n = n == 2
arity_fits form.Size n = n == 2
arity_fits form.Names n = n == 2
arity_fits form.ReselectPool n = n == 2
arity_fits form.ReselectNode n = n == 2 || n == 3
arity_fits form.After n = n == 1
arity_fits form.ActiveMembers n = n == 1
arity_fits form.Seconds n = n == 1
arity_fits form.SelectedPool n = n == 1
arity_fits form.SelectedAddr n = n == 1
arity_fits form.SelectedPort n = n == 1
arity_fits form.Collect n = n == 1
arity_fits form.Respond n = n == 1
arity_fits form.PayloadLength n = n == 1
arity_fits form n = n == 0

-- Some form of the command has so many words behind it. Where the first of them has to name a form,
-- any number will do that isn't 0.
abbrev pub some_fits : HostCommand → ℕ → Bool
some_fits command.TcpPayload n = n == 1 || n == 4
some_fits command.LbReselect n = n == 2 || n == 3
some_fits other n = nat_le 1 n

-- the command isn't there on a virtual server with HTTP
abbrev pub without_http : HostCommand → Bool
without_http command.TcpCollect = true
without_http command.TcpRelease = true
without_http command.TcpRespond = true
without_http command.TcpPayload = true
without_http other = false
