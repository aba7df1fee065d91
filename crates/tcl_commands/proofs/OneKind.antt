-- No name is of two kinds.
use Rattle.std.proofs.Common.{◌≡◌, ℕ, List, [], ◌∷◌, Bool, true, false, Option, Some, find, cond, refl, sym, ap}
use Rattle.std.proofs.Common.{◌∙◌}
use Rattle.std.proofs.lemmas.Bool.{false≢true}
use Rattle.std.proofs.lemmas.Slice.Eq.{bytes_eq-Decides}
use Rattle.std.specs.Prelude.{is_some}
use Rattle.std.specs.Str.{bytes_eq}
use Rattle.event_order.specs.Command.{IsHostCommand, command_row}
use Rattle.event_order.specs.declared.command.HostCommand.{HostCommand}
use Rattle.event_order.specs.declared.command.HostCommand.TheVariants as host
use Rattle.tcl_commands.specs.Kind.{is_pure, is_control, OneKind}
use Rattle.tcl_commands.specs.PureCommand.{name_of, every_pure}
use Rattle.tcl_commands.specs.declared.kind.Kind.TheVariants.{Pure, Control, Host, Unknown}
use Rattle.tcl_commands.specs.declared.pure_command.PureCommand.{PureCommand}
use Rattle.tcl_commands.specs.declared.pure_command.PureCommand.TheVariants as pure

-- NAMES

host_not_pure : (h : HostCommand) → is_pure (command_row h).name ≡ false
host_not_pure host.Log = refl
host_not_pure host.Class = refl
host_not_pure host.Table = refl
host_not_pure host.After = refl
host_not_pure host.ActiveMembers = refl
host_not_pure host.Clock = refl
host_not_pure host.IpClientAddr = refl
host_not_pure host.TcpClientPort = refl
host_not_pure host.LbServer = refl
host_not_pure host.Pool = refl
host_not_pure host.Node = refl
host_not_pure host.Reject = refl
host_not_pure host.Drop = refl
host_not_pure host.TcpClose = refl
host_not_pure host.TcpCollect = refl
host_not_pure host.TcpRelease = refl
host_not_pure host.TcpRespond = refl
host_not_pure host.TcpPayload = refl
host_not_pure host.IpServerAddr = refl
host_not_pure host.LbReselect = refl
host_not_pure host.LbDetach = refl
host_not_pure host.HttpUri = refl
host_not_pure host.HttpPath = refl
host_not_pure host.HttpQuery = refl
host_not_pure host.HttpMethod = refl
host_not_pure host.HttpHost = refl
host_not_pure host.HttpRequestNum = refl
host_not_pure host.HttpVersion = refl
host_not_pure host.HttpHeader = refl
host_not_pure host.HttpCookie = refl
host_not_pure host.HttpStatus = refl
host_not_pure host.HttpCollect = refl
host_not_pure host.HttpRelease = refl
host_not_pure host.HttpClose = refl
host_not_pure host.HttpPayload = refl
host_not_pure host.HttpRespond = refl
host_not_pure host.HttpRedirect = refl

host_not_control : (h : HostCommand) → is_control (command_row h).name ≡ false
host_not_control host.Log = refl
host_not_control host.Class = refl
host_not_control host.Table = refl
host_not_control host.After = refl
host_not_control host.ActiveMembers = refl
host_not_control host.Clock = refl
host_not_control host.IpClientAddr = refl
host_not_control host.TcpClientPort = refl
host_not_control host.LbServer = refl
host_not_control host.Pool = refl
host_not_control host.Node = refl
host_not_control host.Reject = refl
host_not_control host.Drop = refl
host_not_control host.TcpClose = refl
host_not_control host.TcpCollect = refl
host_not_control host.TcpRelease = refl
host_not_control host.TcpRespond = refl
host_not_control host.TcpPayload = refl
host_not_control host.IpServerAddr = refl
host_not_control host.LbReselect = refl
host_not_control host.LbDetach = refl
host_not_control host.HttpUri = refl
host_not_control host.HttpPath = refl
host_not_control host.HttpQuery = refl
host_not_control host.HttpMethod = refl
host_not_control host.HttpHost = refl
host_not_control host.HttpRequestNum = refl
host_not_control host.HttpVersion = refl
host_not_control host.HttpHeader = refl
host_not_control host.HttpCookie = refl
host_not_control host.HttpStatus = refl
host_not_control host.HttpCollect = refl
host_not_control host.HttpRelease = refl
host_not_control host.HttpClose = refl
host_not_control host.HttpPayload = refl
host_not_control host.HttpRespond = refl
host_not_control host.HttpRedirect = refl

pure_not_control : (c : PureCommand) → is_control (name_of c) ≡ false
pure_not_control pure.String = refl
pure_not_control pure.List = refl
pure_not_control pure.Lindex = refl
pure_not_control pure.Llength = refl
pure_not_control pure.Lrange = refl
pure_not_control pure.Lsearch = refl
pure_not_control pure.Lsort = refl
pure_not_control pure.Concat = refl
pure_not_control pure.Split = refl
pure_not_control pure.Join = refl
pure_not_control pure.Format = refl
pure_not_control pure.Getfield = refl
pure_not_control pure.B64encode = refl
pure_not_control pure.B64decode = refl
pure_not_control pure.Sha256 = refl
pure_not_control pure.UriEncode = refl
pure_not_control pure.UriDecode = refl
pure_not_control pure.IpAddr = refl

found_by : (name : List ℕ) (c : PureCommand) (t : Bool) (more : Option PureCommand) → bytes_eq (name_of c) name ≡ t
    → is_some (cond t (Some c) more) ≡ true → (is_some more ≡ true → (d : PureCommand) × (name ≡ name_of d))
    → (d : PureCommand) × (name ≡ name_of d)
found_by name c true more e some rest = (c, sym ((bytes_eq-Decides (name_of c) name).0 e))
found_by name c false more e some rest = rest some

named : (name : List ℕ) (cs : List PureCommand) → is_some (find (λ c. bytes_eq (name_of c) name) cs) ≡ true
    → (d : PureCommand) × (name ≡ name_of d)
named name [] some = absurd (false≢true some)
named name (c ∷ cs) some = found_by name c (bytes_eq (name_of c) name) _ refl some (named name cs)

both : (t : Bool) → t ≡ true → t ≡ false → ⊥
both true a b = false≢true (sym b)
both false a b = false≢true a

not_pure_and_control : (name : List ℕ) → is_pure name ≡ true → is_control name ≡ true → ⊥
not_pure_and_control name p c =
    let n = named name every_pure p in both (is_control name) c (ap is_control n.1 ∙ pure_not_control n.0)

not_pure_and_host : (name : List ℕ) → is_pure name ≡ true → IsHostCommand name → ⊥
not_pure_and_host name p h = both (is_pure name) p (ap is_pure h.1 ∙ host_not_pure h.0)

not_control_and_host : (name : List ℕ) → is_control name ≡ true → IsHostCommand name → ⊥
not_control_and_host name c h = both (is_control name) c (ap is_control h.1 ∙ host_not_control h.0)

pub one_kind : OneKind
one_kind name Pure Pure a b = refl
one_kind name Pure Control a b = absurd (not_pure_and_control name a b)
one_kind name Pure Host a b = absurd (not_pure_and_host name a b)
one_kind name Pure Unknown a b = absurd (both (is_pure name) a b.0)
one_kind name Control Pure a b = absurd (not_pure_and_control name b a)
one_kind name Control Control a b = refl
one_kind name Control Host a b = absurd (not_control_and_host name a b)
one_kind name Control Unknown a b = absurd (both (is_control name) a b.1)
one_kind name Host Pure a b = absurd (not_pure_and_host name b a)
one_kind name Host Control a b = absurd (not_control_and_host name b a)
one_kind name Host Host a b = refl
one_kind name Host Unknown a b = absurd (b.2 a)
one_kind name Unknown Pure a b = absurd (both (is_pure name) b a.0)
one_kind name Unknown Control a b = absurd (both (is_control name) b a.1)
one_kind name Unknown Host a b = absurd (a.2 b)
one_kind name Unknown Unknown a b = refl
