-- What a monitors' file without faults says: its monitors, and the members that they probe.
use Rattle.std.specs.Prelude.{ℕ, ℤ, ◌+◌, ◌*◌, true, List, [], ◌∷◌, ◌++◌, map, Option, Some, None}
use Rattle.std.specs.Prelude.{option_and_then, option_map, slice_get, unwrap_or}
use Rattle.toml.specs.Data.{Data, Members, as_integer, as_table, get_member}
use Rattle.pools.specs.declared.member.Member.{Member}
use Rattle.config.specs.Documents.{or_none}
use Rattle.config.specs.Settings.{each, one}
use Rattle.config.specs.Texts.{text_at}
use Rattle.config.specs.Values.{in_range}
use Rattle.config.specs.declared.config.PoolSettings.{PoolSettings}
use Rattle.pool_monitor.specs.Documents.{monitors_at, pool_place, probing_at}
use Rattle.pool_monitor.specs.Keys.{KeyKind, TableKey, whole, text, probing, array, interval_key}
use Rattle.pool_monitor.specs.Keys.{pool_key, recv_key, send_key, timeout_key}
use Rattle.pool_monitor.specs.Pump.{Watch}
use Rattle.pool_monitor.specs.declared.monitor.HttpCheck.{HttpCheck}
use Rattle.pool_monitor.specs.declared.monitor.Monitor.{Monitor}
use Rattle.pool_monitor.specs.declared.probe.ProbedMember.{ProbedMember}
use Rattle.pool_monitor.specs.declared.value.Probing.{Probing}
use Rattle.pool_monitor.specs.declared.value.Probing.TheVariants.{Tcp, Http, Unknown}

abbrev pub whole_or : KeyKind → Option ℤ → ℕ
whole_or (whole low high usual) None = usual
whole_or (whole low high usual) (Some n) = unwrap_or (in_range low high n) usual
whole_or (text least most) n = 0
whole_or probing n = 0
whole_or array n = 0

abbrev pub whole_at : TableKey → Members → ℕ
whole_at k ms = whole_or k.kind (option_and_then as_integer (get_member k.name ms))

-- a text that is required
abbrev pub given : TableKey → Members → List ℕ
given k ms = unwrap_or (text_at k.name ms) []

-- ---- monitors

abbrev pub check_of : Members → HttpCheck
check_of ms = record { send = given (send_key true) ms; recv = given (recv_key true) ms }

abbrev pub http_by : Probing → Members → Option HttpCheck
http_by Tcp ms = None
http_by Http ms = Some (check_of ms)
http_by Unknown ms = None

abbrev pub monitor_of : Members → Monitor
monitor_of ms = record {
  pool = given pool_key ms;
  http = http_by (probing_at ms) ms;
  interval = whole_at interval_key ms;
  timeout = whole_at timeout_key ms;
}

abbrev pub monitor_item : Data → List Monitor
monitor_item d = one (option_map monitor_of (as_table d))

abbrev pub monitors_of : Members → List Monitor
monitors_of ms = each monitor_item (or_none (monitors_at ms))

-- ---- their members

-- the members of the pool at this place
abbrev pub members_by : List PoolSettings → Option ℕ → List Member
members_by ps at = unwrap_or (option_map (λ p. p.members) (option_and_then (slice_get ps) at)) []

-- the members of the first pool of a name
abbrev pub members_at : List PoolSettings → List ℕ → List Member
members_at ps name = members_by ps (pool_place ps name)

-- before its first probe
abbrev pub new_member : ℕ → Monitor → Member → ProbedMember
new_member at m member = record {
  monitor = at;
  member = member.addr;
  interval = m.interval * 1000;
  timeout = m.timeout * 1000;
  sent = None;
  good = 0;
  up = true;
  probe = None;
}

abbrev pub members_from : List PoolSettings → ℕ → List Monitor → List ProbedMember
members_from ps at [] = []
members_from ps at (m ∷ ms) =
    map (new_member at m) (members_at ps m.pool) ++ members_from ps (at + 1) ms

abbrev pub watch_of : List PoolSettings → Members → Watch
watch_of ps ms = record { monitors = monitors_of ms; members = members_from ps 0 (monitors_of ms) }
