-- Which of the configurations that load can be run today, and what the core runs for them: virtual
-- servers without cookies, and rules that name no command of the host but those that a connection has
-- today, and have 65,536 procedures at most. Where one virtual server speaks HTTP, all rules may name
-- what such a connection has.
use Rattle.std.specs.Prelude.{◌≡◌, ℕ, List, map, Bool, true, false, ◌&&◌}
use Rattle.std.specs.Prelude.{Option}
use Rattle.std.specs.Prelude.{Some, None, is_none, slice_get, if◌then◌else◌}
use Rattle.std.specs.List.{list_all, list_any}
use Rattle.run_config.specs.declared.config.Persist.{Persist}
use Rattle.run_config.specs.declared.config.Persist.TheVariants as persist
use Rattle.config.specs.Filled.{filled}
use Rattle.config.specs.declared.reader.LoadedConfig as loaded
use Rattle.event_order.specs.Event.{every_event}
use Rattle.event_order.specs.declared.event.EventName.{EventName}
use Rattle.proxy.specs.HostCommands.{is_built}
use Rattle.run_config.specs.declared.config.Config.{Config}
use Rattle.run_config.specs.declared.config.Virtual.{Virtual}
use Rattle.rule_loader.specs.Handlers.{Handled, handler_view, handlers_at}
use Rattle.rule_loader.specs.declared.rule.Rule.{Rule}
use Rattle.tcl_trees.specs.Procedures.{Procedure, procs_view}

-- ---- a rule

abbrev pub bodies_at : EventName → Rule → List Handled
bodies_at event r = map handler_view (handlers_at event r.bodies)

abbrev pub has_built_bodies : (http : Bool) → Rule → EventName → Bool
has_built_bodies http r event = list_all (λ h. is_built http h.body) (bodies_at event r)

abbrev pub most_procedures : ℕ
most_procedures = 65536

abbrev pub has_few : List Procedure → Bool
has_few ps = is_none (slice_get ps most_procedures)

abbrev pub are_built : (http : Bool) → List Procedure → Bool
are_built http ps = list_all (λ p. is_built http p.body) ps

-- its bodies and procedures name no command that can't be run
abbrev pub is_rule_built : (http : Bool) → Rule → Bool
is_rule_built http r =
    list_all (has_built_bodies http r) every_event
    && (has_few (procs_view r.procs) && are_built http (procs_view r.procs))

-- ---- a virtual server

abbrev pub sets_no_cookie : Persist → Bool
sets_no_cookie persist.None = true
sets_no_cookie persist.SourceAddr = true
sets_no_cookie persist.Cookie = false

abbrev pub is_plain : Virtual → Bool
is_plain v = sets_no_cookie v.persist

abbrev pub speaks_http : List Virtual → Bool
speaks_http virtuals = list_any (λ v. v.http) virtuals

-- ---- a configuration

abbrev pub can_run : Config → Bool
can_run K =
    list_all is_plain K.virtuals && list_all (is_rule_built (speaks_http K.virtuals)) K.rules

abbrev pub if_built : Option Config → Option Config
if_built None = None
if_built (Some K) = if can_run K then Some K else None

-- what the core runs for a configuration that loaded, if it can be run
unfoldable pub run_of : loaded.LoadedConfig → Option Config
run_of C = if_built (filled C)

-- the core runs this configuration for that one
abbrev pub IsRun : loaded.LoadedConfig → Config → Type 0
IsRun C K = run_of C ≡ Some K

-- what is filled of it can be run
abbrev pub IsBuilt : loaded.LoadedConfig → Type 0
IsBuilt C = (K : Config) → filled C ≡ Some K → can_run K ≡ true
