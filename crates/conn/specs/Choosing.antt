-- How a server is selected.
use Rattle.std.specs.Prelude.{◌≡◌, List, [], ◌∷◌, ℕ, codes, Option, Some, None}
use Rattle.px_bytes.specs.Address.{ip_text}
use Rattle.px_bytes.specs.declared.addr.Addr.{Addr}
use Rattle.irule_net.specs.Steps.{target_pool}
use Rattle.irule_net.specs.declared.state.NetState.{NetState}
use Rattle.irule_net.specs.declared.state.Target.{Target}
use Rattle.irule_net.specs.declared.state.Target.TheVariants.{Default, PoolOf, MemberOf, NodeAt}
use Rattle.conn_trace.specs.Selected.{any_member, only_member}
use Rattle.conn.specs.declared.connection.Conn.{Conn}
use Rattle.conn.specs.declared.events.At.TheVariants.{Selected, Failed}
use Rattle.conn.specs.declared.select.Plan.{Plan}
use Rattle.conn.specs.declared.select.Plan.TheVariants as plan
use Rattle.conn.specs.declared.setup.Setup.{Setup}
use Rattle.conn.specs.declared.stage.Stage.TheVariants as stage
use Rattle.conn.specs.declared.turn.Act.{Act}
use Rattle.conn.specs.declared.turn.Act.TheVariants as act
use Rattle.conn.specs.Changes.{Enters}
use Rattle.conn.specs.Hosts.{selected_host}

-- by the pool of the virtual server, if it has one
abbrev pub default_plan : List ℕ → Plan
default_plan [] = plan.Nothing
default_plan (b ∷ bs) = plan.Member (b ∷ bs) None

-- by what the rules chose last
abbrev pub plan_by : Target → List ℕ → Plan
plan_by Default pool = default_plan pool
plan_by (PoolOf name) pool = plan.Member name None
plan_by (MemberOf name addr) pool = plan.Member name (Some addr)
plan_by (NodeAt addr) pool = plan.Node addr

abbrev pub plan_of : NetState → Plan
plan_of net = plan_by net.target net.pool

-- which members of a pool will do
abbrev pub wanted_of : Option Addr → List (List ℕ)
wanted_of None = any_member
wanted_of (Some addr) = only_member addr

-- the shared call that selects one
abbrev pub asked_call : Setup → (from : Addr) → List ℕ → (wanted : List (List ℕ)) → List (List ℕ)
asked_call s from pool wanted = codes "select" ∷ s.name.now ∷ pool ∷ ip_text from.ip ∷ wanted

-- it waits for the reply to this call, with no server selected
pub record AsksFor (s : Setup) (pool : List ℕ) (only : Option Addr) (old new : Conn) (a : Act)
    : Type 0 where
  pub there : new.stage ≡ stage.Selecting
  pub vars : new.vars ≡ old.vars
  pub host : new.host ≡ selected_host None old.host
  pub ends : new.ends ≡ old.ends
  pub asks : a ≡ act.Asks (asked_call s old.host.net.from pool (wanted_of only))

abbrev pub ChoosesBy : Plan → Setup → Conn → Conn → Act → Type 0
ChoosesBy plan.Nothing s old new a =
    (a ≡ act.Goes) × Enters s Failed (selected_host None old.host) old.ends old new
ChoosesBy (plan.Node addr) s old new a =
    (a ≡ act.Goes)
    × Enters s Selected (selected_host (Some (record { pool = []; addr = addr })) old.host)
    old.ends old new
ChoosesBy (plan.Member pool only) s old new a = AsksFor s pool only old new a

abbrev pub Chooses : Setup → Conn → Conn → Act → Type 0
Chooses s old new a = ChoosesBy (plan_of old.host.net) s old new a

-- the address that the reply spells is selected, of the pool that was asked for
abbrev pub TakesChosen : Setup → Option Addr → Conn → Conn → Type 0
TakesChosen s None old new = Enters s Failed old.host old.ends old new
TakesChosen s (Some addr) old new =
    let pool = target_pool old.host.net.pool old.host.net.target in
    Enters s Selected (selected_host (Some (record { pool = pool; addr = addr })) old.host)
    old.ends old new
