-- What each request does to the state, and outside the script (iRules: the page of each command).
use Rattle.std.specs.Prelude.{ℕ, ◌+◌, List, [], ◌∷◌, ◌++◌, length, take, drop, true, Option}
use Rattle.std.specs.Prelude.{Some, None, ◌==◌, nat_lt, if◌then◌else◌}
use Rattle.std.specs.Fmt.{decimal}
use Rattle.px_bytes.specs.Address.{ip_text}
use Rattle.px_bytes.specs.FaultText.{too_long}
use Rattle.px_bytes.specs.Host.{HostStep, Gives, Faults, Asks, Logged, Sent}
use Rattle.px_bytes.specs.declared.addr.Side.{Side}
use Rattle.px_bytes.specs.declared.addr.Side.TheVariants.{Client, Server}
use Rattle.irule_net.specs.FaultText.{reselects_spent}
use Rattle.irule_net.specs.State.{asked_bytes, collected, gone, holds, no_collect, respond_limit}
use Rattle.irule_net.specs.State.{with_collected}
use Rattle.irule_net.specs.declared.request.Request.{Request}
use Rattle.irule_net.specs.declared.request.Request.TheVariants as request
use Rattle.irule_net.specs.declared.request.Tell.{Tell}
use Rattle.irule_net.specs.declared.request.Tell.TheVariants as tell
use Rattle.irule_net.specs.declared.state.Asks.TheVariants.{Stated}
use Rattle.irule_net.specs.declared.state.Ending.{Ending}
use Rattle.irule_net.specs.declared.state.NetState.{NetState}
use Rattle.irule_net.specs.declared.state.Selected.{Selected}
use Rattle.irule_net.specs.declared.state.Target.{Target}
use Rattle.irule_net.specs.declared.state.Target.TheVariants.{Default, PoolOf, MemberOf, NodeAt}

abbrev pub Step : Type 0
Step = HostStep NetState

-- before a selection there is no address
abbrev pub server_text : Option Selected → List ℕ
server_text None = []
server_text (Some selected) = ip_text selected.addr.ip

abbrev pub port_text : Option Selected → List ℕ
port_text None = []
port_text (Some selected) = decimal selected.addr.port

-- the pool that was chosen, else the default one; none for a node
abbrev pub target_pool : List ℕ → Target → List ℕ
target_pool pool Default = pool
target_pool pool (PoolOf name) = name
target_pool pool (MemberOf name addr) = name
target_pool pool (NodeAt addr) = []

-- before a selection it is that of the choice
abbrev pub pool_text : NetState → Option Selected → List ℕ
pool_text s None = target_pool s.pool s.target
pool_text s (Some selected) = selected.pool

-- what is told of the state, in an event of this side
abbrev pub told : Tell → Side → NetState → List ℕ
told tell.ClientAddr side s = ip_text s.from.ip
told tell.ClientPort side s = decimal s.from.port
told tell.ServerAddr side s = server_text s.selected
told tell.SelectedPool side s = pool_text s s.selected
told tell.SelectedPort side s = port_text s.selected
told tell.Held side s = (collected side s).held
told tell.HeldLength side s = decimal (length (collected side s).held)

-- the first command that ends the connection says how
abbrev pub first_ending : Option Ending → Ending → Option Ending
first_ending None ending = Some ending
first_ending (Some before) ending = Some before

abbrev pub ends : Ending → NetState → NetState
ends ending s = record s { wishes = record s.wishes { ends = first_ending s.wishes.ends ending } }

-- `TCP::collect N`: so many bytes beyond those that are held, in place of an earlier collect of the
-- side; 0 has no effect
abbrev pub collects : Side → ℕ → NetState → Step
collects side n s =
    if n == 0 then Gives [] s []
    else (if holds (length (collected side s).held) (gone side s) n
    then Gives [] (with_collected side (record (collected side s) { asks = Stated n }) s) []
    else Faults too_long s [])

-- the held bytes of a side are let go, and its collect is over
abbrev pub released : Side → NetState → NetState
released side s = record (with_collected side no_collect s) {
  wishes = record s.wishes {
    let_go = s.wishes.let_go + length (collected side s).held;
    released = true;
  };
}

-- `TCP::release`: the held bytes go to the other side; where there is no server yet they wait
abbrev pub releases : Side → NetState → Step
releases Server s = Gives [] (released Server s) (Sent Client s.server.held ∷ [])
releases Client s =
    if s.relays then Gives [] (released Client s) (Sent Server s.client.held ∷ [])
    else Gives [] (record (released Client s) { loose = s.loose ++ s.client.held }) []

-- `TCP::respond TEXT`: the text goes to the event's side
abbrev pub responds : Side → List ℕ → NetState → Step
responds side text s =
    if nat_lt respond_limit (s.wishes.sent + length text) then Faults too_long s []
    else Gives [] (record s {
      wishes = record s.wishes { sent = s.wishes.sent + length text };
    }) (Sent side text ∷ [])

-- so many bytes from a place on replaced, or as many as are there
abbrev pub replaced : ℕ → ℕ → List ℕ → List ℕ → List ℕ
replaced offset count text held = take offset held ++ text ++ drop count (drop offset held)

-- the held bytes of a side changed to these, where they and what a collect asks for may be held
abbrev pub holds_instead : Side → List ℕ → NetState → Step
holds_instead side held s =
    if holds (length held) (gone side s) (asked_bytes (collected side s).asks)
    then Gives [] (with_collected side (record (collected side s) { held = held }) s) []
    else Faults too_long s []

-- `TCP::payload replace OFFSET LENGTH TEXT`
abbrev pub replaces : Side → ℕ → ℕ → List ℕ → NetState → Step
replaces side offset count text s =
    holds_instead side (replaced offset count text (collected side s).held) s

-- the most selections that are asked for behind the first
abbrev pub reselect_limit : ℕ
reselect_limit = 16

-- another selection, by this choice
abbrev pub reselects : Target → NetState → Step
reselects target s =
    if nat_lt s.reselects reselect_limit then Gives [] (record s {
      target = target;
      reselects = s.reselects + 1;
      wishes = record s.wishes { reselects = true };
    }) []
    else Faults reselects_spent s []

-- what a request does in an event of this side
abbrev pub done : Side → Request → NetState → Step
done side (request.Gives text) s = Gives text s []
done side (request.Tells tell) s = Gives (told tell side s) s []
done side (request.Asks call) s = Asks call s
done side (request.Logs text) s = Gives [] s (Logged text ∷ [])
done side (request.Chooses target) s = Gives [] (record s { target = target }) []
done side (request.Ends ending) s = Gives [] (ends ending s) []
done side (request.Collects n) s = collects side n s
done side request.Releases s = releases side s
done side (request.Responds text) s = responds side text s
done side (request.Replaces offset count text) s = replaces side offset count text s
done side request.Reselects s = reselects s.target s
done side (request.ReselectsFrom target) s = reselects target s
done side request.Detaches s =
    Gives [] (record s { wishes = record s.wishes { detaches = true } }) []
