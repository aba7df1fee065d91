-- What a relay or a collect does next, on plain data: of each side the collect and the stream, and
-- the recorded choices.
use Rattle.std.specs.Prelude.{ℕ, List, [], ◌∷◌, ◌++◌, length, Bool, true, false, ◌&&◌}
use Rattle.std.specs.Prelude.{Option, Some, None, nat_le, nat_lt, if◌then◌else◌}
use Rattle.px_bytes.specs.declared.addr.Side.{Side}
use Rattle.px_bytes.specs.declared.addr.Side.TheVariants.{Client, Server}
use Rattle.conn_trace.specs.Item.{Choice, PassesOn, Fires, Reuses}
use Rattle.irule_net.specs.State.{collected}
use Rattle.irule_net.specs.declared.state.Asks.{Asks}
use Rattle.irule_net.specs.declared.state.Asks.TheVariants.{NotAsked, Stated}
use Rattle.conn_trace.specs.Host.{HostState, with_collect}
use Rattle.conn_trace.specs.State.{Stream, TraceState, stream_of}
use Rattle.conn_trace.specs.State.{Ready, Nothing, Passable, IsMet}

-- a side of a relay: its collect and its stream
pub record Incoming : Type 0 where
  pub asks : Asks
  pub stream : Stream

abbrev pub incoming : Side → TraceState → Incoming
incoming side l = record { asks = (collected side l.host.net).asks; stream = stream_of side l }

abbrev pub ready : Asks → List ℕ → Ready
ready NotAsked [] = Nothing
ready NotAsked (b ∷ bs) = Passable
ready (Stated n) unread = if nat_le n (length unread) then IsMet else Nothing

abbrev pub ready_of : Incoming → Ready
ready_of i = ready i.asks i.stream.unread

abbrev pub is_nothing : Ready → Bool
is_nothing Nothing = true
is_nothing Passable = false
is_nothing IsMet = false

-- no more of a side is passed on or collected
abbrev pub is_done : Incoming → Bool
is_done i = i.stream.ended && is_nothing (ready_of i)

-- n bytes of a side may be passed on
abbrev pub passes : Asks → ℕ → List ℕ → Bool
passes NotAsked n [] = false
passes NotAsked n (b ∷ bs) = nat_lt 0 n && nat_le n (length (b ∷ bs))
passes (Stated k) n unread = false

-- the bytes of a side's stated collect, where it is met
abbrev pub meets : Asks → List ℕ → Option ℕ
meets NotAsked unread = None
meets (Stated n) unread = if nat_le n (length unread) then Some n else None

-- what is done next, with the choices behind it
pub data RelayAct : Type 0 where
  BothDone : RelayAct
  Passing : Side → ℕ → List Choice → RelayAct
  Firing : Side → ℕ → List Choice → RelayAct
  Resting : RelayAct

abbrev pub firing : Side → List Choice → Option ℕ → RelayAct
firing side more None = Resting
firing side more (Some n) = Firing side n more

abbrev pub by_side : Side → Incoming → Incoming → Incoming
by_side Client c s = c
by_side Server c s = s

abbrev pub chosen_act : Incoming → Incoming → List Choice → RelayAct
chosen_act c s [] = Resting
chosen_act c s (PassesOn side n ∷ more) =
    let i = by_side side c s in
    if passes i.asks n i.stream.unread then Passing side n more else Resting
chosen_act c s (Fires side ∷ more) =
    let i = by_side side c s in
    firing side more (meets i.asks i.stream.unread)
chosen_act c s (Reuses kept ∷ more) = Resting

-- a relay is done where both sides are
abbrev pub relay_act : Incoming → Incoming → List Choice → RelayAct
relay_act c s choices =
    if is_done c && is_done s then BothDone else chosen_act c s choices

-- the bytes of a met collect are held, and it is over
abbrev pub fired_host : Side → List ℕ → HostState → HostState
fired_host side bytes h =
    with_collect side (record { asks = NotAsked; held = (collected side h.net).held ++ bytes }) h

-- the choices behind one that the client's collect is met
abbrev pub behind_fires : List Choice → Option (List Choice)
behind_fires (Fires Client ∷ more) = Some more
behind_fires other = None

-- before there is a server the client's collect alone may be met
abbrev pub collect_act : ℕ → List ℕ → Option (List Choice) → RelayAct
collect_act n unread None = Resting
collect_act n unread (Some more) =
    if nat_le n (length unread) then Firing Client n more else Resting
