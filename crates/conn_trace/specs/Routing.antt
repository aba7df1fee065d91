-- Where a connection goes behind an event and behind a message, from the host's state and whether there is a
-- server: with HTTP a request goes to the server that is there, or to another; its body is gathered first where
-- a rule collects; and an answer of a rule drops what is left of it.
use Rattle.std.specs.Prelude.{ℕ, zero, suc, List, [], ◌∷◌, Bool, true, false, ◌&&◌, ◌||◌, not, nat_eq}
use Rattle.std.specs.Prelude.{Option, Some, None, if◌then◌else◌}
use Rattle.std.specs.Str.{bytes_eq}
use Rattle.px_bytes.specs.declared.addr.Addr.{Addr}
use Rattle.px_bytes.specs.declared.addr.Side.{Side}
use Rattle.px_bytes.specs.declared.addr.Side.TheVariants.{Client, Server}
use Rattle.irule_net.specs.declared.state.Asks.{Asks}
use Rattle.irule_net.specs.declared.state.Asks.TheVariants.{NotAsked, Stated}
use Rattle.irule_net.specs.declared.state.Target.{Target}
use Rattle.irule_net.specs.declared.state.Target.TheVariants.{Default, PoolOf, MemberOf, NodeAt}
use Rattle.irule_http.specs.State.{expects_by}
use Rattle.conn_trace.specs.Host.{HostState, http_of}
use Rattle.conn_trace.specs.Http.{client_goes_on, server_persisting, wanted_more}
use Rattle.conn_trace.specs.Item.{Closed, Unselected}
use Rattle.conn_trace.specs.State.{Link, Up, Phase, Behind, BeforeSelect, BehindMessage, AtHead}
use Rattle.conn_trace.specs.State.{Continuing, Gathering, AtReuse, GivingUp, Heading, Dropping}
use Rattle.conn_trace.specs.State.{AtResponse, Choosing, Releasing, Relaying, Collecting, Finishing}

abbrev pub behind_accepted : Asks → Phase
behind_accepted NotAsked = Choosing
behind_accepted (Stated n) = Collecting

-- the client's bytes that were released before the server was there go to it first
abbrev pub behind_connected : List ℕ → Phase
behind_connected [] = Relaying
behind_connected (b ∷ bs) = Releasing

-- the choice of a server with the default pool by its name
abbrev pub same_addr : Addr → Addr → Bool
same_addr a b = nat_eq a.ip b.ip && nat_eq a.port b.port

abbrev pub resolved : (default : List ℕ) → Target → Target
resolved default Default = PoolOf default
resolved default target = target

abbrev pub same_target : Target → Target → Bool
same_target (PoolOf a) (PoolOf b) = bytes_eq a b
same_target (MemberOf p a) (MemberOf q b) = bytes_eq p q && same_addr a b
same_target (NodeAt a) (NodeAt b) = same_addr a b
same_target s t = false

abbrev pub chosen : HostState → Target
chosen h = resolved h.net.pool h.net.target

abbrev pub serves_it : Option Target → Target → Bool
serves_it None t = false
serves_it (Some s) t = same_target s t

-- a rule gave the server connection up in this request or response
abbrev pub detaching : HostState → Bool
detaching h = (http_of h).detaches || h.net.wishes.detaches

-- before it is used again the open server connection is given up
abbrev pub is_left : HostState → Bool
is_left h = detaching h || not (serves_it (http_of h).serves (chosen h))

-- behind a response it is given up
abbrev pub is_spent_link : HostState → Bool
is_spent_link h = detaching h || not (server_persisting (http_of h).answered_by)

-- the next request, or the end
abbrev pub next_request : HostState → Phase
next_request h = if client_goes_on (http_of h) then AtHead else Finishing Closed

-- where a request goes on to its server
abbrev pub routed : Link → HostState → Phase
routed Up h = if is_left h then GivingUp BeforeSelect else AtReuse
routed other h = Choosing

-- its body is gathered first, where a rule collects
abbrev pub gathering : Side → ℕ → HostState → Phase → Phase
gathering side zero h other = other
gathering side (suc n) h other = Gathering side (suc n) (http_of h).reader

abbrev pub behind_asked : Link → HostState → Phase
behind_asked link h = gathering Client (wanted_more (http_of h)) h (routed link h)

abbrev pub behind_told : (expects : Bool) → Link → HostState → Phase
behind_told true link h = Continuing
behind_told false link h = behind_asked link h

-- a rule answered: the client of a request that expects to be told to go on never sends its body
abbrev pub behind_answer : (expects : Bool) → HostState → Phase
behind_answer true h = Finishing Closed
behind_answer false h = Dropping (http_of h).reader

abbrev pub behind_request : Option Bool → Link → HostState → Phase
behind_request (Some closing) link h = behind_answer (expects_by (http_of h).came) h
behind_request None link h = behind_told (expects_by (http_of h).came) link h

abbrev pub behind_request_data : Option Bool → Link → HostState → Phase
behind_request_data (Some closing) link h = Dropping (http_of h).reader
behind_request_data None link h = behind_asked link h

abbrev pub behind_response : Option Bool → HostState → Phase
behind_response (Some closing) h = GivingUp BehindMessage
behind_response None h = gathering Server (wanted_more (http_of h)) h (Heading Server)

-- behind LB_FAILED a rule may have answered
abbrev pub behind_failed : Option Bool → HostState → Phase
behind_failed (Some closing) h = Dropping (http_of h).reader
behind_failed None h = if h.net.wishes.reselects then Choosing else Finishing Unselected

abbrev pub behind_accept : (http : Bool) → HostState → Phase
behind_accept true h = AtHead
behind_accept false h = behind_accepted h.net.client.asks

abbrev pub behind_connect : (http : Bool) → HostState → Phase
behind_connect true h = Heading Client
behind_connect false h = behind_connected h.net.loose

-- a message of a side was sent on whole
abbrev pub behind_message : Side → HostState → Phase
behind_message Client h = AtResponse
behind_message Server h = if is_spent_link h then GivingUp BehindMessage else next_request h

abbrev pub behind_retired : Behind → HostState → Phase
behind_retired BeforeSelect h = Choosing
behind_retired BehindMessage h = next_request h
