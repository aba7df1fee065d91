-- A body goes byte by byte: what arrived of it is as many items.
use Rattle.std.specs.Prelude.{◌≡◌, ◌≤◌, ℕ, zero, suc, ◌+◌, List, [], ◌∷◌, ◌++◌, map, length, None, Bool}
use Rattle.px_bytes.specs.declared.addr.Side.{Side}
use Rattle.px_bytes.specs.declared.addr.Side.TheVariants.{Client}
use Rattle.conn_trace.specs.Item.{Item, Moved, Read}
use Rattle.http_frames.specs.declared.state.BodyState.{BodyState}
use Rattle.http_frames.specs.declared.state.BodyState.TheVariants as body
use Rattle.conn_trace.specs.Gates.{Counts, TakenCounts, other, to_take, room_limit, sent_from}
use Rattle.conn_trace.specs.Gates.{Met}
use Rattle.conn_trace.specs.Setup.{Setup}
use Rattle.conn_trace.specs.Bodies.{peer_of}
use Rattle.conn_trace.specs.State.{Forwarding, Dropping, Gathering, TraceState, stream_of, read_side}
use Rattle.conn_trace.specs.Fronts.{after_byte}
use Rattle.conn_trace.specs.Http.{with_gathered}
use Rattle.conn_trace.specs.Host.{HostState, http_of}
use Rattle.conn_trace.specs.Messages.{http_at}
use Rattle.conn_trace.specs.Trace.{Unfolds}

-- the item of a byte that is sent on
abbrev pub unit_item : ℕ → Side → ℕ → Item
unit_item number side b = Moved side 1 (peer_of number (other side)) (b ∷ [])

abbrev pub unit_items : ℕ → Side → List ℕ → List Item
unit_items number side bytes = map (unit_item number side) bytes

abbrev pub sending : Side → BodyState → Bool → Counts → TraceState → TraceState
sending side s standing sent l = record l { phase = Forwarding side s standing; sent = sent }

-- so many bytes more are of the body, or of the chunk that stands standing
abbrev pub Holds : ℕ → BodyState → Type 0
Holds n (body.Left k) = n ≤ k
Holds n (body.Chunk k) = n ≤ k
Holds n body.ToEnd = Unit {0}
Holds n s = n ≡ 0

-- where the reader stands behind so many bytes
abbrev pub after_bytes : ℕ → BodyState → BodyState
after_bytes zero s = s
after_bytes (suc n) s = after_bytes n (after_byte s)

-- bytes in front of the unread ones go one by one, and leave the rest
abbrev pub UnitsUnfold : Type 0
UnitsUnfold =
    (g : Setup) (l : TraceState) (side : Side) (s : BodyState) (standing : Bool)
    (bytes rest : List ℕ) (sent : Counts)
    → l.answers.cut ≡ None → (stream_of side l).unread ≡ bytes ++ rest
    → Holds (length bytes) s
    → let items = unit_items sent.number side bytes in
    Unfolds g (sending side s standing sent l) items
    (sending side (after_bytes (length bytes) s) standing (sent_from sent items)
    (read_side side (length bytes) l))

-- they may be given where all of them have room
abbrev pub UnitsMet : Type 0
UnitsMet =
    (sent : Counts) (took : TakenCounts) (side : Side) (number : ℕ) (bytes : List ℕ)
    → to_take sent took (other side) + length bytes ≤ room_limit
    → Met sent took (unit_items number side bytes)

-- ---- bytes that are dropped, and bytes that are gathered

abbrev pub dropping : BodyState → Counts → TraceState → TraceState
dropping s sent l = record l { phase = Dropping s; sent = sent }

abbrev pub read_items : Side → List ℕ → List Item
read_items side bytes = map (λ b. Read side 1) bytes

-- what is left of an answered request's body is dropped byte by byte
abbrev pub DroppedUnfold : Type 0
DroppedUnfold =
    (g : Setup) (l : TraceState) (s : BodyState) (bytes rest : List ℕ) (sent : Counts)
    → l.answers.cut ≡ None → l.client.unread ≡ bytes ++ rest → Holds (length bytes) s
    → Unfolds g (dropping s sent l) (read_items Client bytes)
    (dropping (after_bytes (length bytes) s) sent (read_side Client (length bytes) l))

abbrev pub gathering_at :
    Side → (wanted : ℕ) → BodyState → HostState → Counts → TraceState → TraceState
gathering_at side wanted s h sent l =
    record l { phase = Gathering side wanted s; host = h; sent = sent }

-- one byte after another
abbrev pub gathered_bytes : List ℕ → BodyState → HostState → HostState
gathered_bytes [] s h = h
gathered_bytes (b ∷ bytes) s h =
    gathered_bytes bytes (after_byte s)
    (http_at (with_gathered (b ∷ []) (after_byte s) (http_of h)) h)

-- so many bytes more, and the body isn't at its end behind them
abbrev pub GoesOn : ℕ → BodyState → Type 0
GoesOn n (body.Left k) = suc n ≤ k
GoesOn n s = Holds n s

-- and gathered, while more are wanted
abbrev pub GatheredUnfold : Type 0
GatheredUnfold =
    (g : Setup) (l : TraceState) (side : Side) (s : BodyState) (wanted : ℕ) (h : HostState)
    (bytes rest : List ℕ) (sent : Counts)
    → l.answers.cut ≡ None → (stream_of side l).unread ≡ bytes ++ rest
    → GoesOn (length bytes) s
    → Unfolds g (gathering_at side (length bytes + suc wanted) s h sent l)
    (read_items side bytes)
    (gathering_at side (suc wanted) (after_bytes (length bytes) s) (gathered_bytes bytes s h)
    sent (read_side side (length bytes) l))

-- which is as good as all of them at once
abbrev pub GatheredAtOnce : Type 0
GatheredAtOnce =
    (b : ℕ) (bytes : List ℕ) (s : BodyState) (h : HostState)
    → gathered_bytes (b ∷ bytes) s h
    ≡ http_at (with_gathered (b ∷ bytes) (after_bytes (length (b ∷ bytes)) s) (http_of h)) h
