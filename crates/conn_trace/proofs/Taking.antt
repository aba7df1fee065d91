-- What is taken opens gates.
use Rattle.std.proofs.Common.{◌≡◌, refl, ℕ, ◌≤◌, List, [], ◌∷◌, true, Option, Some, None, arith, ltb-true, lt-ltb, eqb-true, eq-eqb}
use Rattle.std.proofs.lemmas.Bool.{and_parts, and_from}
use Rattle.px_bytes.specs.declared.addr.Side.{Side}
use Rattle.px_bytes.specs.declared.addr.Side.TheVariants.{Client, Server}
use Rattle.conn_trace.specs.Item.{Gate, BeforeBodies, BeforePassing, BeforeConnect, Item}
use Rattle.conn_trace.specs.Item.{shown}
use Rattle.conn_trace.specs.Gates.{Counts, TakenCounts, other, untaken, taken_of, to_take}
use Rattle.conn_trace.specs.Gates.{room_limit, has_room, is_open, guard_open, may_give}
use Rattle.conn_trace.specs.Gates.{sent_after, Met}
use Rattle.conn_trace.specs.Laws.{AtLeast, TakesMore}

untaken_more : (sent : ℕ) (t t' : Option ℕ) → AtLeast t t' → untaken sent t' ≤ untaken sent t
untaken_more sent t None more = omega arith
untaken_more sent None (Some k) more = absurd more
untaken_more sent (Some n) (Some k) more = omega (arith, more)

to_take_more : (sent : Counts) (t t' : TakenCounts) (side : Side) → TakesMore t t' → to_take sent t' side ≤ to_take sent t side
to_take_more sent t t' Client more = untaken_more sent.client t.client t'.client more.client
to_take_more sent t t' Server more = untaken_more sent.server (taken_of t.servers sent.number) (taken_of t'.servers sent.number) (more.servers sent.number)

room_more : (sent : Counts) (t t' : TakenCounts) (side : Side) → TakesMore t t' → has_room sent t side ≡ true → has_room sent t' side ≡ true
room_more sent t t' side more is =
    let a = to_take_more sent t t' side more in
    let b = ltb-true (to_take sent t side) room_limit is in lt-ltb (to_take sent t' side) room_limit (omega (arith, a, b))

open_more : (gate : Gate) (sent : Counts) (t t' : TakenCounts) → TakesMore t t' → is_open gate sent t ≡ true → is_open gate sent t' ≡ true
open_more BeforeBodies sent t t' more is =
    let both = and_parts (has_room sent t Client) (has_room sent t Server) is in
    and_from (has_room sent t' Client) (has_room sent t' Server) (room_more sent t t' Client more both.0) (room_more sent t t' Server more both.1)
open_more (BeforePassing from) sent t t' more is = room_more sent t t' (other from) more is
open_more BeforeConnect sent t t' more is =
    let a = to_take_more sent t t' Server more in
    let b = eqb-true (to_take sent t Server) 0 is in eq-eqb (to_take sent t' Server) 0 (omega (arith, a, b))

guard_more : (gate : Option Gate) (sent : Counts) (t t' : TakenCounts) → TakesMore t t' → guard_open gate sent t ≡ true → guard_open gate sent t' ≡ true
guard_more None sent t t' more is = refl
guard_more (Some gate) sent t t' more is = open_more gate sent t t' more is

pub met_more : (sent : Counts) (took more : TakenCounts) (items : List Item) → TakesMore took more → Met sent took items → Met sent more items
met_more sent t t' [] more met = tt
met_more sent t t' (i ∷ items) more met =
    (guard_more (shown i).guard sent t t' more met.0, met_more (sent_after i sent) t t' items more met.1)

room_all : (sent : Counts) (took : TakenCounts) (side : Side) → to_take sent took side ≡ 0 → has_room sent took side ≡ true
room_all sent took side none = lt-ltb (to_take sent took side) room_limit (omega (arith, none))

opens : (gate : Option Gate) (sent : Counts) (took : TakenCounts) → to_take sent took Client ≡ 0 → to_take sent took Server ≡ 0 → guard_open gate sent took ≡ true
opens None sent took c s = refl
opens (Some BeforeBodies) sent took c s = and_from (has_room sent took Client) (has_room sent took Server) (room_all sent took Client c) (room_all sent took Server s)
opens (Some (BeforePassing Client)) sent took c s = room_all sent took Server s
opens (Some (BeforePassing Server)) sent took c s = room_all sent took Client c
opens (Some BeforeConnect) sent took c s = eq-eqb (to_take sent took Server) 0 s

pub taken_all_opens : (i : Item) (sent : Counts) (took : TakenCounts) → to_take sent took Client ≡ 0 → to_take sent took Server ≡ 0 → may_give i sent took ≡ true
taken_all_opens i sent took c s = opens (shown i).guard sent took c s
