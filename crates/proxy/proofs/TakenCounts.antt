-- A took-count adds the front of what was pending.
use Rattle.std.proofs.Common.{◌≡◌, refl, sym, ap, subst, ◌∙◌, ℕ, zero, suc, ◌+◌, ◌≤◌, length, take, drop}
use Rattle.std.proofs.Common.{List, [], ◌∷◌, ◌++◌, append-nil, Bool, true, false, ◌<◌, ◌||◌}
use Rattle.std.proofs.Math.Seq.{take-add}
use Rattle.std.proofs.Common.{Option, Some, None, nat_le, nat_lt, arith, if◌then◌else◌}
use Rattle.std.proofs.Common.{inl, inr}
use Rattle.std.specs.Prelude.{is_none}
use Rattle.std.proofs.lemmas.Bool.Decides.{nat_tests}
use Rattle.px_bytes.specs.declared.addr.Side.{Side}
use Rattle.px_bytes.specs.declared.addr.Side.TheVariants.{Client, Server}
use Rattle.core_events.specs.declared.note.Note.{Note}
use Rattle.core_events.specs.declared.event_kind.EventKind.TheVariants.{Comes}
use Rattle.core_events.specs.declared.input.Input.TheVariants.{Takes}
use Rattle.conn_trace.specs.Heard.{Heard, SideHeard, brought, brought_nothing, event_brings, has_made, hears}
use Rattle.conn_trace.specs.Item.{Item, client_output, server_output}
use Rattle.conn_trace.specs.Tellings.{finish_told, notes_about}
use Rattle.conn.specs.declared.connection.Conn.{Conn}
use Rattle.conn.specs.Queues.{queue_in}
use Rattle.proxy_core.specs.Live.{pending_in}
use Rattle.proxy_core.specs.Moves.{Moves}
use Rattle.core_events.specs.Kinds.{kind_of}
use Rattle.record_model.specs.Past.{Happened, Past, heard}
use Rattle.proxy_core.specs.Queries.{front_of, front_in, queue_on}
use Rattle.record_model.specs.Refusal.{refusal_rows, takes_too_much}
use Rattle.proxy_core.specs.Refusal.{core_standing, core_known}
use Rattle.proxy_core.specs.Refusal.{refusal, refusal_of}
use Rattle.proxy_core.specs.Refusals.{live_at}
use Rattle.proxy_core.specs.Represents.{ConnectionContinues, AgreesAt, Represents}
use Rattle.proxy_core.specs.Scheduler.{State, Seen, last_took, seen}
use Rattle.run_config.specs.declared.config.Config.{Config}
use Rattle.proxy_core.specs.declared.core_state.Core.{Core}
use Rattle.core_events.specs.declared.event.Event.{Event}
use Rattle.proxy_core.specs.declared.live.Live.{Live}
use Rattle.proxy_core.proofs.HeardServers.{event_makes, made_more}
use Rattle.proxy_core.proofs.LateHeard.{late_count, late_of, servers_counted}
use Rattle.proxy_core.proofs.Members.{eq_self}
use Rattle.proxy_core.proofs.ServerCounts.{TookBy, come_took, took_last}
use Rattle.proxy_core.proofs.SoundPast.{none_holds}
use Rattle.served_core.proofs.Growing.{heard_took}
use Rattle.served_core.proofs.Pieces.{conn_by, queues_of}
use Rattle.served_core.proofs.ServerGrowing.{last_heard, left_to_last}
use Rattle.proxy.specs.declared.taken.Taken.{Taken}
use Rattle.proxy_core.specs.Servers.{made, makes, servers_made, took_behind, took_of}
use Rattle.proxy.specs.Replay.{accepted, taken_by, taken_of}
use Rattle.proxy.specs.ServerBytes.{on_last}
use Rattle.proxy.specs.Taken.{more_of, took_on, with_took}
use Rattle.proxy.proofs.MadeServers.{one_more, same_servers, servers_of}
use Rattle.proxy.proofs.TakenRows.{rising, row}
use Rattle.proxy.proofs.TakenComes.{came_others, came_row, each_still, one_changed, same_client}

-- ---- a took-count

-- the front of what was pending
live_pending : (core : Core) (c n : ℕ) (side : Side) (e : Event) → kind_of e ≡ Comes c (Takes side n) → refusal core e ≡ None → (l : Live) × (live_at core.live.items c ≡ Some l) × (n ≤ pending_in side l.conn)
live_pending core c n side e is h =
    let v = Comes c (Takes side n) in
    let fine : refusal_of core v ≡ None = ap (refusal_of core) (sym is) ∙ h in
    let r = none_holds (refusal_rows core.config (core_known core v) v) fine in by_live (live_at core.live.items c) refl r.0 r.1.1.1.1.1.1.1.1.0
  where
    by_side : (side : Side) (l : Live) → takes_too_much (core_standing (Some l)) (Takes side n) ≡ false → n ≤ pending_in side l.conn
    by_side Client l t = let f : nat_lt (pending_in Client l.conn) n ≡ false = t in grind (arith, nat_tests)
    by_side Server l t = let f : nat_lt (pending_in Server l.conn) n ≡ false = t in grind (arith, nat_tests)

    by_live : (o : Option Live) → live_at core.live.items c ≡ o → is_none (core_standing o) ≡ false → takes_too_much (core_standing o) (Takes side n) ≡ false → (l : Live) × (live_at core.live.items c ≡ Some l) × (n ≤ pending_in side l.conn)
    by_live None e k t = cc
    by_live (Some l) e k t = (l, e, by_side side l t)

front_is : (n : ℕ) (side : Side) (l : Live) → n ≤ pending_in side l.conn → front_of side n (Some l) ≡ Some (take n (queue_on side l.conn))
front_is n side l h = by_conn l.conn h
  where
    by_conn : (o : Option Conn) → n ≤ pending_in side o → front_in n (queue_on side o) ≡ Some (take n (queue_on side o))
    by_conn None h = let e : nat_le n 0 ≡ true = grind (arith, nat_tests) in rw e refl
    by_conn (Some conn) h = let e : nat_le n (length (queue_in side conn)) ≡ true = grind (arith, nat_tests) in rw e refl

front_left : (b : Bool) (n : ℕ) (q : List ℕ) → n ≤ length (if b then [] else q) → take n (if b then [] else q) ≡ take n q
front_left false n q few = refl
front_left true zero q few = refl
front_left true (suc n) q few = absurd (omega (arith, few))

nothing_taken : (n t : ℕ) → ◌≡◌ {A = List ℕ} (take n []) (take n (drop t []))
nothing_taken n zero = refl
nothing_taken n (suc t) = refl

-- what the client takes is the front of what was sent to it and not taken
client_front : (C : Config) (z : Seen) (o : Option Conn) (n : ℕ) → ConnectionContinues C z o → n ≤ pending_in Client o → take n (queue_on Client o) ≡ take n (drop z.heard.client.took (client_output z.place))
client_front C z None n k few = nothing_taken n z.heard.client.took ∙ ap (λ p. take n (drop z.heard.client.took (client_output p))) (sym k.no_items)
client_front C z (Some conn) n k few = front_left conn.ends.client.reset n conn.ends.client.queued few ∙ ap (take n) (queues_of C z conn k).client

-- ---- the server's

last_of : (f : List ℕ → List ℕ) (xs : List (List ℕ)) (x : List ℕ) → on_last f (xs ++ x ∷ []) ≡ xs ++ f x ∷ []
last_of f [] x = refl
last_of f (y ∷ []) x = refl
last_of f (y ∷ z ∷ more) x = ap (λ l. y ∷ l) (last_of f (z ∷ more) x)

nothing_added : (xs : List (List ℕ)) → on_last (λ b. b ++ []) xs ≡ xs
nothing_added [] = refl
nothing_added (x ∷ []) = ap (λ b. b ∷ []) (append-nil x)
nothing_added (x ∷ y ∷ more) = ap (λ l. x ∷ l) (nothing_added (y ∷ more))

-- where the last took more, of which all was heard
module _ (c n : ℕ) (h : Heard) (group : List Note) (place : List Item) (there : has_made h.connects ≡ true) (on_time : h.late ≡ false) where
  abbrev now : List (Option SideHeard)
  now = (hears c h (Comes c (Takes Server n)) group).connects

  same_made : made now ≡ made h.connects
  same_made =
      let k = made_more c h (Comes c (Takes Server n)) group in
      let none : made (brought c h (Comes c (Takes Server n)) group).connects ≡ 0 = by_over (h.finished || finish_told (notes_about c group)) in omega (arith, k, none)
    where
      by_over : (b : Bool) → made (if b then brought_nothing else event_brings c (Comes c (Takes Server n))).connects ≡ 0
      by_over true = refl
      by_over false = event_makes c (Comes c (Takes Server n))

  earlier : (m : ℕ) → made h.connects ≡ suc m → (k : ℕ) → k ≤ m → took_of now k ≡ took_of h.connects k
  earlier m is zero le = refl
  earlier m is (suc k) le = by (come_took c h (Takes Server n) group k)
    where
      by : TookBy n k h.connects now → took_behind k now ≡ took_behind k h.connects
      by (inl e) = e
      by (inr (e, f)) = absurd (omega (arith, e, is, le))

  pub last_more : (m : ℕ) → made h.connects ≡ m → servers_of now place m ≡ on_last (λ b. b ++ take n (left_to_last h.connects place)) (servers_of h.connects place m)
  last_more zero is = refl
  last_more (suc m) is =
      let out = server_output (suc m) place in
      let t = last_took h.connects in
      let before : took_of h.connects (suc m) ≡ t = ap (took_of h.connects) (sym is) ∙ took_last h.connects in
      let took : took_of now (suc m) ≡ t + n = ap (took_of now) (sym (same_made ∙ is)) ∙ took_last now ∙ last_heard c n h group there on_time in
      one_more now place m
      ∙ ap (λ l. l ++ take (took_of now (suc m)) out ∷ []) (same_servers h.connects now place place m (λ k le. ap (λ j. take j (server_output k place)) (earlier m is k le)))
      ∙ ap (λ j. servers_of h.connects place m ++ take j out ∷ []) took
      ∙ ap (λ b. servers_of h.connects place m ++ b ∷ []) (take-add t n out ∙ ap (λ j. take j out ++ take n (drop t out)) (sym before) ∙ ap (λ j. take (took_of h.connects (suc m)) out ++ take n (drop t (server_output j place))) (sym is))
      ∙ sym (last_of (λ b. b ++ take n (left_to_last h.connects place)) (servers_of h.connects place m) (take (took_of h.connects (suc m)) out))
      ∙ ap (on_last (λ b. b ++ take n (left_to_last h.connects place))) (sym (one_more h.connects place m))

-- ---- both

-- what was made and what was heard of it
server_row : (C : Config) (past : Past) (s : State) (core : Core) (c n : ℕ) (group : List Note) (l : Live) → Represents C past s core → live_at core.live.items c ≡ Some l → n ≤ pending_in Server l.conn
    → servers_of (hears c (heard c past) (Comes c (Takes Server n)) group).connects (s.places c) (servers_made c past) ≡ on_last (λ b. b ++ take n (queue_on Server l.conn)) (servers_of (heard c past).connects (s.places c) (servers_made c past))
server_row C past s core c zero group l r at few =
    each_still c (heard c past) (Takes Server 0) group (s.places c) (servers_made c past) refl ∙ sym (nothing_added (servers_of (heard c past).connects (s.places c) (servers_made c past)))
server_row C past s core c (suc n) group l r at few =
    let z = seen past s c in
    let h = heard c past in
    let place = s.places c in
    let a = let P : Option Live → Type 0 = λ o. AgreesAt C z o in subst P at (r.agrees.each c) in
    let q = queue_on Server l.conn in
    let o = conn_by C z l.conn q (late_of C c z (r.sound.each c)).gone a.continues refl (queue_some l.conn few) in
    let all : servers_made c past ≡ made h.connects = let k = servers_counted C past s c r.sound.leads in let none = ap late_count o.on_time in omega (arith, k, none) in
    ap (servers_of (hears c h (Comes c (Takes Server (suc n))) group).connects place) all
    ∙ last_more c (suc n) h group place o.made o.on_time (made h.connects) refl
    ∙ ap (λ b. on_last (λ x. x ++ take (suc n) b) (servers_of h.connects place (made h.connects))) (sym o.is)
    ∙ ap (λ m. on_last (λ x. x ++ take (suc n) q) (servers_of h.connects place m)) (sym all)
  where
    queue_some : (o : Option Conn) → suc n ≤ pending_in Server o → 0 < length (queue_on Server o)
    queue_some None few = absurd (omega (arith, few))
    queue_some (Some conn) few = omega (arith, few)

-- the row behind a took-count
module _ (C : Config) (past : Past) (s : State) (core : Core) (c n : ℕ) (group : List Note) (l : Live) (r : Represents C past s core) (at : live_at core.live.items c ≡ Some l) where
  abbrev h : Heard
  h = heard c past

  abbrev place : List Item
  place = s.places c

  took_row : (side : Side) → n ≤ pending_in side l.conn
      → row c (servers_made c past + makes c (Comes c (Takes side n))) (hears c h (Comes c (Takes side n)) group) place ≡ took_on side (take n (queue_on side l.conn)) (row c (servers_made c past) h place)
  took_row Client few =
      let a = let P : Option Live → Type 0 = λ o. AgreesAt C (seen past s c) o in subst P at (r.agrees.each c) in
      let out = client_output place in
      let h' = hears c h (Comes c (Takes Client n)) group in
      let total = servers_made c past in
      let put : List ℕ → List (List ℕ) → Taken = λ b l. record { conn = c; client = b; servers = l } in
      let took : h'.client.took ≡ h.client.took + n = heard_took c h (Comes c (Takes Client n)) group ∙ ap (λ b. h.client.took + (if b then n else 0)) (eq_self c) in
      ap (λ m. row c m h' place) (let k : total + 0 ≡ total = omega arith in k)
      ∙ ap (λ t. put (take t out) (servers_of h'.connects place total)) took
      ∙ ap (put (take (h.client.took + n) out)) (each_still c h (Takes Client n) group place total refl)
      ∙ ap (λ b. put b (servers_of h.connects place total)) (take-add h.client.took n out ∙ ap (λ b. take h.client.took out ++ b) (sym (client_front C (seen past s c) l.conn n a.continues few)))
  took_row Server few =
      let out = client_output place in
      let h' = hears c h (Comes c (Takes Server n)) group in
      let total = servers_made c past in
      let put : ℕ → List (List ℕ) → Taken = λ t l. record { conn = c; client = take t out; servers = l } in
      ap (λ m. row c m h' place) (let k : total + 0 ≡ total = omega arith in k)
      ∙ ap (λ t. put t (servers_of h'.connects place total)) (same_client c h (Takes Server n) group refl)
      ∙ ap (put h.client.took) (server_row C past s core c n group l r at few)

pub took_kept : (C : Config) (past : Past) (s next : State) (core : Core) (c n : ℕ) (side : Side) (e : Event) (group : List Note) → kind_of e ≡ Comes c (Takes side n) → Represents C past s core
    → refusal core e ≡ None → Moves C past (record { event = e; group = group }) s next
    → with_took (more_of c side (front_of side n (live_at core.live.items c))) (taken_of past s (accepted past)) ≡ taken_of (record { event = e; group = group } ∷ past) next (accepted past)
took_kept C past s next core c n side e group is r h m =
    let x : Happened = record { event = e; group = group } in
    let f = live_pending core c n side e is h in
    let bytes = take n (queue_on side f.0.conn) in
    let front : front_of side n (live_at core.live.items c) ≡ Some bytes = ap (front_of side n) f.1 ∙ front_is n side f.0 f.2 in
    let own : taken_by (x ∷ past) next c ≡ took_on side bytes (taken_by past s c) =
    came_row C past s next c (Takes side n) e group is m ∙ took_row C past s core c n group f.0 r f.1 side f.2 in
    ap (λ o. with_took (more_of c side o) (taken_of past s (accepted past))) front
    ∙ one_changed past (x ∷ past) s next c (took_on side bytes) (accepted past) (rising C past s r.sound.leads).distinct (came_others C past s next c (Takes side n) e group is m) own
