-- What came of a connection leaves what its sides took.
use Rattle.std.proofs.Common.{◌≡◌, refl, sym, ap, subst, ◌∙◌, ℕ, suc, ◌+◌, take}
use Rattle.std.proofs.Common.{List, [], ◌∷◌, ◌++◌, Bool, true, false, ◌||◌}
use Rattle.std.proofs.Common.{nat_eq, arith, if◌then◌else◌, ◌⊎◌}
use Rattle.std.proofs.Common.{inl, inr}
use Rattle.std.specs.Bool.{MatchBool}
use Rattle.std.specs.List.{IsDistinct}
use Rattle.std.proofs.lemmas.Map.Keys.{IsDistinct-head, IsDistinct-tail}
use Rattle.core_events.specs.declared.note.Note.{Note}
use Rattle.core_events.specs.declared.event_kind.EventKind.{EventKind}
use Rattle.core_events.specs.declared.event_kind.EventKind.TheVariants.{Comes}
use Rattle.core_events.specs.declared.input.Input.{Input}
use Rattle.core_events.specs.declared.input.Input.TheVariants.{Bytes, Ends, Resets, Connects, Takes}
use Rattle.conn_trace.specs.Heard.{Heard, edges_met, hears}
use Rattle.conn_trace.specs.Item.{Item, client_output, server_output}
use Rattle.proxy_core.specs.Moves.{Moves, MovesBy, MovesFailed, MovesLacks, MovesOn}
use Rattle.core_events.specs.Kinds.{kind_of}
use Rattle.record_model.specs.Past.{Happened, Past, heard}
use Rattle.proxy_core.specs.Ready.{is_in}
use Rattle.proxy_core.specs.Scheduler.{State}
use Rattle.run_config.specs.declared.config.Config.{Config}
use Rattle.core_events.specs.declared.event.Event.{Event}
use Rattle.core_events.specs.declared.event.Event.TheVariants.{Connected}
use Rattle.proxy_core.specs.Others.{about}
use Rattle.proxy_core.proofs.HeardServers.{heard_servers}
use Rattle.proxy_core.proofs.Members.{eq_self, eq_same, eq_turned}
use Rattle.proxy_core.proofs.ReadyRing.{absent_all}
use Rattle.proxy_core.proofs.ServerCounts.{more_of as took_counted}
use Rattle.served_core.proofs.Growing.{heard_took, took_in}
use Rattle.proxy.specs.declared.taken.Taken.{Taken}
use Rattle.proxy_core.specs.Servers.{makes, servers_made, took_of}
use Rattle.proxy.specs.Replay.{accepted, taken_by, taken_of}
use Rattle.proxy.specs.Taken.{begins_server, changed}
use Rattle.proxy.proofs.MadeServers.{none_beyond, one_more, same_servers, servers_of, took_still}
use Rattle.proxy.proofs.TakenRows.{Rising, other_stays, row, same_each}

-- ---- lists with one entry changed

or_parts : (a b : Bool) → (a || b) ≡ false → (a ≡ false) × (b ≡ false)
or_parts false b h = (refl, h)
or_parts true b h = cc

-- the entries of others
none_of : (past past' : Past) (s s' : State) (c : ℕ) (numbers : List ℕ) → is_in numbers c ≡ false → ((q : ℕ) → nat_eq q c ≡ false → taken_by past' s' q ≡ taken_by past s q) → taken_of past s numbers ≡ taken_of past' s' numbers
none_of past past' s s' c [] h others = refl
none_of past past' s s' c (m ∷ numbers) h others =
    let k = or_parts (nat_eq c m) (is_in numbers c) h in
    ap (λ t. t ∷ taken_of past s numbers) (sym (others m (eq_turned c m k.0))) ∙ ap (λ l. taken_by past' s' m ∷ l) (none_of past past' s s' c numbers k.1 others)

-- the entry of the one, and those of the others
pub one_changed : (past past' : Past) (s s' : State) (c : ℕ) (f : Taken → Taken) (numbers : List ℕ) → IsDistinct nat_eq numbers → ((q : ℕ) → nat_eq q c ≡ false → taken_by past' s' q ≡ taken_by past s q)
    → taken_by past' s' c ≡ f (taken_by past s c) → changed c f (taken_of past s numbers) ≡ taken_of past' s' numbers
one_changed past past' s s' c f [] d others own = refl
one_changed past past' s s' c f (q ∷ numbers) d others own = by_number (nat_eq q c) refl (one_changed past past' s s' c f numbers (IsDistinct-tail nat_eq q numbers d) others own)
  where
    by_number : (e : Bool) → nat_eq q c ≡ e → changed c f (taken_of past s numbers) ≡ taken_of past' s' numbers
        → (if e then f (taken_by past s q) ∷ taken_of past s numbers else taken_by past s q ∷ changed c f (taken_of past s numbers)) ≡ taken_by past' s' q ∷ taken_of past' s' numbers
    by_number false e rest = ap (λ t. t ∷ changed c f (taken_of past s numbers)) (sym (others q e)) ∙ ap (λ l. taken_by past' s' q ∷ l) rest
    by_number true e rest =
        let g : q ≡ c = eq_same q c e in
        let gone : is_in numbers c ≡ false = ap (λ m. is_in numbers m) (sym g) ∙ absent_all q numbers (IsDistinct-head nat_eq q numbers d) in
        let here : f (taken_by past s q) ≡ taken_by past' s' q = ap (λ m. f (taken_by past s m)) g ∙ sym own ∙ ap (taken_by past' s') (sym g) in
        ap (λ t. t ∷ taken_of past s numbers) here ∙ ap (λ l. taken_by past' s' q ∷ l) (none_of past past' s s' c numbers gone others)

-- ---- what comes of a connection

-- it leaves the places
came_places : (C : Config) (past : Past) (s next : State) (c : ℕ) (input : Input) (group : List Note) → MovesBy C past (Comes c input) group s next → (q : ℕ) → next.places q ≡ s.places q
came_places C past s next c input group m q = by_failed (heard c past).failed m
  where
    now : Heard
    now = hears c (heard c past) (Comes c input) group

    by_failed : (b : Bool) → MatchBool b (MovesFailed c group s next) (MovesOn C now c (edges_met input (heard c past).edges) group s next ⊎ MovesLacks input c group s next) → next.places q ≡ s.places q
    by_failed true k = ap (λ y. y.places q) k.state
    by_failed false (inl k) = ap (λ y. y.places q) k.state
    by_failed false (inr k) = ap (λ y. y.places q) k.state

-- the row behind it
pub came_row : (C : Config) (past : Past) (s next : State) (c : ℕ) (i : Input) (e : Event) (group : List Note) → kind_of e ≡ Comes c i → Moves C past (record { event = e; group = group }) s next
    → taken_by (record { event = e; group = group } ∷ past) next c ≡ row c (servers_made c past + makes c (Comes c i)) (hears c (heard c past) (Comes c i) group) (s.places c)
came_row C past s next c i e group is m =
    let K : EventKind → Type 0 = λ k. MovesBy C past k group s next in
    ap (λ k. row c (servers_made c past + makes c k) (hears c (heard c past) k group) (next.places c)) is
    ∙ ap (row c (servers_made c past + makes c (Comes c i)) (hears c (heard c past) (Comes c i) group)) (came_places C past s next c i group (subst K is m) c)

-- those of all others stay with it
pub came_others : (C : Config) (past : Past) (s next : State) (c : ℕ) (i : Input) (e : Event) (group : List Note) → kind_of e ≡ Comes c i → Moves C past (record { event = e; group = group }) s next
    → (q : ℕ) → nat_eq q c ≡ false → taken_by (record { event = e; group = group } ∷ past) next q ≡ taken_by past s q
came_others C past s next c i e group is m q f = other_stays C past s next e group m q (ap (λ k. nat_eq (about k s) q) is ∙ eq_turned q c f)

-- it takes nothing, and makes nothing
abbrev pub TakesNone : Input → Type 0
TakesNone (Takes side n) = ⊥
TakesNone (Connects true) = ⊥
TakesNone other = Unit {0}

none_makes : (i : Input) (c : ℕ) → TakesNone i → makes c (Comes c i) ≡ 0
none_makes (Bytes side bytes) c k = refl
none_makes (Ends side) c k = refl
none_makes (Resets side) c k = refl
none_makes (Connects true) c k = absurd k
none_makes (Connects false) c k = refl
none_makes (Takes side n) c k = absurd k

none_counted : (i : Input) → TakesNone i → took_counted i ≡ 0
none_counted (Bytes side bytes) k = refl
none_counted (Ends side) k = refl
none_counted (Resets side) k = refl
none_counted (Connects made) k = refl
none_counted (Takes side n) k = absurd k

none_client : (i : Input) (c : ℕ) → TakesNone i → took_in c (Comes c i) ≡ 0
none_client (Bytes side bytes) c k = refl
none_client (Ends side) c k = refl
none_client (Resets side) c k = refl
none_client (Connects made) c k = refl
none_client (Takes side n) c k = absurd k

-- what its client took, where it takes nothing
pub same_client : (c : ℕ) (h : Heard) (i : Input) (group : List Note) → took_in c (Comes c i) ≡ 0 → (hears c h (Comes c i) group).client.took ≡ h.client.took
same_client c h i group none = let k = heard_took c h (Comes c i) group in omega (arith, k, none)

-- and each of its servers
pub each_still : (c : ℕ) (h : Heard) (i : Input) (group : List Note) (place : List Item) (n : ℕ) → took_counted i ≡ 0 → servers_of (hears c h (Comes c i) group).connects place n ≡ servers_of h.connects place n
each_still c h i group place n none =
    same_servers h.connects (hears c h (Comes c i) group).connects place place n (λ k le. ap (λ t. take t (server_output k place)) (took_still c h i group none k))

-- then each took what it took before
pub came_kept : (C : Config) (past : Past) (s next : State) (c : ℕ) (i : Input) (e : Event) (group : List Note) → kind_of e ≡ Comes c i → TakesNone i
    → Moves C past (record { event = e; group = group }) s next → taken_of past s (accepted past) ≡ taken_of (record { event = e; group = group } ∷ past) next (accepted past)
came_kept C past s next c i e group is none m =
    let x : Happened = record { event = e; group = group } in
    let h = heard c past in
    let h' = hears c h (Comes c i) group in
    let place = s.places c in
    let total = servers_made c past in
    let more : total + makes c (Comes c i) ≡ total = let z = none_makes i c none in omega (arith, z) in
    let put : ℕ → List (List ℕ) → Taken = λ t l. record { conn = c; client = take t (client_output place); servers = l } in
    let own : taken_by (x ∷ past) next c ≡ taken_by past s c =
    came_row C past s next c i e group is m
    ∙ ap (λ n. row c n h' place) more
    ∙ ap (λ t. put t (servers_of h'.connects place total)) (same_client c h i group (none_client i c none))
    ∙ ap (put h.client.took) (each_still c h i group place total (none_counted i none)) in
    sym (same_each past (x ∷ past) s next (accepted past) (λ q. by_number q (nat_eq q c) refl own))
  where
    by_number : (q : ℕ) (b : Bool) → nat_eq q c ≡ b → taken_by (record { event = e; group = group } ∷ past) next c ≡ taken_by past s c → taken_by (record { event = e; group = group } ∷ past) next q ≡ taken_by past s q
    by_number q true f own = let P : ℕ → Type 0 = λ n. taken_by (record { event = e; group = group } ∷ past) next n ≡ taken_by past s n in subst P (sym (eq_same q c f)) own
    by_number q false f own = came_others C past s next c i e group is m q f

-- ---- a server connection is made

pub connects_kept : (C : Config) (past : Past) (s next : State) (c : ℕ) (group : List Note) → Rising past → Moves C past (record { event = Connected c; group = group }) s next
    → changed c begins_server (taken_of past s (accepted past)) ≡ taken_of (record { event = Connected c; group = group } ∷ past) next (accepted past)
connects_kept C past s next c group rises m =
    let x : Happened = record { event = Connected c; group = group } in
    let h = heard c past in
    let h' = hears c h (Comes c (Connects true)) group in
    let place = s.places c in
    let total = servers_made c past in
    let new : total + makes c (Comes c (Connects true)) ≡ suc total = let n = ap {B = ℕ} (λ b. if b then 1 else 0) (eq_self c) in omega (arith, n) in
    let put : ℕ → List (List ℕ) → Taken = λ t l. record { conn = c; client = take t (client_output place); servers = l } in
    let fresh : took_of h'.connects (suc total) ≡ 0 = took_still c h (Connects true) group refl (suc total) ∙ none_beyond total h.connects (heard_servers c past).few in
    let own : taken_by (x ∷ past) next c ≡ begins_server (taken_by past s c) =
    came_row C past s next c (Connects true) (Connected c) group refl m
    ∙ ap (λ n. row c n h' place) new
    ∙ ap (λ t. put t (servers_of h'.connects place (suc total))) (same_client c h (Connects true) group refl)
    ∙ ap (put h.client.took) (one_more h'.connects place total ∙ ap (λ t. servers_of h'.connects place total ++ take t (server_output (suc total) place) ∷ []) fresh ∙ ap (λ l. l ++ [] ∷ []) (each_still c h (Connects true) group place total refl)) in
    one_changed past (x ∷ past) s next c begins_server (accepted past) rises.distinct (came_others C past s next c (Connects true) (Connected c) group refl m) own
