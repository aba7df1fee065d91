-- A Run and a Turn leave what sides took, and so does every event what it doesn't count.
use Rattle.std.proofs.Common.{◌≡◌, refl, sym, ap, subst, ◌∙◌, ℕ, ◌≤◌, length, take}
use Rattle.std.proofs.Common.{List, [], ◌∷◌, ◌++◌, Bool, true, false}
use Rattle.std.proofs.Common.{None, nat_eq, arith, if◌then◌else◌, ◌⊎◌}
use Rattle.std.proofs.Common.{inl, inr}
use Rattle.std.specs.Bool.{MatchBool}
use Rattle.std.specs.List.{flat_map}
use Rattle.std.proofs.lemmas.List.{take-append-le}
use Rattle.std.proofs.lemmas.Grind.{flat_map-append}
use Rattle.px_bytes.specs.declared.addr.Side.TheVariants.{Client, Server}
use Rattle.core_events.specs.declared.note.Note.{Note}
use Rattle.core_events.specs.declared.event_kind.EventKind.TheVariants.{Runs, Turns, Marks}
use Rattle.core_events.specs.declared.input.Input.TheVariants.{Bytes, Ends, Resets, Connects}
use Rattle.conn_trace.specs.Heard.{Heard, hears}
use Rattle.conn_trace.specs.Item.{Item, to_client, to_server, client_output, server_output}
use Rattle.conn_trace.proofs.Hearing.{others_not_heard}
use Rattle.proxy_core.specs.Calls.{asker}
use Rattle.record_model.specs.History.{store_of}
use Rattle.proxy_core.specs.Moves.{Moves, Rests}
use Rattle.proxy_core.specs.Moves.{MovesRing, MovesQueue, MovesTick, RunsOn, RunsOut, RunsFailed}
use Rattle.core_events.specs.Kinds.{kind_of}
use Rattle.record_model.specs.Past.{Happened, Past, heard, with_accepted, shared}
use Rattle.proxy_core.specs.Refusal.{refused, refusal}
use Rattle.proxy_core.specs.Represents.{Represents}
use Rattle.proxy_core.specs.Scheduler.{State, seen}
use Rattle.proxy_core.specs.Sound.{Served, Sound}
use Rattle.proxy_core.specs.declared.call.Asked.{Asked}
use Rattle.run_config.specs.declared.config.Config.{Config}
use Rattle.proxy_core.specs.declared.core_state.Core.{Core}
use Rattle.core_events.specs.declared.event.Event.{Event}
use Rattle.core_events.specs.declared.event.Event.TheVariants.{Accept, FromClient, ClientEnd, ClientReset, Connected, Refused}
use Rattle.core_events.specs.declared.event.Event.TheVariants.{FromServer, ServerEnd, ServerReset, ClientTook, ServerTook}
use Rattle.core_events.specs.declared.event.Event.TheVariants.{Tick, Turn, Run, Mark}
use Rattle.proxy_core.specs.Others.{front}
use Rattle.proxy_core.proofs.Hearing.{run_stays, turn_stays}
use Rattle.proxy_core.proofs.Members.{eq_self, eq_same}
use Rattle.proxy_core.proofs.SoundPast.{front_served, seen_tick, unchanged}
use Rattle.proxy.specs.declared.taken.Taken.{Taken}
use Rattle.proxy_core.specs.Servers.{makes, servers_made, took_of as took_of_number}
use Rattle.proxy.specs.Replay.{accepted, taken_by, taken_of}
use Rattle.proxy.specs.Taken.{took_of, with_took}
use Rattle.proxy.proofs.MadeServers.{same_servers, servers_of}
use Rattle.proxy.proofs.TakenRows.{rising, kept_of, other_stays, row, same_each, accept_kept}
use Rattle.proxy.proofs.TakenComes.{came_kept, connects_kept}
use Rattle.proxy.proofs.TakenCounts.{took_kept}

-- ---- a Run and a Turn

-- it passed more: each took a front of what was sent before
grown_by : (f : Item → List ℕ) (t : ℕ) (p more : List Item) → t ≤ length (flat_map f p) → take t (flat_map f (p ++ more)) ≡ take t (flat_map f p)
grown_by f t p more h = ap (take t) (flat_map-append f p more) ∙ take-append-le t (flat_map f p) (flat_map f more) h

-- one whose sides took what they took before
still_kept : (past past' : Past) (s s' : State) (c : ℕ) → servers_made c past' ≡ servers_made c past → (heard c past').client ≡ (heard c past).client → (heard c past').connects ≡ (heard c past).connects
    → take (heard c past).client.took (client_output (s'.places c)) ≡ take (heard c past).client.took (client_output (s.places c))
    → ((k : ℕ) → take (took_of_number (heard c past).connects k) (server_output k (s'.places c)) ≡ take (took_of_number (heard c past).connects k) (server_output k (s.places c)))
    → taken_by past' s' c ≡ taken_by past s c
still_kept past past' s s' c n client connects a b =
    let h = heard c past in
    let h' = heard c past' in
    let total = servers_made c past in
    let put : List ℕ → List (List ℕ) → Taken = λ x y. record { conn = c; client = x; servers = y } in
    ap (λ m. row c m h' (s'.places c)) n
    ∙ ap (λ y. put (take y.took (client_output (s'.places c))) (servers_of h'.connects (s'.places c) total)) client
    ∙ ap (λ cs. put (take h.client.took (client_output (s'.places c))) (servers_of cs (s'.places c) total)) connects
    ∙ ap (λ x. put x (servers_of h.connects (s'.places c) total)) a
    ∙ ap (put (take h.client.took (client_output (s.places c)))) (same_servers h.connects h.connects (s.places c) (s'.places c) total (λ k le. b k))

-- the front ran
front_kept : (C : Config) (past : Past) (s next : State) (c : ℕ) (rest : List ℕ) (group : List Note) → Served C c (seen past s c) → MovesRing C past (c ∷ rest) group s next
    → taken_by (record { event = Run; group = group } ∷ past) next c ≡ taken_by past s c
front_kept C past s next c rest group v k =
    let stays = run_stays c (heard c past) group in
    still_kept past (record { event = Run; group = group } ∷ past) s next c (omega arith) stays.client stays.connects
    (by_failed to_client (heard c past).client.took v.within.client (heard c past).failed k)
    (λ j. by_failed (to_server j) (took_of_number (heard c past).connects j) (v.within.servers j) (heard c past).failed k)
  where
    by_failed : (f : Item → List ℕ) (t : ℕ) → t ≤ length (flat_map f (s.places c)) → (b : Bool) → MatchBool b (RunsFailed (heard c past) c rest group s next) (RunsOn C (heard c past) (shared past).moment c rest group s next ⊎ RunsOut C (heard c past) c rest group s next)
        → take t (flat_map f (next.places c)) ≡ take t (flat_map f (s.places c))
    by_failed f t le true j = ap (λ y. take t (flat_map f (y.places c))) j.state
    by_failed f t le false (inl j) = ap (λ y. take t (flat_map f (y.places c))) j.state ∙ ap (λ b. take t (flat_map f (if b then s.places c ++ j.more else s.places c))) (eq_self c) ∙ grown_by f t (s.places c) j.more le
    by_failed f t le false (inr j) = ap (λ y. take t (flat_map f (y.places c))) j.state ∙ ap (λ b. take t (flat_map f (if b then s.places c ++ j.more else s.places c))) (eq_self c) ∙ grown_by f t (s.places c) j.more le

-- nothing changes
quiet_kept : (past : Past) (s next : State) (e : Event) (group : List Note) (q : ℕ) → Rests group s next → ((h : Heard) → hears q h (kind_of e) [] ≡ h) → with_accepted (kind_of e) (shared past).live ≡ (shared past).live → makes q (kind_of e) ≡ 0
    → taken_by (record { event = e; group = group } ∷ past) next q ≡ taken_by past s q
quiet_kept past s next e group q m same live none =
    let x : Happened = record { event = e; group = group } in
    ap (λ n. kept_of q n (seen (x ∷ past) next q)) (let k : servers_made q (x ∷ past) ≡ servers_made q past = omega (arith, none) in k) ∙ ap (kept_of q (servers_made q past)) (unchanged past (kind_of e) group s next q m same live)

-- a Tick
tick_kept : (past : Past) (s next : State) (moment : ℕ) (group : List Note) (q : ℕ) → MovesTick moment group s next → taken_by (record { event = Tick moment; group = group } ∷ past) next q ≡ taken_by past s q
tick_kept past s next moment group q m =
    let x : Happened = record { event = Tick moment; group = group } in
    ap (λ n. kept_of q n (seen (x ∷ past) next q)) (let k : servers_made q (x ∷ past) ≡ servers_made q past = omega arith in k) ∙ ap (kept_of q (servers_made q past)) (seen_tick past moment group s next q m)

run_kept : (C : Config) (past : Past) (s next : State) (group : List Note) → Sound C past s → Moves C past (record { event = Run; group = group }) s next
    → (ring : List ℕ) → s.ring ≡ ring → MovesRing C past ring group s next → (q : ℕ) → taken_by (record { event = Run; group = group } ∷ past) next q ≡ taken_by past s q
run_kept C past s next group r m [] e k q = quiet_kept past s next Run group q k (λ h. others_not_heard q h Runs [] refl refl) refl refl
run_kept C past s next group r m (c ∷ rest) e k q = by_number (nat_eq c q) refl
  where
    x : Happened
    x = record { event = Run; group = group }

    by_number : (b : Bool) → nat_eq c q ≡ b → taken_by (x ∷ past) next q ≡ taken_by past s q
    by_number true f =
        let v = front_served C past c rest s e (r.each c) in
        let P : ℕ → Type 0 = λ n. taken_by (x ∷ past) next n ≡ taken_by past s n in subst P (eq_same c q f) (front_kept C past s next c rest group v.1 k)
    by_number false f = other_stays C past s next Run group m q (ap (λ n. nat_eq n q) (ap front e) ∙ f)

turn_kept : (C : Config) (past : Past) (s next : State) (group : List Note) → Moves C past (record { event = Turn; group = group }) s next
    → (queue : List Asked) → s.queue ≡ queue → MovesQueue (store_of C past) (shared past).moment queue group s next → (q : ℕ) → taken_by (record { event = Turn; group = group } ∷ past) next q ≡ taken_by past s q
turn_kept C past s next group m [] e k q = quiet_kept past s next Turn group q k (λ h. others_not_heard q h Turns [] refl refl) refl refl
turn_kept C past s next group m (a ∷ rest) e k q = by_number (nat_eq a.conn q) refl
  where
    x : Happened
    x = record { event = Turn; group = group }

    own : taken_by (x ∷ past) next a.conn ≡ taken_by past s a.conn
    own =
        let h = heard a.conn past in
        let stays = turn_stays a.conn h group in
        still_kept past (x ∷ past) s next a.conn (omega arith) stays.client stays.connects
        (ap (λ y. take h.client.took (client_output (y.places a.conn))) k.state) (λ j. ap (λ y. take (took_of_number h.connects j) (server_output j (y.places a.conn))) k.state)

    by_number : (b : Bool) → nat_eq a.conn q ≡ b → taken_by (x ∷ past) next q ≡ taken_by past s q
    by_number true f = let P : ℕ → Type 0 = λ n. taken_by (x ∷ past) next n ≡ taken_by past s n in subst P (eq_same a.conn q f) own
    by_number false f = other_stays C past s next Turn group m q (ap (λ n. nat_eq n q) (ap asker e) ∙ f)

-- where nothing changes what each took stays
rests_kept : (past : Past) (s next : State) (e : Event) (group : List Note) → Rests group s next → with_accepted (kind_of e) (shared past).live ≡ (shared past).live → ((q : ℕ) (h : Heard) → hears q h (kind_of e) [] ≡ h) → ((q : ℕ) → makes q (kind_of e) ≡ 0)
    → taken_of past s (accepted past) ≡ taken_of (record { event = e; group = group } ∷ past) next (accepted past)
rests_kept past s next e group m live same none = sym (same_each past (record { event = e; group = group } ∷ past) s next (accepted past) (λ q. quiet_kept past s next e group q m (same q) live (none q)))

-- what the sides of connections took is kept over each event
pub taken_kept : (C : Config) (past : Past) (s next : State) (core : Core) (e : Event) (group : List Note) → Represents C past s core → refused C past s (kind_of e) ≡ None → refusal core e ≡ None → Moves C past (record { event = e; group = group }) s next
    → with_took (took_of core e) (taken_of past s (accepted past)) ≡ taken_of (record { event = e; group = group } ∷ past) next (accepted (record { event = e; group = group } ∷ past))
taken_kept C past s next core e group r h k m =
    by_event e h k m
  where
    by_event : (e : Event) → refused C past s (kind_of e) ≡ None → refusal core e ≡ None → Moves C past (record { event = e; group = group }) s next
        → with_took (took_of core e) (taken_of past s (accepted past)) ≡ taken_of (record { event = e; group = group } ∷ past) next (accepted (record { event = e; group = group } ∷ past))
    by_event (Accept c vs from) h k m = accept_kept C past s next c vs from group r.sound h m
    by_event (FromClient c bytes) h k m = came_kept C past s next c (Bytes Client bytes) (FromClient c bytes) group refl tt m
    by_event (ClientEnd c) h k m = came_kept C past s next c (Ends Client) (ClientEnd c) group refl tt m
    by_event (ClientReset c) h k m = came_kept C past s next c (Resets Client) (ClientReset c) group refl tt m
    by_event (Connected c) h k m = connects_kept C past s next c group (rising C past s r.sound.leads) m
    by_event (Refused c) h k m = came_kept C past s next c (Connects false) (Refused c) group refl tt m
    by_event (FromServer c bytes) h k m = came_kept C past s next c (Bytes Server bytes) (FromServer c bytes) group refl tt m
    by_event (ServerEnd c) h k m = came_kept C past s next c (Ends Server) (ServerEnd c) group refl tt m
    by_event (ServerReset c) h k m = came_kept C past s next c (Resets Server) (ServerReset c) group refl tt m
    by_event (ClientTook c n) h k m = took_kept C past s next core c n Client (ClientTook c n) group refl r k m
    by_event (ServerTook c n) h k m = took_kept C past s next core c n Server (ServerTook c n) group refl r k m
    by_event (Tick moment) h k m = sym (same_each past (record { event = Tick moment; group = group } ∷ past) s next (accepted past) (λ q. tick_kept past s next moment group q m))
    by_event Turn h k m = sym (same_each past (record { event = Turn; group = group } ∷ past) s next (accepted past) (turn_kept C past s next group m s.queue refl m))
    by_event Run h k m = sym (same_each past (record { event = Run; group = group } ∷ past) s next (accepted past) (run_kept C past s next group r.sound m s.ring refl m))
    by_event (Mark pool member up) h k m = rests_kept past s next (Mark pool member up) group m refl (λ q y. others_not_heard q y (Marks pool member up) [] refl refl) (λ q. refl)
