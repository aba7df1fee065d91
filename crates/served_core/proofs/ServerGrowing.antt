-- What one event adds to what the servers of a connection took.
use Rattle.std.proofs.Common.{◌≡◌, ◌⊎◌, ℕ, suc, ◌+◌, ◌≤◌, List, [], ◌∷◌, ◌++◌, append_assoc, length, take, drop, Bool, true, false, true≢false, Option, Some, None, nat_eq, if◌then◌else◌}
use Rattle.std.proofs.Common.{inl, inr, refl, ap, sym, ◌∙◌, subst, arith}
use Rattle.std.specs.Prelude.{◌||◌}
use Rattle.std.proofs.Math.Seq.{take-add}
use Rattle.std.proofs.lemmas.List.{append-nil}
use Rattle.px_bytes.specs.declared.addr.Side.TheVariants.{Client, Server}
use Rattle.core_events.specs.declared.note.Note.{Note}
use Rattle.core_events.specs.declared.event_kind.EventKind.{EventKind}
use Rattle.core_events.specs.declared.event_kind.EventKind.TheVariants.{Accepts, Comes, Ticks}
use Rattle.core_events.specs.declared.event_kind.EventKind.TheVariants.{Turns, Runs, Marks}
use Rattle.core_events.specs.declared.input.Input.{Input}
use Rattle.core_events.specs.declared.input.Input.TheVariants.{Bytes, Ends, Resets, Connects, Takes}
use Rattle.conn_trace.specs.Heard.{Heard, SideHeard, at_last, brings_in, brought, brought_nothing}
use Rattle.conn_trace.specs.Heard.{event_brings, event_marks, accepts}
use Rattle.conn_trace.specs.Heard.{fresh_side, has_made, hears, hears_more, marks, unless_late}
use Rattle.conn_trace.specs.Item.{Item, server_output, to_server}
use Rattle.conn_trace.specs.Tellings.{finish_told, notes_about}
use Rattle.record_model.specs.History.{store_of}
use Rattle.proxy_core.specs.Moves.{MovesBy, MovesQueue}
use Rattle.proxy_core.specs.Numbered.{Numbered}
use Rattle.record_model.specs.Past.{Past, heard, shared}
use Rattle.proxy_core.specs.Scheduler.{State, last_took}
use Rattle.proxy_core.specs.Servers.{made, took_behind}
use Rattle.proxy_core.specs.declared.call.Asked.{Asked}
use Rattle.run_config.specs.declared.config.Config.{Config}
use Rattle.proxy_core.proofs.Meeting.{last_keeps, last_more, made_last, took_refused}
use Rattle.proxy_core.proofs.Members.{eq_self}
use Rattle.proxy_core.proofs.ServerCounts.{none_made}
use Rattle.served_core.proofs.Growing.{Grows, come_stays, grown, grows, took_same}
use Rattle.served_core.proofs.Risen.{FewNew, brought_few}
use Rattle.served_core.specs.Pieces.{servers_took}

-- how many bytes more an event says that the server of connection c took
abbrev pub server_in : ℕ → EventKind → ℕ
server_in c (Comes d (Takes Server n)) = if nat_eq d c then n else 0
server_in c other = 0

-- ---- what the servers took

kept_last : (f : SideHeard → SideHeard) → ((s : SideHeard) → (f s).took ≡ s.took) → (j : ℕ) (cs : List (Option SideHeard)) (place : List Item) → servers_took j (at_last f cs) place ≡ servers_took j cs place
kept_last f same j [] place = refl
kept_last f same j (None ∷ more) place = kept_last f same j more place
kept_last f same j (Some s ∷ more) place = by_made (has_made more) ∙ ap (λ l. take s.took (server_output j place) ++ l) (kept_last f same (suc j) more place)
  where
    by_made : (b : Bool) → take (if b then s else f s).took (server_output j place) ++ servers_took (suc j) (at_last f more) place ≡ take s.took (server_output j place) ++ servers_took (suc j) (at_last f more) place
    by_made true = refl
    by_made false = ap (λ t. take t (server_output j place) ++ servers_took (suc j) (at_last f more) place) (same s)

kept_unless : (late : Bool) (f : SideHeard → SideHeard) → ((s : SideHeard) → (f s).took ≡ s.took) → (j : ℕ) (cs : List (Option SideHeard)) (place : List Item) → servers_took j (unless_late late f cs) place ≡ servers_took j cs place
kept_unless true f same j cs place = refl
kept_unless false f same j cs place = kept_last f same j cs place

kept_refused : (j : ℕ) (cs : List (Option SideHeard)) (place : List Item) → servers_took j (cs ++ None ∷ []) place ≡ servers_took j cs place
kept_refused j [] place = refl
kept_refused j (None ∷ more) place = kept_refused j more place
kept_refused j (Some s ∷ more) place = ap (λ l. take s.took (server_output j place) ++ l) (kept_refused (suc j) more place)

kept_answered : (j : ℕ) (cs : List (Option SideHeard)) (place : List Item) → servers_took j (cs ++ Some fresh_side ∷ []) place ≡ servers_took j cs place
kept_answered j [] place = refl
kept_answered j (None ∷ more) place = kept_answered j more place
kept_answered j (Some s ∷ more) place = ap (λ l. take s.took (server_output j place) ++ l) (kept_answered (suc j) more place)

-- those that weren't made took nothing
none_took_any : (j : ℕ) (cs : List (Option SideHeard)) (place : List Item) → has_made cs ≡ false → servers_took j cs place ≡ []
none_took_any j [] place e = refl
none_took_any j (None ∷ more) place e = none_took_any j more place e
none_took_any j (Some s ∷ more) place e = absurd (true≢false e)

abbrev took_last : ℕ → SideHeard → SideHeard
took_last n s = record s { took = s.took + n }

-- the last took more
added : (n j m : ℕ) (cs : List (Option SideHeard)) (place : List Item) → has_made cs ≡ true → suc m ≡ j + made cs
    → servers_took j (at_last (took_last n) cs) place ≡ servers_took j cs place ++ take n (drop (last_took cs) (server_output m place))
added n j m [] place there is = absurd (true≢false (sym there))
added n j m (None ∷ more) place there is = added n j m more place there is
added n j m (Some s ∷ more) place there is = by_made (has_made more) refl (added n (suc j) m more place)
  where
    out : List ℕ
    out = server_output j place

    by_made : (b : Bool) → has_made more ≡ b
        → (has_made more ≡ true → suc m ≡ suc j + made more → servers_took (suc j) (at_last (took_last n) more) place ≡ servers_took (suc j) more place ++ take n (drop (last_took more) (server_output m place)))
        → take (if has_made more then s else took_last n s).took out ++ servers_took (suc j) (at_last (took_last n) more) place
        ≡ (take s.took out ++ servers_took (suc j) more place) ++ take n (drop (if has_made more then last_took more else s.took) (server_output m place))
    by_made true e again =
        ap (λ b. take (if b then s else took_last n s).took out ++ servers_took (suc j) (at_last (took_last n) more) place) e
        ∙ ap (λ l. take s.took out ++ l) (again e (omega (arith, is)))
        ∙ sym (append_assoc (take s.took out) (servers_took (suc j) more place) (take n (drop (last_took more) (server_output m place))))
        ∙ sym (ap (λ b. (take s.took out ++ servers_took (suc j) more place) ++ take n (drop (if b then last_took more else s.took) (server_output m place))) e)
    by_made false e again =
        let unmade = none_made more e in
        let same : m ≡ j = omega (arith, is, unmade) in
        ap (λ b. take (if b then s else took_last n s).took out ++ servers_took (suc j) (at_last (took_last n) more) place) e
        ∙ ap (λ l. take (s.took + n) out ++ l) (none_took_any (suc j) (at_last (took_last n) more) place (made_last (took_last n) more ∙ e)) ∙ append-nil (take (s.took + n) out)
        ∙ take-add s.took n out
        ∙ ap (λ l. l ++ take n (drop s.took out)) (sym (ap (λ l. take s.took out ++ l) (none_took_any (suc j) more place e) ∙ append-nil (take s.took out)))
        ∙ ap (λ k. (take s.took out ++ servers_took (suc j) more place) ++ take n (drop s.took (server_output k place))) (sym same)
        ∙ sym (ap (λ b. (take s.took out ++ servers_took (suc j) more place) ++ take n (drop (if b then last_took more else s.took) (server_output m place))) e)

-- what comes behind a place changes nothing of it
pub longer_took : (j : ℕ) (cs : List (Option SideHeard)) (place more : List Item) → ((n k : ℕ) → n ≡ j + k → took_behind k cs ≤ length (server_output n place)) → servers_took j cs (place ++ more) ≡ servers_took j cs place
longer_took j [] place more within = refl
longer_took j (None ∷ cs) place more within = longer_took j cs place more within
longer_took j (Some s ∷ cs) place more within =
    ap (λ l. l ++ servers_took (suc j) cs (place ++ more)) (grown (to_server j) s.took place more (within j 0 (omega arith)))
    ∙ ap (λ l. take s.took (server_output j place) ++ l) (longer_took (suc j) cs place more (λ n k is. within n (suc k) (omega (arith, is))))

-- what wasn't taken of what was sent to the last
abbrev pub left_to_last : List (Option SideHeard) → List Item → List ℕ
left_to_last cs place = drop (last_took cs) (server_output (made cs) place)

-- ---- by the event

keeps : (b : Bool) (x h : Heard) (place : List Item) (rest : List ℕ) → servers_took 1 x.connects place ≡ servers_took 1 h.connects place → servers_took 1 (if b then x else h).connects place ≡ servers_took 1 h.connects place ++ take 0 rest
keeps true x h place rest e = e ∙ sym (append-nil (servers_took 1 h.connects place))
keeps false x h place rest e = sym (append-nil (servers_took 1 h.connects place))

adds : (b : Bool) (n : ℕ) (h : Heard) (place : List Item) → (has_made h.connects ≡ false → (if b then n else 0) ≡ 0) → (h.late ≡ true → (if b then n else 0) ≡ 0)
    → servers_took 1 (if b then marks (Takes Server n) h else h).connects place ≡ servers_took 1 h.connects place ++ take (if b then n else 0) (left_to_last h.connects place)
adds false n h place none late = sym (append-nil (servers_took 1 h.connects place))
adds true n h place none late = by_late h.late refl
  where
    nothing : n ≡ 0 → servers_took 1 h.connects place ≡ servers_took 1 h.connects place ++ take n (left_to_last h.connects place)
    nothing z = sym (append-nil (servers_took 1 h.connects place)) ∙ ap (λ k. servers_took 1 h.connects place ++ take k (left_to_last h.connects place)) (sym z)

    by_made : (m : Bool) → has_made h.connects ≡ m → servers_took 1 (at_last (took_last n) h.connects) place ≡ servers_took 1 h.connects place ++ take n (left_to_last h.connects place)
    by_made true e = added n 1 (made h.connects) h.connects place e (omega arith)
    by_made false e = none_took_any 1 (at_last (took_last n) h.connects) place (made_last (took_last n) h.connects ∙ e) ∙ sym (none_took_any 1 h.connects place e) ∙ nothing (none e)

    by_late : (b : Bool) → h.late ≡ b → servers_took 1 (unless_late b (took_last n) h.connects) place ≡ servers_took 1 h.connects place ++ take n (left_to_last h.connects place)
    by_late true e = nothing (late e)
    by_late false e = by_made (has_made h.connects) refl

marked : (c : ℕ) (v : EventKind) (h : Heard) (place : List Item) → (has_made h.connects ≡ false → server_in c v ≡ 0) → (h.late ≡ true → server_in c v ≡ 0)
    → servers_took 1 (event_marks c v h).connects place ≡ servers_took 1 h.connects place ++ take (server_in c v) (left_to_last h.connects place)
marked c (Accepts d vs from) h place none late = keeps (nat_eq d c) (accepts vs from h) h place (left_to_last h.connects place) refl
marked c (Comes d (Bytes side bytes)) h place none late = keeps (nat_eq d c) (marks (Bytes side bytes) h) h place (left_to_last h.connects place) refl
marked c (Comes d (Ends side)) h place none late = keeps (nat_eq d c) (marks (Ends side) h) h place (left_to_last h.connects place) refl
marked c (Comes d (Resets Client)) h place none late = keeps (nat_eq d c) (marks (Resets Client) h) h place (left_to_last h.connects place) refl
marked c (Comes d (Resets Server)) h place none late =
    keeps (nat_eq d c) (marks (Resets Server) h) h place (left_to_last h.connects place) (kept_unless h.late (λ s. record s { reset = true }) (λ s. refl) 1 h.connects place)
marked c (Comes d (Connects answer)) h place none late = keeps (nat_eq d c) (marks (Connects answer) h) h place (left_to_last h.connects place) refl
marked c (Comes d (Takes Client n)) h place none late = keeps (nat_eq d c) (marks (Takes Client n) h) h place (left_to_last h.connects place) refl
marked c (Comes d (Takes Server n)) h place none late = adds (nat_eq d c) n h place none late
marked c (Ticks moment) h place none late = sym (append-nil (servers_took 1 h.connects place))
marked c Turns h place none late = sym (append-nil (servers_took 1 h.connects place))
marked c Runs h place none late = sym (append-nil (servers_took 1 h.connects place))
marked c (Marks pool member up) h place none late = sym (append-nil (servers_took 1 h.connects place))

-- no answer to a connect, that there is no connection, or one that is made
abbrev NewOne : List (Option SideHeard) → Type 0
NewOne new = (new ≡ []) ⊎ ((new ≡ None ∷ []) ⊎ (new ≡ Some fresh_side ∷ []))

kept_by : (f : SideHeard → SideHeard) → ((s : SideHeard) → (f s).took ≡ s.took) → (cs new : List (Option SideHeard)) (place : List Item) → NewOne new
    → servers_took 1 (at_last f cs ++ new) place ≡ servers_took 1 cs place
kept_by f same cs new place (inl e) =
    ap (λ (l : List (Option SideHeard)). servers_took 1 (at_last f cs ++ l) place) e ∙ ap (λ l. servers_took 1 l place) (append-nil (at_last f cs)) ∙ kept_last f same 1 cs place
kept_by f same cs new place (inr (inl e)) =
    ap (λ (l : List (Option SideHeard)). servers_took 1 (at_last f cs ++ l) place) e ∙ kept_refused 1 (at_last f cs) place ∙ kept_last f same 1 cs place
kept_by f same cs new place (inr (inr e)) =
    ap (λ (l : List (Option SideHeard)). servers_took 1 (at_last f cs ++ l) place) e ∙ kept_answered 1 (at_last f cs) place ∙ kept_last f same 1 cs place

input_new : (i : Input) (b : Bool) → NewOne (if b then brings_in i else brought_nothing).connects
input_new i false = inl refl
input_new (Bytes Client bytes) true = inl refl
input_new (Bytes Server bytes) true = inl refl
input_new (Ends Client) true = inl refl
input_new (Ends Server) true = inl refl
input_new (Resets side) true = inl refl
input_new (Takes side n) true = inl refl
input_new (Connects false) true = inr (inl refl)
input_new (Connects true) true = inr (inr refl)

event_new : (c : ℕ) (v : EventKind) → NewOne (event_brings c v).connects
event_new c (Accepts d vs from) = inl refl
event_new c (Comes d i) = input_new i (nat_eq d c)
event_new c (Ticks moment) = inl refl
event_new c Turns = inl refl
event_new c Runs = inl refl
event_new c (Marks pool member up) = inl refl

group_new : (c : ℕ) (v : EventKind) (b : Bool) → NewOne (if b then brought_nothing else event_brings c v).connects
group_new c v true = inl refl
group_new c v false = event_new c v

pub servers_heard : (c : ℕ) (h : Heard) (v : EventKind) (group : List Note) (place : List Item) → (has_made h.connects ≡ false → server_in c v ≡ 0) → (h.late ≡ true → server_in c v ≡ 0)
    → servers_took 1 (hears c h v group).connects place ≡ servers_took 1 h.connects place ++ take (server_in c v) (left_to_last h.connects place)
servers_heard c h v group place none late =
    let b = brought c h v group in
    kept_by (hears_more b.server) (λ s. took_same s.ended b.server s) (event_marks c v h).connects b.connects place
    (group_new c v (h.finished || finish_told (notes_about c group))) ∙ marked c v h place none late

-- ---- the last one, behind a took-count

none_new : (f : SideHeard → SideHeard) → ((s : SideHeard) → (f s).took ≡ s.took) → (cs new : List (Option SideHeard)) → FewNew new → last_took (at_last f cs ++ new) ≡ last_took cs
none_new f same cs new (inl e) = ap (λ (l : List (Option SideHeard)). last_took (at_last f cs ++ l)) e ∙ ap last_took (append-nil (at_last f cs)) ∙ last_keeps f same cs
none_new f same cs new (inr e) = ap (λ (l : List (Option SideHeard)). last_took (at_last f cs ++ l)) e ∙ took_refused (at_last f cs) ∙ last_keeps f same cs

pub last_heard : (c n : ℕ) (h : Heard) (group : List Note) → has_made h.connects ≡ true → h.late ≡ false → last_took (hears c h (Comes c (Takes Server n)) group).connects ≡ last_took h.connects + n
last_heard c n h group there on_time =
    let v = Comes c (Takes Server n) in
    let b = brought c h v group in
    none_new (hears_more b.server) (λ s. took_same s.ended b.server s) (event_marks c v h).connects b.connects (brought_few (h.finished || finish_told (notes_about c group)) c v tt)
    ∙ ap (λ (x : Bool). last_took (if x then marks (Takes Server n) h else h).connects) (eq_self c) ∙ ap (λ b. last_took (unless_late b (took_last n) h.connects)) on_time ∙ last_more (took_last n) n (λ s. refl) h.connects there

-- ---- places

-- but in a Run its place stays
place_stays : (C : Config) (past : Past) (s next : State) (v : EventKind) (group : List Note) (c : ℕ) → MovesBy C past v group s next → (v ≡ Runs) ⊎ (next.places c ≡ s.places c)
place_stays C past s next (Accepts d vs from) group c m = inr (ap (λ (y : State). y.places c) m.state)
place_stays C past s next (Comes d i) group c m = inr (come_stays C i (heard d past) (hears d (heard d past) (Comes d i) group) d group s next c (heard d past).failed m)
place_stays C past s next (Ticks moment) group c m = inr (ap (λ (y : State). y.places c) m.state)
place_stays C past s next Turns group c m = inr (by_queue s.queue m)
  where
    by_queue : (queue : List Asked) → MovesQueue (store_of C past) (shared past).moment queue group s next → next.places c ≡ s.places c
    by_queue [] k = ap (λ (y : State). y.places c) k.1
    by_queue (a ∷ rest) k = ap (λ (y : State). y.places c) k.state
place_stays C past s next Runs group c m = inl refl
place_stays C past s next (Marks pool member up) group c m = inr (ap (λ (y : State). y.places c) m.1)

-- what all server connections took behind an event
pub servers_then : (C : Config) (past : Past) (s next : State) (v : EventKind) (group : List Note) (c : ℕ) → Numbered past s c → MovesBy C past v group s next → (has_made (heard c past).connects ≡ false → server_in c v ≡ 0) → ((heard c past).late ≡ true → server_in c v ≡ 0)
    → servers_took 1 (hears c (heard c past) v group).connects (next.places c) ≡ servers_took 1 (heard c past).connects (s.places c) ++ take (server_in c v) (left_to_last (heard c past).connects (s.places c))
servers_then C past s next v group c k m none late = by (place_stays C past s next v group c m)
  where
    h : Heard
    h = heard c past

    grown_place : Grows s next c
    grown_place = grows C past v group s next m c

    by : (v ≡ Runs) ⊎ (next.places c ≡ s.places c) → servers_took 1 (hears c h v group).connects (next.places c) ≡ servers_took 1 h.connects (s.places c) ++ take (server_in c v) (left_to_last h.connects (s.places c))
    by (inr stays) = ap (servers_took 1 (hears c h v group).connects) stays ∙ servers_heard c h v group (s.places c) none late
    by (inl run) =
        let nothing : server_in c v ≡ 0 = ap (server_in c) run in
        servers_heard c h v group (next.places c) none late
        ∙ ap (λ n. servers_took 1 h.connects (next.places c) ++ take n (left_to_last h.connects (next.places c))) nothing
        ∙ ap (λ l. l ++ []) (ap (servers_took 1 h.connects) grown_place.place ∙ longer_took 1 h.connects (s.places c) grown_place.more (λ n j is. subst (λ x. took_behind j h.connects ≤ length (server_output x (s.places c))) (sym (let f : n ≡ suc j = omega (arith, is) in f)) (k.within (suc j))))
        ∙ sym (ap (λ n. servers_took 1 h.connects (s.places c) ++ take n (left_to_last h.connects (s.places c))) nothing)
