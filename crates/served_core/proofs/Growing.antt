-- What one event adds to the items of a connection, and to what its client took.
use Rattle.std.proofs.Common.{◌≡◌, ◌⊎◌, ℕ, ◌+◌, ◌≤◌, List, [], ◌∷◌, ◌++◌, length, take, drop, Bool, true, false, Option, None, nat_eq, if◌then◌else◌}
use Rattle.std.proofs.Common.{inl, inr, refl, ap, sym, ◌∙◌, subst, arith}
use Rattle.std.specs.Bool.{MatchBool}
use Rattle.std.specs.List.{flat_map}
use Rattle.std.specs.Prelude.{is_some}
use Rattle.std.proofs.Math.Seq.{take-add}
use Rattle.std.proofs.lemmas.List.{append-nil, take-append-le}
use Rattle.std.proofs.lemmas.Grind.{flat_map-append}
use Rattle.px_bytes.specs.declared.addr.Side.TheVariants.{Client, Server}
use Rattle.core_events.specs.declared.note.Note.{Note}
use Rattle.conn_trace.specs.Further.{Coming}
use Rattle.core_events.specs.declared.event_kind.EventKind.{EventKind}
use Rattle.core_events.specs.declared.event_kind.EventKind.TheVariants.{Accepts, Comes, Ticks}
use Rattle.core_events.specs.declared.event_kind.EventKind.TheVariants.{Turns, Runs, Marks}
use Rattle.core_events.specs.declared.input.Input.{Input}
use Rattle.core_events.specs.declared.input.Input.TheVariants.{Bytes, Ends, Resets, Connects, Takes}
use Rattle.conn_trace.specs.Heard.{Heard, SideHeard, edges_met, hears, hears_by, marks, accepts}
use Rattle.conn_trace.specs.Heard.{event_marks, brought}
use Rattle.conn_trace.specs.Item.{Item, client_output}
use Rattle.record_model.specs.History.{store_of}
use Rattle.proxy_core.specs.Moves.{MovesBy, MovesFailed, MovesOn, MovesLacks, MovesRing, MovesQueue, RunsFailed, RunsOn, RunsOut, ran}
use Rattle.record_model.specs.Past.{Past, heard, shared}
use Rattle.proxy_core.specs.Refusal.{refused}
use Rattle.proxy_core.specs.Represents.{Represents}
use Rattle.proxy_core.specs.Scheduler.{State, Seen, seen}
use Rattle.proxy_core.specs.Sound.{Served, unseen}
use Rattle.proxy_core.specs.declared.call.Asked.{Asked}
use Rattle.proxy_core.specs.declared.call.Asleep.{Asleep}
use Rattle.run_config.specs.declared.config.Config.{Config}
use Rattle.proxy_core.specs.declared.core_state.Core.{Core}
use Rattle.proxy_core.proofs.Members.{eq_same, eq_self}
use Rattle.proxy_core.proofs.SoundPast.{may_come_at}

-- ---- items

-- the place of connection c is a front of its next one
pub record Grows (old new : State) (c : ℕ) : Type 0 where
  pub more : List Item
  pub place : new.places c ≡ old.places c ++ more

stays : (old new : State) (c : ℕ) → new.places c ≡ old.places c → Grows old new c
stays old new c e = record { more = []; place = e ∙ sym (append-nil (old.places c)) }

ran_grows : (old new : State) (d : ℕ) (ring : List ℕ) (queue : List Asked) (o : Option Asleep) (more : List Item) (slices : ℕ) → new ≡ ran d ring queue o more slices old → (c : ℕ)
    → (b : Bool) → nat_eq d c ≡ b → Grows old new c
ran_grows old new d ring queue o more slices e c true is = record {
  more = more;
  place = ap (λ (y : State). y.places c) e ∙ ap (λ (b : Bool). if b then old.places d ++ more else old.places c) is
      ∙ ap (λ n. old.places n ++ more) (eq_same d c is);
}
ran_grows old new d ring queue o more slices e c false is =
    stays old new c (ap (λ (y : State). y.places c) e ∙ ap (λ (b : Bool). if b then old.places d ++ more else old.places c) is)

pub come_stays : (C : Config) (input : Input) (before now : Heard) (d : ℕ) (group : List Note) (old new : State) (c : ℕ) → (b : Bool)
    → MatchBool b (MovesFailed d group old new) (MovesOn C now d (edges_met input before.edges) group old new ⊎ MovesLacks input d group old new)
    → new.places c ≡ old.places c
come_stays C input before now d group old new c true k = ap (λ (y : State). y.places c) k.state
come_stays C input before now d group old new c false (inl k) = ap (λ (y : State). y.places c) k.state
come_stays C input before now d group old new c false (inr k) = ap (λ (y : State). y.places c) k.state

front_grows : (C : Config) (h : Heard) (moment d : ℕ) (rest : List ℕ) (group : List Note) (old new : State) (c : ℕ) → (b : Bool)
    → MatchBool b (RunsFailed h d rest group old new) (RunsOn C h moment d rest group old new ⊎ RunsOut C h d rest group old new) → Grows old new c
front_grows C h moment d rest group old new c true k = stays old new c (ap (λ (y : State). y.places c) k.state)
front_grows C h moment d rest group old new c false (inl k) = ran_grows old new d _ _ _ k.more _ k.state c (nat_eq d c) refl
front_grows C h moment d rest group old new c false (inr k) = ran_grows old new d _ _ _ k.more _ k.state c (nat_eq d c) refl

ring_grows : (C : Config) (past : Past) (ring : List ℕ) (group : List Note) (old new : State) (c : ℕ) → MovesRing C past ring group old new → Grows old new c
ring_grows C past [] group old new c k = stays old new c (ap (λ (y : State). y.places c) k.1)
ring_grows C past (d ∷ rest) group old new c k = front_grows C (heard d past) (shared past).moment d rest group old new c (heard d past).failed k

queue_grows : (C : Config) (past : Past) (queue : List Asked) (group : List Note) (old new : State) (c : ℕ)
    → MovesQueue (store_of C past) (shared past).moment queue group old new → Grows old new c
queue_grows C past [] group old new c k = stays old new c (ap (λ (y : State). y.places c) k.1)
queue_grows C past (a ∷ rest) group old new c k = stays old new c (ap (λ (y : State). y.places c) k.state)

pub grows : (C : Config) (past : Past) (v : EventKind) (group : List Note) (old new : State) → MovesBy C past v group old new → (c : ℕ) → Grows old new c
grows C past (Accepts d vs from) group old new m c = stays old new c (ap (λ (y : State). y.places c) m.state)
grows C past (Comes d input) group old new m c =
    stays old new c (come_stays C input (heard d past) (hears d (heard d past) (Comes d input) group) d group old new c (heard d past).failed m)
grows C past (Ticks moment) group old new m c = stays old new c (ap (λ (y : State). y.places c) m.state)
grows C past Turns group old new m c = queue_grows C past old.queue group old new c m
grows C past Runs group old new m c = ring_grows C past old.ring group old new c m
grows C past (Marks pool member up) group old new m c = stays old new c (ap (λ (y : State). y.places c) m.1)

-- ---- took-counts

-- how many bytes more an event says that the client of connection c took
abbrev pub took_in : ℕ → EventKind → ℕ
took_in c (Comes d (Takes Client n)) = if nat_eq d c then n else 0
took_in c other = 0

pub none_more : (n : ℕ) → n ≡ n + 0
none_more n = omega arith

keeps_took : (b : Bool) (x h : Heard) → x.client.took ≡ h.client.took → (if b then x else h).client.took ≡ h.client.took + 0
keeps_took true x h e = e ∙ none_more h.client.took
keeps_took false x h e = none_more h.client.took

adds_took : (b : Bool) (n : ℕ) (h : Heard) → (if b then marks (Takes Client n) h else h).client.took ≡ h.client.took + (if b then n else 0)
adds_took true n h = refl
adds_took false n h = none_more h.client.took

marked : (c : ℕ) (v : EventKind) (h : Heard) → (event_marks c v h).client.took ≡ h.client.took + took_in c v
marked c (Accepts d vs from) h = keeps_took (nat_eq d c) (accepts vs from h) h refl
marked c (Comes d (Bytes side bytes)) h = keeps_took (nat_eq d c) (marks (Bytes side bytes) h) h refl
marked c (Comes d (Ends side)) h = keeps_took (nat_eq d c) (marks (Ends side) h) h refl
marked c (Comes d (Resets Client)) h = keeps_took (nat_eq d c) (marks (Resets Client) h) h refl
marked c (Comes d (Resets Server)) h = keeps_took (nat_eq d c) (marks (Resets Server) h) h refl
marked c (Comes d (Connects made)) h = keeps_took (nat_eq d c) (marks (Connects made) h) h refl
marked c (Comes d (Takes Client n)) h = adds_took (nat_eq d c) n h
marked c (Comes d (Takes Server n)) h = keeps_took (nat_eq d c) (marks (Takes Server n) h) h refl
marked c (Ticks moment) h = none_more h.client.took
marked c Turns h = none_more h.client.took
marked c Runs h = none_more h.client.took
marked c (Marks pool member up) h = none_more h.client.took

pub took_same : (b : Bool) (k : Coming) (s : SideHeard) → (hears_by b k s).took ≡ s.took
took_same true k s = refl
took_same false k s = refl

pub heard_took : (c : ℕ) (h : Heard) (v : EventKind) (group : List Note) → (hears c h v group).client.took ≡ h.client.took + took_in c v
heard_took c h v group =
    took_same (event_marks c v h).client.ended (brought c h v group).client (event_marks c v h).client ∙ marked c v h

-- no client took more than was sent to it
within_by : (C : Config) (c : ℕ) (z : Seen) → (b : Bool) → MatchBool b (Served C c z) (z ≡ unseen) → z.heard.client.took ≤ length (client_output z.place)
within_by C c z true k = k.within.client
within_by C c z false k =
    let P : Seen → Type 0 = λ y. y.heard.client.took ≤ length (client_output y.place) in
    let none : P unseen = omega arith in subst P (sym k) none

within_at : (C : Config) (past : Past) (s : State) (core : Core) (c : ℕ) → Represents C past s core
    → (heard c past).client.took ≤ length (client_output (s.places c))
within_at C past s core c r = within_by C c (seen past s c) (is_some (heard c past).accepted) (r.sound.each c)

plain_fits : (C : Config) (past : Past) (s : State) (core : Core) (c : ℕ) → Represents C past s core
    → (heard c past).client.took + 0 ≤ length (client_output (s.places c))
plain_fits C past s core c r = subst (λ k. k ≤ length (client_output (s.places c))) (none_more (heard c past).client.took) (within_at C past s core c r)

took_fits : (C : Config) (past : Past) (s : State) (core : Core) (d n c : ℕ) → Represents C past s core → refused C past s (Comes d (Takes Client n)) ≡ None
    → (b : Bool) → nat_eq d c ≡ b → (heard c past).client.took + (if b then n else 0) ≤ length (client_output (s.places c))
took_fits C past s core d n c r fine true is =
    let P : ℕ → Type 0 = λ k. (heard k past).client.took + n ≤ length (client_output (s.places k)) in
    let sum = heard_took d (heard d past) (Comes d (Takes Client n)) [] ∙ ap (λ (b : Bool). (heard d past).client.took + (if b then n else 0)) (eq_self d) in
    let within = (may_come_at C past s d (Takes Client n) (r.sound.each d) fine).within [] in
    let there : P d = subst (λ k. k ≤ length (client_output (s.places d))) sum within.client in
    subst P (eq_same d c is) there
took_fits C past s core d n c r fine false is = plain_fits C past s core c r

-- nor does it where an event isn't refused
pub fits : (C : Config) (past : Past) (s : State) (core : Core) (v : EventKind) (c : ℕ) → Represents C past s core → refused C past s v ≡ None
    → (heard c past).client.took + took_in c v ≤ length (client_output (s.places c))
fits C past s core (Accepts d vs from) c r fine = plain_fits C past s core c r
fits C past s core (Comes d (Bytes side bytes)) c r fine = plain_fits C past s core c r
fits C past s core (Comes d (Ends side)) c r fine = plain_fits C past s core c r
fits C past s core (Comes d (Resets side)) c r fine = plain_fits C past s core c r
fits C past s core (Comes d (Connects made)) c r fine = plain_fits C past s core c r
fits C past s core (Comes d (Takes Client n)) c r fine = took_fits C past s core d n c r fine (nat_eq d c) refl
fits C past s core (Comes d (Takes Server n)) c r fine = plain_fits C past s core c r
fits C past s core (Ticks moment) c r fine = plain_fits C past s core c r
fits C past s core Turns c r fine = plain_fits C past s core c r
fits C past s core Runs c r fine = plain_fits C past s core c r
fits C past s core (Marks pool member up) c r fine = plain_fits C past s core c r

-- ---- both

pub grown : (sent : Item → List ℕ) (t : ℕ) (p more : List Item) → t ≤ length (flat_map sent p) → take t (flat_map sent (p ++ more)) ≡ take t (flat_map sent p)
grown sent t p more le = ap (take t) (flat_map-append sent p more) ∙ take-append-le t (flat_map sent p) (flat_map sent more) le

-- what was taken before and one piece more is what is taken then, of what items send
pub one_more : (sent : Item → List ℕ) (t n t' : ℕ) (before piece : List ℕ) (p more p' : List Item) → before ≡ take t (flat_map sent p)
    → piece ≡ take n (drop t (flat_map sent p)) → t + n ≤ length (flat_map sent p) → t' ≡ t + n → p' ≡ p ++ more
    → before ++ piece ≡ take t' (flat_map sent p')
one_more sent t n t' before piece p more p' was is le sum place =
    ap (λ (l : List ℕ). l ++ piece) was ∙ ap (λ (l : List ℕ). take t (flat_map sent p) ++ l) is ∙ sym (take-add t n (flat_map sent p))
    ∙ sym (grown sent (t + n) p more le) ∙ ap (λ k. take k (flat_map sent (p ++ more))) (sym sum)
    ∙ ap (λ (l : List Item). take t' (flat_map sent l)) (sym place)
