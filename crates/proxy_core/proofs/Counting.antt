-- There are fewer calls than connections may be while one that is live waits for none.
use Rattle.std.proofs.Common.{◌≡◌, refl, sym, ap, subst, ◌∙◌, ℕ, ◌+◌, ◌≤◌, ◌<◌, List, [], ◌∷◌, length, map, Bool, true, false, not, ◌||◌, nat_eq, if◌then◌else◌, arith}
use Rattle.std.specs.Prelude.{is_some}
use Rattle.std.specs.Bool.{MatchBool}
use Rattle.std.proofs.lemmas.List.{length-append, length-map}
use Rattle.conn_trace.specs.Gates.{TakenCounts}
use Rattle.core_events.specs.declared.edges.Edges.{Edges}
use Rattle.conn_trace.specs.Heard.{taken}
use Rattle.conn_trace.specs.Setup.{Setup}
use Rattle.conn_trace.specs.State.{TraceState}
use Rattle.proxy_core.specs.Calls.{as_asked, calls_of, is_any, without_calls}
use Rattle.record_model.specs.Past.{Past, shared}
use Rattle.proxy_core.specs.Ready.{is_in, without}
use Rattle.proxy_core.specs.Represents.{AgreesAsleep, Represents}
use Rattle.proxy_core.specs.Scheduler.{State, Seen, open_calls, seen}
use Rattle.record_model.specs.Setup.{setup_of, stand_of}
use Rattle.proxy_core.specs.Sound.{unseen, Spot, Served, SoundAt}
use Rattle.proxy_core.specs.declared.call.Asked.{Asked}
use Rattle.proxy_core.specs.declared.call.Asleep.{Asleep}
use Rattle.run_config.specs.declared.config.Config.{Config}
use Rattle.proxy_core.specs.declared.core_state.Core.{Core}
use Rattle.proxy_core.proofs.Entries.{calls_front, calls_without, calls_without_self}
use Rattle.proxy_core.proofs.Members.{eq_same, in_without_other}
use Rattle.proxy_core.proofs.Sleepers.{all_held, held_open}

-- the calls of one connection, and the others
parted : (n : ℕ) (queue : List Asked) → length queue ≡ length (without_calls n queue) + length (calls_of n queue)
parted n [] = omega arith
parted n (a ∷ queue) = by_test (nat_eq n a.conn) (parted n queue)
  where
    by_test : (b : Bool) → length queue ≡ length (without_calls n queue) + length (calls_of n queue)
        → length (a ∷ queue) ≡ length (if not b then a ∷ without_calls n queue else without_calls n queue) + length (if b then a.call ∷ calls_of n queue else calls_of n queue)
    by_test true k = omega (arith, k)
    by_test false k = omega (arith, k)

-- each connection has one call at most, and is among these
record Among (live : List ℕ) (queue : List Asked) : Type 0 where
  few : (q : ℕ) → length (calls_of q queue) ≤ 1
  there : (q : ℕ) → is_any (calls_of q queue) ≡ true → is_in live q ≡ true

rest_among : (n : ℕ) (live : List ℕ) (queue : List Asked) → Among (n ∷ live) queue → Among live (without_calls n queue)
rest_among n live queue k = record { few = λ q. fewer q (nat_eq q n) refl; there = λ q h. in_rest q (nat_eq q n) refl h }
  where
    none_left : (q : ℕ) → nat_eq q n ≡ true → calls_of q (without_calls n queue) ≡ []
    none_left q e = ap (λ m. calls_of q (without_calls m queue)) (sym (eq_same q n e)) ∙ calls_without_self q queue

    fewer : (q : ℕ) (b : Bool) → nat_eq q n ≡ b → length (calls_of q (without_calls n queue)) ≤ 1
    fewer q true e = let P : List (List (List ℕ)) → Type 0 = λ x. length x ≤ 1 in subst P (sym (none_left q e)) (omega arith)
    fewer q false e = let P : List (List (List ℕ)) → Type 0 = λ x. length x ≤ 1 in subst P (sym (calls_without n q queue e)) (k.few q)

    by_or : (b c : Bool) → b ≡ false → (b || c) ≡ true → c ≡ true
    by_or true c e h = cc
    by_or false c e h = h

    in_rest : (q : ℕ) (b : Bool) → nat_eq q n ≡ b → is_any (calls_of q (without_calls n queue)) ≡ true → is_in live q ≡ true
    in_rest q true e h = absurd (let x : false ≡ true = sym (ap is_any (none_left q e)) ∙ h in cc)
    in_rest q false e h = by_or (nat_eq q n) (is_in live q) e (k.there q (ap is_any (sym (calls_without n q queue e)) ∙ h))

no_more : (live : List ℕ) (queue : List Asked) → Among live queue → length queue ≤ length live
no_more [] [] k = omega arith
no_more [] (a ∷ queue) k = absurd (let x : false ≡ true = k.there a.conn (ap is_any (calls_front a queue)) in cc)
no_more (n ∷ live) queue k =
    let rest = no_more live (without_calls n queue) (rest_among n live queue k) in
    omega (arith, rest, parted n queue, k.few n)

length_without : (c : ℕ) (live : List ℕ) → is_in live c ≡ true → length live ≡ length (without c live) + 1
length_without c [] h = cc
length_without c (n ∷ live) h = by_test (nat_eq c n) h (length_without c live)
  where
    by_test : (b : Bool) → (b || is_in live c) ≡ true → (is_in live c ≡ true → length live ≡ length (without c live) + 1) → length (n ∷ live) ≡ length (if b then live else n ∷ without c live) + 1
    by_test true k rest = omega arith
    by_test false k rest = omega (arith, rest k)

-- what a sound state says of each
spot_few : (failed live : Bool) (ready : List ℕ) (asked : List (List (List ℕ))) (g : Setup) (took : TakenCounts) (at : TraceState) (e : Edges) → Spot failed live ready asked g took at e → (length asked ≤ 1) × (is_any asked ≡ true → live ≡ true)
spot_few failed live ready [] g took at e s = (omega arith, λ h. absurd (let x : false ≡ true = h in cc))
spot_few false true [] (call ∷ []) g took at e s = (omega arith, λ h. refl)
spot_few false true [] (call ∷ (k ∷ ks)) g took at e s = absurd s
spot_few false true (x ∷ []) (call ∷ ks) g took at e s = absurd s
spot_few false true (x ∷ (y ∷ ys)) (call ∷ ks) g took at e s = absurd s
spot_few false false [] (call ∷ ks) g took at e s = absurd s
spot_few false false (x ∷ xs) (call ∷ ks) g took at e s = absurd s
spot_few true true [] (call ∷ ks) g took at e s = absurd s
spot_few true true (x ∷ []) (call ∷ ks) g took at e s = absurd s
spot_few true true (x ∷ (y ∷ ys)) (call ∷ ks) g took at e s = absurd s
spot_few true false [] (call ∷ ks) g took at e s = absurd s
spot_few true false (x ∷ xs) (call ∷ ks) g took at e s = absurd s

pub sound_few : (C : Config) (c : ℕ) (z : Seen) → SoundAt C c z → (length z.asked ≤ 1) × (is_any z.asked ≡ true → z.live ≡ true)
sound_few C c z s = by_accepted (is_some z.heard.accepted) s
  where
    by_accepted : (b : Bool) → MatchBool b (Served C c z) (z ≡ unseen) → (length z.asked ≤ 1) × (is_any z.asked ≡ true → z.live ≡ true)
    by_accepted true k = spot_few z.heard.failed z.live z.ready z.asked (setup_of C z.heard) (taken z.heard) (stand_of C z.heard z.place) z.heard.edges k.spot
    by_accepted false e =
        let none : z.asked ≡ [] = ap (λ y. y.asked) e in
        let P : List (List (List ℕ)) → Type 0 = λ x. (length x ≤ 1) × (is_any x ≡ true → z.live ≡ true) in
        subst P (sym none) (omega arith, λ h. absurd (let x : false ≡ true = h in cc))

-- what the code holds of a connection is open
open_held : (s : State) (core : Core) → core.queue.items ≡ s.queue → AgreesAsleep s.asleep core.queue.asleep → (q : ℕ) → calls_of q (all_held core.queue.items core.queue.asleep) ≡ open_calls q s
open_held s core queue asleep q = held_open s core.queue.items core.queue.asleep queue asleep q

few_held : (C : Config) (past : Past) (s : State) (core : Core) → Represents C past s core → (q : ℕ) → length (calls_of q (all_held core.queue.items core.queue.asleep)) ≤ 1
few_held C past s core r q =
    let P : List (List (List ℕ)) → Type 0 = λ x. length x ≤ 1 in
    subst P (sym (open_held s core r.agrees.queue r.agrees.asleep q)) (sound_few C q (seen past s q) (r.sound.each q)).0

held_length : (queue : List Asked) (held : List Asleep) → length (all_held queue held) ≡ length queue + length held
held_length queue held = let n = length-append queue (map as_asked held) in let m = length-map held as_asked in omega (arith, n, m)

live_size : (C : Config) (past : Past) (s : State) (core : Core) → Represents C past s core → length core.live.items ≡ length (shared past).live
live_size C past s core r = sym (length-map core.live.items (λ l. l.number)) ∙ ap (λ y. length y.live) r.agrees.shared

-- no more calls are open than connections are live
pub enough_calls : (C : Config) (past : Past) (s : State) (core : Core) → Represents C past s core → length core.queue.items + length core.queue.asleep ≤ core.config.connections
enough_calls C past s core r =
    let all = (shared past).live in
    let held = all_held core.queue.items core.queue.asleep in
    let k : Among all held = record { few = λ q. few_held C past s core r q; there = λ q h. (sound_few C q (seen past s q) (r.sound.each q)).1 (sym (ap is_any (open_held s core r.agrees.queue r.agrees.asleep q)) ∙ h) } in
    let most = no_more all held k in
    let size = live_size C past s core r in
    let limit = core.live_limit in
    omega (arith, most, size, held_length core.queue.items core.queue.asleep, limit)

pub fewer_calls : (C : Config) (past : Past) (s : State) (core : Core) (c : ℕ) → Represents C past s core → open_calls c s ≡ [] → is_in (shared past).live c ≡ true → length core.queue.items + length core.queue.asleep < core.config.connections
fewer_calls C past s core c r none live =
    let all = (shared past).live in
    let held = all_held core.queue.items core.queue.asleep in
    let k : Among (without c all) held = record {
      few = λ q. few_held C past s core r q;
      there = λ q h. by_test q (nat_eq q c) refl h;
    } in
    let most = no_more (without c all) held k in
    let size = live_size C past s core r in
    let calls = held_length core.queue.items core.queue.asleep in
    let limit = core.live_limit in
    omega (arith, most, length_without c all live, size, calls, limit)
  where
    by_test : (q : ℕ) (b : Bool) → nat_eq q c ≡ b → is_any (calls_of q (all_held core.queue.items core.queue.asleep)) ≡ true → is_in (without c (shared past).live) q ≡ true
    by_test q true e h = absurd (let x : false ≡ true = sym (ap is_any (open_held s core r.agrees.queue r.agrees.asleep q ∙ ap (λ n. open_calls n s) (eq_same q c e) ∙ none)) ∙ h in cc)
    by_test q false e h = in_without_other c q (shared past).live e ∙ (sound_few C q (seen past s q) (r.sound.each q)).1 (sym (ap is_any (open_held s core r.agrees.queue r.agrees.asleep q)) ∙ h)
