-- What the program keeps of each connection's bytes: rows by rising numbers.
use Rattle.std.proofs.Common.{map, ◌≡◌, refl, sym, ap, subst, ◌∙◌, ℕ, ◌≤◌, ◌<◌, take}
use Rattle.std.proofs.Common.{List, [], ◌∷◌, ◌++◌, Bool, true, false}
use Rattle.std.proofs.Common.{None, nat_eq, arith, ◌⊎◌}
use Rattle.std.proofs.Common.{inl, inr}
use Rattle.std.specs.Prelude.{is_some}
use Rattle.std.specs.List.{IsDistinct}
use Rattle.std.proofs.lemmas.Bool.Decides.{nat_tests}
use Rattle.std.proofs.lemmas.List.{map-append}
use Rattle.px_bytes.specs.declared.addr.Addr.{Addr}
use Rattle.core_events.specs.declared.note.Cause.TheVariants.{Memory}
use Rattle.core_events.specs.declared.note.Note.{Note}
use Rattle.core_events.specs.declared.note.Note.TheVariants.{Finish}
use Rattle.core_events.specs.declared.event_kind.EventKind.TheVariants.{Accepts}
use Rattle.conn_trace.specs.Heard.{Accepted, Heard}
use Rattle.conn_trace.specs.Item.{Item, client_output}
use Rattle.proxy_core.specs.Moves.{Leads, Moves}
use Rattle.core_events.specs.Kinds.{kind_of}
use Rattle.record_model.specs.Past.{Happened, Past, shared}
use Rattle.proxy_core.specs.Ready.{is_in}
use Rattle.record_model.specs.Refusal.{refusal_rows}
use Rattle.proxy_core.specs.Refusal.{known}
use Rattle.proxy_core.specs.Refusal.{refused}
use Rattle.proxy_core.specs.Scheduler.{State, Seen, seen}
use Rattle.proxy_core.specs.Sound.{unseen, Sound}
use Rattle.run_config.specs.declared.config.Config.{Config}
use Rattle.core_events.specs.declared.event.Event.{Event}
use Rattle.core_events.specs.declared.event.Event.TheVariants.{Accept}
use Rattle.proxy_core.specs.Others.{about}
use Rattle.proxy_core.proofs.Framing.{touches, only_changed}
use Rattle.proxy_core.proofs.Members.{eq_same, in_pushed_other}
use Rattle.proxy_core.proofs.ReadyRing.{distinct_none, distinct_push}
use Rattle.proxy_core.proofs.SoundAccepts.{fresh, seen_accept}
use Rattle.proxy_core.proofs.SoundPast.{none_holds, not_accepted}
use Rattle.number_table.specs.Table.{Rises}
use Rattle.number_table.proofs.Numbers.{rises_push}
use Rattle.proxy.specs.declared.taken.Taken.{Taken}
use Rattle.proxy_core.specs.Servers.{servers_made}
use Rattle.proxy.specs.Replay.{accepted, taken_by, taken_of}
use Rattle.proxy.specs.Taken.{AreRising, none_taken}
use Rattle.proxy.proofs.MadeServers.{none_made, other_makes, servers_of}

-- accepted numbers rise
pub record Rising (past : Past) : Type 0 where
  pub known : (q : ℕ) → is_in (accepted past) q ≡ true → q ≤ (shared past).last
  pub distinct : IsDistinct nat_eq (accepted past)
  pub rises : Rises (accepted past)

absent : (past : Past) (c : ℕ) → Rising past → (shared past).last < c → is_in (accepted past) c ≡ false
absent past c r h = by_test (is_in (accepted past) c) refl
  where
    by_test : (b : Bool) → is_in (accepted past) c ≡ b → is_in (accepted past) c ≡ false
    by_test false e = e
    by_test true e = absurd (let k : c ≤ (shared past).last = r.known c e in omega (arith, k, h))

above : (C : Config) (past : Past) (c : ℕ) (vs : List ℕ) (from : Addr) (s : State) → refused C past s (Accepts c vs from) ≡ None → (shared past).last < c
above C past c vs from s h =
    let r = (none_holds (refusal_rows C (known C past s (Accepts c vs from)) (Accepts c vs from)) h).1.0 in grind (arith, nat_tests)

rises_with : (C : Config) (past : Past) (e : Event) (group : List Note) (s : State) → Rising past → refused C past s (kind_of e) ≡ None → Rising (record { event = e; group = group } ∷ past)
rises_with C past (Accept c vs from) group s r h =
    let low = above C past c vs from s h in
    record {
      known = λ q k. by_number q (nat_eq q c) refl k low;
      distinct = distinct_push c (accepted past) r.distinct (absent past c r low);
      rises = rises_push c (accepted past) (λ m k. omega (arith, r.known m k, low)) r.rises;
    }
  where
    by_number : (q : ℕ) (b : Bool) → nat_eq q c ≡ b → is_in (accepted past ++ c ∷ []) q ≡ true → (shared past).last < c → q ≤ c
    by_number q true e k low = let f = eq_same q c e in omega (arith, f)
    by_number q false e k low = let f = r.known q (sym (in_pushed_other c q (accepted past) e) ∙ k) in omega (arith, f, low)
rises_with C past other group s r h = record { known = r.known; distinct = r.distinct; rises = r.rises }

pub rising : (C : Config) (past : Past) (s : State) → Leads C past s → Rising past
rising C [] s leads = record { known = λ q h. cc; distinct = distinct_none; rises = tt }
rising C (x ∷ past) s (before, leads, accepted, moves) = rises_with C past x.event x.group before (rising C past before leads) accepted

conns_of : (past : Past) (s : State) (numbers : List ℕ) → map (λ t. t.conn) (taken_of past s numbers) ≡ numbers
conns_of past s [] = refl
conns_of past s (c ∷ numbers) = ap (λ ns. c ∷ ns) (conns_of past s numbers)

-- so do the numbers of the clients
pub are_rising : (C : Config) (past : Past) (s : State) (taken : List Taken) → Leads C past s → taken ≡ taken_of past s (accepted past) → AreRising taken
are_rising C past s taken leads is = rw (is, conns_of past s (accepted past)) ((rising C past s leads).rises)

-- what is kept of one connection, by how many servers of it were made, what was heard, and its items
abbrev pub row : (c n : ℕ) → Heard → List Item → Taken
row c n h place = record { conn = c; client = take h.client.took (client_output place); servers = servers_of h.connects place n }

abbrev pub kept_of : (c n : ℕ) → Seen → Taken
kept_of c n z = row c n z.heard z.place

-- of another connection it stays
pub other_stays : (C : Config) (past : Past) (s next : State) (e : Event) (group : List Note) → Moves C past (record { event = e; group = group }) s next → (q : ℕ) → nat_eq (about (kind_of e) s) q ≡ false
    → taken_by (record { event = e; group = group } ∷ past) next q ≡ taken_by past s q
other_stays C past s next e group m q f =
    let x : Happened = record { event = e; group = group } in
    let none : servers_made q (x ∷ past) ≡ servers_made q past = let k = other_makes q (kind_of e) s f in omega (arith, k) in
    ap (λ n. kept_of q n (seen (x ∷ past) next q)) none
    ∙ ap (kept_of q (servers_made q past)) ((only_changed past (kind_of e) group s next (touches C past (kind_of e) group s next m)).others q f)

-- the same for each of some numbers
pub same_each : (past past' : Past) (s s' : State) (numbers : List ℕ) → ((q : ℕ) → taken_by past' s' q ≡ taken_by past s q) → taken_of past' s' numbers ≡ taken_of past s numbers
same_each past past' s s' [] h = refl
same_each past past' s s' (c ∷ numbers) h = ap (λ t. t ∷ taken_of past' s' numbers) (h c) ∙ ap (λ l. taken_by past s c ∷ l) (same_each past past' s s' numbers h)

-- an accept
pub accept_kept : (C : Config) (past : Past) (s next : State) (c : ℕ) (vs : List ℕ) (from : Addr) (group : List Note) → Sound C past s → refused C past s (Accepts c vs from) ≡ None
    → Moves C past (record { event = Accept c vs from; group = group }) s next
    → taken_of past s (accepted past) ++ none_taken c ∷ [] ≡ taken_of (record { event = Accept c vs from; group = group } ∷ past) next (accepted past ++ c ∷ [])
accept_kept C past s next c vs from group r h m =
    let u = not_accepted C past c vs from s r h in
    let own : taken_by (after ∷ past) next c ≡ none_taken c = by_notes u m.notes in
    let before : taken_by past s c ≡ none_taken c = ap (λ n. kept_of c n (seen past s c)) (unmade_by u) ∙ ap (kept_of c 0) u in
    let same : (q : ℕ) → taken_by (after ∷ past) next q ≡ taken_by past s q = λ q. by_number q (nat_eq c q) refl (own ∙ sym before) in
    sym (map-append (taken_by (after ∷ past) next) (accepted past) (c ∷ []) ∙ ap (λ l. l ++ taken_by (after ∷ past) next c ∷ []) (same_each past (after ∷ past) s next (accepted past) same) ∙ ap (λ t. taken_of past s (accepted past) ++ t ∷ []) own)
  where
    after : Happened
    after = record { event = Accept c vs from; group = group }

    a : Accepted
    a = record { virtual = vs; from = from }

    unmade_by : seen past s c ≡ unseen → servers_made c past ≡ 0
    unmade_by u = none_made C past s c r.leads (ap (λ z. is_some z.heard.accepted) u)

    by_seen : (z : Seen) → seen (after ∷ past) next c ≡ z → kept_of c 0 z ≡ none_taken c → seen past s c ≡ unseen → taken_by (after ∷ past) next c ≡ none_taken c
    by_seen z e k u =
        let none : servers_made c (after ∷ past) ≡ 0 = let w = unmade_by u in omega (arith, w) in
        ap (λ n. kept_of c n (seen (after ∷ past) next c)) none ∙ ap (kept_of c 0) e ∙ k

    by_notes : seen past s c ≡ unseen → (group ≡ []) ⊎ (group ≡ Finish c Memory ∷ []) → taken_by (after ∷ past) next c ≡ none_taken c
    by_notes u (inl e) = by_seen (fresh c a false) (seen_accept past c a false group s next u e m.state) refl u
    by_notes u (inr e) = by_seen (fresh c a true) (seen_accept past c a true group s next u e m.state) refl u

    by_number : (q : ℕ) (b : Bool) → nat_eq c q ≡ b → taken_by (after ∷ past) next c ≡ taken_by past s c → taken_by (after ∷ past) next q ≡ taken_by past s q
    by_number q true e k = let P : ℕ → Type 0 = λ n. taken_by (after ∷ past) next n ≡ taken_by past s n in subst P (eq_same c q e) k
    by_number q false e k = other_stays C past s next (Accept c vs from) group m q e
