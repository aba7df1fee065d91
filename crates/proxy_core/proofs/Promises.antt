-- The promise, of every past that leads to a state, from what holds of it.
use Rattle.std.proofs.Common.{◌≡◌, refl, sym, true≢false, subst, ◌∙◌, ℕ, ◌+◌, ◌-◌, ◌≤◌, List, length, true, false, arith, suc, ◌<◌, nat_lt, ap, Bool, Option, Some, None, is_some}
use Rattle.conn_trace.specs.Gates.{Counts, no_bytes, sent_from}
use Rattle.conn_trace.specs.Heard.{Heard, taken, start_of}
use Rattle.conn_trace.specs.Item.{Item, client_output, server_output}
use Rattle.conn_trace.specs.Setup.{Setup}
use Rattle.conn_trace.specs.State.{TraceState, link_of}
use Rattle.conn_trace.specs.Trace.{next_item, GivesNoMore, Unfolds}
use Rattle.core_events.specs.declared.note.CutReason.TheVariants.{ClientReset, ServerReset, Idle}
use Rattle.proxy_core.proofs.Sleeping.{entries_awake, sleepers_not_due, sleeps_told}
use Rattle.proxy_core.specs.declared.call.Asleep.{Asleep}
use Rattle.proxy_core.specs.Headline.{IsSettled, NoCutIsDue, ConnectionPromise, EveryPastMatches, OutputMatchesEvaluator, SleepersNotDue}
use Rattle.proxy_core.specs.Moves.{Leads}
use Rattle.record_model.specs.Past.{Past, heard}
use Rattle.proxy_core.specs.Scheduler.{State, Seen, seen, servers_left}
use Rattle.record_model.specs.Setup.{setup_of, stand_of}
use Rattle.proxy_core.specs.Sound.{Rested, Served, TookWithin}
use Rattle.run_config.specs.declared.config.Config.{Config}
use Rattle.record_model.proofs.LiveHistory.{history_is_live}
use Rattle.proxy_core.proofs.Answering.{one_history}
use Rattle.proxy_core.proofs.Promised.{sent_is_prefix, settled_at, settled_has_ended, drained_is_whole, half_at_rest, rest_not_cut, client_license, ended_at, ended_is_whole, ended_finished, client_counts, client_gone, client_took_all, trace_memory, once_finished, second_memory, calls_promised, AtRest, asleep_not_cut, at_rest_gives}
use Rattle.proxy_core.proofs.ServerLeft.{FactsAt, server_facts, all_made}
use Rattle.proxy_core.proofs.SoundPast.{leads_sound}
use Rattle.proxy_core.proofs.Standing.{as_served, sent_at}
use Rattle.proxy_core.specs.Sound.{Sound}
use Rattle.proxy_core.proofs.AllServers.{left_none}
use Rattle.proxy_core.proofs.ServerLaws.{none_sent}
use Rattle.conn_trace.specs.Places.{is_up}
use Rattle.proxy_core.specs.Servers.{last_reset, made, took_of}
use Rattle.std.proofs.lemmas.Bool.{and_parts}
use Rattle.std.proofs.lemmas.Bool.Decides.{nat_tests}

-- what holds of its server, where it stands
abbrev ServerFacts : Config → Heard → List Item → Type 0
ServerFacts C h place = FactsAt (setup_of C h) h place (stand_of C h place)

rest_due : (C : Config) (h : Heard) (place : List Item) → ServerFacts C h place → Rested (setup_of C h) (taken h) (stand_of C h place) h.edges → NoCutIsDue C h place
rest_due C h place f r ClientReset e = rest_not_cut (setup_of C h) (taken h) (stand_of C h place) r.no_cut ClientReset (client_license h (stand_of C h place) e)
rest_due C h place f r ServerReset e =
    let parts = and_parts (last_reset h.connects) (is_up (link_of (stand_of C h place).server)) e in
    rest_not_cut (setup_of C h) (taken h) (stand_of C h place) r.no_cut ServerReset (f.license parts.0 parts.1)
rest_due C h place f r Idle e = absurd (true≢false (sym e))

none_due : (C : Config) (h : Heard) (place : List Item) (o : Option Asleep) → ServerFacts C h place → AtRest (setup_of C h) (taken h) (stand_of C h place) h.edges o → NoCutIsDue C h place
none_due C h place None f r reason e = rest_due C h place f r reason e
none_due C h place (Some a) f r reason e = asleep_not_cut (setup_of C h) (stand_of C h place) a.call (taken h) reason r

-- where nothing is dropped each side took all
client_took : (a t b : ℕ) → t ≤ a → (a - t) + b ≡ 0 → t ≡ a
client_took a t b x e = omega (arith, x, e)

servers_took : (C : Config) (h : Heard) (place : List Item) (l : TraceState) → Unfolds (setup_of C h) (start_of (setup_of C h) h) place l → TookWithin h place → servers_left 1 h.connects place ≡ 0 → (k : ℕ) → took_of h.connects (suc k) ≡ length (server_output (suc k) place)
servers_took C h place l u w none k = by_made (nat_lt k (made h.connects)) refl
  where
    by_made : (b : Bool) → nat_lt k (made h.connects) ≡ b → took_of h.connects (suc k) ≡ length (server_output (suc k) place)
    by_made true is =
        let below : k < made h.connects = grind (arith, nat_tests, is) in
        let least = left_none 1 h.connects place none (suc k) k (omega arith) (omega (arith, below)) in
        let most = w.servers (suc k) in omega (arith, least, most)
    by_made false is =
        let above : made h.connects ≤ k = grind (arith, nat_tests, is) in
        let g = setup_of C h in
        let number = all_made g h place l u in
        let out = ap length (none_sent g (start_of g h) l place (suc k) u (omega (arith, number, above))) in
        let most = w.servers (suc k) in omega (arith, out, most)

none_dropped : (a t b : ℕ) → a ≡ t → b ≡ 0 → (a - t) + b ≡ 0
none_dropped a t b x z = omega (arith, x, z)

promised : (C : Config) (past : Past) (s : State) (c : ℕ) → SleepersNotDue past c (s.asleep c) → ServerFacts C (heard c past) (s.places c) → Served C c (seen past s c) → ConnectionPromise C past s c (seen past s c)
promised C past s c sleeps f k = record {
  sent_is_prefix = sent_is_prefix C c z k;
  settled_is_complete = record {
    settled_found_memory = λ e live. (rests e live).0;
    settled_gave_deliverable = λ e live. subst D sent (gives e live);
    settled_not_cut = λ e live. none_due C h z.place (s.asleep c) f (rests e live).1;
    drained_gave_whole_trace = λ e live a b. drained_is_whole (is_some (s.asleep c)) C c z k a b (gives e live);
    half_close_when_due = λ e live none. half_at_rest g (taken h) l h.edges (subst (λ o. AtRest g (taken h) l h.edges o) none (rests e live).1);
    finished_has_ended = settled_has_ended C past s c k;
    ended_gave_whole_trace = ended_is_whole C c z k;
    ended_clean_sent_all = λ e n none. record {
      no_more = ended_is_whole C c z k e n;
      took_all = client_took (length (client_output z.place)) h.client.took (servers_left 1 h.connects z.place) k.within.client none;
      servers_took_all = servers_took C h z.place l k.stands k.within (let x : servers_left 1 h.connects z.place ≡ 0 = omega (arith, none) in x);
    };
  };
  finish_causes = record {
    shown = k.shown;
    causes = k.causes;
    trace_found_memory = trace_memory c z.place;
    finishes_once = once_finished C c z k;
    second_is_memory = λ first other more e. second_memory C c z k first other more (sym k.causes ∙ e);
    ended_has_finished = ended_finished C c z k;
    cut_is_allowed = k.licensed;
  };
  closes_rightly = record {
    told = k.ends;
    closes_given_up = λ going. (let d = k.drains going in omega (arith, d));
    dropped = λ e n kept up. none_dropped (length (client_output z.place)) h.client.took (servers_left 1 h.connects z.place) (client_took_all C c z k e n kept) (f.left (ended_at C c z k e n).1.1 up);
  };
  entries_are_calls = calls_promised past s c C k;
  sleepers_not_due = sleeps;
  open_line_counts = record {
    sent = client_counts h z.place k.within.client;
    reset = client_gone h z.place;
    server_sent = f.kept;
    server_reset = f.gone;
  };
  slices_are_paid = k.paid;
}
  where
    z : Seen
    z = seen past s c

    h : Heard
    h = heard c past

    g : Setup
    g = setup_of C h

    l : TraceState
    l = stand_of C h z.place

    sent : l.sent ≡ sent_from no_bytes z.place
    sent = sent_at g h z.place l k.stands

    D : Counts → Type 0
    D x = GivesNoMore (is_some (s.asleep c)) x (taken h) (next_item g l)

    rests : IsSettled s → z.live ≡ true → (h.failed ≡ false) × AtRest g (taken h) l h.edges (s.asleep c)
    rests e live = settled_at C c s z refl refl k e live

    gives : IsSettled s → z.live ≡ true → GivesNoMore (is_some (s.asleep c)) l.sent (taken h) (next_item g l)
    gives e live = at_rest_gives g (taken h) l h.edges (s.asleep c) (rests e live).1

-- from what is sound
pub matches_by : (C : Config) (past : Past) (s : State) → Leads C past s → Sound C past s → OutputMatchesEvaluator C past s
matches_by C past s leads sound = record {
  replay_has_scheduler_run = leads;
  one_history = one_history C past s leads;
  store_is_live = history_is_live C past (one_history C past s leads);
  entries_awake = entries_awake C past s leads;
  sleep_notes = sleeps_told C past s leads;
  each_connection = λ c e. (let k = as_served C c (seen past s c) e (sound.each c) in
      promised C past s c (sleepers_not_due C past s leads sound c) (server_facts (setup_of C (heard c past)) c (seen past s c) (stand_of C (heard c past) (s.places c)) k) k);
}

-- and so of every past
pub every_past_matches : EveryPastMatches
every_past_matches C past s leads = matches_by C past s leads (leads_sound C past s leads)
