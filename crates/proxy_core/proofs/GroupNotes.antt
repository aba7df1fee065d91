-- The notes of one event: about which connection, and what they tell.
use Rattle.std.proofs.Common.{◌≡◌, refl, ap, ◌∙◌, ℕ, List, [], ◌∷◌, ◌++◌, append_assoc, Bool, true, false, not, ◌&&◌, Option, Some, None, map, nat_eq, if◌then◌else◌}
use Rattle.std.proofs.lemmas.List.{map-append}
use Rattle.std.proofs.lemmas.Grind.{flat_map-append}
use Rattle.std.specs.List.{filter, list_any}
use Rattle.core_events.specs.declared.note.Note.{Note}
use Rattle.core_events.specs.declared.note.Note.TheVariants as note
use Rattle.core_events.specs.declared.note.CutReason.{CutReason}
use Rattle.core_events.specs.declared.note.Cause.TheVariants.{Memory}
use Rattle.conn_trace.specs.Gates.{TakenCounts}
use Rattle.core_events.specs.Edges.{edge_of, edges_by, edges_noted, is_connecting}
use Rattle.conn_trace.specs.Queries.{half_close_due}
use Rattle.conn_trace.specs.Setup.{Setup}
use Rattle.conn_trace.specs.State.{TraceState}
use Rattle.conn_trace.specs.Trace.{next_item}
use Rattle.core_events.specs.declared.edges.Edges.{Edges}
use Rattle.conn.specs.Settling.{close_notes, client_notes, closing, half_close, is_drained, is_over, is_there, note_if, resting, server_notes, settling, settling_at, took_all, given_up_at}
use Rattle.px_bytes.specs.declared.addr.Side.{Side}
use Rattle.px_bytes.specs.declared.addr.Side.TheVariants.{Client, Server}
use Rattle.conn_trace.specs.HeardLaws.{TellsNothing}
use Rattle.conn_trace.specs.Item.{Item, Reason, Closed, Tcl, Http, Unselected, Rejected, CutBy, cause_of, Passed, Fired, Reused, Connected, Logged, Finished, note_of, notes_of}
use Rattle.conn_trace.specs.Tellings.{tells, conn_of, own, notes_about, replies_told, choices_told, cut_by, cut_told, finish_told, failure_told}
use Rattle.record_model.specs.History.{called_in, entries_in, entry_in}
use Rattle.record_model.specs.Past.{ended_in}
use Rattle.record_model.specs.Clock.{wakes_at}
use Rattle.conn.specs.declared.turn.ConnTurn.{ConnTurn}
use Rattle.conn.specs.declared.turn.ConnTurn.TheVariants as turn
use Rattle.proxy_core.specs.Calls.{sleep_note, sleeps}
use Rattle.proxy_core.specs.Shown.{shows, closes}
use Rattle.proxy_core.proofs.Members.{eq_self}

-- all of them are about connection c
abbrev pub About : ℕ → List Note → Type 0
About c [] = Unit {0}
About c (n ∷ notes) = (conn_of n ≡ c) × About c notes

pub about_joined : (c : ℕ) (some more : List Note) → About c some → About c more → About c (some ++ more)
about_joined c [] more p q = q
about_joined c (n ∷ some) more p q = (p.0, about_joined c some more p.1 q)

pub own_all : (c : ℕ) (notes : List Note) → About c notes → own c notes ≡ notes
own_all c [] h = refl
own_all c (n ∷ notes) h = rw (h.0, eq_self c) (ap (λ ns. n ∷ ns) (own_all c notes h.1))

pub own_none : (c q : ℕ) (notes : List Note) → About c notes → nat_eq c q ≡ false → own q notes ≡ []
own_none c q [] h e = refl
own_none c q (n ∷ notes) h e = rw (h.0, e) (own_none c q notes h.1 e)

pub tells_all : (c : ℕ) (notes : List Note) → About c notes → notes_about c notes ≡ map tells notes
tells_all c notes h = ap (λ ns. map tells ns) (own_all c notes h)

-- a note that an item shows
pub record OfItem (c : ℕ) (n : Note) : Type 0 where
  pub about : conn_of n ≡ c
  pub reply : (tells n).reply ≡ None
  pub fails : (tells n).fails ≡ false
  pub ends : (tells n).ends ≡ false
  pub shown : shows n ≡ true
  pub quiet : closes n ≡ false
  pub none : entry_in n ≡ []

abbrev pub OfItems : ℕ → List Note → Type 0
OfItems c [] = Unit {0}
OfItems c (n ∷ notes) = OfItem c n × OfItems c notes

finish_of_item : (c : ℕ) (r : Reason) → OfItem c (note.Finish c (cause_of r))
finish_of_item c Closed = record { about = refl; reply = refl; fails = refl; ends = refl; shown = refl; quiet = refl; none = refl }
finish_of_item c (Tcl kind) = record { about = refl; reply = refl; fails = refl; ends = refl; shown = refl; quiet = refl; none = refl }
finish_of_item c (Http fault) = record { about = refl; reply = refl; fails = refl; ends = refl; shown = refl; quiet = refl; none = refl }
finish_of_item c Unselected = record { about = refl; reply = refl; fails = refl; ends = refl; shown = refl; quiet = refl; none = refl }
finish_of_item c Rejected = record { about = refl; reply = refl; fails = refl; ends = refl; shown = refl; quiet = refl; none = refl }
finish_of_item c (CutBy why) = record { about = refl; reply = refl; fails = refl; ends = refl; shown = refl; quiet = refl; none = refl }

of_item : (c : ℕ) (i : Item) → OfItems c (note_of c i)
of_item c (Passed from to bytes) = (record { about = refl; reply = refl; fails = refl; ends = refl; shown = refl; quiet = refl; none = refl }, tt)
of_item c (Fired side n) = (record { about = refl; reply = refl; fails = refl; ends = refl; shown = refl; quiet = refl; none = refl }, tt)
of_item c (Reused kept) = (record { about = refl; reply = refl; fails = refl; ends = refl; shown = refl; quiet = refl; none = refl }, tt)
of_item c (Connected to) = (record { about = refl; reply = refl; fails = refl; ends = refl; shown = refl; quiet = refl; none = refl }, tt)
of_item c (Logged text) = (record { about = refl; reply = refl; fails = refl; ends = refl; shown = refl; quiet = refl; none = refl }, tt)
of_item c (Finished reason) = (finish_of_item c reason, tt)
of_item c other = tt

of_both : (c : ℕ) (some more : List Note) → OfItems c some → OfItems c more → OfItems c (some ++ more)
of_both c [] more p q = q
of_both c (n ∷ some) more p q = (p.0, of_both c some more p.1 q)

pub of_items : (c : ℕ) (items : List Item) → OfItems c (notes_of c items)
of_items c [] = tt
of_items c (i ∷ items) = of_both c (note_of c i) (notes_of c items) (of_item c i) (of_items c items)

pub about_items : (c : ℕ) (notes : List Note) → OfItems c notes → About c notes
about_items c [] h = tt
about_items c (n ∷ notes) h = (h.0.about, about_items c notes h.1)

-- in front of others they tell of no reply, no want of memory and no end
pub replies_behind : (c : ℕ) (some more : List Note) → OfItems c some → replies_told (map tells (some ++ more)) ≡ replies_told (map tells more)
replies_behind c [] more h = refl
replies_behind c (n ∷ some) more h = rw h.0.reply (replies_behind c some more h.1)

pub failure_behind : (c : ℕ) (some more : List Note) → OfItems c some → failure_told (map tells (some ++ more)) ≡ failure_told (map tells more)
failure_behind c [] more h = refl
failure_behind c (n ∷ some) more h = rw h.0.fails (failure_behind c some more h.1)

pub ended_behind : (c : ℕ) (some more : List Note) → OfItems c some → ended_in (some ++ more) ≡ ended_in more
ended_behind c [] more h = refl
ended_behind c (n ∷ some) more h = rw h.0.ends (ended_behind c some more h.1)

pub shown_all : (c : ℕ) (notes : List Note) → OfItems c notes → filter shows notes ≡ notes
shown_all c [] h = refl
shown_all c (n ∷ notes) h = rw h.0.shown (ap (λ ns. n ∷ ns) (shown_all c notes h.1))

pub closed_behind : (c : ℕ) (some more : List Note) → OfItems c some → list_any closes (some ++ more) ≡ list_any closes more
closed_behind c [] more h = refl
closed_behind c (n ∷ some) more h = rw h.0.quiet (closed_behind c some more h.1)

-- none of them is an entry of the history
pub entries_items : (c : ℕ) (notes : List Note) → OfItems c notes → entries_in notes ≡ []
entries_items c [] h = refl
entries_items c (n ∷ notes) h = ap (λ es. es ++ entries_in notes) h.0.none ∙ entries_items c notes h.1

pub entries_on : (some more : List Note) → entries_in (some ++ more) ≡ entries_in some ++ entries_in more
entries_on some more = flat_map-append entry_in some more

pub called_on : (some more : List Note) → called_in (some ++ more) ≡ called_in some ++ called_in more
called_on some more = ap (map (λ e. e.call)) (entries_on some more) ∙ map-append (λ e. e.call) (entries_in some) (entries_in more)

-- notes about c that tell of no cut, in front of others
pub cut_behind : (took : TakenCounts) (some more : List Note) → cut_told took (map tells some) ≡ None → cut_told took (map tells (some ++ more)) ≡ cut_told took (map tells more)
cut_behind took [] more h = refl
cut_behind took (n ∷ some) more h = by_cut (tells n).cut h (cut_behind took some more)
  where
    by_cut : (o : Option CutReason) → cut_by o took (cut_told took (map tells some)) ≡ None → (cut_told took (map tells some) ≡ None → cut_told took (map tells (some ++ more)) ≡ cut_told took (map tells more)) → cut_by o took (cut_told took (map tells (some ++ more))) ≡ cut_told took (map tells more)
    by_cut None k rest = rest k
    by_cut (Some reason) k rest = cc

-- the last notes tell nothing of an answer, a choice or a cut
pub quiet_by : (c : ℕ) (group : List Note) → About c group → replies_told (map tells group) ≡ [] → choices_told (map tells group) ≡ [] → ((took : TakenCounts) → cut_told took (map tells group) ≡ None) → TellsNothing c group
quiet_by c group a r h k = record {
  replies = ap replies_told (tells_all c group a) ∙ r;
  choices = ap choices_told (tells_all c group a) ∙ h;
  cut = λ took. ap (cut_told took) (tells_all c group a) ∙ k took;
}

pub quiet_finish : (c : ℕ) → TellsNothing c (note.Finish c Memory ∷ [])
quiet_finish c = quiet_by c (note.Finish c Memory ∷ []) (refl, tt) refl refl (λ took. refl)

-- ---- notes that are due where a connection can't go on

-- one that tells of no answer, choice or cut, and of no Finish
pub record IsDue (c : ℕ) (n : Note) : Type 0 where
  pub about : conn_of n ≡ c
  pub reply : (tells n).reply ≡ None
  pub choice : (tells n).choice ≡ None
  pub cut : (tells n).cut ≡ None
  pub finishes : (tells n).finishes ≡ false
  pub fails : (tells n).fails ≡ false
  pub hidden : shows n ≡ false
  pub none : entry_in n ≡ []
  pub asks : (e : Edges) → is_connecting (edges_by n e).server.state ≡ true → is_connecting e.server.state ≡ true

abbrev pub AreDue : ℕ → List Note → Type 0
AreDue c [] = Unit {0}
AreDue c (n ∷ notes) = IsDue c n × AreDue c notes

pub due_both : (c : ℕ) (some more : List Note) → AreDue c some → AreDue c more → AreDue c (some ++ more)
due_both c [] more p q = q
due_both c (n ∷ some) more p q = (p.0, due_both c some more p.1 q)

pub due_about : (c : ℕ) (notes : List Note) → AreDue c notes → About c notes
due_about c [] h = tt
due_about c (n ∷ notes) h = (h.0.about, due_about c notes h.1)

pub due_finish : (c : ℕ) (notes : List Note) → AreDue c notes → finish_told (map tells notes) ≡ false
due_finish c [] h = refl
due_finish c (n ∷ notes) h = rw h.0.finishes (due_finish c notes h.1)

pub due_failure : (c : ℕ) (notes : List Note) → AreDue c notes → failure_told (map tells notes) ≡ false
due_failure c [] h = refl
due_failure c (n ∷ notes) h = rw h.0.fails (due_failure c notes h.1)

pub due_replies : (c : ℕ) (notes : List Note) → AreDue c notes → replies_told (map tells notes) ≡ []
due_replies c [] h = refl
due_replies c (n ∷ notes) h = rw h.0.reply (due_replies c notes h.1)

pub due_choices : (c : ℕ) (notes : List Note) → AreDue c notes → choices_told (map tells notes) ≡ []
due_choices c [] h = refl
due_choices c (n ∷ notes) h = rw h.0.choice (due_choices c notes h.1)

pub due_cut : (c : ℕ) (took : TakenCounts) (notes : List Note) → AreDue c notes → cut_told took (map tells notes) ≡ None
due_cut c took [] h = refl
due_cut c took (n ∷ notes) h = rw h.0.cut (due_cut c took notes h.1)

pub due_hidden : (c : ℕ) (notes : List Note) → AreDue c notes → filter shows notes ≡ []
due_hidden c [] h = refl
due_hidden c (n ∷ notes) h = rw h.0.hidden (due_hidden c notes h.1)

pub due_entries : (c : ℕ) (notes : List Note) → AreDue c notes → entries_in notes ≡ []
due_entries c [] h = refl
due_entries c (n ∷ notes) h = ap (λ es. es ++ entries_in notes) h.0.none ∙ due_entries c notes h.1

-- no server is asked for by them
pub due_asks : (c : ℕ) (notes : List Note) → AreDue c notes → (e : Edges) → is_connecting (edges_noted notes e).server.state ≡ true → is_connecting e.server.state ≡ true
due_asks c [] h e is = is
due_asks c (n ∷ notes) h e is = h.0.asks e (due_asks c notes h.1 (edges_by n e) is)

pub due_quiet : (c : ℕ) (notes : List Note) → AreDue c notes → TellsNothing c notes
due_quiet c notes h = quiet_by c notes (due_about c notes h) (due_replies c notes h) (due_choices c notes h) (λ took. due_cut c took notes h)

due_if : (c : ℕ) (b : Bool) (n : Note) → IsDue c n → AreDue c (note_if b n)
due_if c true n h = (h, tt)
due_if c false n h = tt

-- until when a call sleeps
sleep_is_due : (c until : ℕ) → IsDue c (note.Sleep c until)
sleep_is_due c until = record { about = refl; reply = refl; choice = refl; cut = refl; finishes = refl; fails = refl; hidden = refl; none = refl; asks = λ e is. is }

pub sleep_due : (t : ConnTurn) (c moment : ℕ) → AreDue c (sleep_note t c moment)
sleep_due (turn.Asks call) c moment = due_if c (sleeps call) (note.Sleep c (wakes_at moment call)) (sleep_is_due c (wakes_at moment call))
sleep_due turn.More c moment = tt
sleep_due turn.NotYet c moment = tt
sleep_due turn.Over c moment = tt

-- what was told of a Run, and the note that its call sleeps
pub whole_notes : (t : ConnTurn) (c moment : ℕ) (group told items behind : List Note) → group ≡ told ++ sleep_note t c moment → told ≡ items ++ behind → group ≡ items ++ (behind ++ sleep_note t c moment)
whole_notes t c moment group told items behind e f = e ∙ ap (λ x. x ++ sleep_note t c moment) f ∙ append_assoc items behind (sleep_note t c moment)

half_is_due : (c : ℕ) (side : Side) → IsDue c (note.HalfClose c side)
half_is_due c Client = record { about = refl; reply = refl; choice = refl; cut = refl; finishes = refl; fails = refl; hidden = refl; none = refl; asks = λ e is. is }
half_is_due c Server = record { about = refl; reply = refl; choice = refl; cut = refl; finishes = refl; fails = refl; hidden = refl; none = refl; asks = λ e is. is }

server_is_due : (c : ℕ) → IsDue c (note.CloseServer c)
server_is_due c = record { about = refl; reply = refl; choice = refl; cut = refl; finishes = refl; fails = refl; hidden = refl; none = refl; asks = λ e is. absurd (let x : false ≡ true = is in cc) }

client_is_due : (c : ℕ) → IsDue c (note.CloseClient c)
client_is_due c = record { about = refl; reply = refl; choice = refl; cut = refl; finishes = refl; fails = refl; hidden = refl; none = refl; asks = λ e is. is }

ended_is_due : (c d : ℕ) → IsDue c (note.Ended c d)
ended_is_due c d = record { about = refl; reply = refl; choice = refl; cut = refl; finishes = refl; fails = refl; hidden = refl; none = refl; asks = λ e is. is }

close_due : (c : ℕ) (server client : Bool) (e : Edges) → AreDue c (close_notes c server client e)
close_due c server client e = due_both c (server_notes c server e) (client_notes c client e) (due_if c (server && is_there e.server.state) (note.CloseServer c) (server_is_due c)) (due_if c (client && is_there e.client.state) (note.CloseClient c) (client_is_due c))

pub closing_due : (c : ℕ) (e : Edges) (d : ℕ) → AreDue c (closing c e d)
closing_due c e d = due_both c (close_notes c true true e) (note.Ended c d ∷ []) (close_due c true true e) (ended_is_due c d, tt)

pub settling_due : (over given : Bool) (c : ℕ) (e : Edges) (server client : Bool) (d : ℕ) → AreDue c (settling over given c e server client d)
settling_due true given c e server client d = due_both c (close_notes c server client e) (note_if (client && server) (note.Ended c d)) (close_due c server client e) (due_if c (client && server) (note.Ended c d) (ended_is_due c d))
settling_due false given c e server client d = due_if c ((given && server) && is_there e.server.state) (note.CloseServer c) (server_is_due c)

half_due : (took : TakenCounts) (at : TraceState) (c : ℕ) (e : Edges) (side : Side) → AreDue c (half_close took at c e side)
half_due took at c e side = due_if c (half_close_due at took side && not (edge_of side e).half) (note.HalfClose c side) (half_is_due c side)

pub resting_due : (g : Setup) (took : TakenCounts) (at : TraceState) (c : ℕ) (e : Edges) (d : ℕ) → AreDue c (resting g took at c e d)
resting_due g took at c e d =
    due_both c (half_close took at c e Client) (half_close took at c e Server ++ settling_at g took at c e d) (half_due took at c e Client)
    (due_both c (half_close took at c e Server) (settling_at g took at c e d) (half_due took at c e Server) (settling_due (is_over (next_item g at)) (given_up_at at) c e (took_all at took Server) (took_all at took Client) d))

-- ---- which of them end it

ended_on : (some more : List Note) → ended_in (some ++ more) ≡ ended_in some ++ ended_in more
ended_on [] more = refl
ended_on (n ∷ some) more = by_end (tells n).ends (ended_on some more)
  where
    by_end : (b : Bool) → ended_in (some ++ more) ≡ ended_in some ++ ended_in more → (if b then conn_of n ∷ ended_in (some ++ more) else ended_in (some ++ more)) ≡ (if b then conn_of n ∷ ended_in some else ended_in some) ++ ended_in more
    by_end true k = ap (λ x. conn_of n ∷ x) k
    by_end false k = k

ended_none : (b : Bool) (n : Note) → (tells n).ends ≡ false → ended_in (note_if b n) ≡ []
ended_none true n e = rw e refl
ended_none false n e = refl

ended_closes : (c : ℕ) (server client : Bool) (e : Edges) → ended_in (close_notes c server client e) ≡ []
ended_closes c server client e =
    ended_on (server_notes c server e) (client_notes c client e)
    ∙ ap (λ x. x ++ ended_in (client_notes c client e)) (ended_none (server && is_there e.server.state) (note.CloseServer c) refl)
    ∙ ended_none (client && is_there e.client.state) (note.CloseClient c) refl

pub ended_closing : (c : ℕ) (e : Edges) (d : ℕ) → ended_in (closing c e d) ≡ c ∷ []
ended_closing c e d = ended_on (close_notes c true true e) (note.Ended c d ∷ []) ∙ ap (λ x. x ++ c ∷ []) (ended_closes c true true e)

ended_last : (b : Bool) (c d : ℕ) → ended_in (note_if b (note.Ended c d)) ≡ (if b then c ∷ [] else [])
ended_last true c d = refl
ended_last false c d = refl

pub ended_settling : (over given : Bool) (c : ℕ) (e : Edges) (server client : Bool) (d : ℕ) → ended_in (settling over given c e server client d) ≡ (if over && (client && server) then c ∷ [] else [])
ended_settling true given c e server client d =
    ended_on (close_notes c server client e) (note_if (client && server) (note.Ended c d)) ∙ ap (λ x. x ++ ended_in (note_if (client && server) (note.Ended c d))) (ended_closes c server client e)
    ∙ ended_last (client && server) c d
ended_settling false given c e server client d = ended_none ((given && server) && is_there e.server.state) (note.CloseServer c) refl

-- it ends exactly where both sides took all and its trace is over
pub ended_settling_at : (g : Setup) (took : TakenCounts) (at : TraceState) (c : ℕ) (e : Edges) (d : ℕ) → ended_in (settling_at g took at c e d) ≡ (if is_drained g took at then c ∷ [] else [])
ended_settling_at g took at c e d = ended_settling (is_over (next_item g at)) (given_up_at at) c e (took_all at took Server) (took_all at took Client) d

pub ended_resting : (g : Setup) (took : TakenCounts) (at : TraceState) (c : ℕ) (e : Edges) (d : ℕ) → ended_in (resting g took at c e d) ≡ (if is_drained g took at then c ∷ [] else [])
ended_resting g took at c e d =
    let last = settling_at g took at c e d in
    ended_on (half_close took at c e Client) (half_close took at c e Server ++ last)
    ∙ ap (λ x. x ++ ended_in (half_close took at c e Server ++ last)) (ended_none (half_close_due at took Client && not (edge_of Client e).half) (note.HalfClose c Client) refl)
    ∙ ended_on (half_close took at c e Server) last
    ∙ ap (λ x. x ++ ended_in last) (ended_none (half_close_due at took Server && not (edge_of Server e).half) (note.HalfClose c Server) refl)
    ∙ ended_settling_at g took at c e d
