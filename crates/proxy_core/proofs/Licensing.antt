-- A cut that was heard was allowed: behind each event what was told still allows it.
use Rattle.std.proofs.Common.{◌≡◌, inl, inr, refl, sym, ap, ◌∙◌, ℕ, ◌+◌, List, [], ◌∷◌, ◌++◌, append-nil, Bool, true, false, ◌||◌, if◌then◌else◌, Option, Some, None, is_none, zero-add}
use Rattle.px_bytes.specs.declared.addr.Side.TheVariants.{Client, Server}
use Rattle.core_events.specs.declared.note.CutReason.{CutReason}
use Rattle.core_events.specs.declared.note.CutReason.TheVariants.{ClientReset, ServerReset, Idle}
use Rattle.core_events.specs.declared.note.Note.{Note}
use Rattle.conn_trace.specs.Further.{Coming, nothing_comes, choosing, longer, first_cut, on_last}
use Rattle.conn_trace.specs.Gates.{Counts, TakenCounts, taken_of}
use Rattle.core_events.specs.declared.event_kind.EventKind.{EventKind}
use Rattle.core_events.specs.declared.event_kind.EventKind.TheVariants.{Comes, Runs}
use Rattle.core_events.specs.declared.input.Input.{Input}
use Rattle.core_events.specs.declared.input.Input.TheVariants.{Bytes, Ends, Resets, Connects, Takes}
use Rattle.conn_trace.specs.Heard.{SideHeard, Heard, taken, taken_by, servers_taken, has_made}
use Rattle.conn_trace.specs.Heard.{hears_by, hears_more, at_last, unless_late, brought_nothing, event_brings}
use Rattle.conn_trace.specs.Heard.{brought, hear_brought, marks, event_marks, hears_event, hears}
use Rattle.conn_trace.specs.Heard.{start_of}
use Rattle.conn_trace.specs.HeardLaws.{cut_for, cut_in, TellsNothing}
use Rattle.conn_trace.specs.Item.{Item, Reason, Closed, Tcl, Http, Unselected, Rejected, CutBy, choices_in, shown}
use Rattle.conn_trace.specs.Setup.{Setup}
use Rattle.conn_trace.specs.State.{Cut, TraceState, link_of}
use Rattle.conn_trace.specs.Tellings.{notes_about, cut_told, finish_told}
use Rattle.conn_trace.specs.Trace.{Unfolds}
use Rattle.conn_trace.proofs.Streams.{nothing_on_last}
use Rattle.conn.specs.RunsItems.{CutAtRest, Passes}
use Rattle.conn.specs.Servers.{run_notes}
use Rattle.proxy_core.specs.Scheduler.{last_took}
use Rattle.proxy_core.specs.Servers.{made, last_reset, licenses}
use Rattle.proxy_core.proofs.CameAt.{UncutOr}
use Rattle.proxy_core.proofs.Hearing.{SidesStay, run_stays}
use Rattle.proxy_core.proofs.Meeting.{made_last}
use Rattle.proxy_core.proofs.Members.{eq_self}
use Rattle.proxy_core.proofs.ServerCounts.{taken_last}
use Rattle.proxy_core.proofs.ServerLaws.{made_along, ordered, ordered_longer}
use Rattle.proxy_core.proofs.ServerLeft.{all_made, ordered_at}
use Rattle.proxy_core.proofs.ServerQueues.{Waits, none_wait, up_calm, waits_along, waits_longer}
use Rattle.proxy_core.proofs.RunNotes.{run_notes_tell}
use Rattle.proxy_core.proofs.ServerGone.{never}
use Rattle.std.proofs.lemmas.Bool.{and_parts}
use Rattle.conn_trace.specs.Places.{is_up}

abbrev pub Licensed : Heard → Type 0
Licensed h = (cut : Cut) → h.cut ≡ Some cut → licenses h cut.reason ≡ true

-- ---- what is told later allows no less

record AllowsMore (h h' : Heard) : Type 0 where
  client : h.client.reset ≡ true → h'.client.reset ≡ true
  server : last_reset h.connects ≡ true → last_reset h'.connects ≡ true

still_licensed : (h h' : Heard) (r : CutReason) → AllowsMore h h' → licenses h r ≡ true → licenses h' r ≡ true
still_licensed h h' ClientReset m e = m.client e
still_licensed h h' ServerReset m e = m.server e
still_licensed h h' Idle m e = e

-- where its sides stay and no cut is told
pub stays_licensed : (h h' : Heard) → h'.cut ≡ h.cut → h'.client ≡ h.client → h'.connects ≡ h.connects → Licensed h → Licensed h'
stays_licensed h h' same client connects k =
    λ cut e. still_licensed h h' cut.reason (record { client = λ x. ap (λ s. s.reset) client ∙ x; server = λ x. ap last_reset connects ∙ x }) (k cut (sym same ∙ e))

first_none : (o : Option Cut) → first_cut o None ≡ o
first_none None = refl
first_none (Some c) = refl

pub cut_stays : (c : ℕ) (h : Heard) (v : EventKind) (group : List Note) → ((took : TakenCounts) → cut_told took (notes_about c group) ≡ None) → (hears c h v group).cut ≡ (event_marks c v h).cut
cut_stays c h v group none = ap (first_cut (event_marks c v h).cut) (none (taken (hears_event c h v group))) ∙ first_none (event_marks c v h).cut

marks_cut : (input : Input) (h : Heard) → (marks input h).cut ≡ h.cut
marks_cut (Bytes side bytes) h = refl
marks_cut (Ends side) h = refl
marks_cut (Resets Client) h = refl
marks_cut (Resets Server) h = refl
marks_cut (Connects made) h = refl
marks_cut (Takes Client n) h = refl
marks_cut (Takes Server n) h = refl

-- ---- something comes

reset_last : (f : SideHeard → SideHeard) → ((s : SideHeard) → s.reset ≡ true → (f s).reset ≡ true) → (cs : List (Option SideHeard)) → last_reset cs ≡ true → last_reset (at_last f cs) ≡ true
reset_last f keeps [] e = e
reset_last f keeps (None ∷ more) e = reset_last f keeps more e
reset_last f keeps (Some s ∷ more) e = ap (λ b. if b then last_reset (at_last f more) else (if has_made more then s else f s).reset) (made_last f more) ∙ by_made (has_made more) e (reset_last f keeps more)
  where
    by_made : (b : Bool) → (if b then last_reset more else s.reset) ≡ true → (last_reset more ≡ true → last_reset (at_last f more) ≡ true) → (if b then last_reset (at_last f more) else (if b then s else f s).reset) ≡ true
    by_made true e rest = rest e
    by_made false e rest = keeps s e

reset_unless : (late : Bool) (f : SideHeard → SideHeard) → ((s : SideHeard) → s.reset ≡ true → (f s).reset ≡ true) → (cs : List (Option SideHeard)) → last_reset cs ≡ true → last_reset (unless_late late f cs) ≡ true
reset_unless true f keeps cs e = e
reset_unless false f keeps cs e = reset_last f keeps cs e

marks_more : (input : Input) (h : Heard) → AllowsMore h (marks input h)
marks_more (Bytes side bytes) h = record { client = λ e. e; server = λ e. e }
marks_more (Ends side) h = record { client = λ e. e; server = λ e. e }
marks_more (Resets Client) h = record { client = λ e. refl; server = λ e. e }
marks_more (Resets Server) h = record { client = λ e. e; server = λ e. reset_unless h.late (λ s. record s { reset = true }) (λ s x. refl) h.connects e }
marks_more (Connects made) h = record { client = λ e. e; server = λ e. e }
marks_more (Takes Client n) h = record { client = λ e. e; server = λ e. e }
marks_more (Takes Server n) h = record { client = λ e. e; server = λ e. reset_unless h.late (λ s. record s { took = s.took + n }) (λ s x. x) h.connects e }

heard_reset : (c : Coming) (s : SideHeard) → s.reset ≡ true → (hears_more c s).reset ≡ true
heard_reset c s e = by_end s.ended
  where
    by_end : (b : Bool) → (hears_by b c s).reset ≡ true
    by_end true = e
    by_end false = e

-- nothing is brought once it has finished
nothing_more : (h : Heard) → AllowsMore h (hear_brought brought_nothing h)
nothing_more h = record {
  client = heard_reset nothing_comes h.client;
  server = λ e. ap last_reset (append-nil (at_last (hears_more nothing_comes) h.connects)) ∙ reset_last (hears_more nothing_comes) (heard_reset nothing_comes) h.connects e;
}

pub come_licensed : (c : ℕ) (h : Heard) (input : Input) (group : List Note) → UncutOr h.cut h.finished → ((took : TakenCounts) → cut_told took (notes_about c group) ≡ None) → Licensed h → Licensed (hears c h (Comes c input) group)
come_licensed c h input group uncut none k = λ cut e. by_cut uncut cut (sym (cut_stays c h (Comes c input) group none ∙ same) ∙ e)
  where
    v : EventKind
    v = Comes c input

    marked : event_marks c v h ≡ marks input h
    marked = ap (λ b. if b then marks input h else h) (eq_self c)

    same : (event_marks c v h).cut ≡ h.cut
    same = ap (λ x. x.cut) marked ∙ marks_cut input h

    by_cut : UncutOr h.cut h.finished → (cut : Cut) → h.cut ≡ Some cut → licenses (hears c h v group) cut.reason ≡ true
    by_cut (inl no_cut) cut e = absurd (let x : None ≡ Some cut = sym no_cut ∙ e in cc)
    by_cut (inr done) cut e =
        let is : brought c h v group ≡ brought_nothing = ap (λ b. if b || finish_told (notes_about c group) then brought_nothing else event_brings c v) done in
        let all : hears_event c h v group ≡ hear_brought brought_nothing (marks input h) = ap (λ b. hear_brought b (event_marks c v h)) is ∙ ap (hear_brought brought_nothing) marked in
        let x = still_licensed (marks input h) (hear_brought brought_nothing (marks input h)) cut.reason (nothing_more (marks input h)) (still_licensed h (marks input h) cut.reason (marks_more input h) (k cut e)) in
        still_licensed (hear_brought brought_nothing (marks input h)) (hears c h v group) cut.reason
        (record { client = λ q. ap (λ y. y.client.reset) all ∙ q; server = λ q. ap (λ y. last_reset y.connects) all ∙ q }) x

-- ---- a Run

-- a cut of items has these counts
cut_took : (took : TakenCounts) (items : List Item) (cut : Cut) → cut_in took items ≡ Some cut → cut.took ≡ took
cut_took took [] cut e = absurd (cc)
cut_took took (i ∷ items) cut e = by_reason (shown i).reason e (cut_took took items cut)
  where
    by_reason : (o : Option Reason) → cut_for o took (cut_in took items) ≡ Some cut → (cut_in took items ≡ Some cut → cut.took ≡ took) → cut.took ≡ took
    by_reason None e rest = rest e
    by_reason (Some Closed) e rest = rest e
    by_reason (Some (Tcl kind)) e rest = rest e
    by_reason (Some (Http fault)) e rest = rest e
    by_reason (Some Unselected) e rest = rest e
    by_reason (Some Rejected) e rest = rest e
    by_reason (Some (CutBy why)) e rest = let same : record { reason = why; took = took } ≡ cut = cc in ap (λ x. x.took) (sym same)

reset_by : (b : Bool) (n : ℕ) → is_none (taken_by b n) ≡ true → b ≡ true
reset_by true n e = refl
reset_by false n e = never e

-- what licenses a cut at a rest was heard
rest_licensed : (g : Setup) (h : Heard) (place more : List Item) (l : TraceState) (r : CutReason) → Unfolds g (start_of g h) place l → Waits l → CutAtRest g (taken h) l more r → licenses h r ≡ true
rest_licensed g h place more l ClientReset u w k = reset_by h.client.reset h.client.took k.licensed
rest_licensed g h place more l ServerReset u w k =
    let f = choosing (choices_in k.first) None in
    let l' = longer f l in
    let un = ordered_longer f l (ordered_at g h place l u) in
    let there = ordered g l' k.mid k.first un k.passed in
    let same : l'.answers.connects ≡ l.answers.connects = append-nil (on_last nothing_comes l.answers.connects) ∙ nothing_on_last nothing_comes l.answers.connects refl in
    let count : made l.answers.connects + l.sent.number ≡ made k.mid.answers.connects + k.mid.sent.number = ap (λ cs. made cs + l.sent.number) (sym same) ∙ made_along g l' k.mid k.first un k.passed in
    let waits = waits_along g l' k.mid k.first un (waits_longer f l same w) k.passed in
    let up = (and_parts (is_up (link_of k.mid.server)) _ k.licensed).0 in
    let none : k.mid.answers.connects ≡ [] = none_wait k.mid waits (up_calm k.mid there up) in
    let number : made h.connects ≡ k.mid.sent.number = all_made g h place l u ∙ count ∙ ap (λ cs. made cs + k.mid.sent.number) none ∙ zero-add k.mid.sent.number in
    reset_by (last_reset h.connects) (last_took h.connects) (ap is_none (sym (ap (taken_of (servers_taken h.connects)) (sym number) ∙ taken_last h.connects)) ∙ (and_parts (is_up (link_of k.mid.server)) _ k.licensed).1)
rest_licensed g h place more l Idle u w k = k.licensed

pub run_licensed : (g : Setup) (c : ℕ) (h : Heard) (place more : List Item) (sent : Counts) (took : TakenCounts) (behind : List Note) (l at : TraceState) → Unfolds g (start_of g h) place l → Waits l → TellsNothing c behind → Passes g (taken h) l more at → Licensed h
    → Licensed (hears c h Runs (run_notes c sent took more ++ behind))
run_licensed g c h place more sent took behind l at u w quiet p k = λ cut is. still_licensed h h' cut.reason (record { client = λ x. ap (λ s. s.reset) stays.client ∙ x; server = λ x. ap last_reset stays.connects ∙ x }) (by_cut h.cut refl cut is)
  where
    group : List Note
    group = run_notes c sent took more ++ behind

    h' : Heard
    h' = hears c h Runs group

    stays : SidesStay c h Runs group
    stays = run_stays c h group

    told : cut_told (taken h') (notes_about c group) ≡ cut_in (taken h) more
    told = ap (λ t. cut_told t (notes_about c group)) stays.taken ∙ (run_notes_tell c sent took more behind).cut (taken h) (quiet.cut (taken h))

    by_cut : (o : Option Cut) → h.cut ≡ o → (cut : Cut) → first_cut h.cut (cut_told (taken h') (notes_about c group)) ≡ Some cut → licenses h cut.reason ≡ true
    by_cut (Some first) e0 cut is = k cut (e0 ∙ (sym (ap (λ o. first_cut o (cut_told (taken h') (notes_about c group))) e0) ∙ is))
    by_cut None e0 cut is =
        let given : cut_in (taken h) more ≡ Some cut = sym told ∙ sym (ap (λ o. first_cut o (cut_told (taken h') (notes_about c group))) e0) ∙ is in
        let counts = cut_took (taken h) more cut given in
        rest_licensed g h place more l cut.reason u w (p.cut cut.reason (given ∙ ap (λ t. Some (record { reason = cut.reason; took = t })) counts))
