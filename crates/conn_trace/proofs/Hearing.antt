-- Each event lengthens the trace.
use Rattle.std.proofs.Common.{◌≡◌, refl, sym, ap, subst, ◌∙◌, ℕ, List, [], ◌∷◌, ◌++◌, append-nil, map, Bool, true, false, ◌||◌, Option, Some, None, nat_eq, if◌then◌else◌}
use Rattle.std.proofs.lemmas.List.{map-append}
use Rattle.px_bytes.specs.declared.addr.Addr.{Addr}
use Rattle.px_bytes.specs.declared.addr.Side.TheVariants.{Client, Server}
use Rattle.px_bytes.specs.declared.fault.Reply.{Reply}
use Rattle.core_events.specs.declared.note.Note.{Note}
use Rattle.conn_trace.specs.Item.{Choice, Item, choices_in, notes_of}
use Rattle.conn_trace.specs.Gates.{TakenCounts, no_bytes}
use Rattle.conn_trace.specs.Setup.{Setup}
use Rattle.conn_trace.specs.State.{Stream, Cut, TraceState}
use Rattle.conn_trace.specs.Trace.{start, Unfolds}
use Rattle.conn_trace.specs.Further.{replies_only, Coming, nothing_comes, CutMeets, Further, longer, longer_by, longer_stream, longer_where, left_for, on_last, first_cut}
use Rattle.conn_trace.specs.Tellings.{tells, own, notes_about, choices_told, replies_told, cut_told, finish_told}
use Rattle.core_events.specs.declared.edges.Edges.{Edges}
use Rattle.core_events.specs.Edges.{accepted_edges, edges_noted}
use Rattle.conn_trace.specs.Heard.{edges_met, event_edges, edges_after}
use Rattle.core_events.specs.declared.event_kind.EventKind.{EventKind}
use Rattle.core_events.specs.declared.event_kind.EventKind.TheVariants.{Accepts, Comes, Ticks}
use Rattle.core_events.specs.declared.event_kind.EventKind.TheVariants.{Turns, Runs, Marks}
use Rattle.core_events.specs.declared.input.Input.{Input}
use Rattle.core_events.specs.declared.input.Input.TheVariants.{Bytes, Ends, Resets, Connects, Takes}
use Rattle.conn_trace.specs.Heard.{SideHeard, Heard, side_taken, servers_taken, taken, hears_by}
use Rattle.conn_trace.specs.Heard.{hears_more, has_made, at_last, brought_nothing, brings_in}
use Rattle.conn_trace.specs.Heard.{Brought, event_brings, marks, accepts, event_marks, brought}
use Rattle.conn_trace.specs.Heard.{hear_brought, hear_tellings, hear_notes, hears_event, hears}
use Rattle.conn_trace.specs.Heard.{as_stream, as_answer, start_of, further_of, event_late, late_after, late_by, unless_late}
use Rattle.conn_trace.specs.HeardLaws.{cut_in, taken_by_items, TellsNothing, concerns}
use Rattle.conn_trace.proofs.Furthering.{further_keeps, replies_keep}
use Rattle.conn_trace.proofs.Telling.{run_tells}
use Rattle.conn_trace.proofs.Unfolding.{unfolds_on}

hears_stream : (b : Bool) (c : Coming) (s : SideHeard) → as_stream (hears_by b c s) ≡ longer_by b c (as_stream s)
hears_stream true c s = refl
hears_stream false c s = refl

left_made : (c : Coming) (hs : List (Option SideHeard)) → left_for c (map as_answer hs) ≡ (if has_made hs then None else Some c)
left_made c [] = refl
left_made c (None ∷ more) = left_made c more
left_made c (Some s ∷ more) = refl

at_last_stream : (b : Bool) (c : Coming) (s : SideHeard) → as_stream (if b then s else hears_more c s) ≡ longer_where (if b then None else Some c) (as_stream s)
at_last_stream true c s = refl
at_last_stream false c s = hears_stream s.ended c s

on_last_heard : (c : Coming) (hs : List (Option SideHeard)) → map as_answer (at_last (hears_more c) hs) ≡ on_last c (map as_answer hs)
on_last_heard c [] = refl
on_last_heard c (None ∷ more) = ap (λ r. None ∷ r) (on_last_heard c more)
on_last_heard c (Some s ∷ more) =
    ap (λ t. Some t ∷ map as_answer (at_last (hears_more c) more)) (at_last_stream (has_made more) c s ∙ ap (λ o. longer_where o (as_stream s)) (sym (left_made c more)))
    ∙ ap (λ r. Some (longer_where (left_for c (map as_answer more)) (as_stream s)) ∷ r) (on_last_heard c more)

-- marks change no stream
record Unmarked (h k : Heard) : Type 0 where
  client : as_stream k.client ≡ as_stream h.client
  connects : map as_answer k.connects ≡ map as_answer h.connects
  replies : k.replies ≡ h.replies
  choices : k.choices ≡ h.choices
  cut : k.cut ≡ h.cut

at_last_marked : (f : SideHeard → SideHeard) → ((s : SideHeard) → as_stream (f s) ≡ as_stream s) → (hs : List (Option SideHeard)) → map as_answer (at_last f hs) ≡ map as_answer hs
at_last_marked f keeps [] = refl
at_last_marked f keeps (None ∷ more) = ap (λ r. None ∷ r) (at_last_marked f keeps more)
at_last_marked f keeps (Some s ∷ more) = ap (λ t. Some t ∷ map as_answer (at_last f more)) (by_made (has_made more)) ∙ ap (λ r. Some (as_stream s) ∷ r) (at_last_marked f keeps more) where
  by_made : (b : Bool) → as_stream (if b then s else f s) ≡ as_stream s
  by_made true = refl
  by_made false = keeps s

marked_unless : (late : Bool) (f : SideHeard → SideHeard) → ((s : SideHeard) → as_stream (f s) ≡ as_stream s) → (hs : List (Option SideHeard)) → map as_answer (unless_late late f hs) ≡ map as_answer hs
marked_unless true f keeps hs = refl
marked_unless false f keeps hs = at_last_marked f keeps hs

unmarked : (h : Heard) → Unmarked h h
unmarked h = record { client = refl; connects = refl; replies = refl; choices = refl; cut = refl }

marks_nothing : (input : Input) (h : Heard) → Unmarked h (marks input h)
marks_nothing (Bytes side bytes) h = unmarked h
marks_nothing (Ends side) h = unmarked h
marks_nothing (Connects made) h = unmarked h
marks_nothing (Resets Client) h = record { client = refl; connects = refl; replies = refl; choices = refl; cut = refl }
marks_nothing (Resets Server) h = record { client = refl; connects = marked_unless h.late _ (λ s. refl) h.connects; replies = refl; choices = refl; cut = refl }
marks_nothing (Takes Client n) h = record { client = refl; connects = refl; replies = refl; choices = refl; cut = refl }
marks_nothing (Takes Server n) h = record { client = refl; connects = marked_unless h.late _ (λ s. refl) h.connects; replies = refl; choices = refl; cut = refl }

accepts_nothing : (virtual : List ℕ) (from : Addr) (h : Heard) → Unmarked h (accepts virtual from h)
accepts_nothing virtual from h = record { client = refl; connects = refl; replies = refl; choices = refl; cut = refl }

event_marks_nothing : (c : ℕ) (e : EventKind) (h : Heard) → Unmarked h (event_marks c e h)
event_marks_nothing c (Comes d input) h = by_test (nat_eq d c) where
  by_test : (b : Bool) → Unmarked h (if b then marks input h else h)
  by_test true = marks_nothing input h
  by_test false = unmarked h
event_marks_nothing c (Accepts d virtual from) h = by_test (nat_eq d c) where
  by_test : (b : Bool) → Unmarked h (if b then accepts virtual from h else h)
  by_test true = accepts_nothing virtual from h
  by_test false = unmarked h
event_marks_nothing c (Marks pool member up) h = unmarked h
event_marks_nothing c (Ticks m) h = unmarked h
event_marks_nothing c Turns h = unmarked h
event_marks_nothing c Runs h = unmarked h

began : Setup → Stream → List (Option Stream) → List Reply → List Choice → Option Cut → TraceState
began g client connects replies choices cut = start g client (record { replies = replies; connects = connects; choices = choices; cut = cut })

pub event_lengthens : (g : Setup) (c : ℕ) (h : Heard) (v : EventKind) (group : List Note) → start_of g (hears c h v group) ≡ longer (further_of c h v group) (start_of g h)
unfolding began
event_lengthens g c h v group =
    let b = brought c h v group in
    let k = event_marks c v h in
    let u = event_marks_nothing c v h in
    let f = further_of c h v group in
    let l = start_of g (hears c h v group) in
    let a = l.answers in
    let client = hears_stream k.client.ended b.client k.client ∙ ap (λ s. longer_stream b.client s) u.client in
    let connects =
    map-append as_answer (at_last (hears_more b.server) k.connects) b.connects
    ∙ ap (λ r. r ++ map as_answer b.connects) (on_last_heard b.server k.connects ∙ ap (on_last b.server) u.connects) in
    ap (λ s. began g s a.connects a.replies a.choices a.cut) client
    ∙ (ap (λ r. began g (longer_stream b.client (as_stream h.client)) r a.replies a.choices a.cut) connects
    ∙ (ap (λ r. began g (longer_stream b.client (as_stream h.client)) (on_last b.server (map as_answer h.connects) ++ map as_answer b.connects) (r ++ f.replies) a.choices a.cut) u.replies
    ∙ (ap (λ r. began g (longer_stream b.client (as_stream h.client)) (on_last b.server (map as_answer h.connects) ++ map as_answer b.connects) (h.replies ++ f.replies) (r ++ f.choices) a.cut) u.choices
    ∙ ap (λ r. began g (longer_stream b.client (as_stream h.client)) (on_last b.server (map as_answer h.connects) ++ map as_answer b.connects) (h.replies ++ f.replies) (h.choices ++ f.choices) (first_cut r f.cut)) u.cut)))

-- a run brings no bytes
runs_bring : (c : ℕ) (h : Heard) (group : List Note) → brought c h Runs group ≡ brought_nothing
runs_bring c h group = by_test (h.finished || finish_told (notes_about c group)) where
  by_test : (b : Bool) → (if b then brought_nothing else brought_nothing) ≡ brought_nothing
  by_test true = refl
  by_test false = refl

side_takes : (b : Bool) (c : Coming) (s : SideHeard) → side_taken (hears_by b c s) ≡ side_taken s
side_takes true c s = refl
side_takes false c s = refl

last_takes : (c : Coming) (hs : List (Option SideHeard)) → servers_taken (at_last (hears_more c) hs) ≡ servers_taken hs
last_takes c [] = refl
last_takes c (None ∷ more) = last_takes c more
last_takes c (Some s ∷ more) = ap (λ t. t ∷ servers_taken (at_last (hears_more c) more)) (by_made (has_made more)) ∙ ap (λ r. side_taken s ∷ r) (last_takes c more) where
  by_made : (b : Bool) → side_taken (if b then s else hears_more c s) ≡ side_taken s
  by_made true = refl
  by_made false = side_takes s.ended c s

takes_same : (h : Heard) → taken (hear_brought brought_nothing h) ≡ taken h
takes_same h =
    ap (λ c. counts c (servers_taken (at_last (hears_more nothing_comes) h.connects ++ []))) (side_takes h.client.ended nothing_comes h.client)
    ∙ ap (counts (side_taken h.client)) (ap servers_taken (append-nil (at_last (hears_more nothing_comes) h.connects)) ∙ last_takes nothing_comes h.connects) where
      counts : Option ℕ → List (Option ℕ) → TakenCounts
      counts client servers = record { client = client; servers = servers }

adds : Brought → List Reply → List Choice → Option Cut → Further
adds b replies choices cut =
    record { client = b.client; server = b.server; connects = map as_answer b.connects; replies = replies; choices = choices; cut = cut }

run_adds : (c : ℕ) (h : Heard) (more : List Item) (behind : List Note) → TellsNothing c behind → further_of c h Runs (notes_of c more ++ behind) ≡ taken_by_items (taken h) more
unfolding adds
run_adds c h more behind quiet =
    let group = notes_of c more ++ behind in
    let t = notes_about c group in
    let all = run_tells c more behind in
    ap (λ b. adds b (replies_told t) (choices_told t) (cut_told (taken (hear_brought b h)) t)) (runs_bring c h group)
    ∙ (ap (λ r. adds brought_nothing r (choices_told t) (cut_told (taken (hear_brought brought_nothing h)) t)) (all.replies ∙ quiet.replies)
    ∙ (ap (λ r. adds brought_nothing [] r (cut_told (taken (hear_brought brought_nothing h)) t)) (all.choices ∙ (ap (λ r. choices_in more ++ r) quiet.choices ∙ append-nil (choices_in more)))
    ∙ ap (adds brought_nothing [] (choices_in more)) (ap (λ k. cut_told k t) (takes_same h) ∙ all.cut (taken h) (quiet.cut (taken h)))))

pub run_stands : (g : Setup) (c : ℕ) (h : Heard) (place more : List Item) (behind : List Note) (l at : TraceState) → h.cut ≡ None → TellsNothing c behind → CutMeets (cut_in (taken h) more) no_bytes place
    → Unfolds g (start_of g h) place l → Unfolds g (longer (taken_by_items (taken h) more) l) more at → Unfolds g (start_of g (hears c h Runs (notes_of c more ++ behind))) (place ++ more) at
run_stands g c h place more behind l at none quiet meets stood on =
    let f = taken_by_items (taken h) more in
    let group = notes_of c more ++ behind in
    let front = further_keeps g (start_of g h) l f place none meets stood in
    let same : start_of g (hears c h Runs group) ≡ longer f (start_of g h) = event_lengthens g c h Runs group ∙ ap (λ k. longer k (start_of g h)) (run_adds c h more behind quiet) in
    subst (λ k. Unfolds g k (place ++ more) at) (sym same) (unfolds_on g (longer f (start_of g h)) (longer f l) at place more front on)

pub event_stands : (g : Setup) (c : ℕ) (h : Heard) (v : EventKind) (group : List Note) (place : List Item) (l : TraceState) → h.cut ≡ None → CutMeets (further_of c h v group).cut no_bytes place → Unfolds g (start_of g h) place l
    → Unfolds g (start_of g (hears c h v group)) place (longer (further_of c h v group) l)
event_stands g c h v group place l none meets stood =
    subst (λ s. Unfolds g s place (longer (further_of c h v group) l)) (sym (event_lengthens g c h v group)) (further_keeps g (start_of g h) l (further_of c h v group) place none meets stood)

-- nothing is brought once it has finished
finished_brings : (c : ℕ) (h : Heard) (v : EventKind) (group : List Note) → h.finished ≡ true → brought c h v group ≡ brought_nothing
finished_brings c h v group done = ap (λ b. if b || finish_told (notes_about c group) then brought_nothing else event_brings c v) done

only_replies : (c : ℕ) (h : Heard) (v : EventKind) (group : List Note) → h.finished ≡ true → choices_told (notes_about c group) ≡ [] → ((took : TakenCounts) → cut_told took (notes_about c group) ≡ None)
    → further_of c h v group ≡ replies_only (replies_told (notes_about c group))
unfolding adds
only_replies c h v group done choices cut =
    let t = notes_about c group in
    let b = brought c h v group in
    let took = taken (hear_brought b (event_marks c v h)) in
    ap (λ k. adds b (replies_told t) (choices_told t) k) (cut took) ∙ (ap (λ k. adds b (replies_told t) k None) choices ∙ ap (λ k. adds k (replies_told t) [] None) (finished_brings c h v group done))

pub finished_stands : (g : Setup) (c : ℕ) (h : Heard) (v : EventKind) (group : List Note) (place : List Item) (l : TraceState) → h.finished ≡ true → choices_told (notes_about c group) ≡ [] → ((took : TakenCounts) → cut_told took (notes_about c group) ≡ None)
    → Unfolds g (start_of g h) place l → Unfolds g (start_of g (hears c h v group)) place (longer (replies_only (replies_told (notes_about c group))) l)
finished_stands g c h v group place l done choices cut stood =
    let f = replies_only (replies_told (notes_about c group)) in
    let same : start_of g (hears c h v group) ≡ longer f (start_of g h) = event_lengthens g c h v group ∙ ap (λ k. longer k (start_of g h)) (only_replies c h v group done choices cut) in
    subst (λ s. Unfolds g s place (longer f l)) (sym same) (replies_keep g (start_of g h) l (replies_told (notes_about c group)) place stood)

-- what happens to others
hears_nothing_by : (b : Bool) (s : SideHeard) → s.ended ≡ b → hears_by b nothing_comes s ≡ s
hears_nothing_by true s is = refl
hears_nothing_by false s is = ap (λ u. record s { bytes = u; ended = false }) (append-nil s.bytes) ∙ ap (λ e. record s { ended = e }) (sym is)

last_hears_nothing : (hs : List (Option SideHeard)) → at_last (hears_more nothing_comes) hs ≡ hs
last_hears_nothing [] = refl
last_hears_nothing (None ∷ more) = ap (λ r. None ∷ r) (last_hears_nothing more)
last_hears_nothing (Some s ∷ more) = ap (λ t. Some t ∷ at_last (hears_more nothing_comes) more) (by_made (has_made more)) ∙ ap (λ r. Some s ∷ r) (last_hears_nothing more) where
  by_made : (b : Bool) → (if b then s else hears_more nothing_comes s) ≡ s
  by_made true = refl
  by_made false = hears_nothing_by s.ended s refl

no_cut_more : (cut : Option Cut) → first_cut cut None ≡ cut
no_cut_more None = refl
no_cut_more (Some c) = refl

or_nothing : (b : Bool) → (b || false) ≡ b
or_nothing true = refl
or_nothing false = refl

-- no bytes change nothing
brings_none : (h : Heard) → hear_brought brought_nothing h ≡ h
brings_none h =
    ap (λ x. record h { client = x; connects = at_last (hears_more nothing_comes) h.connects ++ [] }) (hears_nothing_by h.client.ended h.client refl)
    ∙ ap (λ x. record h { connects = x }) (append-nil _ ∙ last_hears_nothing h.connects)

tellings_as : Heard → List Reply → List Choice → Option Cut → Bool → Bool → List Note → Heard
tellings_as h replies choices cut finished failed notes =
    record h { replies = replies; choices = choices; cut = cut; finished = finished; failed = failed; notes = notes }

-- nor do no notes
tells_none : (h : Heard) → record (hear_tellings [] h) { notes = h.notes ++ [] } ≡ h
unfolding tellings_as
tells_none h =
    let k = hear_tellings [] h in
    ap (λ x. tellings_as h x k.choices k.cut k.finished k.failed (h.notes ++ [])) (append-nil h.replies)
    ∙ (ap (λ x. tellings_as h h.replies x k.cut k.finished k.failed (h.notes ++ [])) (append-nil h.choices)
    ∙ (ap (λ x. tellings_as h h.replies h.choices x k.finished k.failed (h.notes ++ [])) (no_cut_more h.cut)
    ∙ (ap (λ x. tellings_as h h.replies h.choices h.cut x k.failed (h.notes ++ [])) (or_nothing h.finished)
    ∙ (ap (λ x. tellings_as h h.replies h.choices h.cut h.finished x (h.notes ++ [])) (or_nothing h.failed)
    ∙ ap (tellings_as h h.replies h.choices h.cut h.finished h.failed) (append-nil h.notes)))))

other_brings : (c : ℕ) (v : EventKind) → concerns c v ≡ false → (event_brings c v ≡ brought_nothing) × ((h : Heard) → event_marks c v h ≡ h)
other_brings c (Comes d input) is = (ap (λ b. if b then brings_in input else brought_nothing) is, λ h. ap (λ b. if b then marks input h else h) is)
other_brings c (Accepts d virtual from) is = (refl, λ h. ap (λ b. if b then accepts virtual from h else h) is)
other_brings c (Ticks m) is = (refl, λ h. refl)
other_brings c Turns is = (refl, λ h. refl)
other_brings c Runs is = (refl, λ h. refl)
other_brings c (Marks pool member up) is = (refl, λ h. refl)

other_late : (c : ℕ) (v : EventKind) (b : Bool) → concerns c v ≡ false → event_late c v b ≡ b
other_late c (Comes d input) b is = ap (λ x. if x then late_by input b else b) is
other_late c (Accepts d virtual from) b is = refl
other_late c (Ticks m) b is = refl
other_late c Turns b is = refl
other_late c Runs b is = refl
other_late c (Marks pool member up) b is = refl

other_edges : (c : ℕ) (v : EventKind) (e : Edges) → concerns c v ≡ false → event_edges c v e ≡ e
other_edges c (Comes d input) e is = ap (λ b. if b then edges_met input e else e) is
other_edges c (Accepts d virtual from) e is = ap (λ b. if b then accepted_edges else e) is
other_edges c (Ticks m) e is = refl
other_edges c Turns e is = refl
other_edges c Runs e is = refl
other_edges c (Marks pool member up) e is = refl

pub others_not_heard : (c : ℕ) (h : Heard) (v : EventKind) (group : List Note) → concerns c v ≡ false → own c group ≡ [] → hears c h v group ≡ h
others_not_heard c h v group other none =
    let quiet = other_brings c v other in
    let heard : hears_event c h v group ≡ h =
    ap (hear_brought (brought c h v group)) (quiet.1 h) ∙ (ap (λ b. hear_brought b h) (by_finish (h.finished || finish_told (notes_about c group))) ∙ brings_none h) in
    ap (λ (k : Heard). record k { late = late_after c h v group; edges = edges_after c v group h.edges }) (ap (hear_notes c group) heard ∙ (ap (λ o. record (hear_tellings (map tells o) h) { notes = h.notes ++ o }) none ∙ tells_none h))
    ∙ ap (λ b. record h { late = b; edges = edges_after c v group h.edges }) (same_late (h.finished || finish_told (notes_about c group)))
    ∙ ap (λ e. record h { edges = e }) (ap (λ o. edges_noted o (event_edges c v h.edges)) none ∙ other_edges c v h.edges other) where
      same_late : (b : Bool) → (if b then event_late c v h.late else h.late) ≡ h.late
      same_late true = other_late c v h.late other
      same_late false = refl

      by_finish : (b : Bool) → (if b then brought_nothing else event_brings c v) ≡ brought_nothing
      by_finish true = refl
      by_finish false = (other_brings c v other).0
