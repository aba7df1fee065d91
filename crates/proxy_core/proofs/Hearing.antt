-- What an event and its notes change in what their connection heard.
use Rattle.std.proofs.Common.{◌≡◌, refl, sym, ap, subst, ◌∙◌, ℕ, zero, suc, ◌+◌, List, [], ◌∷◌, ◌++◌, append-nil, map, Bool, true, false, ◌||◌, Option, Some, None, if◌then◌else◌, arith}
use Rattle.std.specs.Prelude.{slice_get, unwrap_or}
use Rattle.px_bytes.specs.declared.addr.Side.TheVariants.{Client, Server}
use Rattle.px_bytes.specs.declared.fault.Reply.{Reply}
use Rattle.core_events.specs.declared.note.Note.{Note}
use Rattle.conn_trace.specs.Further.{Coming, Further, nothing_comes, replies_only}
use Rattle.conn_trace.specs.Item.{Choice}
use Rattle.conn_trace.specs.State.{Cut}
use Rattle.conn_trace.specs.Gates.{TakenCounts, taken_of}
use Rattle.core_events.specs.declared.event_kind.EventKind.{EventKind}
use Rattle.core_events.specs.declared.event_kind.EventKind.TheVariants.{Comes, Turns, Runs}
use Rattle.core_events.specs.declared.input.Input.{Input}
use Rattle.core_events.specs.declared.input.Input.TheVariants.{Bytes, Ends, Resets, Connects, Takes}
use Rattle.conn_trace.specs.Heard.{SideHeard, Heard, taken_by, side_taken, servers_taken, taken}
use Rattle.conn_trace.specs.Heard.{has_made, hears_by, hears_more, at_last, unless_late, as_answer, Brought}
use Rattle.conn_trace.specs.Heard.{brought_nothing, hear_brought, marks, event_marks, brought}
use Rattle.conn_trace.specs.Heard.{hears_event, hears, further_of}
use Rattle.conn_trace.specs.Laws.{AtLeast, TakesMore}
use Rattle.conn_trace.specs.Tellings.{tells, own, notes_about, replies_told, choices_told, cut_told, finish_told, failure_told}
use Rattle.proxy_core.proofs.GroupNotes.{About, own_all, tells_all}
use Rattle.proxy_core.proofs.Members.{eq_self}

-- what an event leaves, before its notes and what it brings are heard
record Kept (h k : Heard) : Type 0 where
  accepted : k.accepted ≡ h.accepted
  finished : k.finished ≡ h.finished
  failed : k.failed ≡ h.failed
  notes : k.notes ≡ h.notes

kept : (h : Heard) → Kept h h
kept h = record { accepted = refl; finished = refl; failed = refl; notes = refl }

marks_keep : (input : Input) (h : Heard) → Kept h (marks input h)
marks_keep (Bytes side bytes) h = kept h
marks_keep (Ends side) h = kept h
marks_keep (Resets Client) h = record { accepted = refl; finished = refl; failed = refl; notes = refl }
marks_keep (Resets Server) h = record { accepted = refl; finished = refl; failed = refl; notes = refl }
marks_keep (Connects made) h = kept h
marks_keep (Takes Client n) h = record { accepted = refl; finished = refl; failed = refl; notes = refl }
marks_keep (Takes Server n) h = record { accepted = refl; finished = refl; failed = refl; notes = refl }

-- what it hears after an event and its notes, which are all about it
pub record Told (c : ℕ) (h : Heard) (v : EventKind) (group : List Note) : Type 0 where
  pub accepted : (hears c h v group).accepted ≡ h.accepted
  pub finished : (hears c h v group).finished ≡ (h.finished || finish_told (map tells group))
  pub failed : (hears c h v group).failed ≡ (h.failed || failure_told (map tells group))
  pub notes : (hears c h v group).notes ≡ h.notes ++ group

told_by : (c : ℕ) (h : Heard) (v : EventKind) (group : List Note) → About c group → Kept h (event_marks c v h) → Told c h v group
told_by c h v group a m =
    let t = tells_all c group a in
    record {
      accepted = m.accepted;
      finished = ap (λ x. x || finish_told (notes_about c group)) m.finished ∙ ap (λ x. h.finished || finish_told x) t;
      failed = ap (λ x. x || failure_told (notes_about c group)) m.failed ∙ ap (λ x. h.failed || failure_told x) t;
      notes = ap (λ x. x ++ own c group) m.notes ∙ ap (λ x. h.notes ++ x) (own_all c group a);
    }

pub come_told : (c : ℕ) (h : Heard) (input : Input) (group : List Note) → About c group → Told c h (Comes c input) group
come_told c h input group a =
    let P : Bool → Type 0 = λ b. Kept h (if b then marks input h else h) in
    told_by c h (Comes c input) group a (subst P (sym (eq_self c)) (marks_keep input h))

pub run_told : (c : ℕ) (h : Heard) (group : List Note) → About c group → Told c h Runs group
run_told c h group a = told_by c h Runs group a (kept h)

pub turn_told : (c : ℕ) (h : Heard) (group : List Note) → About c group → Told c h Turns group
turn_told c h group a = told_by c h Turns group a (kept h)

-- ---- a Run and a Turn tell nothing of the sides

nothing_by : (b : Bool) (s : SideHeard) → s.ended ≡ b → hears_by b nothing_comes s ≡ s
nothing_by true s is = refl
nothing_by false s is = ap (λ u. record s { bytes = u; ended = false }) (append-nil s.bytes) ∙ ap (λ e. record s { ended = e }) (sym is)

nothing_last : (hs : List (Option SideHeard)) → at_last (hears_more nothing_comes) hs ≡ hs
nothing_last [] = refl
nothing_last (None ∷ more) = ap (λ r. None ∷ r) (nothing_last more)
nothing_last (Some s ∷ more) = ap (λ t. Some t ∷ at_last (hears_more nothing_comes) more) (by_made (has_made more)) ∙ ap (λ r. Some s ∷ r) (nothing_last more)
  where
    by_made : (b : Bool) → (if b then s else hears_more nothing_comes s) ≡ s
    by_made true = refl
    by_made false = nothing_by s.ended s refl

pub record SidesStay (c : ℕ) (h : Heard) (v : EventKind) (group : List Note) : Type 0 where
  pub client : (hears c h v group).client ≡ h.client
  pub connects : (hears c h v group).connects ≡ h.connects
  pub taken : taken (hears c h v group) ≡ taken h

sides_stay : (c : ℕ) (h : Heard) (v : EventKind) (group : List Note) → event_marks c v h ≡ h → brought c h v group ≡ brought_nothing → SidesStay c h v group
sides_stay c h v group m b =
    let h' = hears c h v group in
    let is : hears_event c h v group ≡ hear_brought brought_nothing h = ap (λ x. hear_brought x (event_marks c v h)) b ∙ ap (hear_brought brought_nothing) m in
    let client : h'.client ≡ h.client = ap (λ k. k.client) is ∙ nothing_by h.client.ended h.client refl in
    let connects : h'.connects ≡ h.connects = ap (λ k. k.connects) is ∙ append-nil (at_last (hears_more nothing_comes) h.connects) ∙ nothing_last h.connects in
    let make : SideHeard → List (Option SideHeard) → TakenCounts = λ s cs. record { client = side_taken s; servers = servers_taken cs } in
    record { client = client; connects = connects; taken = ap (λ s. make s h'.connects) client ∙ ap (make h.client) connects }

nothing_if : (b : Bool) → (if b then brought_nothing else brought_nothing) ≡ brought_nothing
nothing_if true = refl
nothing_if false = refl

pub run_stays : (c : ℕ) (h : Heard) (group : List Note) → SidesStay c h Runs group
run_stays c h group = sides_stay c h Runs group refl (nothing_if (h.finished || finish_told (notes_about c group)))

pub turn_stays : (c : ℕ) (h : Heard) (group : List Note) → SidesStay c h Turns group
turn_stays c h group = sides_stay c h Turns group refl (nothing_if (h.finished || finish_told (notes_about c group)))

-- ---- as much was taken then, or more

least_same : (o : Option ℕ) → AtLeast o o
least_same None = tt
least_same (Some n) = omega arith

least_on : (a b c : Option ℕ) → AtLeast a b → AtLeast b c → AtLeast a c
least_on a b None p q = tt
least_on a None (Some k) p q = absurd q
least_on None (Some n) (Some k) p q = absurd p
least_on (Some m) (Some n) (Some k) p q = omega (arith, p, q)

least_none : (o : Option ℕ) → AtLeast (Some 0) o
least_none None = tt
least_none (Some n) = omega arith

abbrev of_number : List (Option SideHeard) → ℕ → Option ℕ
of_number cs k = unwrap_or (slice_get (servers_taken cs) k) (Some 0)

grown : (f : SideHeard → SideHeard) → ((s : SideHeard) → AtLeast (side_taken s) (side_taken (f s))) → (cs : List (Option SideHeard)) (k : ℕ) → AtLeast (of_number cs k) (of_number (at_last f cs) k)
grown f grows [] k = least_same (of_number [] k)
grown f grows (None ∷ more) k = grown f grows more k
grown f grows (Some s ∷ more) zero = by_made (has_made more)
  where
    by_made : (b : Bool) → AtLeast (side_taken s) (side_taken (if b then s else f s))
    by_made true = least_same (side_taken s)
    by_made false = grows s
grown f grows (Some s ∷ more) (suc k) = grown f grows more k

joined : (cs ds : List (Option SideHeard)) (k : ℕ) → AtLeast (of_number cs k) (of_number (cs ++ ds) k)
joined [] ds k = by_place (slice_get (servers_taken ds) k)
  where
    by_place : (o : Option (Option ℕ)) → AtLeast (of_number [] k) (unwrap_or o (Some 0))
    by_place None = least_none (Some 0)
    by_place (Some o) = least_none o
joined (None ∷ more) ds k = joined more ds k
joined (Some s ∷ more) ds zero = least_same (side_taken s)
joined (Some s ∷ more) ds (suc k) = joined more ds k

heard_grows : (c : Coming) (s : SideHeard) → AtLeast (side_taken s) (side_taken (hears_more c s))
heard_grows c s = by_end s.ended
  where
    by_end : (b : Bool) → AtLeast (side_taken s) (side_taken (hears_by b c s))
    by_end true = least_same (side_taken s)
    by_end false = least_same (side_taken s)

takes_grow : (r : Bool) (t n : ℕ) → AtLeast (taken_by r t) (taken_by r (t + n))
takes_grow true t n = tt
takes_grow false t n = omega arith

grown_unless : (late : Bool) (f : SideHeard → SideHeard) → ((s : SideHeard) → AtLeast (side_taken s) (side_taken (f s))) → (cs : List (Option SideHeard)) (k : ℕ) → AtLeast (of_number cs k) (of_number (unless_late late f cs) k)
grown_unless true f grows cs k = least_same (of_number cs k)
grown_unless false f grows cs k = grown f grows cs k

abbrev by_numbers : (a b : Heard) → Type 0
by_numbers a b = AtLeast (side_taken a.client) (side_taken b.client) × ((k : ℕ) → AtLeast (of_number a.connects k) (of_number b.connects k))

marks_grow : (input : Input) (h : Heard) → by_numbers h (marks input h)
marks_grow (Bytes side bytes) h = (least_same (side_taken h.client), λ k. least_same (of_number h.connects k))
marks_grow (Ends side) h = (least_same (side_taken h.client), λ k. least_same (of_number h.connects k))
marks_grow (Connects made) h = (least_same (side_taken h.client), λ k. least_same (of_number h.connects k))
marks_grow (Resets Client) h = (tt, λ k. least_same (of_number h.connects k))
marks_grow (Resets Server) h = (least_same (side_taken h.client), λ k. grown_unless h.late (λ s. record s { reset = true }) (λ s. tt) h.connects k)
marks_grow (Takes Client n) h = (takes_grow h.client.reset h.client.took n, λ k. least_same (of_number h.connects k))
marks_grow (Takes Server n) h = (least_same (side_taken h.client), λ k. grown_unless h.late (λ s. record s { took = s.took + n }) (λ s. takes_grow s.reset s.took n) h.connects k)

brought_grows : (b : Brought) (h : Heard) → by_numbers h (hear_brought b h)
brought_grows b h = (heard_grows b.client h.client, λ k. least_on (of_number h.connects k) (of_number (at_last (hears_more b.server) h.connects) k) (of_number (at_last (hears_more b.server) h.connects ++ b.connects) k) (grown (hears_more b.server) (heard_grows b.server) h.connects k) (joined (at_last (hears_more b.server) h.connects) b.connects k))

more_by : (a b d : Heard) → by_numbers a b → by_numbers b d → TakesMore (taken a) (taken d)
more_by a b d p q = record {
  client = least_on (side_taken a.client) (side_taken b.client) (side_taken d.client) p.0 q.0;
  servers = by_number;
}
  where
    by_number : (k : ℕ) → AtLeast (taken_of (servers_taken a.connects) k) (taken_of (servers_taken d.connects) k)
    by_number zero = omega arith
    by_number (suc k) = least_on (of_number a.connects k) (of_number b.connects k) (of_number d.connects k) (p.1 k) (q.1 k)

pub come_takes : (c : ℕ) (h : Heard) (input : Input) (group : List Note) → TakesMore (taken h) (taken (hears c h (Comes c input) group))
come_takes c h input group =
    let v = Comes c input in
    let k = event_marks c v h in
    let is : k ≡ marks input h = ap (λ b. if b then marks input h else h) (eq_self c) in
    let P : Heard → Type 0 = λ x. by_numbers h x in
    more_by h k (hears_event c h v group) (subst P (sym is) (marks_grow input h)) (brought_grows (brought c h v group) k)

-- ---- what an event brings that brings no bytes: the replies that its notes tell, alone

abbrev adds : Brought → List Reply → List Choice → Option Cut → Further
adds b replies choices cut = record { client = b.client; server = b.server; connects = map as_answer b.connects; replies = replies; choices = choices; cut = cut }

still_further : (c : ℕ) (h : Heard) (v : EventKind) (group : List Note) → brought c h v group ≡ brought_nothing → choices_told (notes_about c group) ≡ [] → ((took : TakenCounts) → cut_told took (notes_about c group) ≡ None) → further_of c h v group ≡ replies_only (replies_told (notes_about c group))
still_further c h v group b choices cut =
    let t = notes_about c group in
    let k = cut_told (taken (hears_event c h v group)) t in
    ap (λ x. adds x (replies_told t) (choices_told t) k) b ∙ ap (λ i. adds brought_nothing (replies_told t) i k) choices ∙ ap (λ x. adds brought_nothing (replies_told t) [] x) (cut (taken (hears_event c h v group)))

pub run_further : (c : ℕ) (h : Heard) (group : List Note) → choices_told (notes_about c group) ≡ [] → ((took : TakenCounts) → cut_told took (notes_about c group) ≡ None) → further_of c h Runs group ≡ replies_only (replies_told (notes_about c group))
run_further c h group choices cut = still_further c h Runs group (nothing_if (h.finished || finish_told (notes_about c group))) choices cut

pub turn_further : (c : ℕ) (h : Heard) (group : List Note) → choices_told (notes_about c group) ≡ [] → ((took : TakenCounts) → cut_told took (notes_about c group) ≡ None) → further_of c h Turns group ≡ replies_only (replies_told (notes_about c group))
turn_further c h group choices cut = still_further c h Turns group (nothing_if (h.finished || finish_told (notes_about c group))) choices cut
