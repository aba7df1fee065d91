-- Where a place stands behind something that comes of its connection.
use Rattle.std.proofs.Common.{◌≡◌, ◌⊎◌, inl, inr, refl, sym, ap, subst, ◌∙◌, ℕ, List, [], ◌∷◌, map, Bool, true, false, ◌||◌, Option, None, nat_eq, if◌then◌else◌}
use Rattle.px_bytes.specs.declared.addr.Side.TheVariants.{Client, Server}
use Rattle.px_bytes.specs.declared.fault.Reply.{Reply}
use Rattle.core_events.specs.declared.note.Note.{Note}
use Rattle.core_events.specs.declared.note.Note.TheVariants as note
use Rattle.conn_trace.specs.Further.{CutMeets, Further, first_cut, longer, nothing_further, replies_only}
use Rattle.conn_trace.specs.Gates.{TakenCounts, no_bytes}
use Rattle.core_events.specs.declared.event_kind.EventKind.{EventKind}
use Rattle.core_events.specs.declared.event_kind.EventKind.TheVariants.{Accepts, Comes, Ticks}
use Rattle.core_events.specs.declared.event_kind.EventKind.TheVariants.{Turns, Runs, Marks}
use Rattle.core_events.specs.declared.input.Input.{Input}
use Rattle.core_events.specs.declared.input.Input.TheVariants.{Bytes, Ends, Resets, Connects, Takes}
use Rattle.conn_trace.specs.Heard.{Heard, accepts, marks, event_marks, taken, hears_event, hears}
use Rattle.conn_trace.specs.Heard.{further_of, start_of}
use Rattle.conn_trace.specs.HeardLaws.{TellsNothing}
use Rattle.conn_trace.specs.Item.{Item}
use Rattle.conn_trace.specs.Setup.{Setup}
use Rattle.conn_trace.specs.State.{Cut, TraceState}
use Rattle.conn_trace.specs.Tellings.{tells, own, notes_about, cut_told, finish_told}
use Rattle.conn_trace.specs.Trace.{Unfolds}
use Rattle.conn_trace.proofs.Hearing.{event_stands, finished_stands}
use Rattle.conn.specs.Calls.{unless_finished}
use Rattle.proxy_core.specs.Live.{further_in}
use Rattle.core_events.specs.Kinds.{kind_of}
use Rattle.record_model.specs.Past.{Past, heard}
use Rattle.proxy_core.proofs.Meeting.{come_further}

-- ---- a cut finishes

-- no cut was heard, or it has finished
abbrev pub UncutOr : Option Cut → Bool → Type 0
UncutOr cut finished = (cut ≡ None) ⊎ (finished ≡ true)

told_cut : (took : TakenCounts) (notes : List Note) → UncutOr (cut_told took (map tells notes)) (finish_told (map tells notes))
told_cut took [] = inl refl
told_cut took (note.Finish c why ∷ notes) = inr refl
told_cut took (note.Connect c to ∷ notes) = told_cut took notes
told_cut took (note.Sleep c until ∷ notes) = told_cut took notes
told_cut took (note.History c moment call reply ∷ notes) = told_cut took notes
told_cut took (note.Log c text ∷ notes) = told_cut took notes
told_cut took (note.Pass c side n ∷ notes) = told_cut took notes
told_cut took (note.Fired c side ∷ notes) = told_cut took notes
told_cut took (note.Reuse c kept ∷ notes) = told_cut took notes
told_cut took (note.HalfClose c side ∷ notes) = told_cut took notes
told_cut took (note.CloseServer c ∷ notes) = told_cut took notes
told_cut took (note.CloseClient c ∷ notes) = told_cut took notes
told_cut took (note.Ended c dropped ∷ notes) = told_cut took notes

marks_uncut : (c : ℕ) (v : EventKind) (h : Heard) → UncutOr h.cut h.finished → UncutOr (event_marks c v h).cut (event_marks c v h).finished
marks_uncut c (Accepts d vs from) h u = by_test (nat_eq d c)
  where
    by_test : (b : Bool) → UncutOr (if b then accepts vs from h else h).cut (if b then accepts vs from h else h).finished
    by_test true = u
    by_test false = u
marks_uncut c (Comes d input) h u = by_test (nat_eq d c) input
  where
    by_test : (b : Bool) (i : Input) → UncutOr (if b then marks i h else h).cut (if b then marks i h else h).finished
    by_test false i = u
    by_test true (Bytes side bytes) = u
    by_test true (Ends side) = u
    by_test true (Resets Client) = u
    by_test true (Resets Server) = u
    by_test true (Connects made) = u
    by_test true (Takes Client n) = u
    by_test true (Takes Server n) = u
marks_uncut c (Ticks moment) h u = u
marks_uncut c Turns h u = u
marks_uncut c Runs h u = u
marks_uncut c (Marks pool member up) h u = u

or_right : (b : Bool) → (b || true) ≡ true
or_right true = refl
or_right false = refl

both : (a b : Option Cut) (f t : Bool) → UncutOr a f → UncutOr b t → UncutOr (first_cut a b) (f || t)
both a b f t (inr e) q = inr (ap (λ x. x || t) e)
both a b f t (inl e) (inr r) = inr (ap (λ x. f || x) r ∙ or_right f)
both a b f t (inl e) (inl r) = inl (ap (λ x. first_cut x b) e ∙ r)

pub heard_uncut : (c : ℕ) (past : Past) → UncutOr (heard c past).cut (heard c past).finished
heard_uncut c [] = inl refl
heard_uncut c (x ∷ past) =
    let v = kind_of x.event in
    let h = heard c past in
    let k = event_marks c v h in
    let took = taken (hears_event c h v x.group) in
    both k.cut (cut_told took (notes_about c x.group)) k.finished (finish_told (notes_about c x.group)) (marks_uncut c v h (heard_uncut c past)) (told_cut took (own c x.group))

-- ---- where it stands then

-- while no cut was heard
pub stands_uncut : (g : Setup) (c : ℕ) (h : Heard) (v : EventKind) (group : List Note) (place : List Item) (l : TraceState) → h.cut ≡ None → TellsNothing c group → Unfolds g (start_of g h) place l → Unfolds g (start_of g (hears c h v group)) place (longer (further_of c h v group) l)
stands_uncut g c h v group place l none quiet u =
    let P : Option Cut → Type 0 = λ o. CutMeets o no_bytes place in
    event_stands g c h v group place l none (subst P (sym (quiet.cut (taken (hears_event c h v group)))) tt) u

-- with notes that tell nothing and don't finish it
pub stands_come : (g : Setup) (c : ℕ) (h : Heard) (input : Input) (group : List Note) (place : List Item) (l : TraceState) → UncutOr h.cut h.finished → TellsNothing c group → finish_told (notes_about c group) ≡ false → Unfolds g (start_of g h) place l
    → Unfolds g (start_of g (hears c h (Comes c input) group)) place (longer (further_of c h (Comes c input) group) l)
stands_come g c h input group place l (inl none) quiet going u = stands_uncut g c h (Comes c input) group place l none quiet u
stands_come g c h input group place l (inr done) quiet going u =
    let P : List Reply → Type 0 = λ rs. Unfolds g (start_of g (hears c h (Comes c input) group)) place (longer (replies_only rs) l) in
    let Q : Further → Type 0 = λ f. Unfolds g (start_of g (hears c h (Comes c input) group)) place (longer f l) in
    subst Q (sym (come_further c h input group quiet going ∙ unless_done h.finished done)) (subst P quiet.replies (finished_stands g c h (Comes c input) group place l done quiet.choices quiet.cut u))
  where
    unless_done : (b : Bool) → b ≡ true → unless_finished b (further_in input) ≡ nothing_further
    unless_done true e = refl
    unless_done false e = cc
