-- What holds of a trace on what was heard.
use Rattle.std.specs.Prelude.{◌≡◌, ℕ, List, [], ◌∷◌, ◌++◌, Bool, true, false}
use Rattle.std.specs.Prelude.{Option, Some, None, nat_eq}
use Rattle.core_events.specs.declared.note.Note.{Note}
use Rattle.conn_trace.specs.Item.{Reason, Closed, Tcl, Http, Unselected, Rejected, CutBy}
use Rattle.conn_trace.specs.Item.{Item, shown, choices_in, notes_of, reasons_in}
use Rattle.conn_trace.specs.Gates.{TakenCounts, no_bytes}
use Rattle.conn_trace.specs.Setup.{Setup}
use Rattle.conn_trace.specs.State.{Cut, TraceState}
use Rattle.conn_trace.specs.Trace.{Unfolds}
use Rattle.conn_trace.specs.Further.{Further, longer, is_some_of, replies_only, choosing}
use Rattle.conn_trace.specs.Further.{CutMeets}
use Rattle.conn_trace.specs.Tellings.{own, notes_about, replies_told, choices_told, cut_told}
use Rattle.conn_trace.specs.Tellings.{finish_told, failure_told}
use Rattle.core_events.specs.declared.event_kind.EventKind.{EventKind}
use Rattle.core_events.specs.declared.event_kind.EventKind.TheVariants.{Accepts, Comes, Runs}
use Rattle.conn_trace.specs.Heard.{Heard, taken, hears}
use Rattle.conn_trace.specs.Heard.{start_of, further_of}

-- each event lengthens the trace
abbrev pub EachEventLengthens : Type 0
EachEventLengthens =
    (g : Setup) (c : ℕ) (h : Heard) (v : EventKind) (group : List Note)
    → start_of g (hears c h v group) ≡ longer (further_of c h v group) (start_of g h)

abbrev pub cut_for : Option Reason → TakenCounts → Option Cut → Option Cut
cut_for None took later = later
cut_for (Some (CutBy reason)) took later = Some (record { reason = reason; took = took })
cut_for (Some Closed) took later = later
cut_for (Some (Tcl kind)) took later = later
cut_for (Some (Http fault)) took later = later
cut_for (Some Unselected) took later = later
cut_for (Some Rejected) took later = later

-- the cut that items took, at these counts
abbrev pub cut_in : TakenCounts → List Item → Option Cut
cut_in took [] = None
cut_in took (i ∷ items) = cut_for (shown i).reason took (cut_in took items)

-- what items took of choices and cuts of their own
abbrev pub taken_by_items : TakenCounts → List Item → Further
taken_by_items took items = choosing (choices_in items) (cut_in took items)

-- the notes of items tell the choices that they took
abbrev pub NotesTellChoices : Type 0
NotesTellChoices =
    (c : ℕ) (items : List Item)
    → choices_told (notes_about c (notes_of c items)) ≡ choices_in items

-- and the cut
abbrev pub NotesTellCut : Type 0
NotesTellCut =
    (c : ℕ) (took : TakenCounts) (items : List Item)
    → cut_told took (notes_about c (notes_of c items)) ≡ cut_in took items

-- what the notes of items tell beside: that they finish, never for want of memory, and no reply
pub record ItemsTell (c : ℕ) (items : List Item) : Type 0 where
  pub own : own c (notes_of c items) ≡ notes_of c items
  pub finish : finish_told (notes_about c (notes_of c items)) ≡ is_some_of (reasons_in items)
  pub found_memory : failure_told (notes_about c (notes_of c items)) ≡ false
  pub no_reply : replies_told (notes_about c (notes_of c items)) ≡ []

abbrev pub NotesTellFinish : Type 0
NotesTellFinish = (c : ℕ) (items : List Item) → ItemsTell c items

-- notes that tell of no answer, choice or cut
pub record TellsNothing (c : ℕ) (group : List Note) : Type 0 where
  pub replies : replies_told (notes_about c group) ≡ []
  pub choices : choices_told (notes_about c group) ≡ []
  pub cut : (took : TakenCounts) → cut_told took (notes_about c group) ≡ None

-- a place stands on whatever is heard, while no cut was heard
abbrev pub EventStands : Type 0
EventStands =
    (g : Setup) (c : ℕ) (h : Heard) (v : EventKind) (group : List Note)
    (place : List Item) (l : TraceState)
    → h.cut ≡ None → CutMeets (further_of c h v group).cut no_bytes place
    → Unfolds g (start_of g h) place l
    → Unfolds g (start_of g (hears c h v group)) place (longer (further_of c h v group) l)

-- Where a place stands on what was heard, and items come from there on the choices and the cut that
-- they took, the place with those items stands on what is heard then.
abbrev pub RunStands : Type 0
RunStands =
    (g : Setup) (c : ℕ) (h : Heard) (place more : List Item) (behind : List Note)
    (l at : TraceState)
    → h.cut ≡ None → TellsNothing c behind
    → CutMeets (cut_in (taken h) more) no_bytes place
    → Unfolds g (start_of g h) place l
    → Unfolds g (longer (taken_by_items (taken h) more) l) more at
    → Unfolds g (start_of g (hears c h Runs (notes_of c more ++ behind))) (place ++ more) at

-- and once the connection has finished, where nothing but replies is heard
abbrev pub FinishedStands : Type 0
FinishedStands =
    (g : Setup) (c : ℕ) (h : Heard) (v : EventKind) (group : List Note)
    (place : List Item) (l : TraceState)
    → h.finished ≡ true → choices_told (notes_about c group) ≡ []
    → ((took : TakenCounts) → cut_told took (notes_about c group) ≡ None)
    → Unfolds g (start_of g h) place l
    → Unfolds g (start_of g (hears c h v group)) place
    (longer (replies_only (replies_told (notes_about c group))) l)

-- what happens to others isn't heard
abbrev pub concerns : ℕ → EventKind → Bool
concerns c (Accepts d virtual from) = nat_eq d c
concerns c (Comes d input) = nat_eq d c
concerns c other = false

abbrev pub OthersAreNotHeard : Type 0
OthersAreNotHeard =
    (c : ℕ) (h : Heard) (v : EventKind) (group : List Note)
    → concerns c v ≡ false → own c group ≡ [] → hears c h v group ≡ h
