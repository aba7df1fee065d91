-- What notes tell of a connection, by one table.
use Rattle.std.specs.Prelude.{ℕ, List, [], ◌∷◌, map, flat_map, Bool, true, false, ◌||◌}
use Rattle.std.specs.Prelude.{Option, Some, None, nat_eq}
use Rattle.std.specs.List.{filter}
use Rattle.px_bytes.specs.declared.fault.Reply.{Reply}
use Rattle.core_events.specs.declared.note.Cause.{Cause}
use Rattle.core_events.specs.declared.note.Cause.TheVariants as cause
use Rattle.core_events.specs.declared.note.CutReason.{CutReason}
use Rattle.core_events.specs.declared.note.Note.{Note}
use Rattle.core_events.specs.declared.note.Note.TheVariants as note
use Rattle.conn_trace.specs.Item.{Choice, PassesOn, Fires, Reuses, listed}
use Rattle.conn_trace.specs.Gates.{TakenCounts}
use Rattle.conn_trace.specs.State.{Cut}

-- What a note tells: of which connection, the answer to its shared call, a choice that was made,
-- that it finishes, whether for want of memory, and by which cut; that it is over.
pub record NoteTells : Type 0 where
  pub conn : ℕ
  pub reply : Option Reply
  pub choice : Option Choice
  pub finishes : Bool
  pub fails : Bool
  pub cut : Option CutReason
  pub ends : Bool

abbrev about : ℕ → NoteTells
about c = record {
  conn = c;
  reply = None;
  choice = None;
  finishes = false;
  fails = false;
  cut = None;
  ends = false;
}

abbrev pub cut_of : Cause → Option CutReason
cut_of (cause.Cut reason) = Some reason
cut_of other = None

abbrev pub is_memory : Cause → Bool
is_memory cause.Memory = true
is_memory other = false

abbrev pub tells : Note → NoteTells
tells (note.Connect c to) = about c
tells (note.Sleep c until) = about c
tells (note.History c moment call reply) = record (about c) { reply = Some reply }
tells (note.Log c text) = about c
tells (note.Pass c side n) = record (about c) { choice = Some (PassesOn side n) }
tells (note.Fired c side) = record (about c) { choice = Some (Fires side) }
tells (note.Reuse c kept) = record (about c) { choice = Some (Reuses kept) }
tells (note.Finish c why) = record (about c) {
  finishes = true;
  fails = is_memory why;
  cut = cut_of why;
}
tells (note.HalfClose c side) = about c
tells (note.CloseServer c) = about c
tells (note.CloseClient c) = about c
tells (note.Ended c dropped) = record (about c) { ends = true }

-- the connection that a note is about
abbrev pub conn_of : Note → ℕ
conn_of n = (tells n).conn

-- the notes of connection c
abbrev pub own : ℕ → List Note → List Note
own c group = filter (λ n. nat_eq (conn_of n) c) group

-- and what they tell
abbrev pub notes_about : ℕ → List Note → List NoteTells
notes_about c group = map tells (own c group)

abbrev pub replies_told : List NoteTells → List Reply
replies_told tellings = flat_map (λ t. listed t.reply) tellings

abbrev pub choices_told : List NoteTells → List Choice
choices_told tellings = flat_map (λ t. listed t.choice) tellings

abbrev pub cut_by : Option CutReason → TakenCounts → Option Cut → Option Cut
cut_by None took later = later
cut_by (Some reason) took later = Some (record { reason = reason; took = took })

-- the first cut that is told, at these counts
abbrev pub cut_told : TakenCounts → List NoteTells → Option Cut
cut_told took [] = None
cut_told took (t ∷ more) = cut_by t.cut took (cut_told took more)

-- it finishes; it finishes for want of memory; it is over
abbrev pub finish_told : List NoteTells → Bool
finish_told [] = false
finish_told (t ∷ more) = t.finishes || finish_told more

abbrev pub failure_told : List NoteTells → Bool
failure_told [] = false
failure_told (t ∷ more) = t.fails || failure_told more

abbrev pub end_told : List NoteTells → Bool
end_told [] = false
end_told (t ∷ more) = t.ends || end_told more
