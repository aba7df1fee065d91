-- A text with a faulty line is no journal.
use Rattle.std.proofs.Common.{◌≡◌, ◌⊎◌, inl, inr, ℕ, List, [], ◌∷◌, ◌++◌, Option, Some, None, Result, Ok, refl, sym, ap, subst, ◌∙◌, arith}
use Rattle.core_events.specs.declared.event.Event.{Event}
use Rattle.core_events.specs.declared.note.Note.{Note}
use Rattle.core_events.specs.declared.note.Note.TheVariants as note
use Rattle.journal_text.specs.Line.{IsSkipped, LineFails, SpellsEvent}
use Rattle.journal_text.specs.Notes.{note_line}
use Rattle.journal_text.specs.declared.line_kind.LineKind.{LineKind}
use Rattle.journal_text.specs.declared.line_kind.LineKind.TheVariants as kind
use Rattle.journal_text.proofs.FaultSpellsNone.{fault_spells_none}
use Rattle.journal_value.specs.Words.{IsNote}
use Rattle.journal_value.specs.Journal.{AllFit, BeginsNote, FailsBefore, Fails, FaultHasNoJournal, FitsLine, IsComment, Tell, Tells}
use Rattle.journal_value.specs.declared.journal.JournalLine.{JournalLine}
use Rattle.journal_value.specs.declared.journal.JournalLine.TheVariants as line
use Rattle.journal_value.proofs.Told.{tell_among}

pub comment_skipped : (text : List ℕ) → IsComment text → IsSkipped text
comment_skipped [] h = tt
comment_skipped (x ∷ text) h = inl h

pub note_skipped : (text : List ℕ) → BeginsNote text → IsSkipped text
note_skipped [] h = tt
note_skipped (x ∷ text) h = inr h

-- the line of a note begins with `>`
starts : (n : Note) → (more : List ℕ) × (note_line n ≡ 62 ∷ more)
starts (note.Connect conn to) = (_, refl)
starts (note.Sleep conn until) = (_, refl)
starts (note.History conn moment call answer) = (_, refl)
starts (note.Log conn text) = (_, refl)
starts (note.Pass conn side n) = (_, refl)
starts (note.Fired conn side) = (_, refl)
starts (note.Reuse conn kept) = (_, refl)
starts (note.Finish conn c) = (_, refl)
starts (note.HalfClose conn side) = (_, refl)
starts (note.CloseServer conn) = (_, refl)
starts (note.CloseClient conn) = (_, refl)
starts (note.Ended conn dropped) = (_, refl)

pub note_begins : (n : Note) (text : List ℕ) → note_line n ≡ text ++ 10 ∷ [] → BeginsNote text
note_begins n [] e =
    let s = starts n in
    let no : 62 ∷ s.0 ≡ 10 ∷ [] = sym s.1 ∙ e in
    cc
note_begins n (x ∷ text) e =
    let s = starts n in
    let same : 62 ∷ s.0 ≡ x ∷ (text ++ 10 ∷ []) = sym s.1 ∙ e in
    cc

-- a line with a fault of events is no note's, tells nothing and spells none
spells_none : (text : List ℕ) (k : LineKind) (x : Option JournalLine) → ¬ (k ≡ kind.Memory) → (¬ IsSkipped text) × LineFails text k → Tells text x → ⊥
spells_none text k None other f t = f.0 (comment_skipped text t)
spells_none text k (Some (line.Event e)) other f t = fault_spells_none text k other f.1 e t.1
spells_none text k (Some (line.Note n)) other f t = f.0 (note_skipped text (note_begins n text t))

not_both : (b : ℕ) → b ≡ 62 → b ≡ 35 → ⊥
not_both b p q = omega (arith, p, q)

no_comment : (text : List ℕ) → BeginsNote text → IsComment text → ⊥
no_comment [] b c = b
no_comment (x ∷ text) b c = not_both x b c

no_note : (text : List ℕ) (x : Option JournalLine) → BeginsNote text × ((n : Note) → IsNote n → ¬ (note_line n ≡ text ++ 10 ∷ [])) → Tells text x → FitsLine x → ⊥
no_note text None f t fits = no_comment text f.0 t
no_note text (Some (line.Event e)) f t fits = t.0 (note_skipped text f.0)
no_note text (Some (line.Note n)) f t fits = f.1 n fits t

-- ---- a line tells one thing

pub note_only : (text : List ℕ) (note : Note) → BeginsNote text → ((n : Note) → IsNote n → note_line n ≡ text ++ 10 ∷ [] → Some note ≡ Some n) → (told : Option JournalLine) → FitsLine told → Tells text told → Some (line.Note note) ≡ told
note_only text note begins only None fits t = absurd (no_comment text begins t)
note_only text note begins only (Some (line.Event e)) fits t = absurd (t.0 (note_skipped text begins))
note_only text note begins only (Some (line.Note n)) fits t = let same = only n fits t in cc

pub is_event : (r : Result (Option Event) LineKind) (o : Option Event) (event : Event) → r ≡ Ok o → o ≡ Some event → r ≡ Ok None → ⊥
is_event r o event was is none = let both : Ok (Some event) ≡ Ok None = ap Ok (sym is) ∙ sym was ∙ none in cc

pub event_only : (text : List ℕ) (event : Event) → ¬ BeginsNote text → ¬ IsSkipped text → ((other : Event) → SpellsEvent text other → other ≡ event) → (told : Option JournalLine) → FitsLine told → Tells text told → Some (line.Event event) ≡ told
event_only text event other not only None fits t = absurd (not (comment_skipped text t))
event_only text event other not only (Some (line.Event e)) fits t = let same = only e t.1 in cc
event_only text event other not only (Some (line.Note n)) fits t = absurd (other (note_begins n text t))

pub fails_tell_none : (text : List ℕ) (k : LineKind) (x : Option JournalLine) → Fails text k → Tells text x → FitsLine x → k ≡ kind.Memory
fails_tell_none text kind.Memory x f t fits = refl
fails_tell_none text kind.NotNote x f t fits = absurd (no_note text x f t fits)
fails_tell_none text kind.LongLine x f t fits = absurd (spells_none text kind.LongLine x (λ e. cc) f t)
fails_tell_none text kind.NoNewline x f t fits = absurd (spells_none text kind.NoNewline x (λ e. cc) f t)
fails_tell_none text kind.NotEvent x f t fits = absurd (spells_none text kind.NotEvent x (λ e. cc) f t)
fails_tell_none text kind.BadNumber x f t fits = absurd (spells_none text kind.BadNumber x (λ e. cc) f t)
fails_tell_none text kind.BadHex x f t fits = absurd (spells_none text kind.BadHex x (λ e. cc) f t)

-- ---- the parts before the last one, and the last one

-- two ways to see the same parts: the last one is empty
record Split (front : List (List ℕ)) (line : List ℕ) (behind lines : List (List ℕ)) : Type 0 where
  among : (part : List ℕ) (more : List (List ℕ)) → behind ≡ part ∷ more → (rest : List (List ℕ)) × (lines ≡ front ++ line ∷ rest)
  last : behind ≡ [] → line ≡ []

split_parts : (front : List (List ℕ)) (line : List ℕ) (behind lines : List (List ℕ)) → front ++ line ∷ behind ≡ lines ++ [] ∷ [] → Split front line behind lines
split_parts [] line behind [] e = record {
  among = λ part more b. absurd (let no : [] ∷ [] ≡ line ∷ (part ∷ more) = sym e ∙ ap (λ t. line ∷ t) b in cc);
  last = λ b. cc;
}
split_parts [] line behind (l ∷ lines) e = record {
  among = λ part more b. (lines, cc);
  last = λ b. absurd (nonempty lines (let same : lines ++ [] ∷ [] ≡ behind = cc in same ∙ b));
}
  where
    nonempty : (xs : List (List ℕ)) → xs ++ [] ∷ [] ≡ [] → ⊥
    nonempty [] h = cc
    nonempty (x ∷ xs) h = cc
split_parts (f ∷ front) line behind [] e = absurd (nonempty front (cc))
  where
    nonempty : (xs : List (List ℕ)) → xs ++ line ∷ behind ≡ [] → ⊥
    nonempty [] h = cc
    nonempty (x ∷ xs) h = cc
split_parts (f ∷ front) line behind (l ∷ lines) e =
    let tail : front ++ line ∷ behind ≡ lines ++ [] ∷ [] = cc in
    let more = split_parts front line behind lines tail in
    record {
      among = λ part rest b. let inner = more.among part rest b in (inner.0, let same : f ≡ l = cc in cc (same, inner.1));
      last = more.last;
    }

module _ (told : List JournalLine) (fit : AllFit told) (lines : List (List ℕ)) (tell : Tell lines told) where
  not_at : (front : List (List ℕ)) (line : List ℕ) (behind : List (List ℕ)) (k : LineKind) → FailsBefore behind line k → Split front line behind lines → k ≡ kind.Memory
  not_at front line [] k f s = absurd (f.0 (s.last refl))
  not_at front line (part ∷ more) k f s =
      let among = s.among part more refl in
      let one = tell_among front line among.0 told (subst (λ ls. Tell ls told) among.1 tell) fit in
      fails_tell_none line k one.line f one.tells one.fits

decide : (k : LineKind) → (k ≡ kind.Memory) ⊎ (¬ (k ≡ kind.Memory))
decide kind.Memory = inl refl
decide kind.NotNote = inr (λ e. cc)
decide kind.LongLine = inr (λ e. cc)
decide kind.NoNewline = inr (λ e. cc)
decide kind.NotEvent = inr (λ e. cc)
decide kind.BadNumber = inr (λ e. cc)
decide kind.BadHex = inr (λ e. cc)

pub fault_has_no_journal : FaultHasNoJournal
fault_has_no_journal text fault told first journal fit = by_kind (decide fault.kind)
  where
    by_kind : (fault.kind ≡ kind.Memory) ⊎ (¬ (fault.kind ≡ kind.Memory)) → fault.kind ≡ kind.Memory
    by_kind (inl is) = is
    by_kind (inr other) =
        let at = first other in
        let same = sym at.parts_are ∙ journal.text_is in
        not_at told fit journal.lines journal.tell at.front at.line at.behind fault.kind at.fails (split_parts at.front at.line at.behind journal.lines same)
