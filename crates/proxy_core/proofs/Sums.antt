-- What the notes of a connection tell in all: what they show, and why it finishes.
use Rattle.std.proofs.Common.{◌≡◌, refl, sym, ap, ◌∙◌, ℕ, List, [], ◌∷◌, ◌++◌, append-nil, map, false}
use Rattle.std.proofs.lemmas.List.{map-append}
use Rattle.std.proofs.lemmas.List.Elements.{filter-append}
use Rattle.std.proofs.lemmas.Grind.{flat_map-append}
use Rattle.std.specs.List.{filter}
use Rattle.core_events.specs.declared.note.Cause.{Cause}
use Rattle.core_events.specs.declared.note.Note.{Note}
use Rattle.core_events.specs.declared.note.Note.TheVariants as note
use Rattle.conn_trace.specs.Further.{is_some_of}
use Rattle.conn_trace.specs.Item.{Item, Passed, Fired, Reused, Connected, Logged, Finished, shown, listed, cause_of, note_of, notes_of, reasons_in}
use Rattle.conn_trace.specs.Tellings.{tells, finish_told}
use Rattle.proxy_core.specs.Shown.{shows, cause_told, causes_told}
use Rattle.proxy_core.proofs.GroupNotes.{AreDue, due_hidden, of_items, shown_all}

pub causes_on : (some more : List Note) → causes_told (some ++ more) ≡ causes_told some ++ causes_told more
causes_on some more = flat_map-append cause_told some more

pub shown_on : (some more : List Note) → filter shows (some ++ more) ≡ filter shows some ++ filter shows more
shown_on some more = filter-append shows some more

-- one that doesn't finish it names no cause
no_cause : (n : Note) → (tells n).finishes ≡ false → cause_told n ≡ []
no_cause (note.Finish c why) e = cc
no_cause (note.Connect c to) e = refl
no_cause (note.Sleep c until) e = refl
no_cause (note.History c moment call reply) e = refl
no_cause (note.Log c text) e = refl
no_cause (note.Pass c side n) e = refl
no_cause (note.Fired c side) e = refl
no_cause (note.Reuse c kept) e = refl
no_cause (note.HalfClose c side) e = refl
no_cause (note.CloseServer c) e = refl
no_cause (note.CloseClient c) e = refl
no_cause (note.Ended c dropped) e = refl

pub due_causes : (c : ℕ) (notes : List Note) → AreDue c notes → causes_told notes ≡ []
due_causes c [] h = refl
due_causes c (n ∷ notes) h = ap (λ x. x ++ causes_told notes) (no_cause n h.0.finishes) ∙ due_causes c notes h.1

cause_of_item : (c : ℕ) (i : Item) → causes_told (note_of c i) ≡ map cause_of (listed (shown i).reason)
cause_of_item c (Passed from to bytes) = refl
cause_of_item c (Fired side n) = refl
cause_of_item c (Reused kept) = refl
cause_of_item c (Connected to) = refl
cause_of_item c (Logged text) = refl
cause_of_item c (Finished reason) = refl
cause_of_item c other = refl

pub causes_of_items : (c : ℕ) (items : List Item) → causes_told (notes_of c items) ≡ map cause_of (reasons_in items)
causes_of_items c [] = refl
causes_of_items c (i ∷ items) =
    causes_on (note_of c i) (notes_of c items) ∙ ap (λ x. x ++ causes_told (notes_of c items)) (cause_of_item c i)
    ∙ ap (λ x. map cause_of (listed (shown i).reason) ++ x) (causes_of_items c items) ∙ sym (map-append cause_of (listed (shown i).reason) (reasons_in items))

pub shown_items : (c : ℕ) (items : List Item) → filter shows (notes_of c items) ≡ notes_of c items
shown_items c items = shown_all c (notes_of c items) (of_items c items)

-- it has finished where they name a cause
pub finish_of_causes : (notes : List Note) → finish_told (map tells notes) ≡ is_some_of (causes_told notes)
finish_of_causes [] = refl
finish_of_causes (note.Finish c why ∷ notes) = refl
finish_of_causes (note.Connect c to ∷ notes) = finish_of_causes notes
finish_of_causes (note.Sleep c until ∷ notes) = finish_of_causes notes
finish_of_causes (note.History c moment call reply ∷ notes) = finish_of_causes notes
finish_of_causes (note.Log c text ∷ notes) = finish_of_causes notes
finish_of_causes (note.Pass c side n ∷ notes) = finish_of_causes notes
finish_of_causes (note.Fired c side ∷ notes) = finish_of_causes notes
finish_of_causes (note.Reuse c kept ∷ notes) = finish_of_causes notes
finish_of_causes (note.HalfClose c side ∷ notes) = finish_of_causes notes
finish_of_causes (note.CloseServer c ∷ notes) = finish_of_causes notes
finish_of_causes (note.CloseClient c ∷ notes) = finish_of_causes notes
finish_of_causes (note.Ended c dropped ∷ notes) = finish_of_causes notes

pub some_causes : {A B : Type 0} (f : A → B) (as' : List A) → is_some_of (map f as') ≡ is_some_of as'
some_causes f [] = refl
some_causes f (a ∷ as') = refl

-- with notes that are due
pub shown_due : (c : ℕ) (old group shown : List Note) → AreDue c group → filter shows old ≡ shown → filter shows (old ++ group) ≡ shown
shown_due c old group shown d e = shown_on old group ∙ ap (λ x. filter shows old ++ x) (due_hidden c group d) ∙ append-nil (filter shows old) ∙ e

pub causes_due : (c : ℕ) (old group : List Note) (causes : List Cause) → AreDue c group → causes_told old ≡ causes → causes_told (old ++ group) ≡ causes
causes_due c old group causes d e = causes_on old group ∙ ap (λ x. causes_told old ++ x) (due_causes c group d) ∙ append-nil (causes_told old) ∙ e
