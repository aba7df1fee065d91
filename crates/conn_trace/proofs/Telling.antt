-- What the notes of items tell.
use Rattle.std.proofs.Common.{◌≡◌, refl, sym, ap, ◌∙◌, ℕ, List, [], ◌∷◌, ◌++◌, append-nil, append_assoc, map, length, Bool, true, false, ◌||◌, Option, Some, None, if◌then◌else◌, eq-eqb}
use Rattle.std.specs.Prelude.{is_some}
use Rattle.core_events.specs.declared.note.Note.{Note}
use Rattle.core_events.specs.declared.note.Note.TheVariants as note
use Rattle.conn_trace.specs.Item.{Reason, Closed, Tcl, Http, Unselected, Rejected, CutBy, Item, cause_of, Passed, Fired, Reused, Connected, Logged, Finished, shown, listed, noted, choices_in, notes_of, reasons_in}
use Rattle.conn_trace.specs.Gates.{TakenCounts}
use Rattle.conn_trace.specs.State.{Cut}
use Rattle.conn_trace.specs.Further.{is_some_of}
use Rattle.conn_trace.specs.Tellings.{tells, conn_of, own, notes_about, choices_told, replies_told, cut_of, is_memory, cut_by, cut_told, finish_told, failure_told}
use Rattle.conn_trace.specs.HeardLaws.{cut_for, cut_in, ItemsTell}

-- what an item's notes tell, before others
record ItemTells (c : ℕ) (i : Item) (rest : List Note) : Type 0 where
  own : own c (noted c (shown i).note ++ rest) ≡ noted c (shown i).note ++ own c rest
  choices : choices_told (notes_about c (noted c (shown i).note ++ rest)) ≡ listed (shown i).choice ++ choices_told (notes_about c rest)
  replies : replies_told (notes_about c (noted c (shown i).note ++ rest)) ≡ replies_told (notes_about c rest)
  cut : (took : TakenCounts) → cut_told took (notes_about c (noted c (shown i).note ++ rest)) ≡ cut_for (shown i).reason took (cut_told took (notes_about c rest))
  finish : finish_told (notes_about c (noted c (shown i).note ++ rest)) ≡ (is_some (shown i).reason || finish_told (notes_about c rest))
  failure : failure_told (notes_about c (noted c (shown i).note ++ rest)) ≡ failure_told (notes_about c rest)

own_front : (c : ℕ) (n : Note) (rest : List Note) → conn_of n ≡ c → own c (n ∷ rest) ≡ n ∷ own c rest
own_front c n rest is = ap (λ b. if b then n ∷ own c rest else own c rest) (eq-eqb (conn_of n) c is)

unnoted : (c : ℕ) (i : Item) (rest : List Note) → (shown i).note ≡ None → (shown i).choice ≡ None → (shown i).reason ≡ None → ItemTells c i rest
unnoted c i rest note choice reason = record {
  own = rw note refl;
  choices = rw (note, choice) refl;
  replies = rw note refl;
  cut = λ took. rw (note, reason) refl;
  finish = rw (note, reason) refl;
  failure = rw note refl;
}

-- what a note shows of an item
record Shows (c : ℕ) (n : Note) (i : Item) : Type 0 where
  note : noted c (shown i).note ≡ n ∷ []
  conn : conn_of n ≡ c
  choice : (tells n).choice ≡ (shown i).choice
  reply : (tells n).reply ≡ None
  finishes : (tells n).finishes ≡ is_some (shown i).reason
  fails : (tells n).fails ≡ false
  cut : (took : TakenCounts) (later : Option Cut) → cut_by (tells n).cut took later ≡ cut_for (shown i).reason took later

by_note : (c : ℕ) (i : Item) (rest : List Note) (n : Note) → Shows c n i → ItemTells c i rest
by_note c i rest n s =
    let all : own c (noted c (shown i).note ++ rest) ≡ n ∷ own c rest = ap (λ x. own c (x ++ rest)) s.note ∙ own_front c n rest s.conn in
    let told : notes_about c (noted c (shown i).note ++ rest) ≡ tells n ∷ notes_about c rest = ap (map tells) all in
    record {
      own = all ∙ sym (ap (λ x. x ++ own c rest) s.note);
      choices = ap choices_told told ∙ ap (λ x. listed x ++ choices_told (notes_about c rest)) s.choice;
      replies = ap replies_told told ∙ ap (λ x. listed x ++ replies_told (notes_about c rest)) s.reply;
      cut = λ took. ap (cut_told took) told ∙ s.cut took (cut_told took (notes_about c rest));
      finish = ap finish_told told ∙ ap (λ b. b || finish_told (notes_about c rest)) s.finishes;
      failure = ap failure_told told ∙ ap (λ b. b || failure_told (notes_about c rest)) s.fails;
    }

going_on : (c : ℕ) (n : Note) (i : Item) → noted c (shown i).note ≡ n ∷ [] → conn_of n ≡ c → (tells n).choice ≡ (shown i).choice → (tells n).reply ≡ None
    → (tells n).finishes ≡ is_some (shown i).reason → (tells n).fails ≡ false → (tells n).cut ≡ None → (shown i).reason ≡ None → Shows c n i
going_on c n i note conn choice reply finishes fails cut reason =
    record { note = note; conn = conn; choice = choice; reply = reply; finishes = finishes; fails = fails; cut = λ took later. rw (cut, reason) refl }

cut_of_cause : (reason : Reason) (took : TakenCounts) (later : Option Cut) → cut_by (cut_of (cause_of reason)) took later ≡ cut_for (Some reason) took later
cut_of_cause Closed took later = refl
cut_of_cause (Tcl kind) took later = refl
cut_of_cause (Http fault) took later = refl
cut_of_cause Unselected took later = refl
cut_of_cause Rejected took later = refl
cut_of_cause (CutBy why) took later = refl

never_memory : (reason : Reason) → is_memory (cause_of reason) ≡ false
never_memory Closed = refl
never_memory (Tcl kind) = refl
never_memory (Http fault) = refl
never_memory Unselected = refl
never_memory Rejected = refl
never_memory (CutBy why) = refl

item_tells : (c : ℕ) (i : Item) (rest : List Note) → ItemTells c i rest
item_tells c (Passed from to bytes) rest = by_note c _ rest (note.Pass c from (length bytes)) (going_on c _ _ refl refl refl refl refl refl refl refl)
item_tells c (Fired side n) rest = by_note c _ rest (note.Fired c side) (going_on c _ _ refl refl refl refl refl refl refl refl)
item_tells c (Reused kept) rest = by_note c _ rest (note.Reuse c kept) (going_on c _ _ refl refl refl refl refl refl refl refl)
item_tells c (Connected to) rest = by_note c _ rest (note.Connect c to) (going_on c _ _ refl refl refl refl refl refl refl refl)
item_tells c (Logged text) rest = by_note c _ rest (note.Log c text) (going_on c _ _ refl refl refl refl refl refl refl refl)
item_tells c (Finished reason) rest =
    by_note c _ rest (note.Finish c (cause_of reason)) (record { note = refl; conn = refl; choice = refl; reply = refl; finishes = refl; fails = never_memory reason; cut = cut_of_cause reason })
item_tells c other rest = unnoted c other rest refl refl refl

-- what a run's notes tell
pub record RunTells (c : ℕ) (items : List Item) (rest : List Note) : Type 0 where
  pub own : own c (notes_of c items ++ rest) ≡ notes_of c items ++ own c rest
  pub choices : choices_told (notes_about c (notes_of c items ++ rest)) ≡ choices_in items ++ choices_told (notes_about c rest)
  pub replies : replies_told (notes_about c (notes_of c items ++ rest)) ≡ replies_told (notes_about c rest)
  pub cut : (took : TakenCounts) → cut_told took (notes_about c rest) ≡ None → cut_told took (notes_about c (notes_of c items ++ rest)) ≡ cut_in took items
  pub finish : finish_told (notes_about c (notes_of c items ++ rest)) ≡ (is_some_of (reasons_in items) || finish_told (notes_about c rest))
  pub failure : failure_told (notes_about c (notes_of c items ++ rest)) ≡ failure_told (notes_about c rest)

or_by : (r : Option Reason) (more : List Reason) (rest : Bool) → (is_some r || (is_some_of more || rest)) ≡ (is_some_of (listed r ++ more) || rest)
or_by None more rest = refl
or_by (Some r) more rest = refl

pub run_tells : (c : ℕ) (items : List Item) (rest : List Note) → RunTells c items rest
run_tells c [] rest = record { own = refl; choices = refl; replies = refl; cut = λ took none. none; finish = refl; failure = refl }
run_tells c (i ∷ items) rest =
    let more = run_tells c items rest in
    let front = noted c (shown i).note in
    let joined : notes_of c (i ∷ items) ++ rest ≡ front ++ (notes_of c items ++ rest) = append_assoc front (notes_of c items) rest in
    let one = item_tells c i (notes_of c items ++ rest) in
    record {
      own = ap (own c) joined ∙ (one.own ∙ (ap (λ x. front ++ x) more.own ∙ sym (append_assoc front (notes_of c items) (own c rest))));
      choices = ap (λ x. choices_told (notes_about c x)) joined ∙ (one.choices ∙ (ap (λ x. listed (shown i).choice ++ x) more.choices ∙ sym (append_assoc (listed (shown i).choice) (choices_in items) (choices_told (notes_about c rest)))));
      replies = ap (λ x. replies_told (notes_about c x)) joined ∙ (one.replies ∙ more.replies);
      cut = λ took none. ap (λ x. cut_told took (notes_about c x)) joined ∙ (one.cut took ∙ ap (cut_for (shown i).reason took) (more.cut took none));
      finish = ap (λ x. finish_told (notes_about c x)) joined ∙ (one.finish ∙ (ap (λ b. is_some (shown i).reason || b) more.finish ∙ or_by (shown i).reason (reasons_in items) (finish_told (notes_about c rest))));
      failure = ap (λ x. failure_told (notes_about c x)) joined ∙ (one.failure ∙ more.failure);
    }

alone : (c : ℕ) (items : List Item) → notes_of c items ≡ notes_of c items ++ []
alone c items = sym (append-nil (notes_of c items))

pub notes_tell : (c : ℕ) (items : List Item) → choices_told (notes_about c (notes_of c items)) ≡ choices_in items
notes_tell c items = ap (λ x. choices_told (notes_about c x)) (alone c items) ∙ ((run_tells c items []).choices ∙ append-nil (choices_in items))

pub notes_tell_cut : (c : ℕ) (took : TakenCounts) (items : List Item) → cut_told took (notes_about c (notes_of c items)) ≡ cut_in took items
notes_tell_cut c took items = ap (λ x. cut_told took (notes_about c x)) (alone c items) ∙ (run_tells c items []).cut took refl

or_nothing : (b : Bool) → (b || false) ≡ b
or_nothing true = refl
or_nothing false = refl

pub items_tell : (c : ℕ) (items : List Item) → ItemsTell c items
items_tell c items =
    let all = run_tells c items [] in
    record {
      own = ap (own c) (alone c items) ∙ (all.own ∙ append-nil (notes_of c items));
      finish = ap (λ x. finish_told (notes_about c x)) (alone c items) ∙ (all.finish ∙ or_nothing (is_some_of (reasons_in items)));
      found_memory = ap (λ x. failure_told (notes_about c x)) (alone c items) ∙ all.failure;
      no_reply = ap (λ x. replies_told (notes_about c x)) (alone c items) ∙ all.replies;
    }
