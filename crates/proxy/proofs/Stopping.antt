-- What is written where a replay stops, and after an event.
use Rattle.std.proofs.Common.{◌≡◌, ℕ, ◌+◌, ◌<◌, List, [], ◌∷◌, ◌++◌, Option, Some, None}
use Rattle.std.proofs.Common.{Result, Ok, Err, IfErr, OnErr, IsErrAnd, length, take, refl, sym, ap}
use Rattle.std.proofs.Common.{◌∙◌, arith, append_assoc, zero-add, suc-add, drop, get_or, subst, inl}
use Rattle.std.proofs.Common.{inr}
use Rattle.std.proofs.Math.Seq.{drop-cons}
use Rattle.std.proofs.lemmas.List.{append-nil, take-append-le}
use Rattle.std.proofs.Math.Seq.{take-length}
use Rattle.px_outside.specs.Outside.{told_more, AddsPrefix}
use Rattle.px_outside.specs.declared.failed.Failed.{Failed}
use Rattle.px_outside.specs.declared.failed.Failed.TheVariants as failed
use Rattle.core_events.specs.declared.note.Note.{Note}
use Rattle.core_events.specs.Kinds.{kind_of}
use Rattle.record_model.specs.Past.{Past}
use Rattle.proxy_core.specs.Refusal.{refusal, refused}
use Rattle.proxy_core.specs.Represents.{Represents}
use Rattle.proxy_core.specs.Scheduler.{State, no_connections}
use Rattle.record_model.specs.Setup.{init_notes}
use Rattle.proxy_core.specs.Steps.{KeepsStanding, StandsAfter}
use Rattle.run_config.specs.declared.config.Config.{Config}
use Rattle.proxy_core.specs.declared.core_state.Core.{Core}
use Rattle.core_events.specs.declared.event.Event.{Event}
use Rattle.proxy_core.proofs.Stepping.{refusal_same}
use Rattle.proxy.specs.declared.taken.Taken.{Taken}
use Rattle.proxy.specs.declared.replay.Stop.{Stop}
use Rattle.proxy.specs.declared.replay.Stop.TheVariants as stop
use Rattle.proxy.specs.Lines.{IsLine, Gives, Reads, events_of}
use Rattle.proxy.specs.Replay.{past_text, notes_text, conn_text, conns_text}
use Rattle.journal_text.specs.Notes.{note_lines}
use Rattle.proxy.specs.Stops.{stop_of, with_line}
use Rattle.proxy.specs.Taken.{took_of, with_took}
use Rattle.proxy.specs.Written.{Stands, IsFront, WritesNotes, WritesFront, WritesFrontOf}
use Rattle.proxy.proofs.TakenRuns.{taken_kept}

-- an error that is want of memory
pub out_of_memory : {T : Type 0} (r : Result T Stop) (P : Stop → Type 0) → IsErrAnd r (λ e. e ≡ stop.Memory) → P stop.Memory → IfErr r P
out_of_memory (Ok x) P e h = tt
out_of_memory (Err x) P e h = subst P (sym e) h

-- an error of a write
pub not_written : {T : Type 0} (f : Failed) (r : Result T Stop) (P : Stop → Type 0) → IsErrAnd r (λ e. e ≡ stop_of f) → P stop.WriteFault → P stop.Memory → IfErr r P
not_written f (Ok x) P e h k = tt
not_written failed.Failed (Err x) P e h k = subst P (sym e) h
not_written failed.Memory (Err x) P e h k = subst P (sym e) k

-- the same, where only a fault of the write has to be counted
pub counted : {T : Type 0} (f : Failed) (r : Result T Stop) (X : Type 0) → IsErrAnd r (λ e. e ≡ stop_of f) → (f ≡ failed.Failed → X) → IfErr r (λ why. why ≡ stop.WriteFault → X)
counted f (Ok x) X e h = tt
counted failed.Failed (Err x) X e h = λ w. h refl
counted failed.Memory (Err x) X e h = λ w. absurd (let k : stop.Memory ≡ stop.WriteFault = sym e ∙ w in cc)

pub told_twice : (o : Option (List ℕ)) (a b : List ℕ) → told_more (told_more o a) b ≡ told_more o (a ++ b)
told_twice None a b = refl
told_twice (Some x) a b = ap Some (append_assoc x a b)

take_plus : (a b : List ℕ) (n : ℕ) → take (length a + n) (a ++ b) ≡ a ++ take n b
take_plus [] b n = rw (zero-add n) refl
take_plus (x ∷ a) b n = rw (suc-add (length a) n) (ap (λ l. x ∷ l) (take_plus a b n))

-- all of the first text and a prefix of the second
pub front_more : (a b : List ℕ) (old mid new : Option (List ℕ)) → mid ≡ told_more old a → WritesFrontOf b mid new → WritesFrontOf (a ++ b) old new
front_more a b old mid new e w =
    (length a + w.0, w.1 ∙ ap (λ o. told_more o (take w.0 b)) e ∙ told_twice old a (take w.0 b) ∙ ap (told_more old) (sym (take_plus a b w.0)))

-- the front of a schedule that was read
abbrev pub front_of : (C : Config) (text rest whole : List ℕ) (number : ℕ) (core : Core) (taken : List Taken) (events : ℕ) (old new : Option (List ℕ)) → whole ≡ text ++ rest → (s : Stands C text number core taken events old new) → IsFront C whole s.past s.state
front_of C text rest whole number core taken events old new is s = record { leads = s.represents.sound.leads; read = text; rest = rest; front = is; number = number; reads = s.reads }

-- what stands has written the notes of it
pub stands_front : (C : Config) (text rest : List ℕ) (number : ℕ) (core : Core) (taken : List Taken) (events : ℕ) (old new : Option (List ℕ)) → Stands C text number core taken events old new → WritesNotes C (text ++ rest) old new
stands_front C text rest number core taken events old new s = (
  notes_text C s.past,
  record { past = s.past; state = s.state; of_front = front_of C text rest (text ++ rest) number core taken events old new refl s; text_is = refl },
  (length (notes_text C s.past), s.written ∙ ap (told_more old) (sym (take-length (notes_text C s.past)))),
)

-- the same of just what was read
pub written_front : (C : Config) (text : List ℕ) (number : ℕ) (core : Core) (taken : List Taken) (events : ℕ) (old new : Option (List ℕ)) → Stands C text number core taken events old new → WritesNotes C text old new
written_front C text number core taken events old new s =
    let P : List ℕ → Type 0 = λ x. WritesNotes C x old new in subst P (append-nil text) (stands_front C text [] number core taken events old new s)

-- the same of a longer schedule
pub front_longer : (C : Config) (text rest whole : List ℕ) (old new : Option (List ℕ)) → whole ≡ text ++ rest → WritesNotes C text old new → WritesFront C whole old new
front_longer C text rest whole old new is w =
    let f = w.1.of_front in (
      w.0,
      inl (record {
        past = w.1.past;
        state = w.1.state;
        of_front = record { leads = f.leads; read = f.read; rest = f.rest ++ rest; front = is ∙ ap (λ x. x ++ rest) f.front ∙ append_assoc f.read f.rest rest; number = f.number; reads = f.reads };
        text_is = w.1.text_is;
      }),
      w.2,
    )

-- one more event with its notes
pub record Given (core new : Core) (event : Event) (group : List Note) : Type 0 where
  pub accepted : refusal core event ≡ None
  pub stands : KeepsStanding core new (record { event = event; group = group })

-- the lines with one more of them, which gives the event
more_lines : (text line : List ℕ) (number : ℕ) (event : Event) (before : List Event) → Reads text number before → IsLine line → Gives line event → Reads (with_line text line) (number + 1) (event ∷ before)
more_lines text line number event before r is g = record {
  lines = line ∷ r.lines;
  text_is = ap (λ x. x ++ (line ++ 10 ∷ [])) r.text_is;
  all_lines = (is, r.all_lines);
  number_is = (let e : length (line ∷ r.lines) ≡ length r.lines + 1 = omega arith in ap (λ n. n + 1) r.number_is ∙ sym e);
  spell = inr (event, before, refl, g, r.spell);
}

after : (C : Config) (past : Past) (s : State) (core new : Core) (event : Event) (group : List Note) → Represents C past s core → Given core new event group → StandsAfter C past s (record { event = event; group = group }) new
after C past s core new event group r g = g.stands C past s r

pub stands_next : (C : Config) (text line : List ℕ) (number : ℕ) (core next : Core) (event : Event) (group : List Note) (taken kept : List Taken) (events : ℕ) (told old new : Option (List ℕ)) → Given core next event group → kept ≡ with_took (took_of core event) taken
    → (s : Stands C text number core taken events told old) → IsLine line → Gives line event → new ≡ told_more old (note_lines group) → Stands C (with_line text line) (number + 1) next kept (events + 1) told new
stands_next C text line number core next event group taken kept events told old new g takes s is gives w =
    let k = after C s.past s.state core next event group s.represents g in
    let fine : refused C s.past s.state (kind_of event) ≡ None = sym (refusal_same C s.past s.state core (kind_of event) s.represents) ∙ g.accepted in
    record {
      past = record { event = event; group = group } ∷ s.past;
      state = k.next;
      represents = k.represents;
      reads = more_lines text line number event (events_of s.past) s.reads is gives;
      count = omega (arith, s.count);
      taken_is = takes ∙ ap (with_took (took_of core event)) s.taken_is ∙ taken_kept C s.past s.state k.next core event group s.represents fine g.accepted k.moves;
      written = w ∙ ap (λ o. told_more o (note_lines group)) s.written ∙ told_twice told (notes_text C s.past) (note_lines group) ∙ ap (told_more told) (append_assoc (note_lines (init_notes C)) (past_text s.past) (note_lines group));
    }

-- a prefix of its notes' lines
pub front_in_notes : (C : Config) (text line : List ℕ) (number : ℕ) (core next : Core) (event : Event) (group : List Note) (taken : List Taken) (events : ℕ) (told old new : Option (List ℕ)) → Given core next event group
    → (s : Stands C text number core taken events told old) → IsLine line → Gives line event → AddsPrefix (note_lines group) old new → WritesNotes C (with_line text line) told new
front_in_notes C text line number core next event group taken events told old new g s is gives w =
    let k = after C s.past s.state core next event group s.represents g in
    let past : Past = record { event = event; group = group } ∷ s.past in
    let front : IsFront C (with_line text line) past k.next = record {
      leads = k.represents.sound.leads;
      read = with_line text line;
      rest = [];
      front = sym (append-nil (with_line text line));
      number = number + 1;
      reads = more_lines text line number event (events_of s.past) s.reads is gives;
    } in (
      notes_text C past,
      record { past = past; state = k.next; of_front = front; text_is = refl },
      subst (λ text. WritesFrontOf text told new) (append_assoc (note_lines (init_notes C)) (past_text s.past) (note_lines group)) (front_more (notes_text C s.past) (note_lines group) told old new s.written (w.taken, w.written)),
    )

told_none : (o : Option (List ℕ)) → o ≡ told_more o []
told_none None = refl
told_none (Some x) = ap Some (sym (append-nil x))

-- before any event
no_lines : Reads [] 0 []
no_lines = record { lines = []; text_is = refl; all_lines = tt; number_is = refl; spell = refl }

pub stands_first : (C : Config) (core : Core) (taken : List Taken) (told new : Option (List ℕ)) → Represents C [] no_connections core → taken ≡ [] → new ≡ told_more told (note_lines (init_notes C)) → Stands C [] 0 core taken 0 told new
stands_first C core taken told new r none w = record {
  past = [];
  state = no_connections;
  represents = r;
  reads = no_lines;
  count = refl;
  taken_is = none;
  written = w ∙ ap (told_more told) (sym (append-nil (note_lines (init_notes C))));
}

-- a prefix of the notes of the start
pub start_front : (C : Config) (old new : Option (List ℕ)) → WritesFrontOf (note_lines (init_notes C)) old new → WritesNotes C [] old new
start_front C old new w = (
  notes_text C [],
  record {
    past = [];
    state = no_connections;
    of_front = record { leads = refl; read = []; rest = []; front = refl; number = 0; reads = no_lines };
    text_is = refl;
  },
  subst (λ text. WritesFrontOf text old new) (sym (append-nil (note_lines (init_notes C)))) w,
)

-- the notes of a list that was empty before are those of the group
pub only_group : (empty now : List Note) (group : List Note) → empty ≡ [] → now ≡ empty ++ group → now ≡ group
only_group empty now group e n = n ∙ ap (λ l. l ++ group) e

-- nothing is a prefix of every text
pub front_none : (text : List ℕ) (old : Option (List ℕ)) → WritesFrontOf text old old
front_none text old = (0, told_none old)

-- a part of the first text
pub front_part : (a b : List ℕ) (old new : Option (List ℕ)) → AddsPrefix a old new → WritesFrontOf (a ++ b) old new
front_part a b old new w = (w.taken, w.written ∙ ap (told_more old) (sym (take-append-le w.taken a b (omega (arith, w.not_all)))))

-- the lines of the connections from a place on begin with those of the one that stands there
pub conns_at : (core : Core) (all : List Taken) (i : ℕ) (t : Taken) → i < length all → t ≡ get_or all i t → conns_text core (drop i all) ≡ conn_text core t ++ conns_text core (drop (i + 1) all)
conns_at core all i t h e =
    let d : drop i all ≡ t ∷ drop (i + 1) all = grind (arith, drop-cons all i t h, e) in ap (conns_text core) d

-- one connection's lines were written
pub conns_next : (core : Core) (all : List Taken) (i : ℕ) (t : Taken) (last bytes : List ℕ) (first old new : Option (List ℕ)) → i < length all → t ≡ get_or all i t → bytes ≡ conn_text core t → new ≡ told_more old bytes
    → told_more first (conns_text core all ++ last) ≡ told_more old (conns_text core (drop i all) ++ last)
    → told_more first (conns_text core all ++ last) ≡ told_more new (conns_text core (drop (i + 1) all) ++ last)
conns_next core all i t last bytes first old new h e b w inv =
    let rest : List ℕ = conns_text core (drop (i + 1) all) ++ last in
    inv ∙ ap (λ l. told_more old (l ++ last)) (conns_at core all i t h e) ∙ ap (told_more old) (append_assoc (conn_text core t) _ last)
    ∙ sym (told_twice old (conn_text core t) rest) ∙ ap (λ o. told_more o rest) (sym (w ∙ ap (told_more old) b))

pub conns_front : (core : Core) (all : List Taken) (i : ℕ) (t : Taken) (last bytes : List ℕ) (first old new : Option (List ℕ)) → i < length all → t ≡ get_or all i t → bytes ≡ conn_text core t → new ≡ told_more old bytes
    → ((o : Option (List ℕ)) → WritesFrontOf (conns_text core (drop i all) ++ last) old o → WritesFrontOf (conns_text core all ++ last) first o)
    → (o : Option (List ℕ)) → WritesFrontOf (conns_text core (drop (i + 1) all) ++ last) new o → WritesFrontOf (conns_text core all ++ last) first o
conns_front core all i t last bytes first old new h e b w inv o f =
    let rest : List ℕ = conns_text core (drop (i + 1) all) ++ last in
    let same : conn_text core t ++ rest ≡ conns_text core (drop i all) ++ last = sym (ap (λ l. l ++ last) (conns_at core all i t h e) ∙ append_assoc (conn_text core t) _ last) in
    let P : List ℕ → Type 0 = λ l. WritesFrontOf l old o in
    inv o (subst P same (front_more (conn_text core t) rest old new o (w ∙ ap (told_more old) b) f))

-- a part of one connection's lines was written
pub conns_part : (core : Core) (all : List Taken) (i : ℕ) (t : Taken) (last bytes : List ℕ) (first old new : Option (List ℕ)) → i < length all → t ≡ get_or all i t → bytes ≡ conn_text core t
    → ((o : Option (List ℕ)) → WritesFrontOf (conns_text core (drop i all) ++ last) old o → WritesFrontOf (conns_text core all ++ last) first o)
    → AddsPrefix bytes old new → WritesFrontOf (conns_text core all ++ last) first new
conns_part core all i t last bytes first old new h e b inv w =
    let rest : List ℕ = conns_text core (drop (i + 1) all) ++ last in
    let same : conn_text core t ++ rest ≡ conns_text core (drop i all) ++ last = sym (ap (λ l. l ++ last) (conns_at core all i t h e) ∙ append_assoc (conn_text core t) _ last) in
    let P : List ℕ → Type 0 = λ l. WritesFrontOf l old new in
    let Q : List ℕ → Type 0 = λ l. AddsPrefix l old new in
    inv new (subst P same (front_part (conn_text core t) rest old new (subst Q b w)))

-- what holds holds where the result is an error
pub on_err : {T E : Type 0} (r : Result T E) (P : Type 0) → P → OnErr r P
on_err (Ok x) P p = tt
on_err (Err x) P p = p
