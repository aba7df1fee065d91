-- The notes of a Run: those of its items, with the closings of server connections that were given up, and what they tell.
use Rattle.std.proofs.Common.{◌≡◌, refl, sym, ap, ◌∙◌, ℕ, List, [], ◌∷◌, ◌++◌, append_assoc, map, Bool, true, false, ◌||◌, true≢false, if◌then◌else◌, Option, Some, None, nat_eq}
use Rattle.std.specs.List.{filter, list_any}
use Rattle.px_bytes.specs.declared.addr.Side.TheVariants.{Client, Server}
use Rattle.core_events.specs.declared.edges.Edges.{Edges}
use Rattle.core_events.specs.declared.note.Note.{Note}
use Rattle.core_events.specs.declared.note.Note.TheVariants as note
use Rattle.core_events.specs.Edges.{edges_by, edges_noted}
use Rattle.conn_trace.specs.Further.{is_some_of}
use Rattle.conn_trace.specs.Gates.{Counts, TakenCounts, sent_after}
use Rattle.conn_trace.specs.HeardLaws.{cut_in}
use Rattle.conn_trace.specs.Item.{Item, cause_of, choices_in, listed, note_of, noted, notes_of, reasons_in, shown, Retires}
use Rattle.conn_trace.specs.Tellings.{NoteTells, conn_of, choices_told, cut_by, cut_told, failure_told, finish_told, notes_about, own, replies_told, tells}
use Rattle.conn_trace.proofs.Telling.{run_tells}
use Rattle.conn.specs.Servers.{closed_behind, run_notes}
use Rattle.conn.specs.Settling.{note_if}
use Rattle.record_model.specs.History.{entries_in, entry_in}
use Rattle.record_model.specs.Past.{ended_in}
use Rattle.proxy_core.specs.Shown.{causes_told, closes, closes_for_good, ends_it, shows}
use Rattle.proxy_core.specs.Sound.{is_closed}
use Rattle.proxy_core.proofs.GroupNotes.{About, OfItem, OfItems, of_items}
use Rattle.proxy_core.proofs.Members.{eq_self}
use Rattle.proxy_core.proofs.Sums.{causes_of_items, causes_on, shown_items, shown_on}

-- ---- one by one

-- a note that a call sleeps, or is answered
abbrev pub is_timed : Note → Bool
is_timed (note.Sleep c until) = true
is_timed (note.History c moment call reply) = true
is_timed other = false

shown_untimed : (n : Note) → shows n ≡ true → is_timed n ≡ false
shown_untimed (note.Sleep c until) e = absurd (true≢false (sym e))
shown_untimed (note.History c moment call reply) e = absurd (true≢false (sym e))
shown_untimed other e = refl

-- a note of a Run
pub record OfRun (c : ℕ) (n : Note) : Type 0 where
  pub about : conn_of n ≡ c
  pub reply : (tells n).reply ≡ None
  pub fails : (tells n).fails ≡ false
  pub ends : (tells n).ends ≡ false
  pub none : entry_in n ≡ []
  pub goes_on : ends_it n ≡ false
  pub stays : closes_for_good n ≡ false
  pub timeless : is_timed n ≡ false

abbrev pub OfRuns : ℕ → List Note → Type 0
OfRuns c [] = Unit {0}
OfRuns c (n ∷ notes) = OfRun c n × OfRuns c notes

open_goes_on : (n : Note) → closes n ≡ false → (ends_it n ≡ false) × (closes_for_good n ≡ false)
open_goes_on (note.Ended c d) e = absurd (true≢false e)
open_goes_on (note.CloseClient c) e = absurd (true≢false e)
open_goes_on (note.CloseServer c) e = absurd (true≢false e)
open_goes_on other e = (refl, refl)

as_run : (c : ℕ) (n : Note) → OfItem c n → OfRun c n
as_run c n k = let g = open_goes_on n k.quiet in record { about = k.about; reply = k.reply; fails = k.fails; ends = k.ends; none = k.none; goes_on = g.0; stays = g.1; timeless = shown_untimed n k.shown }

as_runs : (c : ℕ) (notes : List Note) → OfItems c notes → OfRuns c notes
as_runs c [] k = tt
as_runs c (n ∷ notes) k = (as_run c n k.0, as_runs c notes k.1)

runs_joined : (c : ℕ) (some more : List Note) → OfRuns c some → OfRuns c more → OfRuns c (some ++ more)
runs_joined c [] more p q = q
runs_joined c (n ∷ some) more p q = (p.0, runs_joined c some more p.1 q)

closing_run : (c : ℕ) (b : Bool) → OfRuns c (note_if b (note.CloseServer c))
closing_run c true = (record { about = refl; reply = refl; fails = refl; ends = refl; none = refl; goes_on = refl; stays = refl; timeless = refl }, tt)
closing_run c false = tt

behind_run : (c : ℕ) (sent : Counts) (took : TakenCounts) (i : Item) → OfRuns c (closed_behind c sent took i)
behind_run c sent took Retires = closing_run c _
behind_run c sent took other = tt

one_item : (c : ℕ) (i : Item) → OfRuns c (note_of c i)
one_item c i = as_runs c (note_of c i) (front c (note_of c i) (of_items c (i ∷ [])))
  where
    front : (c : ℕ) (ns : List Note) → OfItems c (ns ++ []) → OfItems c ns
    front c [] k = tt
    front c (n ∷ ns) k = (k.0, front c ns k.1)

pub of_runs : (c : ℕ) (sent : Counts) (took : TakenCounts) (items : List Item) → OfRuns c (run_notes c sent took items)
of_runs c sent took [] = tt
of_runs c sent took (i ∷ items) =
    runs_joined c (note_of c i) _ (one_item c i) (runs_joined c (closed_behind c (sent_after i sent) took i) _ (behind_run c (sent_after i sent) took i) (of_runs c (sent_after i sent) took items))

pub timeless_runs : (c : ℕ) (notes : List Note) → OfRuns c notes → list_any is_timed notes ≡ false
timeless_runs c [] h = refl
timeless_runs c (n ∷ notes) h = ap (λ b. b || list_any is_timed notes) h.0.timeless ∙ timeless_runs c notes h.1

pub about_runs : (c : ℕ) (notes : List Note) → OfRuns c notes → About c notes
about_runs c [] h = tt
about_runs c (n ∷ notes) h = (h.0.about, about_runs c notes h.1)

pub failure_runs : (c : ℕ) (some more : List Note) → OfRuns c some → failure_told (map tells (some ++ more)) ≡ failure_told (map tells more)
failure_runs c [] more h = refl
failure_runs c (n ∷ some) more h = rw h.0.fails (failure_runs c some more h.1)

pub ended_runs : (c : ℕ) (some more : List Note) → OfRuns c some → ended_in (some ++ more) ≡ ended_in more
ended_runs c [] more h = refl
ended_runs c (n ∷ some) more h = rw h.0.ends (ended_runs c some more h.1)

pub entries_runs : (c : ℕ) (notes : List Note) → OfRuns c notes → entries_in notes ≡ []
entries_runs c [] h = refl
entries_runs c (n ∷ notes) h = ap (λ es. es ++ entries_in notes) h.0.none ∙ entries_runs c notes h.1

pub runs_go_on : (c : ℕ) (notes : List Note) → OfRuns c notes → list_any ends_it notes ≡ false
runs_go_on c [] h = refl
runs_go_on c (n ∷ notes) h = ap (λ b. b || list_any ends_it notes) h.0.goes_on ∙ runs_go_on c notes h.1

pub runs_open : (c : ℕ) (notes : List Note) → OfRuns c notes → list_any closes_for_good notes ≡ false
runs_open c [] h = refl
runs_open c (n ∷ notes) h = ap (λ b. b || list_any closes_for_good notes) h.0.stays ∙ runs_open c notes h.1

-- the client's end stays
client_open : (n : Note) (x : Edges) → closes_for_good n ≡ false → is_closed (edges_by n x).client.state ≡ true → is_closed x.client.state ≡ true
client_open (note.CloseClient c) x e k = absurd (true≢false e)
client_open (note.Ended c d) x e k = absurd (true≢false e)
client_open (note.CloseServer c) x e k = k
client_open (note.Connect c to) x e k = k
client_open (note.Sleep c until) x e k = k
client_open (note.History c moment call reply) x e k = k
client_open (note.Log c text) x e k = k
client_open (note.Pass c side n) x e k = k
client_open (note.Fired c side) x e k = k
client_open (note.Reuse c again) x e k = k
client_open (note.Finish c why) x e k = k
client_open (note.HalfClose c Client) x e k = k
client_open (note.HalfClose c Server) x e k = k

pub runs_closed : (c : ℕ) (notes : List Note) (x : Edges) → OfRuns c notes → is_closed (edges_noted notes x).client.state ≡ true → is_closed x.client.state ≡ true
runs_closed c [] x h k = k
runs_closed c (n ∷ notes) x h k = client_open n x h.0.stays (runs_closed c notes (edges_by n x) h.1 k)

client_stays : (n : Note) (x : Edges) → closes_for_good n ≡ false → (edges_by n x).client.state ≡ x.client.state
client_stays (note.CloseClient c) x e = absurd (true≢false e)
client_stays (note.Ended c d) x e = refl
client_stays (note.CloseServer c) x e = refl
client_stays (note.Connect c to) x e = refl
client_stays (note.Sleep c until) x e = refl
client_stays (note.History c moment call reply) x e = refl
client_stays (note.Log c text) x e = refl
client_stays (note.Pass c side n) x e = refl
client_stays (note.Fired c side) x e = refl
client_stays (note.Reuse c again) x e = refl
client_stays (note.Finish c why) x e = refl
client_stays (note.HalfClose c Client) x e = refl
client_stays (note.HalfClose c Server) x e = refl

pub runs_client : (c : ℕ) (notes : List Note) (x : Edges) → OfRuns c notes → (edges_noted notes x).client.state ≡ x.client.state
runs_client c [] x h = refl
runs_client c (n ∷ notes) x h = runs_client c notes (edges_by n x) h.1 ∙ client_stays n x h.0.stays

-- ---- in all they show the items

module _ {B : Type 0} (F : List Note → List B) (c : ℕ) (on : (some more : List Note) → F (some ++ more) ≡ F some ++ F more) (none : F (note.CloseServer c ∷ []) ≡ []) (empty : F [] ≡ []) where
  if_closed : (b : Bool) → F (note_if b (note.CloseServer c)) ≡ []
  if_closed true = none
  if_closed false = empty

  closed_none : (sent : Counts) (took : TakenCounts) (i : Item) → F (closed_behind c sent took i) ≡ []
  closed_none sent took Retires = if_closed _
  closed_none sent took other = empty

  pub run_items : (sent : Counts) (took : TakenCounts) (items : List Item) → F (run_notes c sent took items) ≡ F (notes_of c items)
  run_items sent took [] = refl
  run_items sent took (i ∷ items) =
      on (note_of c i) _ ∙ ap (λ x. F (note_of c i) ++ x) (on (closed_behind c (sent_after i sent) took i) _ ∙ ap (λ x. x ++ F (run_notes c (sent_after i sent) took items)) (closed_none (sent_after i sent) took i) ∙ run_items (sent_after i sent) took items)
      ∙ sym (on (note_of c i) (notes_of c items))

pub run_shown : (c : ℕ) (sent : Counts) (took : TakenCounts) (items : List Item) → filter shows (run_notes c sent took items) ≡ notes_of c items
run_shown c sent took items = run_items (filter shows) c shown_on refl refl sent took items ∙ shown_items c items

pub run_causes : (c : ℕ) (sent : Counts) (took : TakenCounts) (items : List Item) → causes_told (run_notes c sent took items) ≡ map cause_of (reasons_in items)
run_causes c sent took items = run_items causes_told c causes_on refl refl sent took items ∙ causes_of_items c items

-- ---- what they tell

module _ {A : Type 0} (F : List NoteTells → A) (G : NoteTells → A → A) (fold : (t : NoteTells) (ts : List NoteTells) → F (t ∷ ts) ≡ G t (F ts)) (c : ℕ) (quiet : (a : A) → G (tells (note.CloseServer c)) a ≡ a) where
  front_same : (n : Note) (xs ys : List Note) → F (notes_about c xs) ≡ F (notes_about c ys) → F (notes_about c (n ∷ xs)) ≡ F (notes_about c (n ∷ ys))
  front_same n xs ys e = by_own (nat_eq (conn_of n) c)
    where
      by_own : (b : Bool) → F (map tells (if b then n ∷ own c xs else own c xs)) ≡ F (map tells (if b then n ∷ own c ys else own c ys))
      by_own true = fold (tells n) (notes_about c xs) ∙ ap (G (tells n)) e ∙ sym (fold (tells n) (notes_about c ys))
      by_own false = e

  noted_same : (o : Option (ℕ → Note)) (xs ys : List Note) → F (notes_about c xs) ≡ F (notes_about c ys) → F (notes_about c (noted c o ++ xs)) ≡ F (notes_about c (noted c o ++ ys))
  noted_same None xs ys e = e
  noted_same (Some said) xs ys e = front_same (said c) xs ys e

  close_same : (b : Bool) (xs : List Note) → F (notes_about c (note_if b (note.CloseServer c) ++ xs)) ≡ F (notes_about c xs)
  close_same true xs = ap (λ b. F (map tells (if b then note.CloseServer c ∷ own c xs else own c xs))) (eq_self c) ∙ fold (tells (note.CloseServer c)) (notes_about c xs) ∙ quiet (F (notes_about c xs))
  close_same false xs = refl

  behind_same : (sent : Counts) (took : TakenCounts) (i : Item) (xs : List Note) → F (notes_about c (closed_behind c sent took i ++ xs)) ≡ F (notes_about c xs)
  behind_same sent took Retires xs = close_same _ xs
  behind_same sent took other xs = refl

  pub tells_same : (sent : Counts) (took : TakenCounts) (items : List Item) (rest : List Note) → F (notes_about c (run_notes c sent took items ++ rest)) ≡ F (notes_about c (notes_of c items ++ rest))
  tells_same sent took [] rest = refl
  tells_same sent took (i ∷ items) rest =
      let then_sent = sent_after i sent in
      let cl = closed_behind c then_sent took i in
      let back = run_notes c then_sent took items in
      ap (λ x. F (notes_about c x)) (append_assoc (note_of c i) (cl ++ back) rest)
      ∙ noted_same (shown i).note ((cl ++ back) ++ rest) (notes_of c items ++ rest) (ap (λ x. F (notes_about c x)) (append_assoc cl back rest) ∙ behind_same then_sent took i (back ++ rest) ∙ tells_same then_sent took items rest)
      ∙ ap (λ x. F (notes_about c x)) (sym (append_assoc (note_of c i) (notes_of c items) rest))

-- what the notes of a Run tell, in front of others
pub record RunTold (c : ℕ) (sent : Counts) (took : TakenCounts) (items : List Item) (rest : List Note) : Type 0 where
  pub choices : choices_told (notes_about c (run_notes c sent took items ++ rest)) ≡ choices_in items ++ choices_told (notes_about c rest)
  pub replies : replies_told (notes_about c (run_notes c sent took items ++ rest)) ≡ replies_told (notes_about c rest)
  pub cut : (counts : TakenCounts) → cut_told counts (notes_about c rest) ≡ None → cut_told counts (notes_about c (run_notes c sent took items ++ rest)) ≡ cut_in counts items
  pub finish : finish_told (notes_about c (run_notes c sent took items ++ rest)) ≡ (is_some_of (reasons_in items) || finish_told (notes_about c rest))

pub run_notes_tell : (c : ℕ) (sent : Counts) (took : TakenCounts) (items : List Item) (rest : List Note) → RunTold c sent took items rest
run_notes_tell c sent took items rest =
    let k = run_tells c items rest in
    record {
      choices = tells_same choices_told (λ t a. listed t.choice ++ a) (λ t ts. refl) c (λ a. refl) sent took items rest ∙ k.choices;
      replies = tells_same replies_told (λ t a. listed t.reply ++ a) (λ t ts. refl) c (λ a. refl) sent took items rest ∙ k.replies;
      cut = λ counts none. tells_same (cut_told counts) (λ t a. cut_by t.cut counts a) (λ t ts. refl) c (λ a. refl) sent took items rest ∙ k.cut counts none;
      finish = tells_same finish_told (λ t a. t.finishes || a) (λ t ts. refl) c (λ a. refl) sent took items rest ∙ k.finish;
    }
