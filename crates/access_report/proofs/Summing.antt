-- The sums of one more line.
use Rattle.std.proofs.Common.{◌≡◌, ℕ, Bool, true, false, ◌||◌, List, [], ◌∷◌, ◌++◌, flat_map, map, Option, Some, None, Result, Ok, Err, IfOk, OnOk, refl, sym, ap, ◌∙◌, if◌then◌else◌, nat_eq}
use Rattle.std.specs.Prelude.{◌==◌, codes}
use Rattle.std.specs.Cmp.Lexicographic.{slice_cmp}
use Rattle.std.specs.List.Sorted.{IsStrictlySortedBy}
use Rattle.std.specs.Ordering.{nat_cmp}
use Rattle.px_bytes.specs.declared.memory.Memory.{Memory}
use Rattle.access_report.specs.Table.{IsReport, counts_row, header}
use Rattle.std.specs.Map.{lookup}
use Rattle.std.specs.Option.{unwrap_or}
use Rattle.std.specs.Str.{bytes_eq}
use Rattle.std.proofs.lemmas.Slice.Eq.{bytes_eq-Decides}
use Rattle.core_events.specs.declared.event.Event.TheVariants as event
use Rattle.core_events.specs.declared.note.Cause.{Cause}
use Rattle.core_events.specs.declared.note.Note.TheVariants as note
use Rattle.px_bytes.specs.declared.addr.Addr.{Addr}
use Rattle.px_bytes.specs.declared.fault.Reply.{Reply}
use Rattle.journal_value.specs.declared.journal.JournalLine.{JournalLine}
use Rattle.journal_value.specs.declared.journal.JournalLine.TheVariants.{Event, Note}
use Rattle.access_report.specs.Sums.{column, counts_for, end_counts, is_name, is_named, none, of_bytes, one_call, one_conn, plus, server_of}
use Rattle.access_report.specs.Raising.{Row, counts_at, raised, raised_if}
use Rattle.access_report.specs.Tallies.{Accepted, Counted, Tallies}
use Rattle.access_report.specs.declared.counts.ServerCounts.{ServerCounts}
use Rattle.access_report.specs.declared.tally.Tally.{Tally}

or_true : (b : Bool) → b || true ≡ true
or_true true = refl
or_true false = refl

or_false : (a b : Bool) → a || b ≡ false → (a ≡ false) × (b ≡ false)
or_false true b e = cc
or_false false b e = (refl, e)

-- ---- a connection's virtual server was named

pub server_named : (conn : ℕ) (vs : List ℕ) (past : List JournalLine) → server_of conn past ≡ Some vs → is_named vs past ≡ true
server_named conn vs [] e = cc
server_named conn vs (Event (event.Accept other name from) ∷ past) e = by_conn (other == conn) (λ h. server_named conn vs past h) e
  where
    by_conn : (b : Bool) → (server_of conn past ≡ Some vs → is_named vs past ≡ true) → (if b then Some name else server_of conn past) ≡ Some vs → bytes_eq vs name || is_named vs past ≡ true
    by_conn true more h =
        let same : vs ≡ name = cc in
        ap (λ b. b || is_named vs past) ((bytes_eq-Decides vs name).1 same)
    by_conn false more h = ap (λ b. bytes_eq vs name || b) (more h) ∙ or_true (bytes_eq vs name)
server_named conn vs (line ∷ past) e = server_named conn vs past e

-- ---- a name that wasn't named counts nothing

not_its : (name : List ℕ) (conn : ℕ) (past : List JournalLine) → is_named name past ≡ false → is_name name (server_of conn past) ≡ false
not_its name conn past apart = by_server (server_of conn past) refl
  where
    by_name : (vs : List ℕ) (b : Bool) → bytes_eq name vs ≡ b → server_of conn past ≡ Some vs → b ≡ false
    by_name vs true e s =
        let same : name ≡ vs = (bytes_eq-Decides name vs).0 e in
        let there : is_named name past ≡ true = server_named conn name past (s ∙ ap Some (sym same)) in
        cc
    by_name vs false e s = refl

    by_server : (o : Option (List ℕ)) → server_of conn past ≡ o → is_name name o ≡ false
    by_server None s = refl
    by_server (Some vs) s = by_name vs (bytes_eq name vs) refl s

not_for : (name : List ℕ) (line : JournalLine) (past : List JournalLine) → is_named name (line ∷ past) ≡ false → (is_name name (counts_for line past) ≡ false) × (is_named name past ≡ false)
not_for name (Event (event.Accept conn vs from)) past apart = or_false (bytes_eq name vs) (is_named name past) apart
not_for name (Event (event.ClientTook conn n)) past apart = (not_its name conn past apart, apart)
not_for name (Note (note.History conn moment call answer)) past apart = (not_its name conn past apart, apart)
not_for name (Note (note.Finish conn cause)) past apart = (not_its name conn past apart, apart)
not_for name (Event other) past apart = (refl, apart)
not_for name (Note other) past apart = (refl, apart)

column_none : (name : List ℕ) (past : List JournalLine) → is_named name past ≡ false → column name past ≡ none
column_none name [] apart = refl
column_none name (line ∷ past) apart =
    let h = not_for name line past apart in
    rw (h.0) (column_none name past h.1)

-- ---- the rows

abbrev AreSums : List JournalLine → List Row → Type 0
AreSums past rows = (name : List ℕ) → lookup (bytes_eq name) rows ≡ (if is_named name past then Some (column name past) else None)

found_sum : (past : List JournalLine) (rows : List Row) → AreSums past rows → (name : List ℕ) → counts_at rows name ≡ column name past
found_sum past rows sums name = by_named (is_named name past) refl
  where
    by_named : (b : Bool) → is_named name past ≡ b → counts_at rows name ≡ column name past
    by_named true e =
        let there : lookup (bytes_eq name) rows ≡ Some (column name past) = sums name ∙ ap (λ b. if b then Some (column name past) else None) e in
        ap (λ o. unwrap_or o none) there
    by_named false e =
        let gone : lookup (bytes_eq name) rows ≡ None = sums name ∙ ap (λ b. if b then Some (column name past) else None) e in
        ap (λ o. unwrap_or o none) gone ∙ sym (column_none name past e)

raised_sum : (past : List JournalLine) (rows : List Row) → AreSums past rows → (vs name : List ℕ) (more : ServerCounts) → raised rows vs more name ≡ (if bytes_eq name vs || is_named name past then Some (if bytes_eq name vs then plus (column name past) more else column name past) else None)
raised_sum past rows sums vs name more = by_name (bytes_eq name vs) refl
  where
    by_name : (b : Bool) → bytes_eq name vs ≡ b → (if b then Some (plus (counts_at rows vs) more) else lookup (bytes_eq name) rows) ≡ (if b || is_named name past then Some (if b then plus (column name past) more else column name past) else None)
    by_name true e =
        let same : name ≡ vs = (bytes_eq-Decides name vs).0 e in
        ap (λ c. Some (plus c more)) (found_sum past rows sums vs ∙ ap (λ n. column n past) (sym same))
    by_name false e = sums name

counted_sum : (past : List JournalLine) (rows : List Row) → AreSums past rows → (conn : ℕ) (name : List ℕ) (more : ServerCounts) (o : Option (List ℕ)) → server_of conn past ≡ o → raised_if rows o more name ≡ (if is_named name past then Some (if is_name name o then plus (column name past) more else column name past) else None)
counted_sum past rows sums conn name more None s = sums name
counted_sum past rows sums conn name more (Some vs) s = raised_sum past rows sums vs name more ∙ by_name (bytes_eq name vs) refl
  where
    by_name : (b : Bool) → bytes_eq name vs ≡ b → (if b || is_named name past then Some (if b then plus (column name past) more else column name past) else None) ≡ (if is_named name past then Some (if b then plus (column name past) more else column name past) else None)
    by_name true e =
        let same : name ≡ vs = (bytes_eq-Decides name vs).0 e in
        let there : is_named name past ≡ true = ap (λ n. is_named n past) same ∙ server_named conn vs past s in
        sym (ap (λ b. if b then Some (plus (column name past) more) else None) there)
    by_name false e = refl

-- ---- the sums after a line

pub accepted_tallies : (past : List JournalLine) (old new : Tally) (conn : ℕ) (vs : List ℕ) (from : Addr) → Accepted old new conn vs → Tallies past old → Tallies (Event (event.Accept conn vs from) ∷ past) new
accepted_tallies past old new conn vs from a t = record {
  owners = λ c. a.owners c ∙ ap (λ o. if nat_eq conn c then Some vs else o) (t.owners c);
  rows = λ name. a.rows name ∙ raised_sum past old.rows t.rows vs name one_conn;
  total_is = a.total_is ∙ ap (λ c. plus c one_conn) t.total_is;
}

counted_rows : (past : List JournalLine) (old new : Tally) (conn : ℕ) (more : ServerCounts) → Counted old new conn more → Tallies past old → (name : List ℕ) → lookup (bytes_eq name) new.rows ≡ (if is_named name past then Some (if is_name name (server_of conn past) then plus (column name past) more else column name past) else None)
counted_rows past old new conn more c t name =
    c.rows name ∙ ap (λ o. raised_if old.rows o more name) (t.owners conn)
    ∙ counted_sum past old.rows t.rows conn name more (server_of conn past) refl

pub took_tallies : (past : List JournalLine) (old new : Tally) (conn n : ℕ) → Counted old new conn (of_bytes n) → Tallies past old → Tallies (Event (event.ClientTook conn n) ∷ past) new
took_tallies past old new conn n c t = record {
  owners = λ k. c.owners k ∙ t.owners k;
  rows = counted_rows past old new conn (of_bytes n) c t;
  total_is = c.total_is ∙ ap (λ s. plus s (of_bytes n)) t.total_is;
}

pub called_tallies : (past : List JournalLine) (old new : Tally) (conn moment : ℕ) (call : List (List ℕ)) (answer : Reply) → Counted old new conn one_call → Tallies past old → Tallies (Note (note.History conn moment call answer) ∷ past) new
called_tallies past old new conn moment call answer c t = record {
  owners = λ k. c.owners k ∙ t.owners k;
  rows = counted_rows past old new conn one_call c t;
  total_is = c.total_is ∙ ap (λ s. plus s one_call) t.total_is;
}

pub ended_tallies : (past : List JournalLine) (old new : Tally) (conn : ℕ) (cause : Cause) → Counted old new conn (end_counts cause) → Tallies past old → Tallies (Note (note.Finish conn cause) ∷ past) new
ended_tallies past old new conn cause c t = record {
  owners = λ k. c.owners k ∙ t.owners k;
  rows = counted_rows past old new conn (end_counts cause) c t;
  total_is = c.total_is ∙ ap (λ s. plus s (end_counts cause)) t.total_is;
}

-- where it was done, more holds
pub on_ok : {A E : Type 0} (r : Result A E) (P Q : Type 0) → (P → Q) → OnOk r P → OnOk r Q
on_ok (Ok x) P Q more h = more h
on_ok (Err e) P Q more h = tt

-- ---- the report

pub report_is : (past : List JournalLine) (tally : Tally) (r : Result (List ℕ) Memory) → Tallies past tally
    → IfOk r (λ text. text ≡ header ++ flat_map (λ row. counts_row row.0 row.1) tally.rows ++ counts_row (codes "total") tally.total)
    → IfOk r (λ text. IsStrictlySortedBy (slice_cmp nat_cmp) (map (λ row. row.0) tally.rows)) → IfOk r (IsReport past)
report_is past tally (Ok text) t e sorted =
    (tally.rows, record { sorted = sorted; sums = t.rows }, e ∙ ap (λ c. header ++ flat_map (λ row. counts_row row.0 row.1) tally.rows ++ counts_row (codes "total") c) t.total_is)
report_is past tally (Err x) t e sorted = tt
