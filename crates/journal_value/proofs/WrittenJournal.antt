-- A journal that was written is the journal of its text.
use Rattle.std.proofs.Common.{◌≡◌, ℕ, ◌≤◌, Bool, true, false, ◌||◌, nat_lt, if◌then◌else◌, List, [], ◌∷◌, ◌++◌, Some, refl, sym, ap, subst, ◌∙◌, append_assoc, arith, ne_eqb, ltb-false}
use Rattle.std.specs.Prelude.{codes, ◌==◌}
use Rattle.std.specs.Fmt.{decimal}
use Rattle.std.specs.List.{All}
use Rattle.std.proofs.lemmas.Bool.{or_parts}
use Rattle.std.proofs.lemmas.List.Splits.{slice_split_at}
use Rattle.px_bytes.specs.Escapes.{needs_escape, digits_escape, escaped_byte, escaped}
use Rattle.core_events.specs.declared.note.Note.{Note}
use Rattle.core_events.specs.declared.note.Note.TheVariants as note
use Rattle.journal_text.specs.Line.{event_text}
use Rattle.journal_text.proofs.Addresses.{Without, as_all, both_without}
use Rattle.journal_text.proofs.Written.{written_is_read}
use Rattle.journal_value.specs.Words.{IsNote, conn_of, note_words, verb_of, words_behind}
use Rattle.journal_value.specs.Journal.{FitsLine, HasLine, Tells, WrittenJournalIsRead, is_lf, journal_text, line_text, parts_of}
use Rattle.journal_value.specs.declared.journal.JournalLine.{JournalLine}
use Rattle.journal_value.specs.declared.journal.JournalLine.TheVariants as line
use Rattle.journal_value.proofs.Low.{AllLow, addr_clean, cause_clean, digit_clean, hex_clean, kept_clean, no_lf, plain, reply_clean, side_clean, verb_clean}
use Rattle.journal_value.proofs.NoteTexts.{conn_clean, joined_words, log_joined, long_clean, mark_clean, note_joined}

joined_lf : (words : List (List ℕ)) → AllLow words → Without is_lf (joined_words words)
joined_lf [] h = tt
joined_lf (word ∷ []) h = no_lf word h.0
joined_lf (word ∷ (next ∷ words)) h = both_without is_lf word (32 ∷ joined_words (next ∷ words)) (no_lf word h.0) (refl, joined_lf (next ∷ words) h.1)

unescaped_lf : (byte : ℕ) → needs_escape byte ≡ false → is_lf byte ≡ false
unescaped_lf byte e =
    let first = (or_parts (nat_lt byte 0x20 || nat_lt 0x7e byte) (byte == 0x5c) e).0 in
    let small = (or_parts (nat_lt byte 0x20) (nat_lt 0x7e byte) first).0 in
    let over : 32 ≤ byte = ltb-false byte 32 small in
    ne_eqb byte 10 (λ e. omega (arith, over))

byte_lf : (byte : ℕ) → Without is_lf (escaped_byte byte)
byte_lf byte = by_need (needs_escape byte) refl
  where
    by_need : (b : Bool) → needs_escape byte ≡ b → Without is_lf (if b then digits_escape byte else byte ∷ [])
    by_need true e = no_lf (digits_escape byte) (refl, (refl, (digit_clean _, (digit_clean _, tt))))
    by_need false e = (unescaped_lf byte e, tt)

escaped_lf : (bytes : List ℕ) → Without is_lf (escaped bytes)
escaped_lf [] = tt
escaped_lf (byte ∷ bytes) = both_without is_lf (escaped_byte byte) (escaped bytes) (byte_lf byte) (escaped_lf bytes)

log_lf : (conn : ℕ) (text : List ℕ) → conn ≤ 4294967295 → Without is_lf (joined_words (note_words (note.Log conn text)))
log_lf conn text is =
    let number = both_without is_lf (decimal conn) (32 ∷ escaped text) (no_lf (decimal conn) (conn_clean conn is)) (refl, escaped_lf text) in
    let verb = both_without is_lf (codes "log") (32 ∷ (decimal conn ++ 32 ∷ escaped text)) (no_lf (codes "log") (plain (codes "log") refl)) (refl, number) in
    subst (Without is_lf) (sym (log_joined conn text)) (both_without is_lf (codes ">") (32 ∷ (codes "log" ++ 32 ∷ (decimal conn ++ 32 ∷ escaped text))) (no_lf (codes ">") mark_clean) (refl, verb))

clean_lf : (n : Note) → conn_of n ≤ 4294967295 → AllLow (words_behind n) → Without is_lf (joined_words (note_words n))
clean_lf n conn behind = joined_lf (note_words n) (mark_clean, (verb_clean (verb_of n), (conn_clean (conn_of n) conn, behind)))

note_lf : (n : Note) → IsNote n → Without is_lf (joined_words (note_words n))
note_lf (note.Connect conn to) h = clean_lf (note.Connect conn to) h.0 (addr_clean to h.1, tt)
note_lf (note.Sleep conn until) h = clean_lf (note.Sleep conn until) h.0 (long_clean until h.1, tt)
note_lf (note.History conn moment call answer) h = clean_lf (note.History conn moment call answer) h.0 (long_clean moment h.1.0, (hex_clean _, reply_clean answer))
note_lf (note.Log conn text) h = log_lf conn text h.0
note_lf (note.Pass conn side n) h = clean_lf (note.Pass conn side n) h.0 (side_clean side, (long_clean n h.1, tt))
note_lf (note.Fired conn side) h = clean_lf (note.Fired conn side) h.0 (side_clean side, tt)
note_lf (note.Reuse conn kept) h = clean_lf (note.Reuse conn kept) h.0 (kept_clean kept, tt)
note_lf (note.Finish conn c) h = clean_lf (note.Finish conn c) h.0 (cause_clean c)
note_lf (note.HalfClose conn side) h = clean_lf (note.HalfClose conn side) h.0 (side_clean side, tt)
note_lf (note.CloseServer conn) h = clean_lf (note.CloseServer conn) h.0 tt
note_lf (note.CloseClient conn) h = clean_lf (note.CloseClient conn) h.0 tt
note_lf (note.Ended conn dropped) h = clean_lf (note.Ended conn dropped) h.0 (long_clean dropped h.1, tt)

-- the line as it is written, without its LF
record Line (x : JournalLine) : Type 0 where
  text : List ℕ
  text_is : line_text x ≡ text ++ 10 ∷ []
  one : All (λ byte. is_lf byte ≡ false) text
  tells : Tells text (Some x)
  fits : FitsLine (Some x)

line_of : (x : JournalLine) → HasLine x → Line x
line_of (line.Event e) h =
    let read = written_is_read e h.writable h.within in
    record { text = event_text e; text_is = refl; one = h.one_line; tells = (read.1, read.0); fits = tt }
line_of (line.Note n) h = record {
  text = joined_words (note_words n);
  text_is = note_joined n;
  one = as_all is_lf (joined_words (note_words n)) (note_lf n h);
  tells = note_joined n;
  fits = h;
}

pub written_journal_is_read : WrittenJournalIsRead
written_journal_is_read [] h = (record { lines = []; text_is = refl; tell = refl }, tt)
written_journal_is_read (x ∷ told) h =
    let more = written_journal_is_read told h.1 in
    let r = more.0 in
    let l = line_of x h.0 in
    let whole : line_text x ++ journal_text told ≡ l.text ++ 10 ∷ journal_text told = ap (λ t. t ++ journal_text told) l.text_is ∙ append_assoc l.text (10 ∷ []) (journal_text told) in
    let parts : parts_of (line_text x ++ journal_text told) ≡ l.text ∷ parts_of (journal_text told) = ap parts_of whole ∙ slice_split_at is_lf l.text 10 (journal_text told) l.one refl in (
      record {
        lines = l.text ∷ r.lines;
        text_is = parts ∙ ap (λ ps. l.text ∷ ps) r.text_is;
        tell = (Some x, told, l.tells, r.tell, refl);
      },
      (l.fits, more.1),
    )
