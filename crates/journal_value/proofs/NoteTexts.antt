-- The line of a note is its words, with a blank between each two; and these are found in it.
use Rattle.std.proofs.Common.{◌≡◌, ℕ, ◌≤◌, List, [], ◌∷◌, ◌++◌, Option, Some, None, Result, Ok, Err, IfOk, IfSome, refl, sym, ap, ◌∙◌, append_assoc, arith}
use Rattle.std.specs.Prelude.{codes}
use Rattle.std.specs.Fmt.{decimal}
use Rattle.std.specs.List.{join_with_byte}
use Rattle.std.proofs.lemmas.List.Splits.{join_with_byte-slice_split}
use Rattle.px_bytes.specs.Address.{addr_text}
use Rattle.px_bytes.specs.Escapes.{escaped}
use Rattle.px_bytes.specs.Hexadecimal.{hex_text}
use Rattle.px_bytes.specs.declared.fault.Reply.{Reply}
use Rattle.px_bytes.specs.declared.fault.Reply.TheVariants as reply
use Rattle.px_bytes.specs.declared.memory.Memory.{Memory}
use Rattle.core_events.specs.declared.note.Cause.{Cause}
use Rattle.core_events.specs.declared.note.Cause.TheVariants as cause
use Rattle.core_events.specs.declared.note.Note.{Note}
use Rattle.core_events.specs.declared.note.Note.TheVariants as note
use Rattle.journal_text.specs.Notes.{cut_text, fault_number, http_number, kept_text, note_line, side_text}
use Rattle.journal_value.specs.Exact.{Exact}
use Rattle.journal_value.specs.Words.{IsConn, IsNote, call_text, conn_of, note_words, verb_of, verb_text, words_behind, words_of}
use Rattle.journal_value.proofs.Cuts.{AllClean, begins_words, join_before, split_clean, split_joined}
use Rattle.journal_value.proofs.Low.{AllLow, Clean, addr_clean, cause_clean, decimal_clean, hex_clean, kept_clean, no_space, plain, reply_clean, side_clean, verb_clean}

abbrev pub joined_words : List (List ℕ) → List ℕ
joined_words words = join_with_byte 32 words

-- a word behind another one, with a blank between
behind : (x w v : List ℕ) → ((x ++ w) ++ 32 ∷ []) ++ v ≡ x ++ (w ++ 32 ∷ v)
behind x w v = append_assoc (x ++ w) (32 ∷ []) v ∙ append_assoc x w (32 ∷ v)

one : (f n w : List ℕ) → (((f ++ n) ++ 32 ∷ []) ++ w) ++ 10 ∷ [] ≡ (f ++ (n ++ 32 ∷ w)) ++ 10 ∷ []
one f n w = ap (λ t. t ++ 10 ∷ []) (behind f n w)

twice : (f n a b : List ℕ) → ((((f ++ n) ++ 32 ∷ []) ++ a) ++ 32 ∷ []) ++ b ≡ f ++ (n ++ 32 ∷ (a ++ 32 ∷ b))
twice f n a b = behind ((f ++ n) ++ 32 ∷ []) a b ∙ behind f n (a ++ 32 ∷ b)

two : (f n a b : List ℕ) → (((((f ++ n) ++ 32 ∷ []) ++ a) ++ 32 ∷ []) ++ b) ++ 10 ∷ [] ≡ (f ++ (n ++ 32 ∷ (a ++ 32 ∷ b))) ++ 10 ∷ []
two f n a b = ap (λ t. t ++ 10 ∷ []) (twice f n a b)

three : (f n a b w : List ℕ) → (((((((f ++ n) ++ 32 ∷ []) ++ a) ++ 32 ∷ []) ++ b) ++ 32 ∷ []) ++ w) ++ 10 ∷ [] ≡ (f ++ (n ++ 32 ∷ (a ++ 32 ∷ (b ++ 32 ∷ w)))) ++ 10 ∷ []
three f n a b w = ap (λ t. t ++ 10 ∷ []) (behind ((((f ++ n) ++ 32 ∷ []) ++ a) ++ 32 ∷ []) b w ∙ twice f n a (b ++ 32 ∷ w))

cause_joined : (conn : ℕ) (c : Cause) → note_line (note.Finish conn c) ≡ joined_words (note_words (note.Finish conn c)) ++ 10 ∷ []
cause_joined conn cause.Closed = one (codes "> finish ") (decimal conn) (codes "closed")
cause_joined conn (cause.Tcl kind) = one (codes "> finish ") (decimal conn) (codes "tcl " ++ decimal (fault_number kind))
cause_joined conn (cause.Http fault) = one (codes "> finish ") (decimal conn) (codes "http " ++ decimal (http_number fault))
cause_joined conn cause.Unselected = one (codes "> finish ") (decimal conn) (codes "unselected")
cause_joined conn cause.Rejected = one (codes "> finish ") (decimal conn) (codes "rejected")
cause_joined conn (cause.Cut reason) = one (codes "> finish ") (decimal conn) (codes "cut " ++ cut_text reason)
cause_joined conn cause.Memory = one (codes "> finish ") (decimal conn) (codes "memory")

reply_joined : (conn moment : ℕ) (call : List (List ℕ)) (r : Reply) → note_line (note.History conn moment call r) ≡ joined_words (note_words (note.History conn moment call r)) ++ 10 ∷ []
reply_joined conn moment call (reply.Ok v) = three (codes "> history ") (decimal conn) (decimal moment) (call_text call) (codes "ok " ++ hex_text v)
reply_joined conn moment call (reply.Fault f) =
    three (codes "> history ") (decimal conn) (decimal moment) (call_text call) (codes "fault " ++ decimal (fault_number f.kind) ++ codes " " ++ hex_text f.text)
    ∙ ap (λ t. joined_words (codes ">" ∷ codes "history" ∷ decimal conn ∷ decimal moment ∷ call_text call ∷ (codes "fault " ++ t) ∷ []) ++ 10 ∷ [])
    (append_assoc (decimal (fault_number f.kind)) (32 ∷ []) (hex_text f.text))

-- a logged text may hold blanks
pub log_joined : (conn : ℕ) (text : List ℕ) → joined_words (note_words (note.Log conn text)) ≡ codes ">" ++ 32 ∷ (codes "log" ++ 32 ∷ (decimal conn ++ 32 ∷ escaped text))
log_joined conn text =
    let w = begins_words (escaped text) in
    let last = join_before (decimal conn) w.0 w.1 (words_of (escaped text)) w.2 in
    let whole : join_with_byte 32 (words_of (escaped text)) ≡ escaped text = join_with_byte-slice_split 32 (escaped text) in
    ap (λ t. codes ">" ++ 32 ∷ (codes "log" ++ 32 ∷ t)) (last ∙ ap (λ t. decimal conn ++ 32 ∷ t) whole)

pub note_joined : (n : Note) → note_line n ≡ joined_words (note_words n) ++ 10 ∷ []
note_joined (note.Connect conn to) = one (codes "> connect ") (decimal conn) (addr_text to)
note_joined (note.Sleep conn until) = one (codes "> sleep ") (decimal conn) (decimal until)
note_joined (note.History conn moment call answer) = reply_joined conn moment call answer
note_joined (note.Log conn text) = one (codes "> log ") (decimal conn) (escaped text) ∙ ap (λ t. t ++ 10 ∷ []) (sym (log_joined conn text))
note_joined (note.Pass conn side n) = two (codes "> pass ") (decimal conn) (side_text side) (decimal n)
note_joined (note.Fired conn side) = one (codes "> fired ") (decimal conn) (side_text side)
note_joined (note.Reuse conn kept) = one (codes "> reuse ") (decimal conn) (kept_text kept)
note_joined (note.Finish conn c) = cause_joined conn c
note_joined (note.HalfClose conn side) = one (codes "> half-close ") (decimal conn) (side_text side)
note_joined (note.CloseServer conn) = refl
note_joined (note.CloseClient conn) = refl
note_joined (note.Ended conn dropped) = one (codes "> ended ") (decimal conn) (decimal dropped)

-- ---- the words are found in it

no_spaces : (words : List (List ℕ)) → AllLow words → AllClean words
no_spaces [] h = tt
no_spaces (word ∷ words) h = (no_space word h.0, no_spaces words h.1)

pub conn_clean : (n : ℕ) → IsConn n → Clean (decimal n)
conn_clean n is = decimal_clean n (omega (arith, is))

pub mark_clean : Clean (codes ">")
mark_clean = plain (codes ">") refl

-- words without blanks
found : (n : Note) → IsConn (conn_of n) → AllLow (words_behind n) → words_of (joined_words (note_words n)) ≡ note_words n
found n conn behind = split_joined (codes ">") (verb_text (verb_of n) ∷ decimal (conn_of n) ∷ words_behind n) (no_spaces (note_words n) (mark_clean, (verb_clean (verb_of n), (conn_clean (conn_of n) conn, behind))))

log_found : (conn : ℕ) (text : List ℕ) → IsConn conn → words_of (joined_words (note_words (note.Log conn text))) ≡ note_words (note.Log conn text)
log_found conn text is =
    let mark = split_clean (codes ">") (codes "log" ++ 32 ∷ (decimal conn ++ 32 ∷ escaped text)) (no_space (codes ">") mark_clean) in
    let verb = split_clean (codes "log") (decimal conn ++ 32 ∷ escaped text) (no_space (codes "log") (plain (codes "log") refl)) in
    let number = split_clean (decimal conn) (escaped text) (no_space (decimal conn) (conn_clean conn is)) in
    ap words_of (log_joined conn text) ∙ mark ∙ ap (λ l. codes ">" ∷ l) (verb ∙ ap (λ l. codes "log" ∷ l) number)

pub long_clean : (n : ℕ) → n ≤ 18446744073709551615 → Clean (decimal n)
long_clean n is = decimal_clean n (omega (arith, is))

pub words_found : (n : Note) → IsNote n → words_of (joined_words (note_words n)) ≡ note_words n
words_found (note.Connect conn to) h = found (note.Connect conn to) h.0 (addr_clean to h.1, tt)
words_found (note.Sleep conn until) h = found (note.Sleep conn until) h.0 (long_clean until h.1, tt)
words_found (note.History conn moment call answer) h = found (note.History conn moment call answer) h.0 (long_clean moment h.1.0, (hex_clean _, reply_clean answer))
words_found (note.Log conn text) h = log_found conn text h.0
words_found (note.Pass conn side n) h = found (note.Pass conn side n) h.0 (side_clean side, (long_clean n h.1, tt))
words_found (note.Fired conn side) h = found (note.Fired conn side) h.0 (side_clean side, tt)
words_found (note.Reuse conn kept) h = found (note.Reuse conn kept) h.0 (kept_clean kept, tt)
words_found (note.Finish conn c) h = found (note.Finish conn c) h.0 (cause_clean c)
words_found (note.HalfClose conn side) h = found (note.HalfClose conn side) h.0 (side_clean side, tt)
words_found (note.CloseServer conn) h = found (note.CloseServer conn) h.0 tt
words_found (note.CloseClient conn) h = found (note.CloseClient conn) h.0 tt
words_found (note.Ended conn dropped) h = found (note.Ended conn dropped) h.0 (long_clean dropped h.1, tt)

-- ---- so what is read of the words is read of the line

cut_end : (xs ys : List ℕ) → xs ++ 10 ∷ [] ≡ ys ++ 10 ∷ [] → xs ≡ ys
cut_end [] [] e = refl
cut_end [] (y ∷ []) e = cc
cut_end [] (y ∷ (z ∷ ys)) e = cc
cut_end (x ∷ []) [] e = cc
cut_end (x ∷ (z ∷ xs)) [] e = cc
cut_end (x ∷ xs) (y ∷ ys) e =
    let rest : xs ++ 10 ∷ [] ≡ ys ++ 10 ∷ [] = cc in
    let same = cut_end xs ys rest in
    cc

pub of_line : (line : List ℕ) (r : Option Note) → Exact Note (List (List ℕ)) note_words IsNote (words_of line) r → Exact Note (List ℕ) note_line IsNote (line ++ 10 ∷ []) r
of_line line r e = record { is_written = written r e.is_written; is_only = only }
  where
    whole : joined_words (words_of line) ≡ line
    whole = join_with_byte-slice_split 32 line

    written : (r : Option Note) → IfSome r (λ n. note_words n ≡ words_of line) → IfSome r (λ n. note_line n ≡ line ++ 10 ∷ [])
    written None h = tt
    written (Some n) h = note_joined n ∙ ap (λ t. t ++ 10 ∷ []) (ap joined_words h ∙ whole)

    only : (n : Note) → IsNote n → note_line n ≡ line ++ 10 ∷ [] → r ≡ Some n
    only n is same =
        let text = cut_end (joined_words (note_words n)) line (sym (note_joined n) ∙ same) in
        e.is_only n is (sym (words_found n is) ∙ ap words_of text)

pub line_result : (line : List ℕ) (r : Result (Option Note) Memory) → IfOk r (Exact Note (List (List ℕ)) note_words IsNote (words_of line)) → IfOk r (Exact Note (List ℕ) note_line IsNote (line ++ 10 ∷ []))
line_result line (Ok found) e = of_line line found e
line_result line (Err e) t = tt
