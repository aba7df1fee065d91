-- Each thing that a record tells has its line.
use Rattle.std.proofs.Common.{◌≡◌, ◌∙◌, ◌⊎◌, inl, inr, ℕ, ◌+◌, ◌<◌, Bool, true, false, cond, List, [], ◌∷◌, ◌++◌, Option, Some, None, ap, arith, length, refl, slice_get, subst, sym, zero, suc}
use Rattle.std.specs.List.{slice_split}
use Rattle.std.specs.Option.{unwrap_or}
use Rattle.std.proofs.lemmas.Bool.{false≢true}
use Rattle.std.proofs.lemmas.Bool.Decides.{Decides-eqb}
use Rattle.journal_text.specs.Line.{IsSkipped}
use Rattle.journal_value.specs.Journal.{BeginsNote, IsComment, IsJournal, Tell, Tells, before, is_lf}
use Rattle.journal_value.specs.declared.journal.JournalLine.{JournalLine}
use Rattle.journal_value.specs.declared.journal.JournalLine.TheVariants.{Event, Note}
use Rattle.journal_value.proofs.NoJournal.{note_begins}
use Rattle.table_mirror.specs.Plans.{is_comment}
use Rattle.table_mirror.specs.Told.{number_told, numbers_told}

comment_skipped : (text : List ℕ) → is_comment text ≡ true → IsSkipped text
comment_skipped [] is = _
comment_skipped (first ∷ rest) is = inl ((Decides-eqb first 35).0 is)

no_note : (text : List ℕ) → is_comment text ≡ true → BeginsNote text → ⊥
no_note [] is b = b
no_note (first ∷ rest) is b = let h = (Decides-eqb first 35).0 is in omega (arith, h, b)

comment_none : (text : List ℕ) → IsComment text → is_comment text ≡ true
comment_none [] is = refl
comment_none (first ∷ rest) is = (Decides-eqb first 35).1 is

told_by : (text : List ℕ) (what : JournalLine) → Tells text (Some what) → is_comment text ≡ false
told_by text what tells = by (is_comment text) refl
  where
    no : (what : JournalLine) → Tells text (Some what) → is_comment text ≡ true → ⊥
    no (Event event) t is = t.0 (comment_skipped text is)
    no (Note note) t is = no_note text is (note_begins note text t)

    by : (b : Bool) → is_comment text ≡ b → is_comment text ≡ false
    by false is = is
    by true is = absurd (no what tells is)

abbrev HasLine : ℕ → List (List ℕ) → ℕ → Type 0
HasLine start lines place = (n : ℕ) × (slice_get (numbers_told start lines) place ≡ Some n)

abbrev Lines : ℕ → List (List ℕ) → List JournalLine → Type 0
Lines start lines rest = (place : ℕ) → place < length rest → HasLine start lines place

at_line : (start : ℕ) (lines : List (List ℕ)) (rest : List JournalLine) (place : ℕ) → Lines (start + 1) lines rest → place < length rest + 1
    → (n : ℕ) × (slice_get (start ∷ numbers_told (start + 1) lines) place ≡ Some n)
at_line start lines rest zero more within = (start, refl)
at_line start lines rest (suc k) more within = more k (omega (arith, within))

on_line : (start : ℕ) (text : List ℕ) (lines : List (List ℕ)) (told : List JournalLine) (first : Option JournalLine) (rest : List JournalLine)
    → Tells text first → told ≡ before first rest → Lines (start + 1) lines rest → Lines start (text ∷ lines) told
on_line start text lines told None rest tells is more place within =
    let none = comment_none text tells in
    let fewer : place < length rest = let h = ap length is in omega (arith, h, within) in
    rw none (more place fewer)
on_line start text lines told (Some what) rest tells is more place within =
    let some = told_by text what tells in
    let fewer : place < length rest + 1 = let h = ap length is in omega (arith, h, within) in
    rw some (at_line start lines rest place more fewer)

has_line : (start : ℕ) (lines : List (List ℕ)) (told : List JournalLine) → Tell lines told → Lines start lines told
has_line start [] told t place within = absurd (let h = ap length t in omega (arith, h, within))
has_line start (text ∷ lines) told t place within =
    on_line start text lines told t.0 t.1 t.2 t.4 (has_line (start + 1) lines t.1 t.3) place within

-- nothing behind the last LF tells nothing
no_more : (start : ℕ) (lines : List (List ℕ)) → numbers_told start (lines ++ [] ∷ []) ≡ numbers_told start lines
no_more start [] = refl
no_more start (text ∷ lines) =
    ap (λ ns. cond (is_comment text) ns (start ∷ ns)) (no_more (start + 1) lines)

unwrapped : (o : Option ℕ) (n : ℕ) → o ≡ Some n → o ≡ Some (unwrap_or o 0)
unwrapped None n is = absurd (let h = is in cc)
unwrapped (Some m) n is = refl

pub line_found : (record_text : List ℕ) (told : List JournalLine) (place : ℕ) → IsJournal record_text told → place < length told
    → number_told (slice_split is_lf record_text) place ≡ Some (unwrap_or (number_told (slice_split is_lf record_text) place) 0)
line_found record_text told place j within =
    let found = has_line 1 j.lines told j.tell place within in
    let same = ap (λ ls. slice_get (numbers_told 1 ls) place) j.text_is ∙ ap (λ ns. slice_get ns place) (no_more 1 j.lines) in
    unwrapped (number_told (slice_split is_lf record_text) place) found.0 (same ∙ found.1)
