-- A note by how its line begins, and by what stands behind.
use Rattle.std.proofs.Common.{◌≡◌, ℕ, List, find, Option, Some, None, Result, Ok, Err, IfOk, IfSome, sym, subst, ◌∙◌, arith}
use Rattle.std.specs.Str.{bytes_eq}
use Rattle.std.proofs.lemmas.Fmt.{decimal_injective}
use Rattle.px_bytes.specs.declared.memory.Memory.{Memory}
use Rattle.core_events.specs.declared.note.Note.{Note}
use Rattle.journal_value.specs.Exact.{Exact}
use Rattle.journal_value.specs.Words.{IsConn, IsNote, OfVerb, conn_of, every_verb, note_words, noted_words, verb_of, verb_text, words_behind}
use Rattle.journal_value.specs.declared.note_verb.NoteVerb.{NoteVerb}
use Rattle.journal_value.proofs.EachWord.{each_verb}

same_verb : (v w : NoteVerb) → verb_text v ≡ verb_text w → v ≡ w
same_verb v w e =
    let found : find (λ y. bytes_eq (verb_text y) (verb_text w)) every_verb ≡ Some v = subst (λ t. find (λ y. bytes_eq (verb_text y) t) every_verb ≡ Some v) e (each_verb v tt) in
    let both : Some v ≡ Some w = sym found ∙ each_verb w tt in
    cc

pub of_head : (words : List (List ℕ)) (v : NoteVerb) (conn : ℕ) (behind : List (List ℕ)) (found : Option Note) → words ≡ noted_words v conn behind → IsConn conn → OfVerb v conn behind found → Exact Note (List (List ℕ)) note_words IsNote words found
of_head words v conn behind found is small e = record {
  is_written = subst (λ ws. IfSome found (λ n. note_words n ≡ ws)) (sym is) e.is_written;
  is_only = λ n fits same.
      let both : note_words n ≡ noted_words v conn behind = same ∙ is in
      let verb = same_verb (verb_of n) v (cc both) in
      let low = fits.0 in
      let number = decimal_injective (conn_of n) conn (omega (arith, low)) (omega (arith, small)) (cc both) in
      e.is_only n (fits, verb, number) both;
}

pub no_head : (words : List (List ℕ)) → ((v : NoteVerb) (conn : ℕ) (behind : List (List ℕ)) → IsConn conn → ¬ (words ≡ noted_words v conn behind)) → Exact Note (List (List ℕ)) note_words IsNote words None
no_head words none = record {
  is_written = tt;
  is_only = λ n fits same. absurd (none (verb_of n) (conn_of n) (words_behind n) fits.0 (sym same));
}

pub head_result : (words : List (List ℕ)) (v : NoteVerb) (conn : ℕ) (behind : List (List ℕ)) (r : Result (Option Note) Memory) → words ≡ noted_words v conn behind → IsConn conn → IfOk r (OfVerb v conn behind) → IfOk r (Exact Note (List (List ℕ)) note_words IsNote words)
head_result words v conn behind (Ok found) is small e = of_head words v conn behind found is small e
head_result words v conn behind (Err e) is small t = tt
