-- Notes of logged lines, and of connects, by what stands behind the number of their connection.
use Rattle.std.proofs.Common.{◌≡◌, ℕ, ◌<◌, ◌≤◌, List, [], ◌∷◌, length, get_or, map, Bor, Option, Some, None, IfSome, option_map, refl, sym, ap, ◌∙◌, arith}
use Rattle.std.specs.List.{join_with_byte}
use Rattle.std.proofs.lemmas.List.Splits.{join_with_byte-slice_split}
use Rattle.px_bytes.specs.Address.{addr_text}
use Rattle.px_bytes.specs.Escapes.{escaped}
use Rattle.px_bytes.specs.declared.addr.Addr.{Addr}
use Rattle.core_events.specs.declared.note.Note.{Note}
use Rattle.core_events.specs.declared.note.Note.TheVariants as note
use Rattle.journal_value.specs.Exact.{Exact}
use Rattle.journal_value.specs.Words.{AreBytes, IsDest, IsNote, IsOf, OfVerb, addr_words, conn_of, note_words, noted_words, verb_of, words_of}
use Rattle.journal_value.specs.declared.note_verb.NoteVerb.{NoteVerb}
use Rattle.journal_value.specs.declared.note_verb.NoteVerb.TheVariants as verb

-- the notes of a verb are made of a connection and what their further words say
record Kind (A : Type 0) (v : NoteVerb) (make : ℕ → A → Note) (words : A → List (List ℕ)) (Fits : A → Type 0) : Type 0 where
  spelled : (c : ℕ) (x : A) → note_words (make c x) ≡ noted_words v c (words x)
  each : (n : Note) → IsNote n → verb_of n ≡ v → (x : A) × Fits x × (n ≡ make (conn_of n) x)

-- what is read of the further words is read as the note
lifted : (A : Type 0) (v : NoteVerb) (make : ℕ → A → Note) (words : A → List (List ℕ)) (Fits : A → Type 0) → Kind A v make words Fits → (conn : ℕ) (rest : List (List ℕ)) (found : Option A) → Exact A (List (List ℕ)) words Fits rest found → OfVerb v conn rest (option_map (make conn) found)
lifted A v make words Fits kind conn rest found e = record { is_written = written found e.is_written; is_only = only }
  where
    written : (r : Option A) → IfSome r (λ x. words x ≡ rest) → IfSome (option_map (make conn) r) (λ n. note_words n ≡ noted_words v conn rest)
    written None h = tt
    written (Some x) h = kind.spelled conn x ∙ ap (noted_words v conn) h

    only : (n : Note) → IsOf v conn n → note_words n ≡ noted_words v conn rest → option_map (make conn) found ≡ Some n
    only n is same =
        let x = kind.each n is.0 is.1 in
        let made : n ≡ make conn x.0 = x.2 ∙ ap (λ c. make c x.0) is.2 in
        let behind : noted_words v conn (words x.0) ≡ noted_words v conn rest = sym (kind.spelled conn x.0) ∙ ap note_words (sym made) ∙ same in
        ap (option_map (make conn)) (e.is_only x.0 x.1 (cc behind)) ∙ ap Some (sym made)

-- ---- logged lines

logs : Kind (List ℕ) verb.Log note.Log (λ t. words_of (escaped t)) AreBytes
logs = record { spelled = λ c x. refl; each = each }
  where
    each : (n : Note) → IsNote n → verb_of n ≡ verb.Log → (x : List ℕ) × AreBytes x × (n ≡ note.Log (conn_of n) x)
    each (note.Log c text) h v = (text, h.1, refl)
    each other h v = cc

-- a text is known by its words
same_words : (a b : List ℕ) → words_of a ≡ words_of b → a ≡ b
same_words a b e = sym (join_with_byte-slice_split 32 a) ∙ ap (join_with_byte 32) e ∙ join_with_byte-slice_split 32 b

by_words : (text : List ℕ) (found : Option (List ℕ)) → Exact (List ℕ) (List ℕ) escaped AreBytes text found → Exact (List ℕ) (List (List ℕ)) (λ t. words_of (escaped t)) AreBytes (words_of text) found
by_words text found e = record {
  is_written = written found e.is_written;
  is_only = λ t fits same. e.is_only t fits (same_words (escaped t) text same);
}
  where
    written : (r : Option (List ℕ)) → IfSome r (λ t. escaped t ≡ text) → IfSome r (λ t. words_of (escaped t) ≡ words_of text)
    written None h = tt
    written (Some t) h = ap words_of h

pub log_exact : (conn : ℕ) (text : List ℕ) (found : Option (List ℕ)) → Exact (List ℕ) (List ℕ) escaped AreBytes text found → OfVerb verb.Log conn (words_of text) (option_map (note.Log conn) found)
log_exact conn text found e = lifted (List ℕ) verb.Log note.Log (λ t. words_of (escaped t)) AreBytes logs conn (words_of text) found (by_words text found e)

-- ---- connects

connects : Kind Addr verb.Connect note.Connect addr_words IsDest
connects = record { spelled = λ c x. refl; each = each }
  where
    each : (n : Note) → IsNote n → verb_of n ≡ verb.Connect → (x : Addr) × IsDest x × (n ≡ note.Connect (conn_of n) x)
    each (note.Connect c to) h v = (to, h.1, refl)
    each other h v = cc

pub connect_exact : (conn : ℕ) (rest : List (Bor (List ℕ))) (d : Bor (List ℕ)) (to : Addr) → 1 ≤ length rest → length rest < 2 → Exact Addr (List ℕ) addr_text IsDest (get_or rest 0 d).now (Some to) → OfVerb verb.Connect conn (map (λ w. w.now) rest) (Some (note.Connect conn to))
connect_exact conn [] d to some short e = absurd (omega arith)
connect_exact conn (w ∷ []) d to some short e =
    lifted Addr verb.Connect note.Connect addr_words IsDest connects conn (w.now ∷ []) (Some to) (record {
      is_written = ap (λ t. t ∷ []) e.is_written;
      is_only = λ a fits same. e.is_only a fits (cc same);
    })
connect_exact conn (w ∷ (v ∷ more)) d to some short e = absurd (omega arith)
