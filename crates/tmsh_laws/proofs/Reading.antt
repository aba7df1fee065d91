-- What is read of a text to its end, wherever it begins.
use Rattle.std.proofs.Common.{◌≡◌, ℕ, suc, ◌+◌, Bool, true, false, not, ◌&&◌, eqb, List, [], ◌∷◌, ◌++◌, length, drop, Option, Some, None, Result, Ok, Err, refl, sym, ap, ap₂, subst, ◌∙◌, add-one, arith}
use Rattle.std.proofs.Math.Seq.{drop-append-add, drop-append_seam}
use Rattle.std.proofs.lemmas.Bool.{and_parts, false≢true}
use Rattle.std.proofs.lemmas.Bool.Decides.{nat_tests}
use Rattle.std.specs.Prelude.{if◌then◌else◌}
use Rattle.std.specs.Str.{is_utf8}
use Rattle.tmsh_laws.proofs.Ascii.{is_small, small_is}
use Rattle.tmsh_laws.proofs.Marks.{begins_within, plain_there, printed_token, rule_text_back, run_found_back, token_of, word_back}
use Rattle.tmsh_read.proofs.FirstFaulty.{NoToken, no_token, refused}
use Rattle.tmsh_read.specs.Grammar.{step}
use Rattle.tmsh_read.specs.Reading.{Move, ends, stops, goes, Reads, ended, stopped, gone, answer, is_end, moved_by, stepped, wants_text}
use Rattle.tmsh_read.specs.Sketch.{Sketch}
use Rattle.tmsh_read.specs.Tokens.{found_in, gap_after, gap_len, is_mark, plain_found, token_at}
use Rattle.tmsh_read.proofs.ReaderTypes.{Found, Gap, Next, Token}
use Rattle.tmsh_read.proofs.GapKinds.{Within}
use Rattle.tmsh_read.proofs.TokenKinds.{Open, Close, Run, Quoted, Braced}
use Rattle.tmsh_text.specs.Braces.{is_balanced}
use Rattle.tmsh_text.specs.Words.{is_plain, quoted, word}

abbrev pub ReadsAll : Gap → Sketch → List ℕ → Sketch → Type 0
ReadsAll g s bytes u = (at : ℕ) → Reads g s at bytes (Ok u)

-- what is one run
pub record IsRun (w : List ℕ) : Type 0 where
  pub some : eqb (length w) 0 ≡ false
  pub plain : is_plain w ≡ true
  pub utf8 : is_utf8 w ≡ true

pub run_of : (w : List ℕ) → (not (eqb (length w) 0) && (is_plain w && is_small w)) ≡ true → IsRun w
run_of w e =
    let one = and_parts (not (eqb (length w) 0)) (is_plain w && is_small w) e in
    let two = and_parts (is_plain w) (is_small w) one.1 in
    record { some = by_test (eqb (length w) 0) one.0; plain = two.0; utf8 = small_is w two.1 }
  where
    by_test : (x : Bool) → not x ≡ true → x ≡ false
    by_test true shut = absurd (false≢true shut)
    by_test false shut = refl

-- ---- a byte between tokens

-- the same behind a byte more
abbrev later : Move → Move
later (ends s) = ends s
later (stops n) = stops (n + 1)
later (goes s n) = goes s (n + 1)

abbrev with_more : Found → Found
with_more f = record { token = f.token; start = f.start + 1; end = f.end + 1 }

later_step : (s : Sketch) (f : Found) (o : Option Sketch) → stepped (f.start + 1) (f.end + 1) o ≡ later (stepped f.start f.end o)
later_step s f None = refl
later_step s f (Some t) = refl

no_zero : (n : ℕ) → eqb (n + 1) 0 ≡ false
no_zero n = grind (arith, nat_tests)

later_size : (s : Sketch) (f : Found) (b : Bool) → eqb f.end 0 ≡ b → NoToken f → stepped (f.start + 1) (f.end + 1) (step s f.token) ≡ later (if b then stops f.start else stepped f.start f.end (step s f.token))
later_size s f true is none = rw (refused s f none (grind (arith, nat_tests))) refl
later_size s f false is none = later_step s f (step s f.token)

later_end : (s : Sketch) (f : Found) (e : Bool) → NoToken f
    → (if e then ends s else (if eqb (f.end + 1) 0 then stops (f.start + 1) else stepped (f.start + 1) (f.end + 1) (step s f.token)))
    ≡ later (if e then ends s else (if eqb f.end 0 then stops f.start else stepped f.start f.end (step s f.token)))
later_end s f true none = refl
later_end s f false none = rw (no_zero f.end) (later_size s f (eqb f.end 0) refl none)

later_moved : (s : Sketch) (f : Found) → NoToken f → moved_by s (with_more f) ≡ later (moved_by s f)
later_moved s f none = later_end s f (is_end s.next f.token) none

module _ (g h : Gap) (b : ℕ) (between : gap_after g b ≡ Some h) (rest : List ℕ) where
  found_more : plain_found g (b ∷ rest) ≡ with_more (plain_found h rest)
  found_more =
      let n = gap_len h rest in
      let f = token_at (drop n rest) in
      let len : gap_len g (b ∷ rest) ≡ n + 1 = rw between refl in
      let at : drop (n + 1) (b ∷ rest) ≡ drop n rest = ap (λ k. drop k (b ∷ rest)) (add-one n) in
      let part : (k : ℕ) (bytes : List ℕ) → k ≡ n + 1 → bytes ≡ drop n rest → record { token = (token_at bytes).token; start = k; end = k + (token_at bytes).end } ≡ with_more (record { token = f.token; start = n; end = n + f.end }) =
      λ k bytes p q. ap₂ (λ j x. record { token = (token_at x).token; start = j; end = j + (token_at x).end }) p q ∙ ap (λ e. record { token = f.token; start = n + 1; end = e }) (omega arith) in
      part (gap_len g (b ∷ rest)) (drop (gap_len g (b ∷ rest)) (b ∷ rest)) len (ap (λ k. drop k (b ∷ rest)) len ∙ at)

  module _ (s : Sketch) (plain : wants_text s.next ≡ false) where
    answer_more : answer g s (b ∷ rest) ≡ later (answer h s rest)
    answer_more =
        let here : found_in (wants_text s.next) g (b ∷ rest) ≡ with_more (found_in (wants_text s.next) h rest) =
        ap (λ w. found_in w g (b ∷ rest)) plain ∙ plain_there g (b ∷ rest) ∙ found_more ∙ ap with_more (sym (plain_there h rest)) ∙ ap (λ w. with_more (found_in w h rest)) (sym plain) in
        ap (moved_by s) here ∙ later_moved s (found_in (wants_text s.next) h rest) (no_token (wants_text s.next) h rest)

    -- read from the next byte on, read from this one on
    reads_at : (at from : ℕ) → from ≡ at + 1 → (r : Result Sketch ℕ) → Reads h s from rest r → Reads g s at (b ∷ rest) r
    reads_at at from e r (ended _ _ _ _ t f) = ended g s at (b ∷ rest) t (answer_more ∙ ap later f)
    reads_at at from e r (stopped _ _ _ _ n f) =
        let place : at + (n + 1) ≡ from + n = omega (arith, e) in
        subst (λ k. Reads g s at (b ∷ rest) (Err k)) place (stopped g s at (b ∷ rest) (n + 1) (answer_more ∙ ap later f))
    reads_at at from e r (gone _ _ _ _ t n _ f more) =
        let place : from + n ≡ at + (n + 1) = omega (arith, e) in
        let bytes : drop n rest ≡ drop (n + 1) (b ∷ rest) = ap (λ k. drop k (b ∷ rest)) (sym (add-one n)) in
        let P : ℕ → List ℕ → Type 0 = λ k x. Reads Within t k x r in
        gone g s at (b ∷ rest) t (n + 1) r (answer_more ∙ ap later f) (subst (λ x. P (at + (n + 1)) x) bytes (subst (λ k. P k (drop n rest)) place more))

pub white : (g h : Gap) (b : ℕ) → gap_after g b ≡ Some h → (s u : Sketch) → wants_text s.next ≡ false → (rest : List ℕ) → ReadsAll h s rest u → ReadsAll g s (b ∷ rest) u
white g h b is s u plain rest more at = reads_at g h b is rest s plain at (at + 1) refl (Ok u) (more (at + 1))

-- ---- a token

module _ (g : Gap) (s t u : Sketch) (plain : wants_text s.next ≡ false) where
  goes_by : (bytes rest : List ℕ) (token : Token) (n : ℕ) → plain_found g bytes ≡ token_of token n → eqb n 0 ≡ false → is_end s.next token ≡ false
      → step s token ≡ Some t → drop n bytes ≡ rest → ReadsAll Within t rest u → ReadsAll g s bytes u
  goes_by bytes rest token n found some not_end is behind more at =
      let here : found_in (wants_text s.next) g bytes ≡ token_of token n = ap (λ w. found_in w g bytes) plain ∙ plain_there g bytes ∙ found in
      let move : moved_by s (token_of token n) ≡ goes t n = rw (not_end, some, is) refl in
      gone g s at bytes t n (Ok u) (ap (moved_by s) here ∙ move) (subst (λ x. Reads Within t (at + n) x (Ok u)) (sym behind) (more (at + n)))

  pub open_all : (rest : List ℕ) → gap_after g 123 ≡ None → step s Open ≡ Some t → ReadsAll Within t rest u → ReadsAll g s (123 ∷ rest) u
  open_all rest begins is more = goes_by (123 ∷ rest) rest Open 1 (rw begins refl) refl refl is refl more

  pub close_all : (rest : List ℕ) → gap_after g 125 ≡ None → step s Close ≡ Some t → ReadsAll Within t rest u → ReadsAll g s (125 ∷ rest) u
  close_all rest begins is more = goes_by (125 ∷ rest) rest Close 1 (rw begins refl) refl refl is refl more

  -- a run, behind which a mark stands
  pub run_all : (b : ℕ) (w : List ℕ) (mark : ℕ) (rest : List ℕ) → gap_after g b ≡ None → IsRun (b ∷ w) → is_mark mark ≡ true
      → step s (Run (b ∷ w)) ≡ Some t → ReadsAll Within t (mark ∷ rest) u → ReadsAll g s ((b ∷ w) ++ (mark ∷ rest)) u
  run_all b w mark rest begins run is stands more =
      goes_by ((b ∷ w) ++ (mark ∷ rest)) (mark ∷ rest) (Run (b ∷ w)) (length (b ∷ w)) (run_found_back g b w mark rest begins run.utf8 run.plain is) run.some refl stands
      (drop-append_seam (b ∷ w) (mark ∷ rest)) more

-- a run within a line
pub run_within : (s t u : Sketch) → wants_text s.next ≡ false → (w : List ℕ) (mark : ℕ) (rest : List ℕ) → IsRun w → is_mark mark ≡ true
    → step s (Run w) ≡ Some t → ReadsAll Within t (mark ∷ rest) u → ReadsAll Within s (w ++ (mark ∷ rest)) u
run_within s t u plain [] mark rest run is stands more = absurd (false≢true (sym run.some))
run_within s t u plain (b ∷ w) mark rest run is stands more = run_all Within s t u plain b w mark rest (begins_within b w run.plain) run is stands more

-- ---- a key or a value

some_word : (text : List ℕ) (x : Bool) → (not (eqb (length text) 0) && is_plain text) ≡ x → eqb (length (if x then text else quoted text)) 0 ≡ false
some_word [] true e = absurd (false≢true e)
some_word (b ∷ text) true e = grind (arith, nat_tests)
some_word text false e = grind (arith, nat_tests)

no_end : (n : Next) (text : List ℕ) (x : Bool) → is_end n (if x then Run text else Quoted text) ≡ false
no_end n text true = refl
no_end n text false = refl

pub word_all : (s t u : Sketch) → wants_text s.next ≡ false → (text : List ℕ) (mark : ℕ) (rest : List ℕ) → is_utf8 text ≡ true → is_mark mark ≡ true
    → step s (printed_token text) ≡ Some t → ReadsAll Within t (mark ∷ rest) u → ReadsAll Within s (word text ++ (mark ∷ rest)) u
word_all s t u plain text mark rest utf8 is stands more =
    let x = not (eqb (length text) 0) && is_plain text in
    goes_by Within s t u plain (word text ++ (mark ∷ rest)) (mark ∷ rest) (printed_token text) (length (word text)) (word_back text mark rest utf8 is) (some_word text x refl)
    (no_end s.next text x) stands (drop-append_seam (word text) (mark ∷ rest)) more

-- ---- the text of a rule

pub rule_all : (s t u : Sketch) → wants_text s.next ≡ true → (text rest : List ℕ) → is_utf8 text ≡ true → is_balanced text ≡ true
    → step s (Braced text) ≡ Some t → ReadsAll Within t rest u → ReadsAll Within s (32 ∷ (123 ∷ (text ++ (125 ∷ rest)))) u
rule_all s t u wants text rest utf8 even is more at =
    let bytes = 32 ∷ (123 ∷ (text ++ (125 ∷ rest))) in
    let n = length text + 3 in
    let f : Found = record { token = Braced text; start = 1; end = n } in
    let here : found_in (wants_text s.next) Within bytes ≡ f = ap (λ w. found_in w Within bytes) wants ∙ rule_text_back text rest utf8 even in
    let some : eqb n 0 ≡ false = grind (arith, nat_tests) in
    let move : moved_by s f ≡ goes t n = rw (some, is) refl in
    let size : n ≡ suc (suc (length text + 1)) = omega arith in
    let behind : drop n bytes ≡ rest = ap (λ k. drop k bytes) size ∙ drop-append-add text (125 ∷ rest) 1 in
    gone Within s at bytes t n (Ok u) (ap (moved_by s) here ∙ move) (subst (λ x. Reads Within t (at + n) x (Ok u)) (sym behind) (more (at + n)))
