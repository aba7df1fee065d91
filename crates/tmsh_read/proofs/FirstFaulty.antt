-- Where a text is faulty.
use Rattle.std.proofs.Common.{◌≡◌, ◌⊎◌, ℕ, ◌+◌, Bool, true, false, eqb, List, [], ◌∷◌, ◌++◌, take, drop, drop-drop, Option, Some, None, Result, Ok, Err, inl, inr, refl, sym, ap, ◌∙◌, arith, add_assoc}
use Rattle.std.specs.Prelude.{if◌then◌else◌, option_and_then}
use Rattle.std.proofs.lemmas.Bool.Decides.{nat_tests}
use Rattle.px_bytes.proofs.Tests.{by_cases, on_if}
use Rattle.tmsh_read.proofs.GoesOn.{Completes, completes}
use Rattle.tmsh_read.specs.Braced.{braced_len, none_open}
use Rattle.tmsh_read.specs.Grammar.{shape_step, step, step_in}
use Rattle.tmsh_read.specs.Laws.{FirstFaulty, GoesOn, IsText, IsTokenAt, behind}
use Rattle.tmsh_read.specs.Quoted.{Read, unquoted}
use Rattle.tmsh_read.specs.Reading.{Move, ends, stops, goes, Reads, ended, stopped, gone, answer, blank, is_end, moved_by, stepped, wants_text}
use Rattle.tmsh_read.specs.Sketch.{Sketch}
use Rattle.tmsh_read.specs.Tokens.{braced_to, found_in, gap_len, plain_found, quoted_found, run_len, run_of, run_token, token_at}
use Rattle.tmsh_read.specs.declared.gap.Gap.{Gap}
use Rattle.tmsh_read.specs.declared.item.Item.{Item}
use Rattle.tmsh_read.specs.declared.next.Next.{Next}
use Rattle.tmsh_read.specs.declared.next.Next.TheVariants as next
use Rattle.tmsh_read.specs.declared.quoted.Quote.TheVariants.{Plain}
use Rattle.tmsh_read.specs.declared.shape.Shape.{Shape}
use Rattle.tmsh_read.specs.declared.shape.Shape.TheVariants as shape
use Rattle.tmsh_read.specs.declared.token.Found.{Found}
use Rattle.tmsh_read.specs.declared.token.Token.{Token}
use Rattle.tmsh_read.specs.declared.token.Token.TheVariants.{Broken, End}

-- ---- what is no token stands nowhere

broken_shape : (s : Sketch) (i : Item) (sh : Shape) → shape_step s i sh Broken ≡ None
broken_shape s i (shape.Opens n) = refl
broken_shape s i shape.Word = refl
broken_shape s i shape.Number = refl
broken_shape s i shape.Method = refl

end_shape : (s : Sketch) (i : Item) (sh : Shape) → shape_step s i sh End ≡ None
end_shape s i (shape.Opens n) = refl
end_shape s i shape.Word = refl
end_shape s i shape.Number = refl
end_shape s i shape.Method = refl

broken_in : (n : Next) (s : Sketch) → step_in n s Broken ≡ None
broken_in (next.Value i) s = broken_shape s i _
broken_in _ s = refl

end_in : (n : Next) (s : Sketch) → step_in n s End ≡ None
end_in (next.Value i) s = end_shape s i _
end_in _ s = refl

-- what has no bytes is no token
abbrev pub NoToken : Found → Type 0
NoToken f = f.end ≡ 0 → (f.token ≡ Broken) ⊎ (f.token ≡ End)

no_run : (bytes : List ℕ) (n : ℕ) → NoToken (run_of bytes n)
no_run bytes n = by_cases (λ b. eqb n 0 ≡ b → NoToken (if b then record { token = Broken; start = 0; end = 0 } else record { token = run_token (take n bytes); start = 0; end = n })) (eqb n 0) (λ is same z. inl refl) (λ other same z. absurd (grind (arith, nat_tests))) refl

no_quoted : (r : Option Read) → NoToken (quoted_found r)
no_quoted None z = inl refl
no_quoted (Some r) z = absurd (omega arith)

at_front : (bytes : List ℕ) → NoToken (token_at bytes)
at_front [] = λ z. inr refl
at_front (b ∷ bytes) =
    on_if NoToken (eqb b 123) (λ z. absurd (omega arith))
    (on_if NoToken (eqb b 125) (λ z. absurd (omega arith))
    (on_if NoToken (eqb b 34) (no_quoted (unquoted Plain bytes)) (no_run (b ∷ bytes) (run_len (b ∷ bytes)))))

plain : (gap : Gap) (bytes : List ℕ) → NoToken (plain_found gap bytes)
plain gap bytes z = at_front (drop (gap_len gap bytes) bytes) (omega arith)

no_braced : (text : List ℕ) (n : Option ℕ) → NoToken (braced_to text n)
no_braced text None z = absurd (omega arith)
no_braced text (Some n) z = absurd (omega arith)

pub no_token : (wants : Bool) (gap : Gap) (bytes : List ℕ) → NoToken (found_in wants gap bytes)
no_token wants gap [] = plain gap []
no_token wants gap (a ∷ []) = plain gap (a ∷ [])
no_token wants gap (a ∷ (b ∷ text)) = on_if NoToken _ (no_braced text (braced_len none_open text)) (plain gap (a ∷ (b ∷ text)))

pub refused : (s : Sketch) (f : Found) → NoToken f → f.end ≡ 0 → step s f.token ≡ None
refused s f none z = elim (none z) [
  | inl e ↦ ap (step s) e ∙ broken_in s.next s
  | inr e ↦ ap (step s) e ∙ end_in s.next s
]

-- ---- a token that may not stand there, and one that may

record Halts (s : Sketch) (f : Found) (n : ℕ) : Type 0 where
  start_is : n ≡ f.start
  refuses : step s f.token ≡ None

halts_step : (s : Sketch) (f : Found) (n : ℕ) (o : Option Sketch) → step s f.token ≡ o → stepped f.start f.end o ≡ stops n → Halts s f n
halts_step s f n None e is = record { start_is = cc; refuses = e }
halts_step s f n (Some t) e is = cc

halts_size : (s : Sketch) (f : Found) (n : ℕ) (b : Bool) → eqb f.end 0 ≡ b → NoToken f → (if b then stops f.start else stepped f.start f.end (step s f.token)) ≡ stops n → Halts s f n
halts_size s f n true e none is = record { start_is = cc; refuses = refused s f none (grind (arith, nat_tests)) }
halts_size s f n false e none is = halts_step s f n (step s f.token) refl is

halts_end : (s : Sketch) (f : Found) (n : ℕ) (b : Bool) → NoToken f → (if b then ends s else (if eqb f.end 0 then stops f.start else stepped f.start f.end (step s f.token))) ≡ stops n → Halts s f n
halts_end s f n true none is = cc
halts_end s f n false none is = halts_size s f n (eqb f.end 0) refl none is

halts : (s : Sketch) (f : Found) (n : ℕ) → NoToken f → moved_by s f ≡ stops n → Halts s f n
halts s f n none is = halts_end s f n (is_end s.next f.token) none is

steps_step : (s : Sketch) (f : Found) (t : Sketch) (n : ℕ) (o : Option Sketch) → step s f.token ≡ o → stepped f.start f.end o ≡ goes t n → step s f.token ≡ Some t
steps_step s f t n None e is = cc
steps_step s f t n (Some u) e is = cc

steps_size : (s : Sketch) (f : Found) (t : Sketch) (n : ℕ) (b : Bool) → (if b then stops f.start else stepped f.start f.end (step s f.token)) ≡ goes t n → step s f.token ≡ Some t
steps_size s f t n true is = cc
steps_size s f t n false is = steps_step s f t n (step s f.token) refl is

steps_end : (s : Sketch) (f : Found) (t : Sketch) (n : ℕ) (b : Bool) → (if b then ends s else (if eqb f.end 0 then stops f.start else stepped f.start f.end (step s f.token))) ≡ goes t n → step s f.token ≡ Some t
steps_end s f t n true is = cc
steps_end s f t n false is = steps_size s f t n (eqb f.end 0) is

steps : (s : Sketch) (f : Found) (t : Sketch) (n : ℕ) → moved_by s f ≡ goes t n → step s f.token ≡ Some t
steps s f t n is = steps_end s f t n (is_end s.next f.token) is

-- ---- the tokens up to the place

record Stops (s : Sketch) (at : ℕ) (bytes : List ℕ) (place : ℕ) : Type 0 where
  front : List Token
  last : Sketch
  led : behind s front ≡ Some last
  gap : Gap
  from : ℕ
  found : Found
  found_is : found ≡ found_in (wants_text last.next) gap (drop from bytes)
  place_is : place ≡ at + (from + found.start)
  refuses : step last found.token ≡ None

further : (s t : Sketch) (token : Token) (at n : ℕ) (bytes : List ℕ) (place : ℕ) → step s token ≡ Some t → Stops t (at + n) (drop n bytes) place → Stops s at bytes place
further s t token at n bytes place e st = record {
  front = token ∷ st.front;
  last = st.last;
  led = rw e st.led;
  gap = st.gap;
  from = n + st.from;
  found = st.found;
  found_is = st.found_is ∙ ap (found_in (wants_text st.last.next) st.gap) (drop-drop st.from n bytes);
  place_is = omega arith;
  refuses = st.refuses;
}

abbrev ToStop : Sketch → ℕ → List ℕ → Result Sketch ℕ → Type 0
ToStop s at bytes (Ok t) = Unit {0}
ToStop s at bytes (Err place) = Stops s at bytes place

further_by : (s t : Sketch) (token : Token) (at n : ℕ) (bytes : List ℕ) (r : Result Sketch ℕ) → step s token ≡ Some t → ToStop t (at + n) (drop n bytes) r → ToStop s at bytes r
further_by s t token at n bytes (Ok u) e st = tt
further_by s t token at n bytes (Err place) e st = further s t token at n bytes place e st

to_stop : (gap : Gap) (s : Sketch) (at : ℕ) (bytes : List ℕ) (r : Result Sketch ℕ) → Reads gap s at bytes r → ToStop s at bytes r
to_stop _ _ _ _ _ (ended gap s at bytes t e) = tt
to_stop _ _ _ _ _ (stopped gap s at bytes n e) =
    let f = found_in (wants_text s.next) gap bytes in
    let h = halts s f n (no_token (wants_text s.next) gap bytes) e in
    record {
      front = [];
      last = s;
      led = refl;
      gap = gap;
      from = 0;
      found = f;
      found_is = refl;
      place_is = let is : n ≡ f.start = h.start_is in omega arith;
      refuses = h.refuses;
    }
to_stop _ _ _ _ _ (gone gap s at bytes t n r e more) =
    let f = found_in (wants_text s.next) gap bytes in
    further_by s t f.token at n bytes r (steps s f t n e) (to_stop _ _ _ _ r more)

-- ---- with which no text goes on

module _ (a b : List Token) (more : (u : Sketch) → behind u (a ++ b) ≡ option_and_then (λ t. behind t b) (behind u a)) where
  behind_step : (o : Option Sketch) → option_and_then (λ u. behind u (a ++ b)) o ≡ option_and_then (λ u. behind u b) (option_and_then (λ u. behind u a) o)
  behind_step None = refl
  behind_step (Some u) = more u

pub behind-append : (a b : List Token) (s : Sketch) → behind s (a ++ b) ≡ option_and_then (λ t. behind t b) (behind s a)
behind-append [] b s = refl
behind-append (t ∷ a) b s = behind_step a b (behind-append a b) (step s t)

goes_on : (front : List Token) (last : Sketch) → behind blank front ≡ Some last → GoesOn front
goes_on front last led =
    let c = completes last in
    (c.more, record { last = c.last; led = behind-append front c.more blank ∙ rw led c.led; ends = c.ends })

stops_there : (front : List Token) (last : Sketch) (token : Token) → behind blank front ≡ Some last → step last token ≡ None → ¬ (GoesOn (front ++ (token ∷ [])))
stops_there front last token led refuses (more, is) =
    let none : behind blank ((front ++ (token ∷ [])) ++ more) ≡ None =
    behind-append (front ++ (token ∷ [])) more blank
    ∙ rw (behind-append front (token ∷ []) blank, led, refuses) refl in
    let some = is.led in
    absurd (cc (none, some))

pub first_faulty : (text : List ℕ) (place : ℕ) (gap : Gap) → Reads gap blank 0 text (Err place) → FirstFaulty text place
first_faulty text place gap reads =
    let st = to_stop gap blank 0 text (Err place) reads in
    record {
      front = st.front;
      token = st.found.token;
      stands = record {
        last = st.last;
        led = st.led;
        gap = st.gap;
        from = st.from;
        found = st.found;
        found_is = st.found_is;
        place_is = let is : place ≡ 0 + (st.from + st.found.start) = st.place_is in omega arith;
        token_is = refl;
      };
      goes_on = goes_on st.front st.last st.led;
      stops = stops_there st.front st.last st.found.token st.led st.refuses;
    }
