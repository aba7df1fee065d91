-- The turns of a run.
use Rattle.std.proofs.Common.{◌≡◌, ℕ, zero, suc, ◌+◌, ◌-◌, ◌<◌, ◌≤◌, List, [], ◌∷◌, ◌++◌, length}
use Rattle.std.proofs.Common.{Bool, true, false, cond, refl, sym, ap, ap₂, ◌∙◌, arith, append_assoc}
use Rattle.std.proofs.Common.{append-nil}
use Rattle.std.proofs.lemmas.Bool.Decides.{nat_tests}
use Rattle.tcl_words.specs.Escapes.{is_digit, with_digit, digits}
use Rattle.std.specs.Prelude.{slice_index}
use Rattle.tcl_words.specs.Faults.{to}
use Rattle.tcl_words.specs.Places.{stands, is_space, skips_newline, letter_stands, names, in_name}
use Rattle.tcl_words.specs.Places.{is_blank, separates, in_comment, in_gap, closes, ends_run}
use Rattle.tcl_words.specs.Skips.{turns, skip}
use Rattle.tcl_words.specs.Values.{Read, joined, next_byte, run, brace_bytes, brace_unit_end}
use Rattle.tcl_words.specs.Values.{inner_after, deepened, ends_braces, braces}
use Rattle.tcl_words.specs.declared.places.Closer.{Closer}
use Rattle.tcl_words.specs.declared.progress.Progress.{Progress}
use Rattle.tcl_words.proofs.Many.{ManyTo, many_begins, many_turn, many_ends}

abbrev pub after_bytes : List ℕ → Read (List ℕ) → Read (List ℕ)
after_bytes bs r = (bs ++ r.0, r.1)

pub skip_stop : (test : ℕ → Bool) (step : ℕ → ℕ) (n at : ℕ) → test at ≡ false
    → skip test step n at ≡ at
unfolding skip
skip_stop test step zero at h = refl
skip_stop test step (suc n) at h = ap (λ b. cond b (skip test step n (step at)) at) h

pub skip_more : (test : ℕ → Bool) (step : ℕ → ℕ) (n at : ℕ) → 0 < n → test at ≡ true
    → skip test step n at ≡ skip test step (n - 1) (step at)
unfolding skip
skip_more test step zero at h e = absurd (omega arith)
skip_more test step (suc n) at h e =
    let k : suc n - 1 ≡ n = omega arith in
    ap (λ b. cond b (skip test step n (step at)) at) e ∙ ap (λ m. skip test step m (step at)) (sym k)

-- skipping from the start leads to the place, and on
abbrev pub SkipTo : (ℕ → Bool) → (ℕ → ℕ) → List ℕ → ℕ → ℕ → Type 0
SkipTo test step text start at =
    (n : ℕ) × (length text < n + at) × (skip test step (turns text) start ≡ skip test step n at)

pub skip_begins : (test : ℕ → Bool) (step : ℕ → ℕ) (text : List ℕ) (at : ℕ)
    → SkipTo test step text at at
skip_begins test step text at = (turns text, omega arith, refl)

pub skip_turn : (test : ℕ → Bool) (step : ℕ → ℕ) (text : List ℕ) (start at new : ℕ)
    → at ≤ length text → test at ≡ true → new ≡ step at → at < new
    → SkipTo test step text start at → SkipTo test step text start new
skip_turn test step text start at new h e is on so = (
  so.0 - 1,
  omega (arith, so.1),
  so.2 ∙ skip_more test step so.0 at (omega (arith, so.1)) e
      ∙ ap (skip test step (so.0 - 1)) (sym is),
)

pub skip_ends : (test : ℕ → Bool) (step : ℕ → ℕ) (text : List ℕ) (start at : ℕ)
    → test at ≡ false → SkipTo test step text start at → at ≡ skip test step (turns text) start
skip_ends test step text start at e so = sym (so.2 ∙ skip_stop test step so.0 at e)

pub stands_within : (text : List ℕ) (at b : ℕ) → stands text at b ≡ true → at < length text
unfolding stands
stands_within text at b e = grind (arith, nat_tests)

pub space_within : (text : List ℕ) (at : ℕ) → is_space text at ≡ true → at < length text
unfolding is_space stands
space_within text at e = grind (arith, nat_tests)

pub name_within : (text : List ℕ) (at : ℕ) → names text at ≡ true → at < length text
unfolding names letter_stands stands
name_within text at e = grind (arith, nat_tests)

pub in_name_within : (text : List ℕ) (at : ℕ) → in_name text at ≡ true → at < length text
unfolding in_name
in_name_within text at e = grind (arith, nat_tests)

pub blank_within : (text : List ℕ) (at : ℕ) → is_blank text at ≡ true → at < length text
unfolding is_blank is_space skips_newline stands
blank_within text at e = grind (arith, nat_tests)

pub comment_within : (text : List ℕ) (at : ℕ) → in_comment text at ≡ true → at < length text
unfolding in_comment
comment_within text at e = grind (arith, nat_tests)

pub gap_within : (text : List ℕ) (at : ℕ) → in_gap text at ≡ true → at < length text
unfolding in_gap separates is_blank is_space skips_newline stands
gap_within text at e = grind (arith, nat_tests)

pub digit_within : (base : ℕ) (text : List ℕ) (at : ℕ) → is_digit base text at ≡ true
    → at < length text
unfolding is_digit
digit_within base text at e = grind (arith, nat_tests)

-- digits from the start lead to the place, and on
pub digits_stop : (base : ℕ) (text : List ℕ) (n at number : ℕ) → is_digit base text at ≡ false
    → digits base text n at number ≡ (number, at)
unfolding digits
digits_stop base text zero at number h = refl
digits_stop base text (suc n) at number h =
    ap (λ b. cond b (digits base text n (at + 1) (with_digit base number (slice_index text at)))
    (number, at)) h

pub digits_none : (base : ℕ) (text : List ℕ) (n at number : ℕ) → n ≡ 0
    → digits base text n at number ≡ (number, at)
unfolding digits
digits_none base text zero at number h = refl
digits_none base text (suc n) at number h = absurd (omega arith)

pub digits_more : (base : ℕ) (text : List ℕ) (n at number : ℕ) → 0 < n
    → is_digit base text at ≡ true
    → digits base text n at number
    ≡ digits base text (n - 1) (at + 1) (with_digit base number (slice_index text at))
unfolding digits
digits_more base text zero at number h e = absurd (omega arith)
digits_more base text (suc n) at number h e =
    let k : suc n - 1 ≡ n = omega arith in
    let next = with_digit base number (slice_index text at) in
    ap (λ b. cond b (digits base text n (at + 1) next) (number, at)) e
    ∙ ap (λ m. digits base text m (at + 1) next) (sym k)

-- a run that goes on isn't at the end
pub goes_on : (c : Closer) (text : List ℕ) (at : ℕ) → ends_run c text at ≡ false → at < length text
unfolding ends_run closes
goes_on c text at e = grind (arith, nat_tests)

-- the bytes are what the run from the place has given so far
pub record RunTo (c : Closer) (text : List ℕ) (from : Progress) (bs : List ℕ) (s : Progress) : Type 0 where
  pub holds : ManyTo (λ x. x) (λ x. ends_run c text x.at) (next_byte text) (λ b more. b ∷ more) [] text from (λ more. bs ++ more) s

pub run_begins : (c : Closer) (text : List ℕ) (s : Progress) → RunTo c text s [] s
run_begins c text s = record { holds = many_begins _ _ _ _ _ text s (λ more. more) (λ b. refl) }

pub run_turn : (c : Closer) (text : List ℕ) (from s s2 : Progress) (bs : List ℕ) (b : ℕ)
    → s.at ≤ length text → ends_run c text s.at ≡ false → next_byte text s ≡ (b, s2) → s.at < s2.at
    → RunTo c text from bs s → RunTo c text from (bs ++ b ∷ []) s2
run_turn c text from s s2 bs b within e is on so = record {
  holds = many_turn (λ x. x) (λ x. ends_run c text x.at) (next_byte text) (λ b more. b ∷ more) []
      text from s s s2 (λ more. bs ++ more) (λ more. (bs ++ b ∷ []) ++ more) b within refl e is on
      (λ more. sym (append_assoc bs (b ∷ []) more)) so.holds;
}

pub run_ends : (c : Closer) (text : List ℕ) (from s : Progress) (bs : List ℕ) → s.at ≤ length text
    → ends_run c text s.at ≡ true → RunTo c text from bs s → run c text from ≡ (bs, s)
unfolding run
run_ends c text from s bs within e so =
    many_ends (λ x. x) (λ x. ends_run c text x.at) (next_byte text) (λ b more. b ∷ more) [] text
    from s (λ more. bs ++ more) bs within e (append-nil bs) so.holds

-- the bytes are what the braces have given so far
pub record BracesTo (room : ℕ) (text : List ℕ) (from : Progress) (bs : List ℕ) (inner : ℕ) (s : Progress) : Type 0 where
  pub n : ℕ
  pub enough : length text < n + s.at
  pub same : braces room text (turns text) 0 from ≡ after_bytes bs (braces room text n inner s)

pub braces_begin : (room : ℕ) (text : List ℕ) (s : Progress) → BracesTo room text s [] 0 s
braces_begin room text s = record { n = turns text; enough = omega arith; same = refl }

abbrev pub brace_read : ℕ → List ℕ → ℕ → Progress → Read (List ℕ)
brace_read room text inner s =
    (brace_bytes text s.at, to (brace_unit_end text s.at) (deepened room inner text s))

pub braces_more : (room : ℕ) (text : List ℕ) (n inner : ℕ) (s : Progress) → 0 < n
    → ends_braces text inner s.at ≡ false
    → braces room text n inner s ≡ joined (λ a b. a ++ b) (brace_read room text inner s)
    (braces room text (n - 1) (inner_after text s.at inner))
unfolding braces
braces_more room text zero inner s h e = absurd (omega arith)
braces_more room text (suc n) inner s h e =
    let k : suc n - 1 ≡ n = omega arith in
    let next = inner_after text s.at inner in
    ap (λ b. cond b ([], s) (joined (λ a b. a ++ b) (brace_read room text inner s)
    (braces room text n next))) e
    ∙ ap (λ m. joined (λ a b. a ++ b) (brace_read room text inner s) (braces room text m next))
    (sym k)

pub in_braces : (text : List ℕ) (inner at : ℕ) → ends_braces text inner at ≡ false
    → at < length text
unfolding ends_braces
in_braces text inner at e = grind (arith, nat_tests)

pub braces_turn : (room : ℕ) (text : List ℕ) (from s s1 s2 : Progress) (bs cs : List ℕ) (inner next : ℕ)
    → ends_braces text inner s.at ≡ false → s1 ≡ deepened room inner text s
    → cs ≡ bs ++ brace_bytes text s.at → s2 ≡ to (brace_unit_end text s.at) s1
    → next ≡ inner_after text s.at inner → s.at < s2.at
    → BracesTo room text from bs inner s → BracesTo room text from cs next s2
braces_turn room text from s s1 s2 bs cs inner next e d b u i on so =
    let here = in_braces text inner s.at e in
    let rest = braces room text (so.n - 1) next s2 in
    let read : brace_read room text inner s ≡ (brace_bytes text s.at, s2) =
    ap (λ x. (brace_bytes text s.at, x)) (sym (u ∙ ap (to (brace_unit_end text s.at)) d)) in
    let turn : braces room text so.n inner s ≡ (brace_bytes text s.at ++ rest.0, rest.1) =
    braces_more room text so.n inner s (omega (arith, so.enough)) e
    ∙ ap₂ (λ r k. joined (λ a b. a ++ b) r (braces room text (so.n - 1) k)) read (sym i) in
    record {
      n = so.n - 1;
      enough = omega (arith, so.enough);
      same = so.same ∙ ap (after_bytes bs) turn
          ∙ ap (λ x. (x, rest.1)) (sym (append_assoc bs _ _) ∙ ap (λ x. x ++ rest.0) (sym b));
    }

pub braces_now : (room : ℕ) (text : List ℕ) (n inner : ℕ) (s : Progress) → 0 < n
    → ends_braces text inner s.at ≡ true → braces room text n inner s ≡ ([], s)
unfolding braces
braces_now room text zero inner s h e = absurd (omega arith)
braces_now room text (suc n) inner s h e =
    ap (λ b. cond b ([], s) (joined (λ a b. a ++ b) (brace_read room text inner s)
    (braces room text n (inner_after text s.at inner)))) e

pub braces_stop : (room : ℕ) (text : List ℕ) (from s : Progress) (bs : List ℕ) (inner : ℕ)
    → s.at ≤ length text → ends_braces text inner s.at ≡ true → BracesTo room text from bs inner s
    → braces room text (turns text) 0 from ≡ (bs, s)
braces_stop room text from s bs inner h e so =
    so.same ∙ ap (after_bytes bs) (braces_now room text so.n inner s (omega (arith, so.enough)) e)
    ∙ ap (λ x. (x, s)) (append-nil bs)
