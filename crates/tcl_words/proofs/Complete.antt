-- What is spelled is read.
use Rattle.std.proofs.Common.{◌≡◌, ℕ, zero, suc, ◌+◌, ◌-◌, ◌%◌, ◌<◌, List, [], ◌∷◌, ◌++◌, length}
use Rattle.std.proofs.Common.{Bool, true, false, None, cond, sym, ap, ap₂, ◌∙◌, arith}
use Rattle.std.proofs.lemmas.Bool.Decides.{nat_tests}
use Rattle.std.specs.Prelude.{◌==◌, ◌&&◌, nat_lt, nat_le}
use Rattle.tcl_words.specs.Escapes.{unit}
use Rattle.tcl_words.specs.Faults.{noted, to, closed}
use Rattle.tcl_words.specs.Grammar.{SpellsRun, SpellsBraces}
use Rattle.tcl_words.specs.Places.{stands, opens_name, starts_variable, ends_run}
use Rattle.tcl_words.specs.Reading.{roomed, read_bracket, read_quoted, read_index, level}
use Rattle.tcl_words.specs.Skips.{turns}
use Rattle.tcl_words.specs.Values.{Read, joined, many, next_byte, run, brace_bytes, brace_unit_end}
use Rattle.tcl_words.specs.Values.{inner_after, deepened, braces}
use Rattle.tcl_words.specs.declared.parse_fault.Fault.{Fault}
use Rattle.tcl_words.specs.declared.parse_fault.Fault.TheVariants.{BadEscape, TooDeep}
use Rattle.tcl_words.specs.declared.places.Closer.{Closer}
use Rattle.tcl_words.specs.declared.progress.Progress.{Progress}
use Rattle.tcl_words.proofs.Levels.{bracket_below, quoted_below, index_below}
use Rattle.tcl_words.proofs.Many.{many_more, many_stops}
use Rattle.tcl_words.proofs.Onward.{unit_on, brace_unit_on}
use Rattle.tcl_words.proofs.Runs.{braces_more, braces_now, goes_on, in_braces}

-- a place up to which no fault was noted
abbrev pub clean : ℕ → Progress
clean at = record { at = at; fault = None }

-- turns that are enough from the place on
pub record Enough (text : List ℕ) (n at : ℕ) : Type 0 where
  pub some : 0 < n
  pub left : length text < n + at

pub all_turns : (text : List ℕ) (at : ℕ) → Enough text (turns text) at
all_turns text at = record { some = omega arith; left = omega arith }

pub one_less : (text : List ℕ) (n at mid : ℕ) → at < length text → at < mid → Enough text n at
    → Enough text (n - 1) mid
one_less text n at mid h on e = record {
  some = omega (arith, h, e.left);
  left = omega (arith, on, e.left);
}

-- one turn of a sequence
module _ {A B : Type 0} (before : Progress → Progress) (stop : Progress → Bool) (item : Progress → Read A) (add : A → B → B) (none : B) where
  pub many_goes : (n : ℕ) (s s2 s3 : Progress) (a : A) (b : B) → 0 < n → stop (before s) ≡ false
      → item (before s) ≡ (a, s2) → many before stop item add none (n - 1) s2 ≡ (b, s3)
      → many before stop item add none n s ≡ (add a b, s3)
  many_goes n s s2 s3 a b some goes is more =
      many_more before stop item add none [] n s some goes
      ∙ ap (λ r. joined add r (many before stop item add none (n - 1))) is
      ∙ ap (λ r. (add a r.0, r.1)) more

small_byte : (b : ℕ) → b < 256 → (b % 256 ≡ b) × (nat_lt 255 b ≡ false)
small_byte b h = (omega (arith, h), grind (arith, nat_tests))

byte_read : (text : List ℕ) (at b mid : ℕ) → unit text at ≡ (b, mid) → b < 256
    → next_byte text (clean at) ≡ (b, clean mid)
unfolding next_byte
byte_read text at b mid e h =
    let small = small_byte b h in
    let bad = noted (BadEscape at) (clean at) in
    ap (λ u. (u.0 % 256, to u.1 (cond (nat_lt 255 u.0) bad (clean at)))) e
    ∙ ap₂ (λ n t. (n, to mid (cond t bad (clean at)))) small.0 small.1

run_turns : (c : Closer) (text : List ℕ) (at : ℕ) (bs : List ℕ) (end n : ℕ)
    → SpellsRun c text at bs end → Enough text n at
    → many (λ s. s) (λ s. ends_run c text s.at) (next_byte text) (λ b bs. b ∷ bs) [] n (clean at)
    ≡ (bs, clean end)
run_turns c text at [] end n is enough =
    many_stops (λ s. s) (λ s. ends_run c text s.at) (next_byte text) (λ b bs. b ∷ bs) [] [] n
    (clean at) enough.some is.0
    ∙ ap (λ k. ([], clean k)) is.1
run_turns c text at (b ∷ bs) end n is enough =
    let on = unit_on text at in
    let moves : at < is.0 = rw (← ap (λ u. u.1) is.2) on in
    many_goes (λ s. s) (λ s. ends_run c text s.at) (next_byte text) (λ b bs. b ∷ bs) [] n (clean at)
    (clean is.0) (clean end) b bs enough.some is.1 (byte_read text at b is.0 is.2 is.3)
    (run_turns c text is.0 bs end (n - 1) is.4
    (one_less text n at is.0 (goes_on c text at is.1) moves enough))

pub run_read : (c : Closer) (text : List ℕ) (at : ℕ) (bs : List ℕ) (end : ℕ)
    → SpellsRun c text at bs end → run c text (clean at) ≡ (bs, clean end)
unfolding run
run_read c text at bs end is = run_turns c text at bs end (turns text) is (all_turns text at)

not_deepened : (room inner : ℕ) (text : List ℕ) (s : Progress)
    → (stands text s.at 123 && nat_le room inner) ≡ false → deepened room inner text s ≡ s
unfolding deepened
not_deepened room inner text s h = ap (λ b. cond b (noted (TooDeep s.at) s) s) h

pub braces_turns : (k room : ℕ) (text : List ℕ) (inner at : ℕ) (bytes : List ℕ) (end n : ℕ)
    → SpellsBraces k room text inner at bytes end → Enough text n at
    → braces room text n inner (clean at) ≡ (bytes, clean end)
braces_turns zero room text inner at bytes end n is enough =
    braces_now room text n inner (clean at) enough.some is.0
    ∙ ap₂ (λ bs k. (bs, clean k)) (sym is.1) is.2
braces_turns (suc k) room text inner at bytes end n is enough =
    let next = inner_after text at inner in
    let mid = brace_unit_end text at in
    let here = in_braces text inner at is.1 in
    let more = braces_turns k room text next mid is.0 end (n - 1) is.4
    (one_less text n at mid here (brace_unit_on text at) enough) in
    braces_more room text n inner (clean at) enough.some is.1
    ∙ ap (λ s. joined (λ a b. a ++ b) (brace_bytes text at, to mid s)
    (braces room text (n - 1) next)) (not_deepened room inner text (clean at) is.2)
    ∙ ap (λ r. (brace_bytes text at ++ r.0, r.1)) more
    ∙ ap (λ bs. (bs, clean end)) (sym is.3)

pub closes_well : (b : ℕ) (f : Fault) (text : List ℕ) (at end : ℕ) → stands text at b ≡ true
    → end ≡ at + 1 → closed b f text (clean at) ≡ clean end
unfolding closed
closes_well b f text at end h e =
    ap (λ t. cond t (to (at + 1) (clean at)) (noted f (clean at))) h ∙ ap clean (sym e)

is_more : (d : ℕ) → (suc d == 0) ≡ false
is_more d = grind (arith, nat_tests)

pub has_room : (room below at : ℕ) (s : Progress) → room ≡ suc below → roomed room at s ≡ s
has_room room below at s h =
    ap (λ d. roomed d at s) h ∙ ap (λ b. cond b (noted (TooDeep at) s) s) (is_more below)

-- the readers of enclosed constructs, where there is room
pub bracket_in : (room below : ℕ) (text : List ℕ) (s : Progress) → room ≡ suc below
    → (level room).bracket text s ≡ read_bracket (level below) text s
bracket_in room below text s h =
    let less : room - 1 ≡ below = omega (arith, h) in
    bracket_below room text s (omega (arith, h)) ∙ ap (λ d. read_bracket (level d) text s) less

pub quoted_in : (room below : ℕ) (text : List ℕ) (s : Progress) → room ≡ suc below
    → (level room).quoted text s ≡ read_quoted (level below) text s
quoted_in room below text s h =
    let less : room - 1 ≡ below = omega (arith, h) in
    quoted_below room text s (omega (arith, h)) ∙ ap (λ d. read_quoted (level d) text s) less

pub index_in : (room below : ℕ) (text : List ℕ) (s : Progress) → room ≡ suc below
    → (level room).index text s ≡ read_index (level below) text s
index_in room below text s h =
    let less : room - 1 ≡ below = omega (arith, h) in
    index_below room text s (omega (arith, h)) ∙ ap (λ d. read_index (level d) text s) less

pub not_bracket : (text : List ℕ) (at : ℕ) → starts_variable text at ≡ true → stands text at 91 ≡ false
unfolding starts_variable opens_name stands
not_bracket text at h = grind (arith, nat_tests)

pub not_name : (text : List ℕ) (at : ℕ) → starts_variable text at ≡ false → opens_name text at ≡ false
unfolding starts_variable
not_name text at h = grind (arith, nat_tests)

pub name_starts : (text : List ℕ) (at : ℕ) → opens_name text at ≡ true → starts_variable text at ≡ true
unfolding starts_variable
name_starts text at h = grind (arith, nat_tests)

pub not_quote : (text : List ℕ) (at : ℕ) → stands text at 123 ≡ true → stands text at 34 ≡ false
unfolding stands
not_quote text at h = grind (arith, nat_tests)
