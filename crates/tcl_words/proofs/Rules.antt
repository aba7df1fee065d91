-- The sentences of the manual.
use Rattle.std.proofs.Common.{◌≡◌, inl, inr, ℕ, ◌<◌, ◌≤◌, List, Bool, true, false, Option, Some}
use Rattle.std.proofs.Common.{None, cond, refl, sym, ap, ◌∙◌, subst, arith}
use Rattle.std.proofs.lemmas.Bool.Decides.{nat_tests}
use Rattle.std.specs.Prelude.{IfSome}
use Rattle.tcl_words.specs.Escapes.{with_digit, unit}
use Rattle.tcl_words.specs.Faults.{place_of, comes_first, least, noted}
use Rattle.tcl_words.specs.Grammar.{SpellsPart, SpellsParts, SpellsWord}
use Rattle.tcl_words.specs.Places.{stands, starts_variable, skips_newline, is_space, is_blank}
use Rattle.tcl_words.specs.Places.{after_blank, separates, closes, word_closer, ends_command}
use Rattle.tcl_words.specs.Places.{in_comment, after_comment_byte, in_gap}
use Rattle.tcl_words.specs.Rules.{span_of_part, span_of_word, Adjoin, SubstitutionsSplitNothing}
use Rattle.tcl_words.specs.Rules.{WhiteSpaceSeparates, QuotesEndAtQuotes, BracketsEndWords}
use Rattle.tcl_words.specs.Rules.{SeparatorsEndWords, ReturnIsOrdinary, BracesKeepBytes}
use Rattle.tcl_words.specs.Rules.{BracesKeepBackslashes, BracesReplaceNewlines}
use Rattle.tcl_words.specs.Rules.{BackslashedBracesDontCount, NewlinesEndComments}
use Rattle.tcl_words.specs.Rules.{BackslashesContinueComments, HashesBeginComments, LoneDollars}
use Rattle.tcl_words.specs.Rules.{LastTwoDigits, DepthIsLimited, DepthLimitsIndexes}
use Rattle.tcl_words.specs.Rules.{DepthLimitsWords, LeastPlaceIsTold}
use Rattle.tcl_words.specs.Skips.{turns, blanks_end}
use Rattle.tcl_words.specs.Tree.{Part, plain, variable, element, bracket, Parts, no_parts, and_part}
use Rattle.tcl_words.specs.Tree.{Word, word, from_to}
use Rattle.tcl_words.specs.Values.{brace_bytes, inner_after}
use Rattle.tcl_words.specs.declared.parse_fault.Fault.{Fault}
use Rattle.tcl_words.specs.declared.places.Closer.{Closer}
use Rattle.tcl_words.specs.declared.places.Closer.TheVariants as closer
use Rattle.tcl_words.specs.declared.script.Form.TheVariants.{Bare, Quoted, Braced}
use Rattle.tcl_words.proofs.Further.{both}
use Rattle.tcl_words.proofs.Levels.{word_opens}
use Rattle.tcl_words.proofs.Onward.{blanks_on, blanks_stop}
use Rattle.tcl_words.proofs.Runs.{skip_stop}

pub quotes : QuotesEndAtQuotes
unfolding closes
quotes = λ text at h. grind (arith, nat_tests)

pub brackets : BracketsEndWords
unfolding closes separates is_blank is_space skips_newline stands
brackets = λ text at h. (grind (arith, nat_tests), grind (arith, nat_tests))

pub return_ordinary : ReturnIsOrdinary
unfolding separates is_blank is_space skips_newline stands
return_ordinary = λ text at h. grind (arith, nat_tests)

pub keeps_bytes : BracesKeepBytes
unfolding brace_bytes
keeps_bytes = λ text at h. simp h

pub keeps_backslashes : BracesKeepBackslashes
unfolding brace_bytes
keeps_backslashes = λ text at h n w. grind (arith, nat_tests)

pub replaces_newlines : BracesReplaceNewlines
unfolding brace_bytes
replaces_newlines = λ text at h n. simp (h, n)

pub backslashed : BackslashedBracesDontCount
unfolding inner_after stands
backslashed = λ text at inner h. grind (arith, nat_tests)

pub newlines : NewlinesEndComments
unfolding in_comment stands
newlines = λ text at h. grind (arith, nat_tests)

pub continues : BackslashesContinueComments
unfolding in_comment after_comment_byte stands
continues = λ text at h w. (grind (arith, nat_tests), grind (arith, nat_tests))

pub hashes : HashesBeginComments
unfolding in_gap closes separates is_blank is_space skips_newline stands
hashes = λ text at h. (grind (arith, nat_tests), grind (arith, nat_tests))

pub dollars : LoneDollars
unfolding starts_variable unit stands
dollars = λ text at h n o. (grind (arith, nat_tests), grind (arith, nat_tests))

pub two_digits : LastTwoDigits
unfolding with_digit
two_digits = λ number a b. omega arith

pub limited : DepthIsLimited
limited = λ c text at span script end is. omega (arith, is.2.has_room)

pub limits_indexes : DepthLimitsIndexes
limits_indexes = λ c text at span name index end is. omega (arith, is.4.has_room)

pub limits_words : DepthLimitsWords
limits_words inside text at (word span Bare inner raw parts) end is = (is.0, is.1)
limits_words inside text at (word span Quoted inner raw parts) end is =
    absurd (omega (arith, is.2.has_room))
limits_words inside text at (word span Braced inner raw parts) end is =
    absurd (omega (arith, is.2.has_room))

semicolon : (text : List ℕ) (at : ℕ) → stands text at 59 ≡ true → closes closer.Word text at ≡ true
unfolding closes separates
semicolon text at h = grind (arith, nat_tests)

newline : (text : List ℕ) (at : ℕ) → stands text at 10 ≡ true → closes closer.Word text at ≡ true
unfolding closes separates
newline text at h = grind (arith, nat_tests)

pub separators : SeparatorsEndWords
separators text at (inl h) = semicolon text at h
separators text at (inr h) = newline text at h

part_span : (room : ℕ) (c : Closer) (text : List ℕ) (at : ℕ) (p : Part) (end : ℕ)
    → SpellsPart room c text at p end → span_of_part p ≡ from_to at end
part_span room c text at (plain span bytes) end is = is.0
part_span room c text at (variable span name) end is = is.0
part_span room c text at (element span name index) end is = is.1
part_span room c text at (bracket span script) end is = is.0

pub split_nothing : SubstitutionsSplitNothing
split_nothing room c text at no_parts end is = is.1
split_nothing room c text at (and_part p more) end is =
    let span = part_span room c text at p is.0 is.2 in (
      ap (λ s. s.start) span,
      subst (λ k. Adjoin k more end) (sym (ap (λ s. s.end) span))
          (split_nothing room c text is.0 more end is.3),
    )

parts_close : (room : ℕ) (c : Closer) (text : List ℕ) (at : ℕ) (ps : Parts) (end : ℕ)
    → SpellsParts room c text at ps end → closes c text end ≡ true
parts_close room c text at no_parts end is = ap (closes c text) (sym is.1) ∙ is.0
parts_close room c text at (and_part p ps) end is = parts_close room c text is.0 ps end is.3

word_closes : (room : ℕ) (inside : Bool) (text : List ℕ) (at : ℕ) (w : Word) (end : ℕ)
    → SpellsWord room inside text at w end → closes (word_closer inside) text end ≡ true
word_closes room inside text at (word span Bare inner raw parts) end is =
    parts_close room (word_closer inside) text at parts end is.2
word_closes room inside text at (word span Quoted inner raw parts) end is = is.1
word_closes room inside text at (word span Braced inner raw parts) end is = is.1

word_span : (room : ℕ) (inside : Bool) (text : List ℕ) (at : ℕ) (w : Word) (end : ℕ)
    → SpellsWord room inside text at w end → span_of_word w ≡ from_to at end
word_span room inside text at (word span Bare inner raw parts) end is = is.3.span_is
word_span room inside text at (word span Quoted inner raw parts) end is = is.3.span_is
word_span room inside text at (word span Braced inner raw parts) end is = is.3.span_is

unblank : (text : List ℕ) (at : ℕ) → is_blank text at ≡ false → blanks_end text at ≡ at
unfolding blanks_end
unblank text at h = skip_stop (is_blank text) (after_blank text) (turns text) at h

-- where a word has ended and another comes, a blank stands
blank_comes : (inside : Bool) (text : List ℕ) (at : ℕ) (b : Bool) → is_blank text at ≡ b
    → closes (word_closer inside) text at ≡ true
    → ends_command inside text (blanks_end text at) ≡ false → b ≡ true
blank_comes inside text at true e h g = refl
blank_comes inside text at false e h g =
    let stays = unblank text at e in
    let goes = ap (ends_command inside text) (sym stays) ∙ g in
    absurd (both _ h (word_opens inside text at e goes))

goes_past : (text : List ℕ) (at : ℕ) → is_blank text at ≡ true → at < blanks_end text at
goes_past text at h =
    let on = blanks_on text at in
    let apart : at ≡ blanks_end text at → ⊥ =
    λ e. both _ (ap (is_blank text) (sym e) ∙ h) (blanks_stop text at) in
    grind arith

pub white_space : WhiteSpaceSeparates
white_space room inside text at v w more end is =
    let mid = is.0 in
    let rest = is.3 in
    let here = blank_comes inside text mid (is_blank text mid) refl
    (word_closes room inside text (blanks_end text at) v mid is.2) rest.1 in
    let v_end = ap (λ s. s.end) (word_span room inside text (blanks_end text at) v mid is.2) in
    let w_start = ap (λ s. s.start) (word_span room inside text (blanks_end text mid) w rest.0 rest.2) in
    let past = goes_past text mid here in
    (ap (is_blank text) v_end ∙ here, omega (arith, v_end, w_start, past))

first_place : (f e : Fault) → comes_first f e ≡ true → place_of f ≤ place_of e
unfolding comes_first
first_place f e h = grind (arith, nat_tests)

later_place : (f e : Fault) → comes_first f e ≡ false → place_of e ≤ place_of f
unfolding comes_first
later_place f e h = grind (arith, nat_tests)

by_order : (f g e : Fault) (b : Bool) → comes_first f e ≡ b → cond b (Some f) (Some e) ≡ Some g
    → (place_of g ≤ place_of f) × (place_of g ≤ place_of e)
by_order f g e true c h =
    let same : f ≡ g = cc in
    let first = first_place f e c in
    (omega (arith, ap place_of same), omega (arith, ap place_of same, first))
by_order f g e false c h =
    let same : e ≡ g = cc in
    let first = later_place f e c in
    (omega (arith, ap place_of same, first), omega (arith, ap place_of same))

least_of : (f g : Fault) (o : Option Fault) → least o f ≡ Some g
    → (place_of g ≤ place_of f) × IfSome o (λ e. place_of g ≤ place_of e)
least_of f g None h = let same : f ≡ g = cc in (omega (arith, ap place_of same), tt)
least_of f g (Some e) h = by_order f g e (comes_first f e) refl h

pub least_place : LeastPlaceIsTold
unfolding noted
least_place = λ f g s h. least_of f g s.fault h
