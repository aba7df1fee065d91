-- How an opener is read, by how many more may stand inside it, and a word or part by its first
-- byte.
use Rattle.std.proofs.Common.{◌≡◌, ℕ, zero, suc, ◌+◌, ◌-◌, ◌<◌, List, length, Bool, true, false}
use Rattle.std.proofs.Common.{refl, sym, ap, ◌∙◌, arith}
use Rattle.std.proofs.lemmas.Bool.Decides.{nat_tests}
use Rattle.std.specs.Prelude.{slice_range}
use Rattle.tcl_words.specs.Faults.{noted, to, closed}
use Rattle.tcl_words.specs.Finish.{finished}
use Rattle.tcl_words.specs.Places.{stands, opens_name, starts_variable, is_blank, separates, in_gap}
use Rattle.tcl_words.specs.Places.{closes, ends_script, ends_command, word_closer, ends_run}
use Rattle.tcl_words.specs.Reading.{Level, passed, nothing, read_bracket, read_quoted, read_index}
use Rattle.tcl_words.specs.Reading.{read_braced, read_name, named, read_variable, read_part, parts}
use Rattle.tcl_words.specs.Reading.{trailing, bare, read_word, words, read_command, level}
use Rattle.tcl_words.specs.Skips.{turns, blanks_end, name_end}
use Rattle.tcl_words.specs.Tree.{bracket, plain, variable, element, Parts, no_parts, Word, Words}
use Rattle.tcl_words.specs.Tree.{command, Commands, no_commands, from_to}
use Rattle.tcl_words.specs.Values.{run}
use Rattle.tcl_words.specs.declared.deep.Inside.TheVariants as inside
use Rattle.tcl_words.specs.declared.parse_fault.Fault.TheVariants.{MissingBracket, MissingQuote, ExtraAfter}
use Rattle.tcl_words.specs.declared.places.Closer.{Closer}
use Rattle.tcl_words.specs.declared.places.Closer.TheVariants.{Quote}
use Rattle.tcl_words.specs.declared.progress.Progress.{Progress}
use Rattle.tcl_words.specs.declared.script.Form.TheVariants.{Quoted}
use Rattle.tcl_words.proofs.Runs.{skip_stop}

pub bracket_deepest : (d : ℕ) (text : List ℕ) (s : Progress) → d ≡ 0
    → (level d).bracket text s ≡ (no_commands, passed inside.Gap (MissingBracket s.at) s.at text s)
unfolding level
bracket_deepest zero text s h = refl
bracket_deepest (suc d) text s h = absurd (omega arith)

pub quoted_deepest : (d : ℕ) (text : List ℕ) (s : Progress) → d ≡ 0
    → (level d).quoted text s ≡ (nothing s.at, passed inside.Quote (MissingQuote s.at) s.at text s)
unfolding level
quoted_deepest zero text s h = refl
quoted_deepest (suc d) text s h = absurd (omega arith)

pub index_deepest : (d : ℕ) (text : List ℕ) (s : Progress) → d ≡ 0
    → (level d).index text s ≡ (no_parts, passed inside.Paren (MissingBracket s.at) s.at text s)
unfolding level
index_deepest zero text s h = refl
index_deepest (suc d) text s h = absurd (omega arith)

pub bracket_below : (d : ℕ) (text : List ℕ) (s : Progress) → 0 < d
    → (level d).bracket text s ≡ read_bracket (level (d - 1)) text s
unfolding level
bracket_below zero text s h = absurd (omega arith)
bracket_below (suc d) text s h =
    let k : suc d - 1 ≡ d = omega arith in ap (λ m. read_bracket (level m) text s) (sym k)

pub quoted_below : (d : ℕ) (text : List ℕ) (s : Progress) → 0 < d
    → (level d).quoted text s ≡ read_quoted (level (d - 1)) text s
unfolding level
quoted_below zero text s h = absurd (omega arith)
quoted_below (suc d) text s h =
    let k : suc d - 1 ≡ d = omega arith in ap (λ m. read_quoted (level m) text s) (sym k)

pub index_below : (d : ℕ) (text : List ℕ) (s : Progress) → 0 < d
    → (level d).index text s ≡ read_index (level (d - 1)) text s
unfolding level
index_below zero text s h = absurd (omega arith)
index_below (suc d) text s h =
    let k : suc d - 1 ≡ d = omega arith in ap (λ m. read_index (level m) text s) (sym k)

pub level_braced : (d : ℕ) (text : List ℕ) (s : Progress)
    → (level d).braced text s ≡ read_braced d text s
unfolding level
level_braced zero text s = refl
level_braced (suc d) text s = refl

pub level_name : (d : ℕ) (text : List ℕ) (s : Progress)
    → (level d).name text s ≡ read_name d text s
unfolding level
level_name zero text s = refl
level_name (suc d) text s = refl

pub variable_bare : (l : Level) (text : List ℕ) (s : Progress) (end : ℕ)
    → end ≡ name_end text (s.at + 1) → stands text end 40 ≡ false
    → read_variable l text s
    ≡ (variable (from_to s.at end) (slice_range text (s.at + 1) end), to end s)
unfolding read_variable named
variable_bare l text s end e h = ap (named l text s) (sym e) ∙ (simp h)

pub variable_index : (l : Level) (text : List ℕ) (s s2 : Progress) (end : ℕ) (ps : Parts)
    → end ≡ name_end text (s.at + 1) → stands text end 40 ≡ true
    → l.index text (to end s) ≡ (ps, s2)
    → read_variable l text s
    ≡ (element (from_to s.at s2.at) (slice_range text (s.at + 1) end) ps, s2)
unfolding read_variable named
variable_index l text s s2 end ps e h i =
    ap (named l text s) (sym e)
    ∙ (simp h
    (ap (λ r. (element (from_to s.at r.1.at) (slice_range text (s.at + 1) end) r.0, r.1)) i))

pub part_bracket : (l : Level) (c : Closer) (text : List ℕ) (s s2 : Progress) (cs : Commands)
    → stands text s.at 91 ≡ true → l.bracket text s ≡ (cs, s2)
    → read_part l c text s ≡ (bracket (from_to s.at s2.at) cs, s2)
unfolding read_part
part_bracket l c text s s2 cs h e = simp h (ap (λ b. (bracket (from_to s.at b.1.at) b.0, b.1)) e)

pub part_name : (l : Level) (c : Closer) (text : List ℕ) (s : Progress)
    → stands text s.at 91 ≡ false → opens_name text s.at ≡ true
    → read_part l c text s ≡ l.name text s
unfolding read_part
part_name l c text s h e = simp (h, e)

pub part_variable : (l : Level) (c : Closer) (text : List ℕ) (s : Progress)
    → stands text s.at 91 ≡ false → opens_name text s.at ≡ false
    → starts_variable text s.at ≡ true → read_part l c text s ≡ read_variable l text s
unfolding read_part
part_variable l c text s h o e = simp (h, o, e)

pub part_plain : (l : Level) (c : Closer) (text : List ℕ) (s s2 : Progress) (bs : List ℕ)
    → stands text s.at 91 ≡ false → opens_name text s.at ≡ false
    → starts_variable text s.at ≡ false → run c text s ≡ (bs, s2)
    → read_part l c text s ≡ (plain (from_to s.at s2.at) bs, s2)
unfolding read_part
part_plain l c text s s2 bs h o e r =
    simp (h, o, e) (ap (λ b. (plain (from_to s.at b.1.at) b.0, b.1)) r)

-- a plain part has a byte
pub plain_moves : (c : Closer) (text : List ℕ) (at : ℕ) → closes c text at ≡ false
    → stands text at 91 ≡ false → starts_variable text at ≡ false → ends_run c text at ≡ false
unfolding ends_run
plain_moves c text at h e r = simp (h, e, r)

pub closes_within : (c : Closer) (text : List ℕ) (at : ℕ) → closes c text at ≡ false
    → at < length text
unfolding closes
closes_within c text at e = grind (arith, nat_tests)

pub word_quoted : (l : Level) (inside : Bool) (text : List ℕ) (s s1 s2 : Progress) (w : Word)
    → stands text s.at 34 ≡ true → l.quoted text s ≡ (w, s1) → s2 ≡ trailing l inside text s1
    → read_word l inside text s ≡ (w, s2)
unfolding read_word
word_quoted l inside text s s1 s2 w h e r =
    simp h (ap (λ x. (x.0, trailing l inside text x.1)) e ∙ ap (λ x. (w, x)) (sym r))

pub word_braced : (l : Level) (inside : Bool) (text : List ℕ) (s s1 s2 : Progress) (w : Word)
    → stands text s.at 34 ≡ false → stands text s.at 123 ≡ true → l.braced text s ≡ (w, s1)
    → s2 ≡ trailing l inside text s1 → read_word l inside text s ≡ (w, s2)
unfolding read_word
word_braced l inside text s s1 s2 w q h e r =
    simp (q, h) (ap (λ x. (x.0, trailing l inside text x.1)) e ∙ ap (λ x. (w, x)) (sym r))

pub word_bare : (l : Level) (inside : Bool) (text : List ℕ) (s s1 : Progress) (ps : Parts)
    → stands text s.at 34 ≡ false → stands text s.at 123 ≡ false
    → parts l (word_closer inside) text s ≡ (ps, s1)
    → read_word l inside text s ≡ bare text s.at (ps, s1)
unfolding read_word
word_bare l inside text s s1 ps h e r = simp (h, e) (ap (bare text s.at) r)

pub trails : (l : Level) (inside : Bool) (text : List ℕ) (s s2 : Progress) (ps : Parts)
    → closes (word_closer inside) text s.at ≡ false
    → parts l (word_closer inside) text (noted (ExtraAfter s.at) s) ≡ (ps, s2)
    → s2 ≡ trailing l inside text s
unfolding trailing
trails l inside text s s2 ps h e = simp (h, e)

pub trails_nothing : (l : Level) (inside : Bool) (text : List ℕ) (s : Progress)
    → closes (word_closer inside) text s.at ≡ true → s ≡ trailing l inside text s
unfolding trailing
trails_nothing l inside text s h = simp h

-- where a command goes on, a word begins
pub word_opens : (inside : Bool) (text : List ℕ) (at : ℕ) → is_blank text at ≡ false
    → ends_command inside text at ≡ false → closes (word_closer inside) text at ≡ false
unfolding closes ends_command ends_script separates
word_opens false text at h e = grind (arith, nat_tests)
word_opens true text at h e = grind (arith, nat_tests)

-- where a script goes on, a command begins
pub command_opens : (inside : Bool) (text : List ℕ) (at : ℕ) → in_gap text at ≡ false
    → ends_script inside text at ≡ false → ends_command inside text at ≡ false
unfolding ends_command in_gap separates
command_opens inside text at h e = grind (arith, nat_tests)

pub no_blanks : (text : List ℕ) (at : ℕ) → in_gap text at ≡ false → blanks_end text at ≡ at
unfolding blanks_end in_gap separates
no_blanks text at h =
    let b : is_blank text at ≡ false = grind (arith, nat_tests) in skip_stop _ _ (turns text) at b

pub quoted_read : (l : Level) (text : List ℕ) (s s1 s2 : Progress) (ps : Parts)
    → parts l Quote text (to (s.at + 1) s) ≡ (ps, s1) → s2 ≡ closed 34 (MissingQuote s.at) text s1
    → read_quoted l text s
    ≡ (finished text (from_to s.at s2.at) Quoted (from_to (s.at + 1) s1.at) ps, s2)
quoted_read l text s s1 s2 ps e c =
    ap (λ r. (
      finished text (from_to s.at (closed 34 (MissingQuote s.at) text r.1).at) Quoted
          (from_to (s.at + 1) r.1.at) r.0,
      closed 34 (MissingQuote s.at) text r.1,
    )) e
    ∙ ap (λ x. (finished text (from_to s.at x.at) Quoted (from_to (s.at + 1) s1.at) ps, x)) (sym c)

pub command_read : (l : Level) (inside : Bool) (text : List ℕ) (s s2 : Progress) (ws : Words)
    → words l inside text s ≡ (ws, s2)
    → read_command l inside text s ≡ (command (from_to s.at s2.at) ws, s2)
unfolding read_command
command_read l inside text s s2 ws e = ap (λ r. (command (from_to s.at r.1.at) r.0, r.1)) e
