-- Quotes, braces, brackets and variables that are read without a fault are spelled so.
use Rattle.std.proofs.Common.{◌≡◌, ◌⊎◌, inl, inr, refl, sym, ap, subst, ◌∙◌, ℕ, zero, suc, ◌+◌, ◌-◌}
use Rattle.std.proofs.Common.{List, Bool, true, false, None, arith}
use Rattle.std.specs.Prelude.{◌||◌, ◌&&◌}
use Rattle.tcl_words.specs.Faults.{to}
use Rattle.tcl_words.specs.Finish.{filled}
use Rattle.tcl_words.specs.Grammar.{Enclosed, empty_part, SpellsParts}
use Rattle.tcl_words.specs.Places.{stands, names, opens_name, starts_variable, closes}
use Rattle.tcl_words.specs.Reading.{level, parts, read_braced, read_name, read_variable, read_quoted, roomed}
use Rattle.tcl_words.specs.Skips.{turns}
use Rattle.tcl_words.specs.Values.{braces}
use Rattle.tcl_words.specs.declared.deep.Inside.TheVariants as inside
use Rattle.tcl_words.specs.Tree.{Parts, no_parts, and_part, bracket, from_to}
use Rattle.tcl_words.specs.declared.parse_fault.Fault.TheVariants.{MissingQuote, MissingBrace, TooDeep}
use Rattle.tcl_words.specs.declared.places.Closer.TheVariants.{Quote}
use Rattle.tcl_words.proofs.Sound.{Reads, SomeBraces, noted_stays, braces_sound}
use Rattle.tcl_words.proofs.SoundLevels.{passed_not, inside_filled, level_sound}
use Rattle.tcl_words.proofs.SoundWords.{NameAt, closed_sound, parts_sound}
use Rattle.tcl_words.proofs.SoundWords as words
use Rattle.tcl_expr.specs.ExpressionReading.{from, parts_of_word}
use Rattle.tcl_expr.specs.Grammar.{SpellsQuoted, SpellsBraced, SpellsSubstituted}

-- ---- quotes

quotes_inside : (below : ℕ) (text : List ℕ) (at close : ℕ) (ps : Parts) → SpellsParts below Quote text (at + 1) ps close
    → (closes Quote text (at + 1) ≡ true) × (at + 1 ≡ close) × (filled (at + 1) ps ≡ empty_part (at + 1))
    ⊎ (closes Quote text (at + 1) ≡ false) × SpellsParts below Quote text (at + 1) (filled (at + 1) ps) close
quotes_inside below text at close ps is = inside_filled below text (at + 1) close ps is

below_quoted : (d : ℕ) (text : List ℕ) (at : ℕ) → stands text at 34 ≡ true → (read_quoted (level d) text (from at)).1.fault ≡ None
    → SpellsQuoted (suc d) text at (parts_of_word (read_quoted (level d) text (from at)).0) (read_quoted (level d) text (from at)).1.at
below_quoted d text at opens h =
    let r = parts (level d) Quote text (from (at + 1)) in
    let last = closed_sound 34 (MissingQuote at) text r.1 h in
    let is = parts_sound text d (level d) (level_sound text d) Quote (from (at + 1)) last.quiet in (
      opens,
      record {
        below = d;
        close = r.1.at;
        has_room = refl;
        inside = quotes_inside d text at r.1.at r.0 is.stands_so;
        is_closed = last.is_closed;
        end_is = last.end_is;
      },
    )

pub quoted_sound : (room : ℕ) (text : List ℕ) (at : ℕ) → stands text at 34 ≡ true → ((level room).quoted text (from at)).1.fault ≡ None
    → SpellsQuoted room text at (parts_of_word ((level room).quoted text (from at)).0) ((level room).quoted text (from at)).1.at
unfolding level
quoted_sound zero text at opens h = absurd (passed_not inside.Quote (MissingQuote at) at text (from at) h)
quoted_sound (suc d) text at opens h = below_quoted d text at opens h

-- ---- braces

deepest_braces : (text : List ℕ) (at : ℕ) → (read_braced 0 text (from at)).1.fault ≡ None → ⊥
unfolding read_braced
deepest_braces text at h =
    let start = to (at + 1) (roomed 0 at (from at)) in
    let last = closed_sound 125 (MissingBrace at) text _ h in
    let is = braces_sound (0 - 1) text (turns text) 0 start last.quiet in
    noted_stays (TooDeep at) (from at) is.quiet

below_braced : (d : ℕ) (text : List ℕ) (at : ℕ) → stands text at 123 ≡ true → (read_braced (suc d) text (from at)).1.fault ≡ None
    → SpellsBraced (suc d) text at (parts_of_word (read_braced (suc d) text (from at)).0) (read_braced (suc d) text (from at)).1.at
unfolding read_braced
below_braced d text at opens h =
    let start = to (at + 1) (roomed (suc d) at (from at)) in
    let r = braces (suc d - 1) text (turns text) 0 start in
    let last = closed_sound 125 (MissingBrace at) text r.1 h in
    let is = braces_sound (suc d - 1) text (turns text) 0 start last.quiet in
    let less : suc d - 1 ≡ d = omega arith in
    let here : SomeBraces d text 0 (at + 1) r.0 r.1.at = subst (λ k. SomeBraces k text 0 (at + 1) r.0 r.1.at) less is.stands_so in (
      opens,
      record {
        below = d;
        close = r.1.at;
        has_room = refl;
        inside = (here.0, r.0, here.1, refl);
        is_closed = last.is_closed;
        end_is = last.end_is;
      },
    )

pub braced_sound : (room : ℕ) (text : List ℕ) (at : ℕ) → stands text at 123 ≡ true → (read_braced room text (from at)).1.fault ≡ None
    → SpellsBraced room text at (parts_of_word (read_braced room text (from at)).0) (read_braced room text (from at)).1.at
braced_sound zero text at opens h = absurd (deepest_braces text at h)
braced_sound (suc d) text at opens h = below_braced d text at opens h

-- ---- what is substituted

is_bracket : (text : List ℕ) (at : ℕ) → stands text at 91 ≡ true → (stands text at 91 || starts_variable text at) ≡ true
is_bracket text at e = ap (λ b. b || starts_variable text at) e

is_variable : (b v : Bool) → v ≡ true → (b || v) ≡ true
is_variable true v e = refl
is_variable false v e = e

name_is_variable : (text : List ℕ) (at : ℕ) → opens_name text at ≡ true → starts_variable text at ≡ true
unfolding starts_variable
name_is_variable text at e = ap (λ b. b || (stands text at 36 && names text (at + 1))) e

pub bracket_sound : (room : ℕ) (text : List ℕ) (at : ℕ) → stands text at 91 ≡ true → ((level room).bracket text (from at)).1.fault ≡ None
    → SpellsSubstituted room text at (and_part (bracket (from_to at ((level room).bracket text (from at)).1.at) ((level room).bracket text (from at)).0) no_parts) ((level room).bracket text (from at)).1.at
bracket_sound room text at opens h =
    let r = (level_sound text room).bracket_is (from at) h in (is_bracket text at opens, (refl, opens, r.stands_so))

named_level : (room : ℕ) (text : List ℕ) (at : ℕ) → (read_name room text (from at)).1.fault ≡ None → Reads (NameAt room text) (from at) (read_name room text (from at))
unfolding level
named_level zero text at h = (level_sound text 0).name_is (from at) h
named_level (suc d) text at h = (level_sound text (suc d)).name_is (from at) h

pub name_sound : (room : ℕ) (text : List ℕ) (at : ℕ) → opens_name text at ≡ true → (read_name room text (from at)).1.fault ≡ None
    → SpellsSubstituted room text at (and_part (read_name room text (from at)).0 no_parts) (read_name room text (from at)).1.at
name_sound room text at opens h =
    (is_variable (stands text at 91) (starts_variable text at) (name_is_variable text at opens), (named_level room text at h).stands_so Quote opens)

pub variable_sound : (room : ℕ) (text : List ℕ) (at : ℕ) → opens_name text at ≡ false → starts_variable text at ≡ true → (read_variable (level room) text (from at)).1.fault ≡ None
    → SpellsSubstituted room text at (and_part (read_variable (level room) text (from at)).0 no_parts) (read_variable (level room) text (from at)).1.at
variable_sound room text at unbraced starts h =
    let r = words.variable_sound text room (level room) (level_sound text room) Quote (from at) unbraced starts h in
    (is_variable (stands text at 91) (starts_variable text at) starts, r.stands_so)
