-- What the readers of one depth after another give without a fault is spelled so.
use Rattle.std.proofs.Common.{◌≡◌, ◌⊎◌, inl, inr, ℕ, zero, suc, ◌+◌, ◌-◌, List, true, false, None}
use Rattle.std.proofs.Common.{Option, Some}
use Rattle.std.proofs.Common.{cond, refl, sym, ap, ◌∙◌, subst, arith}
use Rattle.std.proofs.lemmas.Bool.Decides.{nat_tests}
use Rattle.std.specs.Prelude.{◌==◌, slice_range}
use Rattle.tcl_words.specs.Deep.{deep_end}
use Rattle.tcl_words.specs.Faults.{noted, to}
use Rattle.tcl_words.specs.Finish.{is_literal, raw_of, filled}
use Rattle.tcl_words.specs.Grammar.{empty_part, SpellsParts, SpellsCommands}
use Rattle.tcl_words.specs.Places.{closes}
use Rattle.tcl_words.specs.Reading.{passed, passed_by, roomed, read_braced, read_name, parts, commands}
use Rattle.tcl_words.specs.Reading.{read_bracket, read_quoted, read_index, level}
use Rattle.tcl_words.specs.Skips.{turns, brace_end, gap_end}
use Rattle.tcl_words.specs.Tree.{Parts, no_parts, and_part}
use Rattle.tcl_words.specs.Values.{braces}
use Rattle.tcl_words.specs.declared.deep.Inside.{Inside}
use Rattle.tcl_words.specs.declared.deep.Inside.TheVariants as inside
use Rattle.tcl_words.specs.declared.parse_fault.Fault.{Fault}
use Rattle.tcl_words.specs.declared.parse_fault.Fault.TheVariants.{MissingBrace, MissingQuote}
use Rattle.tcl_words.specs.declared.parse_fault.Fault.TheVariants.{MissingBracket, TooDeep}
use Rattle.tcl_words.specs.declared.places.Closer.TheVariants.{Quote, Paren}
use Rattle.tcl_words.specs.declared.progress.Progress.{Progress}
use Rattle.tcl_words.specs.declared.script.Form.{Form}
use Rattle.tcl_words.specs.declared.script.Form.TheVariants.{Bare, Quoted, Braced}
use Rattle.tcl_words.proofs.SoundWords.{BracketAt, IndexAt, WordAt, NameAt, SoundLevel}
use Rattle.tcl_words.proofs.SoundWords.{closed_sound, parts_sound, commands_sound}
use Rattle.tcl_words.proofs.Sound.{Reads, IsSound, SomeBraces, noted_stays, braces_sound}

-- an opener past the room is a fault
passed_by_not : (end : Option ℕ) (unclosed : Fault) (start : ℕ) (text : List ℕ) (s : Progress)
    → (passed_by end unclosed start text s).fault ≡ None → ⊥
passed_by_not (Some end) unclosed start text s h = noted_stays (TooDeep start) s h
passed_by_not None unclosed start text s h = noted_stays unclosed s h

pub passed_not : (first : Inside) (unclosed : Fault) (start : ℕ) (text : List ℕ) (s : Progress)
    → (passed first unclosed start text s).fault ≡ None → ⊥
unfolding passed
passed_not first unclosed start text s h =
    passed_by_not (deep_end text first (start + 1)) unclosed start text s h

is_more : (d : ℕ) → (suc d == 0) ≡ false
is_more d = grind (arith, nat_tests)

has_room : (d at : ℕ) (s : Progress) → roomed (suc d) at s ≡ s
has_room d at s = ap (λ b. cond b (noted (TooDeep at) s) s) (is_more d)

pub raw_filled : (f : Form) (inner : List ℕ) (at : ℕ) (ps : Parts)
    → raw_of f inner ps ≡ raw_of f inner (filled at ps)
unfolding is_literal
raw_filled Bare inner at no_parts = refl
raw_filled Bare inner at (and_part p ps) = refl
raw_filled Quoted inner at no_parts = refl
raw_filled Quoted inner at (and_part p ps) = refl
raw_filled Braced inner at ps = refl

pub inside_filled : (room : ℕ) (text : List ℕ) (at close : ℕ) (ps : Parts)
    → SpellsParts room Quote text at ps close
    → (closes Quote text at ≡ true) × (at ≡ close) × (filled at ps ≡ empty_part at)
    ⊎ (closes Quote text at ≡ false) × SpellsParts room Quote text at (filled at ps) close
inside_filled room text at close no_parts is = inl (is.0, is.1, refl)
inside_filled room text at close (and_part p ps) is = inr (is.1, is)

module _ (text : List ℕ) (d : ℕ) (sound : SoundLevel text d (level d)) where
  bracket_below : IsSound (BracketAt (suc d) text) (read_bracket (level d) text)
  bracket_below s h =
      let r = commands (level d) true text (to (s.at + 1) s) in
      let last = closed_sound 93 (MissingBracket s.at) text (to (gap_end text r.1.at) r.1) h in
      let is = commands_sound text d (level d) sound true (to (s.at + 1) s) last.quiet in
      record {
        quiet = is.quiet;
        stands_so = record {
          below = d;
          close = gap_end text r.1.at;
          has_room = refl;
          inside = (r.1.at, refl, is.stands_so);
          is_closed = last.is_closed;
          end_is = last.end_is;
        };
      }

  index_below : IsSound (IndexAt (suc d) text) (read_index (level d) text)
  index_below s h =
      let r = parts (level d) Paren text (to (s.at + 1) s) in
      let last = closed_sound 41 (MissingBracket s.at) text r.1 h in
      let is = parts_sound text d (level d) sound Paren (to (s.at + 1) s) last.quiet in
      record {
        quiet = is.quiet;
        stands_so = record {
          below = d;
          close = r.1.at;
          has_room = refl;
          inside = is.stands_so;
          is_closed = last.is_closed;
          end_is = last.end_is;
        };
      }

  quoted_below : IsSound (WordAt 34 (suc d) text) (read_quoted (level d) text)
  quoted_below s h =
      let r = parts (level d) Quote text (to (s.at + 1) s) in
      let last = closed_sound 34 (MissingQuote s.at) text r.1 h in
      let is = parts_sound text d (level d) sound Quote (to (s.at + 1) s) last.quiet in
      record {
        quiet = is.quiet;
        stands_so = λ inside opens ends. (
          opens,
          ends,
          record {
            below = d;
            close = r.1.at;
            has_room = refl;
            inside = inside_filled d text (s.at + 1) r.1.at r.0 is.stands_so;
            is_closed = last.is_closed;
            end_is = last.end_is;
          },
          record {
            span_is = refl;
            inner_is = refl;
            raw_is = raw_filled Quoted (slice_range text (s.at + 1) r.1.at) (s.at + 1) r.0;
          },
        );
      }

braced_below : (text : List ℕ) (d : ℕ) → IsSound (WordAt 123 (suc d) text) (read_braced (suc d) text)
unfolding read_braced
braced_below text d s h =
    let start = to (s.at + 1) (roomed (suc d) s.at s) in
    let r = braces (suc d - 1) text (turns text) 0 start in
    let last = closed_sound 125 (MissingBrace s.at) text r.1 h in
    let is = braces_sound (suc d - 1) text (turns text) 0 start last.quiet in
    let less : suc d - 1 ≡ d = omega arith in
    let here : SomeBraces d text 0 (s.at + 1) r.0 r.1.at =
    subst (λ k. SomeBraces k text 0 (s.at + 1) r.0 r.1.at) less is.stands_so in
    record {
      quiet = sym (ap (λ x. x.fault) (has_room d s.at s)) ∙ is.quiet;
      stands_so = λ inside opens ends. (
        opens,
        ends,
        record {
          below = d;
          close = r.1.at;
          has_room = refl;
          inside = (here.0, r.0, here.1, refl);
          is_closed = last.is_closed;
          end_is = last.end_is;
        },
        record { span_is = refl; inner_is = refl; raw_is = refl },
      );
    }

braced_deepest : (text : List ℕ) → IsSound (WordAt 123 0 text) (read_braced 0 text)
unfolding read_braced
braced_deepest text s h =
    let start = to (s.at + 1) (roomed 0 s.at s) in
    let last = closed_sound 125 (MissingBrace s.at) text _ h in
    let is = braces_sound (0 - 1) text (turns text) 0 start last.quiet in
    absurd (noted_stays (TooDeep s.at) s is.quiet)

name_below : (text : List ℕ) (d : ℕ) → IsSound (NameAt (suc d) text) (read_name (suc d) text)
unfolding read_name
name_below text d s h =
    let end = brace_end text (s.at + 2) in
    let last = closed_sound 125 (MissingBrace (s.at + 1)) text (to end (roomed (suc d) (s.at + 1) s)) h in
    record {
      quiet = sym (ap (λ x. x.fault) (has_room d (s.at + 1) s)) ∙ last.quiet;
      stands_so = λ c opens. (
        refl,
        inr (record {
          opens = opens;
          enclosed = record {
            below = d;
            close = end;
            has_room = refl;
            inside = (refl, refl);
            is_closed = last.is_closed;
            end_is = last.end_is;
          };
        }),
      );
    }

name_deepest : (text : List ℕ) → IsSound (NameAt 0 text) (read_name 0 text)
unfolding read_name
name_deepest text s h =
    let end = brace_end text (s.at + 2) in
    let last = closed_sound 125 (MissingBrace (s.at + 1)) text (to end (roomed 0 (s.at + 1) s)) h in
    absurd (noted_stays (TooDeep (s.at + 1)) s last.quiet)

pub level_sound : (text : List ℕ) (d : ℕ) → SoundLevel text d (level d)
unfolding level
level_sound text zero = record {
  bracket_is = λ s h. absurd (passed_not inside.Gap (MissingBracket s.at) s.at text s h);
  quoted_is = λ s h. absurd (passed_not inside.Quote (MissingQuote s.at) s.at text s h);
  braced_is = braced_deepest text;
  name_is = name_deepest text;
  index_is = λ s h. absurd (passed_not inside.Paren (MissingBracket s.at) s.at text s h);
}
level_sound text (suc d) =
    let below = level_sound text d in
    record {
      bracket_is = bracket_below text d below;
      quoted_is = quoted_below text d below;
      braced_is = braced_below text d;
      name_is = name_below text d;
      index_is = index_below text d below;
    }

pub script_sound : (text : List ℕ) (s : Progress)
    → (commands (level 100) false text s).1.fault ≡ None
    → Reads (SpellsCommands 100 false text) s (commands (level 100) false text s)
script_sound text s h = commands_sound text 100 (level 100) (level_sound text 100) false s h
