-- What the readers of parts, words and commands give without a fault is spelled so.
use Rattle.std.proofs.Common.{◌≡◌, inl, ℕ, ◌+◌, List, Bool, true, false, None, cond, refl, sym, ap}
use Rattle.std.proofs.Common.{◌∙◌, subst, arith}
use Rattle.std.specs.Prelude.{slice_range}
use Rattle.tcl_words.specs.Faults.{noted, to, closed}
use Rattle.tcl_words.specs.Finish.{raw_of, filled}
use Rattle.tcl_words.specs.Grammar.{Enclosed, SpellsPart, SpellsParts, SpellsWord, SpellsWords}
use Rattle.tcl_words.specs.Grammar.{SpellsCommand, SpellsCommands}
use Rattle.tcl_words.specs.Places.{stands, opens_name, starts_variable, closes, word_closer}
use Rattle.tcl_words.specs.Places.{ends_script, ends_command}
use Rattle.tcl_words.specs.Reading.{Level, named, read_variable, read_part, parts, trailing, bare}
use Rattle.tcl_words.specs.Reading.{enclosed, read_word, words, read_command, commands}
use Rattle.tcl_words.specs.Skips.{turns, name_end, blanks_end, gap_end}
use Rattle.tcl_words.specs.Tree.{Part, plain, variable, element, bracket, Parts, no_parts, and_part}
use Rattle.tcl_words.specs.Tree.{Word, and_word, no_words, Commands, and_command, no_commands}
use Rattle.tcl_words.specs.Tree.{from_to}
use Rattle.tcl_words.specs.Values.{Read, run}
use Rattle.tcl_words.specs.declared.parse_fault.Fault.{Fault}
use Rattle.tcl_words.specs.declared.parse_fault.Fault.TheVariants.{ExtraAfter}
use Rattle.tcl_words.specs.declared.places.Closer.{Closer}
use Rattle.tcl_words.specs.declared.places.Closer.TheVariants.{Paren}
use Rattle.tcl_words.specs.declared.progress.Progress.{Progress}
use Rattle.tcl_words.specs.declared.script.Form.TheVariants.{Bare}
use Rattle.tcl_words.proofs.Levels.{word_opens}
use Rattle.tcl_words.proofs.Onward.{blanks_stop}
use Rattle.tcl_words.proofs.Sound.{Reads, IsSound, noted_stays, many_sound, run_sound}

-- the construct's last byte was there
pub record IsClosed (b : ℕ) (text : List ℕ) (s last : Progress) : Type 0 where
  pub quiet : s.fault ≡ None
  pub is_closed : stands text s.at b ≡ true
  pub end_is : last.at ≡ s.at + 1

closed_by : (b : ℕ) (f : Fault) (text : List ℕ) (s : Progress) (t : Bool) → stands text s.at b ≡ t
    → (cond t (to (s.at + 1) s) (noted f s)).fault ≡ None
    → IsClosed b text s (cond t (to (s.at + 1) s) (noted f s))
closed_by b f text s true e h = record { quiet = h; is_closed = e; end_is = refl }
closed_by b f text s false e h = absurd (noted_stays f s h)

pub closed_sound : (b : ℕ) (f : Fault) (text : List ℕ) (s : Progress)
    → (closed b f text s).fault ≡ None → IsClosed b text s (closed b f text s)
unfolding closed
closed_sound b f text s h = closed_by b f text s (stands text s.at b) refl h

-- what a bracket, an index, a word with an opener or a name in braces is
abbrev pub BracketAt : ℕ → List ℕ → ℕ → Commands → ℕ → Type 0
BracketAt room text at script end =
    Enclosed room (λ below close. (last : ℕ) × (close ≡ gap_end text last)
    × SpellsCommands below true text (at + 1) script last) text 93 end

abbrev pub IndexAt : ℕ → List ℕ → ℕ → Parts → ℕ → Type 0
IndexAt room text at index end =
    Enclosed room (λ below close. SpellsParts below Paren text (at + 1) index close) text 41 end

abbrev pub WordAt : ℕ → ℕ → List ℕ → ℕ → Word → ℕ → Type 0
WordAt opener room text at w end =
    (inside : Bool) → stands text at opener ≡ true → closes (word_closer inside) text end ≡ true
    → SpellsWord room inside text at w end

abbrev pub NameAt : ℕ → List ℕ → ℕ → Part → ℕ → Type 0
NameAt room text at p end =
    (c : Closer) → opens_name text at ≡ true → SpellsPart room c text at p end

pub record SoundLevel (text : List ℕ) (room : ℕ) (l : Level) : Type 0 where
  pub bracket_is : IsSound (BracketAt room text) (l.bracket text)
  pub quoted_is : IsSound (WordAt 34 room text) (l.quoted text)
  pub braced_is : IsSound (WordAt 123 room text) (l.braced text)
  pub name_is : IsSound (NameAt room text) (l.name text)
  pub index_is : IsSound (IndexAt room text) (l.index text)

-- parts that don't end at once are some
pub some_parts : (room : ℕ) (c : Closer) (text : List ℕ) (at end : ℕ) (ps : Parts)
    → closes c text at ≡ false → SpellsParts room c text at ps end → ps ≡ filled at ps
some_parts room c text at end no_parts e is = absurd (false_true (sym e ∙ is.0)) where
  false_true : false ≡ true → ⊥
  false_true h = grind arith
some_parts room c text at end (and_part p ps) e is = refl

module _ (text : List ℕ) (room : ℕ) (l : Level) (sound : SoundLevel text room l) where
  abbrev element_part : Progress → ℕ → Read Part
  element_part s end =
      let i = l.index text (to end s) in
      (element (from_to s.at i.1.at) (slice_range text (s.at + 1) end) i.0, i.1)

  abbrev variable_part : Progress → ℕ → Read Part
  variable_part s end =
      (variable (from_to s.at end) (slice_range text (s.at + 1) end), to end s)

  named_by : (c : Closer) (s : Progress) (end : ℕ) (t : Bool) → opens_name text s.at ≡ false
      → starts_variable text s.at ≡ true → end ≡ name_end text (s.at + 1) → stands text end 40 ≡ t
      → (cond t (element_part s end) (variable_part s end)).1.fault ≡ None
      → Reads (SpellsPart room c text) s (cond t (element_part s end) (variable_part s end))
  named_by c s end true o v n e h =
      let i = sound.index_is (to end s) h in
      record {
        quiet = i.quiet;
        stands_so = (
          end,
          refl,
          record { starts = v; unbraced = o; end_is = n; name_is = refl },
          e,
          i.stands_so,
        );
      }
  named_by c s end false o v n e h = record {
    quiet = h;
    stands_so = (
      refl,
      inl (record {
        named = record { starts = v; unbraced = o; end_is = n; name_is = refl };
        no_index = e;
      }),
    );
  }

  pub variable_sound : (c : Closer) (s : Progress) → opens_name text s.at ≡ false
      → starts_variable text s.at ≡ true → (read_variable l text s).1.fault ≡ None
      → Reads (SpellsPart room c text) s (read_variable l text s)
  unfolding read_variable named
  variable_sound c s o v h =
      let end = name_end text (s.at + 1) in named_by c s end (stands text end 40) o v refl refl h

  -- a bracket, as a part
  abbrev bracket_part : Progress → Read Part
  bracket_part s =
      let b = l.bracket text s in (bracket (from_to s.at b.1.at) b.0, b.1)

  abbrev plain_part : Closer → Progress → Read Part
  plain_part c s = let r = run c text s in (plain (from_to s.at r.1.at) r.0, r.1)

  part_by : (c : Closer) (s : Progress) (b o v : Bool) → stands text s.at 91 ≡ b
      → opens_name text s.at ≡ o → starts_variable text s.at ≡ v
      → (cond b (bracket_part s) (cond o (l.name text s)
      (cond v (read_variable l text s) (plain_part c s)))).1.fault ≡ None
      → Reads (SpellsPart room c text) s (cond b (bracket_part s) (cond o (l.name text s)
      (cond v (read_variable l text s) (plain_part c s))))
  part_by c s true o v eb eo ev h =
      let r = sound.bracket_is s h in
      record { quiet = r.quiet; stands_so = (refl, eb, r.stands_so) }
  part_by c s false true v eb eo ev h =
      let r = sound.name_is s h in record { quiet = r.quiet; stands_so = r.stands_so c eo }
  part_by c s false false true eb eo ev h = variable_sound c s eo ev h
  part_by c s false false false eb eo ev h =
      let r = run_sound c text s h in
      record { quiet = r.quiet; stands_so = (refl, eb, ev, r.stands_so) }

  part_sound : (c : Closer) → IsSound (SpellsPart room c text) (read_part l c text)
  unfolding read_part
  part_sound c s h =
      part_by c s (stands text s.at 91) (opens_name text s.at) (starts_variable text s.at) refl refl
      refl h

  pub parts_sound : (c : Closer) → IsSound (SpellsParts room c text) (parts l c text)
  unfolding parts
  parts_sound c =
      many_sound (λ s. s) (λ s. closes c text s.at) (read_part l c text) and_part no_parts
      (SpellsPart room c text) (SpellsParts room c text) (λ s. refl) (λ s e. part_sound c s)
      (λ s e. (e, refl)) (λ s p ps mid end e here more. (mid, e, here, more)) (turns text)

  -- nothing follows a closed word
  pub record Trails (inside : Bool) (s last : Progress) : Type 0 where
    pub quiet : s.fault ≡ None
    pub ends_word : closes (word_closer inside) text s.at ≡ true
    pub stays : s ≡ last

  trails_by : (inside : Bool) (s : Progress) (t : Bool)
      → closes (word_closer inside) text s.at ≡ t
      → (cond t s (parts l (word_closer inside) text (noted (ExtraAfter s.at) s)).1).fault ≡ None
      → Trails inside s (cond t s (parts l (word_closer inside) text (noted (ExtraAfter s.at) s)).1)
  trails_by inside s true e h = record { quiet = h; ends_word = e; stays = refl }
  trails_by inside s false e h =
      absurd (noted_stays (ExtraAfter s.at) s
      (parts_sound (word_closer inside) (noted (ExtraAfter s.at) s) h).quiet)

  trailing_sound : (inside : Bool) (s : Progress) → (trailing l inside text s).fault ≡ None
      → Trails inside s (trailing l inside text s)
  unfolding trailing
  trailing_sound inside s h = trails_by inside s (closes (word_closer inside) text s.at) refl h

  enclosed_sound : (opener : ℕ) (inside : Bool) (read : Progress → Read Word) (s : Progress)
      → stands text s.at opener ≡ true → IsSound (WordAt opener room text) read
      → (enclosed l inside text (read s)).1.fault ≡ None
      → Reads (SpellsWord room inside text) s (enclosed l inside text (read s))
  enclosed_sound opener inside read s e is h =
      let t = trailing_sound inside (read s).1 h in
      let w = is s t.quiet in
      record {
        quiet = w.quiet;
        stands_so = subst (λ last. SpellsWord room inside text s.at (read s).0 last.at) t.stays
            (w.stands_so inside e t.ends_word);
      }

  bare_sound : (inside : Bool) (s : Progress) → closes (word_closer inside) text s.at ≡ false
      → stands text s.at 34 ≡ false → stands text s.at 123 ≡ false
      → (parts l (word_closer inside) text s).1.fault ≡ None
      → Reads (SpellsWord room inside text) s
      (bare text s.at (parts l (word_closer inside) text s))
  bare_sound inside s goes q b h =
      let r = parts l (word_closer inside) text s in
      let is = parts_sound (word_closer inside) s h in
      let fills = some_parts room (word_closer inside) text s.at r.1.at r.0 goes is.stands_so in
      record {
        quiet = is.quiet;
        stands_so = (
          q,
          b,
          subst (λ ps. SpellsParts room (word_closer inside) text s.at ps r.1.at) fills is.stands_so,
          record {
            span_is = refl;
            inner_is = refl;
            raw_is = ap (raw_of Bare (slice_range text s.at r.1.at)) fills;
          },
        );
      }

  word_by : (inside : Bool) (s : Progress) (q b : Bool)
      → closes (word_closer inside) text s.at ≡ false → stands text s.at 34 ≡ q
      → stands text s.at 123 ≡ b
      → (cond q (enclosed l inside text (l.quoted text s)) (cond b
      (enclosed l inside text (l.braced text s))
      (bare text s.at (parts l (word_closer inside) text s)))).1.fault ≡ None
      → Reads (SpellsWord room inside text) s
      (cond q (enclosed l inside text (l.quoted text s)) (cond b
      (enclosed l inside text (l.braced text s))
      (bare text s.at (parts l (word_closer inside) text s))))
  word_by inside s true b goes eq eb h =
      enclosed_sound 34 inside (l.quoted text) s eq sound.quoted_is h
  word_by inside s false true goes eq eb h =
      enclosed_sound 123 inside (l.braced text) s eb sound.braced_is h
  word_by inside s false false goes eq eb h = bare_sound inside s goes eq eb h

  word_sound : (inside : Bool) (s : Progress) → closes (word_closer inside) text s.at ≡ false
      → (read_word l inside text s).1.fault ≡ None
      → Reads (SpellsWord room inside text) s (read_word l inside text s)
  unfolding read_word
  word_sound inside s goes h =
      word_by inside s (stands text s.at 34) (stands text s.at 123) goes refl refl h

  words_sound : (inside : Bool) → IsSound (SpellsWords room inside text) (words l inside text)
  unfolding words
  words_sound inside =
      many_sound (λ s. to (blanks_end text s.at) s) (λ s. ends_command inside text s.at)
      (read_word l inside text) and_word no_words (SpellsWord room inside text)
      (SpellsWords room inside text) (λ s. refl)
      (λ s e. word_sound inside (to (blanks_end text s.at) s)
      (word_opens inside text (blanks_end text s.at) (blanks_stop text s.at) e))
      (λ s e. (e, refl)) (λ s w ws mid end e here more. (mid, e, here, more)) (turns text)

  command_sound : (inside : Bool)
      → IsSound (SpellsCommand room inside text) (read_command l inside text)
  unfolding read_command
  command_sound inside s h =
      let is = words_sound inside s h in
      record { quiet = is.quiet; stands_so = (refl, is.stands_so) }

  pub commands_sound : (inside : Bool)
      → IsSound (SpellsCommands room inside text) (commands l inside text)
  unfolding commands
  commands_sound inside =
      many_sound (λ s. to (gap_end text s.at) s) (λ s. ends_script inside text s.at)
      (read_command l inside text) and_command no_commands (SpellsCommand room inside text)
      (SpellsCommands room inside text) (λ s. refl)
      (λ s e. command_sound inside (to (gap_end text s.at) s)) (λ s e. (e, refl))
      (λ s c cs mid end e here more. (mid, e, here, more)) (turns text)
