-- Each kind of part and word that is spelled is read, where what stands inside it is.
use Rattle.std.proofs.Common.{◌≡◌, ◌⊎◌, inl, inr, ℕ, suc, ◌+◌, ◌-◌, List, [], Bool, true, false}
use Rattle.std.proofs.Common.{Option, Some, sym, ap, ap₂, ◌∙◌, arith}
use Rattle.std.specs.Prelude.{slice_range}
use Rattle.tcl_words.specs.Faults.{to, closed}
use Rattle.tcl_words.specs.Finish.{raw_of, filled, finished}
use Rattle.tcl_words.specs.Grammar.{Enclosed, SpellsBraces, SpellsName, SpellsVariable}
use Rattle.tcl_words.specs.Grammar.{SpellsBracedName, IsWhole, empty_part, SpellsPart, SpellsParts}
use Rattle.tcl_words.specs.Places.{stands, closes, word_closer, ends_script, ends_command}
use Rattle.tcl_words.specs.Reading.{roomed, read_braced, read_name, read_part, parts, read_word}
use Rattle.tcl_words.specs.Reading.{words, read_command, commands, level}
use Rattle.tcl_words.specs.Skips.{turns, brace_end, blanks_end, gap_end}
use Rattle.tcl_words.specs.Tree.{plain, variable, element, bracket, Parts, no_parts, and_part, word}
use Rattle.tcl_words.specs.Tree.{Words, no_words, and_word, Commands, no_commands, and_command}
use Rattle.tcl_words.specs.Tree.{from_to}
use Rattle.tcl_words.specs.Values.{Read, many, braces}
use Rattle.tcl_words.specs.declared.parse_fault.Fault.TheVariants.{MissingBrace, MissingQuote}
use Rattle.tcl_words.specs.declared.parse_fault.Fault.TheVariants.{MissingBracket}
use Rattle.tcl_words.specs.declared.places.Closer.{Closer}
use Rattle.tcl_words.specs.declared.places.Closer.TheVariants.{Quote, Paren}
use Rattle.tcl_words.specs.declared.progress.Progress.{Progress}
use Rattle.tcl_words.specs.declared.script.Form.{Form}
use Rattle.tcl_words.specs.declared.script.Form.TheVariants.{Bare, Quoted, Braced}
use Rattle.tcl_words.specs.declared.script.Span.{Span}
use Rattle.tcl_words.proofs.Complete.{clean, all_turns, run_read, braces_turns, closes_well}
use Rattle.tcl_words.proofs.Complete.{has_room, bracket_in, quoted_in, index_in, not_bracket}
use Rattle.tcl_words.proofs.Complete.{not_name, name_starts}
use Rattle.tcl_words.proofs.Levels.{level_name, variable_bare, variable_index, part_bracket}
use Rattle.tcl_words.proofs.Levels.{part_name, part_variable, part_plain, word_quoted, word_bare}
use Rattle.tcl_words.proofs.Levels.{trails_nothing, quoted_read}
use Rattle.tcl_words.proofs.Many.{many_stops}
use Rattle.tcl_words.proofs.SoundLevels.{raw_filled}
use Rattle.tcl_words.proofs.SoundWords.{some_parts}

-- words that agree in each piece
pub same_word : (f : Form) (s1 i1 : Span) (r1 : Option (List ℕ)) (p1 : Parts) (s2 i2 : Span) (r2 : Option (List ℕ)) (p2 : Parts)
    → s1 ≡ s2 → i1 ≡ i2 → r1 ≡ r2 → p1 ≡ p2 → word s1 f i1 r1 p1 ≡ word s2 f i2 r2 p2
same_word f s1 i1 r1 p1 s2 i2 r2 p2 s i r p =
    ap₂ (λ x y. word x f y r1 p1) s i ∙ ap₂ (λ x y. word s2 f i2 x y) r p

pub closed_name : (room : ℕ) (text : List ℕ) (at : ℕ) (name : List ℕ) (end : ℕ)
    → SpellsBracedName room text at name end
    → read_name room text (clean at) ≡ (variable (from_to at end) name, clean end)
unfolding read_name
closed_name room text at name end is =
    let e = is.enclosed in
    let stop = brace_end text (at + 2) in
    let last : closed 125 (MissingBrace (at + 1)) text (to stop (roomed room (at + 1) (clean at)))
    ≡ clean end =
    ap (λ s. closed 125 (MissingBrace (at + 1)) text (to stop s))
    (has_room room e.below (at + 1) (clean at) e.has_room)
    ∙ ap (λ k. closed 125 (MissingBrace (at + 1)) text (clean k)) (sym e.inside.0)
    ∙ closes_well 125 (MissingBrace (at + 1)) text e.close end e.is_closed e.end_is in
    ap (λ s. (variable (from_to at s.at) (slice_range text (at + 2) stop), s)) last
    ∙ ap (λ n. (variable (from_to at end) n, clean end))
    (sym (is.enclosed.inside.1 ∙ ap (slice_range text (at + 2)) e.inside.0))

pub variable_read : (room : ℕ) (c : Closer) (text : List ℕ) (at : ℕ) (span : Span) (name : List ℕ) (end : ℕ)
    → span ≡ from_to at end
    → SpellsVariable text at name end ⊎ SpellsBracedName room text at name end
    → read_part (level room) c text (clean at) ≡ (variable span name, clean end)
variable_read room c text at span name end s (inl is) =
    let v = is.named in
    part_variable (level room) c text (clean at) (not_bracket text at v.starts) v.unbraced v.starts
    ∙ variable_bare (level room) text (clean at) end v.end_is is.no_index
    ∙ ap₂ (λ x n. (variable x n, clean end)) (sym s) (sym v.name_is)
variable_read room c text at span name end s (inr is) =
    part_name (level room) c text (clean at)
    (not_bracket text at (name_starts text at is.opens)) is.opens
    ∙ level_name room text (clean at)
    ∙ closed_name room text at name end is
    ∙ ap (λ x. (variable x name, clean end)) (sym s)

pub braced_read : (room : ℕ) (text : List ℕ) (at end : ℕ) (span inner : Span) (raw : Option (List ℕ)) (parts : Parts)
    → (e : Enclosed room (λ below close.
    (n : ℕ) × (bytes : List ℕ) × SpellsBraces n below text 0 (at + 1) bytes close
    × (parts ≡ and_part (plain (from_to (at + 1) close) bytes) no_parts)) text 125 end)
    → IsWhole text Braced at end (at + 1) e.close span inner raw parts
    → read_braced room text (clean at) ≡ (word span Braced inner raw parts, clean end)
unfolding read_braced
braced_read room text at end span inner raw parts e w =
    let bytes = e.inside.1 in
    let less : e.below ≡ room - 1 = omega (arith, e.has_room) in
    let inside : braces (room - 1) text (turns text) 0 (to (at + 1) (roomed room at (clean at)))
    ≡ (bytes, clean e.close) =
    ap₂ (λ r s. braces r text (turns text) 0 (to (at + 1) s)) (sym less)
    (has_room room e.below at (clean at) e.has_room)
    ∙ braces_turns e.inside.0 e.below text 0 (at + 1) bytes e.close (turns text) e.inside.2
    (all_turns text (at + 1)) in
    let last = closes_well 125 (MissingBrace at) text e.close end e.is_closed e.end_is in
    ap (λ r. (
      finished text (from_to at (closed 125 (MissingBrace at) text r.1).at) Braced
          (from_to (at + 1) r.1.at) (and_part (plain (from_to (at + 1) r.1.at) r.0) no_parts),
      closed 125 (MissingBrace at) text r.1,
    )) inside
    ∙ ap (λ s. (
      finished text (from_to at s.at) Braced (from_to (at + 1) e.close)
          (and_part (plain (from_to (at + 1) e.close) bytes) no_parts),
      s,
    )) last
    ∙ ap (λ x. (x, clean end))
    (same_word Braced (from_to at end) (from_to (at + 1) e.close)
    (Some (slice_range text (at + 1) e.close))
    (and_part (plain (from_to (at + 1) e.close) bytes) no_parts) span inner raw parts
    (sym w.span_is) (sym w.inner_is) (sym w.raw_is) (sym e.inside.3))

-- a sequence with all its turns
pub parts_from : (room : ℕ) (c : Closer) (text : List ℕ) (s : Progress) (r : Read Parts)
    → many (λ s. s) (λ s. closes c text s.at) (read_part (level room) c text) and_part no_parts
    (turns text) s ≡ r → parts (level room) c text s ≡ r
unfolding parts
parts_from room c text s r h = h

pub words_from : (room : ℕ) (inside : Bool) (text : List ℕ) (s : Progress) (r : Read Words)
    → many (λ s. to (blanks_end text s.at) s) (λ s. ends_command inside text s.at)
    (read_word (level room) inside text) and_word no_words (turns text) s ≡ r
    → words (level room) inside text s ≡ r
unfolding words
words_from room inside text s r h = h

pub commands_from : (room : ℕ) (inside : Bool) (text : List ℕ) (s : Progress) (r : Read Commands)
    → many (λ s. to (gap_end text s.at) s) (λ s. ends_script inside text s.at)
    (read_command (level room) inside text) and_command no_commands (turns text) s ≡ r
    → commands (level room) inside text s ≡ r
unfolding commands
commands_from room inside text s r h = h

pub plain_read : (room : ℕ) (c : Closer) (text : List ℕ) (at : ℕ) (span : Span) (bytes : List ℕ) (end : ℕ)
    → SpellsPart room c text at (plain span bytes) end
    → read_part (level room) c text (clean at) ≡ (plain span bytes, clean end)
plain_read room c text at span bytes end is =
    part_plain (level room) c text (clean at) (clean end) bytes is.1 (not_name text at is.2) is.2
    (run_read c text at bytes end is.3)
    ∙ ap (λ x. (plain x bytes, clean end)) (sym is.0)

pub element_read : (room : ℕ) (c : Closer) (text : List ℕ) (at open_at : ℕ) (span : Span) (name : List ℕ) (index : Parts) (below close end : ℕ)
    → span ≡ from_to at end → SpellsName text at name open_at → stands text open_at 40 ≡ true
    → room ≡ suc below → stands text close 41 ≡ true → end ≡ close + 1
    → parts (level below) Paren text (clean (open_at + 1)) ≡ (index, clean close)
    → read_part (level room) c text (clean at) ≡ (element span name index, clean end)
element_read room c text at open_at span name index below close end s n o r h e is =
    let inner : (level room).index text (clean open_at) ≡ (index, clean end) =
    index_in room below text (clean open_at) r
    ∙ ap (λ r. (r.0, closed 41 (MissingBracket open_at) text r.1)) is
    ∙ ap (λ x. (index, x)) (closes_well 41 (MissingBracket open_at) text close end h e) in
    part_variable (level room) c text (clean at) (not_bracket text at n.starts) n.unbraced n.starts
    ∙ variable_index (level room) text (clean at) (clean end) open_at index n.end_is o inner
    ∙ ap₂ (λ x m. (element x m index, clean end)) (sym s) (sym n.name_is)

pub bracket_read : (room : ℕ) (c : Closer) (text : List ℕ) (at last : ℕ) (span : Span) (script : Commands) (below close end : ℕ)
    → span ≡ from_to at end → stands text at 91 ≡ true → room ≡ suc below
    → close ≡ gap_end text last → stands text close 93 ≡ true → end ≡ close + 1
    → commands (level below) true text (clean (at + 1)) ≡ (script, clean last)
    → read_part (level room) c text (clean at) ≡ (bracket span script, clean end)
bracket_read room c text at last span script below close end s o r g h e is =
    let missing = MissingBracket at in
    let inner : (level room).bracket text (clean at) ≡ (script, clean end) =
    bracket_in room below text (clean at) r
    ∙ ap (λ r. (r.0, closed 93 missing text (to (gap_end text r.1.at) r.1))) is
    ∙ ap (λ k. (script, closed 93 missing text (clean k))) (sym g)
    ∙ ap (λ x. (script, x)) (closes_well 93 missing text close end h e) in
    part_bracket (level room) c text (clean at) (clean end) script o inner
    ∙ ap (λ x. (bracket x script, clean end)) (sym s)

-- what is read between quotes, before an empty word is given its part
pub record InQuotes (room : ℕ) (text : List ℕ) (at close : ℕ) (ps : Parts) : Type 0 where
  pub bare_parts : Parts
  pub read : parts (level room) Quote text (clean at) ≡ (bare_parts, clean close)
  pub fills : ps ≡ filled at bare_parts

pub in_quotes : (room : ℕ) (text : List ℕ) (at close : ℕ) (ps : Parts)
    → (closes Quote text at ≡ true) × (at ≡ close) × (ps ≡ empty_part at)
    ⊎ (closes Quote text at ≡ false) × SpellsParts room Quote text at ps close
    → (SpellsParts room Quote text at ps close
    → parts (level room) Quote text (clean at) ≡ (ps, clean close))
    → InQuotes room text at close ps
in_quotes room text at close ps (inl is) read = record {
  bare_parts = no_parts;
  read = parts_from room Quote text (clean at) (no_parts, clean close)
      (many_stops (λ s. s) (λ s. closes Quote text s.at) (read_part (level room) Quote text) and_part
      no_parts [] (turns text) (clean at) (omega arith) is.0
      ∙ ap (λ k. (no_parts, clean k)) is.1);
  fills = is.2;
}
in_quotes room text at close ps (inr is) read = record {
  bare_parts = ps;
  read = read is.1;
  fills = some_parts room Quote text at close ps is.0 is.1;
}

pub quoted_word : (room : ℕ) (inside : Bool) (text : List ℕ) (at end below close : ℕ) (span inner : Span) (raw : Option (List ℕ)) (ps : Parts)
    → stands text at 34 ≡ true → closes (word_closer inside) text end ≡ true → room ≡ suc below
    → stands text close 34 ≡ true → end ≡ close + 1 → InQuotes below text (at + 1) close ps
    → IsWhole text Quoted at end (at + 1) close span inner raw ps
    → read_word (level room) inside text (clean at) ≡ (word span Quoted inner raw ps, clean end)
quoted_word room inside text at end below close span inner raw ps o c r h e q w =
    let slice = slice_range text (at + 1) close in
    let raws = w.raw_is ∙ ap (raw_of Quoted slice) q.fills
    ∙ sym (raw_filled Quoted slice (at + 1) q.bare_parts) in
    let read : (level room).quoted text (clean at) ≡ (word span Quoted inner raw ps, clean end) =
    quoted_in room below text (clean at) r
    ∙ quoted_read (level below) text (clean at) (clean close) (clean end) q.bare_parts q.read
    (sym (closes_well 34 (MissingQuote at) text close end h e))
    ∙ ap (λ x. (x, clean end))
    (same_word Quoted (from_to at end) (from_to (at + 1) close)
    (raw_of Quoted slice q.bare_parts) (filled (at + 1) q.bare_parts) span inner raw ps
    (sym w.span_is) (sym w.inner_is) (sym raws) (sym q.fills)) in
    word_quoted (level room) inside text (clean at) (clean end) (clean end)
    (word span Quoted inner raw ps) o read
    (trails_nothing (level room) inside text (clean end) c)

pub bare_word : (room : ℕ) (inside : Bool) (text : List ℕ) (at end : ℕ) (span inner : Span) (raw : Option (List ℕ)) (ps : Parts)
    → stands text at 34 ≡ false → stands text at 123 ≡ false → ps ≡ filled at ps
    → IsWhole text Bare at end at end span inner raw ps
    → parts (level room) (word_closer inside) text (clean at) ≡ (ps, clean end)
    → read_word (level room) inside text (clean at) ≡ (word span Bare inner raw ps, clean end)
bare_word room inside text at end span inner raw ps q b fills w read =
    let slice = slice_range text at end in
    word_bare (level room) inside text (clean at) (clean end) ps q b read
    ∙ ap (λ x. (x, clean end))
    (same_word Bare (from_to at end) (from_to at end) (raw_of Bare slice ps) (filled at ps) span
    inner raw ps (sym w.span_is) (sym w.inner_is) (sym w.raw_is) (sym fills))
