-- Parts, words and commands that are spelled are read.
use Rattle.std.proofs.Common.{◌≡◌, ℕ, ◌+◌, ◌-◌, ◌<◌, List, [], length, Bool, true, false, sym, ap}
use Rattle.std.proofs.Common.{◌∙◌, arith}
use Rattle.std.proofs.lemmas.Bool.Decides.{nat_tests}
use Rattle.tcl_words.specs.Faults.{to}
use Rattle.tcl_words.specs.Grammar.{SpellsPart, SpellsParts, SpellsWord, SpellsWords, SpellsCommand}
use Rattle.tcl_words.specs.Grammar.{SpellsCommands}
use Rattle.tcl_words.specs.Places.{closes, word_closer, ends_script, ends_command}
use Rattle.tcl_words.specs.Reading.{read_part, read_word, read_command, commands, level}
use Rattle.tcl_words.specs.Skips.{turns, blanks_end, gap_end}
use Rattle.tcl_words.specs.Tree.{Part, plain, variable, element, bracket, Parts, no_parts, and_part}
use Rattle.tcl_words.specs.Tree.{Word, word, Words, no_words, and_word, Command, command, Commands}
use Rattle.tcl_words.specs.Tree.{no_commands, and_command}
use Rattle.tcl_words.specs.Values.{many}
use Rattle.tcl_words.specs.declared.places.Closer.{Closer}
use Rattle.tcl_words.specs.declared.places.Closer.TheVariants.{Quote, Paren}
use Rattle.tcl_words.specs.declared.script.Form.TheVariants.{Bare, Quoted, Braced}
use Rattle.tcl_words.proofs.CompletePieces.{variable_read, braced_read, parts_from, words_from}
use Rattle.tcl_words.proofs.CompletePieces.{commands_from, plain_read, element_read, bracket_read}
use Rattle.tcl_words.proofs.CompletePieces.{in_quotes, quoted_word, bare_word}
use Rattle.tcl_words.proofs.Complete.{clean, Enough, all_turns, one_less, many_goes, not_quote}
use Rattle.tcl_words.proofs.Further.{part_on, word_on, command_moves}
use Rattle.tcl_words.proofs.Levels.{level_braced, closes_within, word_braced, trails_nothing}
use Rattle.tcl_words.proofs.Levels.{word_opens, command_read}
use Rattle.tcl_words.proofs.Many.{many_stops}
use Rattle.tcl_words.proofs.Onward.{blanks_on, blanks_stop, gap_on}
use Rattle.tcl_words.proofs.SoundWords.{some_parts}

script_within : (inside : Bool) (text : List ℕ) (at : ℕ) → ends_script inside text at ≡ false
    → at < length text
unfolding ends_script
script_within inside text at h = grind (arith, nat_tests)

mutual
  pub part_complete : (room : ℕ) (c : Closer) (text : List ℕ) (at : ℕ) (p : Part) (end : ℕ)
      → SpellsPart room c text at p end
      → read_part (level room) c text (clean at) ≡ (p, clean end)
  part_complete room c text at (plain span bytes) end is =
      plain_read room c text at span bytes end is
  part_complete room c text at (variable span name) end is =
      variable_read room c text at span name end is.0 is.1
  part_complete room c text at (element span name index) end is =
      let e = is.4 in
      element_read room c text at is.0 span name index e.below e.close end is.1 is.2 is.3 e.has_room
      e.is_closed e.end_is
      (parts_from e.below Paren text (clean (is.0 + 1)) (index, clean e.close)
      (parts_turns e.below Paren text (is.0 + 1) index e.close (turns text) e.inside
      (all_turns text (is.0 + 1))))
  part_complete room c text at (bracket span script) end is =
      let e = is.2 in
      let last = e.inside.0 in
      bracket_read room c text at last span script e.below e.close end is.0 is.1 e.has_room
      e.inside.1 e.is_closed e.end_is
      (commands_from e.below true text (clean (at + 1)) (script, clean last)
      (commands_turns e.below true text (at + 1) script last (turns text) e.inside.2
      (all_turns text (at + 1))))

  pub parts_turns : (room : ℕ) (c : Closer) (text : List ℕ) (at : ℕ) (ps : Parts) (end n : ℕ)
      → SpellsParts room c text at ps end → Enough text n at
      → many (λ s. s) (λ s. closes c text s.at) (read_part (level room) c text) and_part no_parts n
      (clean at) ≡ (ps, clean end)
  parts_turns room c text at no_parts end n is enough =
      many_stops (λ s. s) (λ s. closes c text s.at) (read_part (level room) c text) and_part no_parts
      [] n (clean at) enough.some is.0
      ∙ ap (λ k. (no_parts, clean k)) is.1
  parts_turns room c text at (and_part p ps) end n is enough =
      let mid = is.0 in
      let here = closes_within c text at is.1 in
      many_goes (λ s. s) (λ s. closes c text s.at) (read_part (level room) c text) and_part no_parts n
      (clean at) (clean mid) (clean end) p ps enough.some is.1
      (part_complete room c text at p mid is.2)
      (parts_turns room c text mid ps end (n - 1) is.3
      (one_less text n at mid here (part_on room c text at p mid is.1 is.2) enough))

  pub word_complete : (room : ℕ) (inside : Bool) (text : List ℕ) (at : ℕ) (w : Word) (end : ℕ)
      → closes (word_closer inside) text at ≡ false → SpellsWord room inside text at w end
      → read_word (level room) inside text (clean at) ≡ (w, clean end)
  word_complete room inside text at (word span Bare inner raw ps) end goes is =
      bare_word room inside text at end span inner raw ps is.0 is.1
      (some_parts room (word_closer inside) text at end ps goes is.2) is.3
      (parts_from room (word_closer inside) text (clean at) (ps, clean end)
      (parts_turns room (word_closer inside) text at ps end (turns text) is.2
      (all_turns text at)))
  word_complete room inside text at (word span Quoted inner raw ps) end goes is =
      let e = is.2 in
      quoted_word room inside text at end e.below e.close span inner raw ps is.0 is.1 e.has_room
      e.is_closed e.end_is
      (in_quotes e.below text (at + 1) e.close ps e.inside
      (λ q. parts_from e.below Quote text (clean (at + 1)) (ps, clean e.close)
      (parts_turns e.below Quote text (at + 1) ps e.close (turns text) q
      (all_turns text (at + 1)))))
      is.3
  word_complete room inside text at (word span Braced inner raw ps) end goes is =
      word_braced (level room) inside text (clean at) (clean end) (clean end)
      (word span Braced inner raw ps) (not_quote text at is.0) is.0
      (level_braced room text (clean at)
      ∙ braced_read room text at end span inner raw ps is.2 is.3)
      (trails_nothing (level room) inside text (clean end) is.1)

  pub words_turns : (room : ℕ) (inside : Bool) (text : List ℕ) (at : ℕ) (ws : Words) (end n : ℕ)
      → SpellsWords room inside text at ws end → Enough text n at
      → many (λ s. to (blanks_end text s.at) s) (λ s. ends_command inside text s.at)
      (read_word (level room) inside text) and_word no_words n (clean at) ≡ (ws, clean end)
  words_turns room inside text at no_words end n is enough =
      many_stops (λ s. to (blanks_end text s.at) s) (λ s. ends_command inside text s.at)
      (read_word (level room) inside text) and_word no_words [] n (clean at) enough.some is.0
      ∙ ap (λ k. (no_words, clean k)) is.1
  words_turns room inside text at (and_word w ws) end n is enough =
      let mid = is.0 in
      let start = blanks_end text at in
      let blanks = blanks_on text at in
      let goes = word_opens inside text start (blanks_stop text at) is.1 in
      let here = closes_within (word_closer inside) text start goes in
      let on = word_on room inside text start w mid goes is.2 in
      many_goes (λ s. to (blanks_end text s.at) s) (λ s. ends_command inside text s.at)
      (read_word (level room) inside text) and_word no_words n (clean at) (clean mid) (clean end) w ws
      enough.some is.1 (word_complete room inside text start w mid goes is.2)
      (words_turns room inside text mid ws end (n - 1) is.3
      (one_less text n at mid (omega (arith, blanks, here)) (omega (arith, blanks, on)) enough))

  pub command_complete : (room : ℕ) (inside : Bool) (text : List ℕ) (at : ℕ) (c : Command) (end : ℕ)
      → SpellsCommand room inside text at c end
      → read_command (level room) inside text (clean at) ≡ (c, clean end)
  command_complete room inside text at (command span ws) end is =
      command_read (level room) inside text (clean at) (clean end) ws
      (words_from room inside text (clean at) (ws, clean end)
      (words_turns room inside text at ws end (turns text) is.1 (all_turns text at)))
      ∙ ap (λ x. (command x ws, clean end)) (sym is.0)

  pub commands_turns : (room : ℕ) (inside : Bool) (text : List ℕ) (at : ℕ) (cs : Commands) (end n : ℕ)
      → SpellsCommands room inside text at cs end → Enough text n at
      → many (λ s. to (gap_end text s.at) s) (λ s. ends_script inside text s.at)
      (read_command (level room) inside text) and_command no_commands n (clean at)
      ≡ (cs, clean end)
  commands_turns room inside text at no_commands end n is enough =
      many_stops (λ s. to (gap_end text s.at) s) (λ s. ends_script inside text s.at)
      (read_command (level room) inside text) and_command no_commands [] n (clean at) enough.some
      is.0
      ∙ ap (λ k. (no_commands, clean k)) is.1
  commands_turns room inside text at (and_command c cs) end n is enough =
      let mid = is.0 in
      let start = gap_end text at in
      let gap = gap_on text at in
      let here = script_within inside text start is.1 in
      let on = command_moves room inside text at c mid is.1 is.2 in
      many_goes (λ s. to (gap_end text s.at) s) (λ s. ends_script inside text s.at)
      (read_command (level room) inside text) and_command no_commands n (clean at) (clean mid)
      (clean end) c cs enough.some is.1 (command_complete room inside text start c mid is.2)
      (commands_turns room inside text mid cs end (n - 1) is.3
      (one_less text n at mid (omega (arith, gap, here)) (omega (arith, gap, on)) enough))

pub script_complete : (text : List ℕ) (tree : Commands) (end : ℕ)
    → SpellsCommands 100 false text 0 tree end
    → commands (level 100) false text (clean 0) ≡ (tree, clean end)
script_complete text tree end is =
    commands_from 100 false text (clean 0) (tree, clean end)
    (commands_turns 100 false text 0 tree end (turns text) is (all_turns text 0))
