-- What is spelled ends further on.
use Rattle.std.proofs.Common.{◌≡◌, ◌⊎◌, inl, inr, ℕ, zero, suc, ◌+◌, ◌<◌, ◌≤◌, List, [], ◌∷◌, Bool}
use Rattle.std.proofs.Common.{true, false, ap, ◌∙◌, arith}
use Rattle.tcl_words.specs.Escapes.{unit}
use Rattle.tcl_words.specs.Grammar.{SpellsRun, SpellsBraces, SpellsName, SpellsVariable}
use Rattle.tcl_words.specs.Grammar.{SpellsBracedName, empty_part, SpellsPart, SpellsParts}
use Rattle.tcl_words.specs.Grammar.{SpellsWord, SpellsWords, SpellsCommand, SpellsCommands}
use Rattle.tcl_words.specs.Places.{closes, word_closer, ends_run, ends_script, ends_command}
use Rattle.tcl_words.specs.Skips.{blanks_end, gap_end}
use Rattle.tcl_words.specs.Tree.{Part, plain, variable, element, bracket, Parts, no_parts, and_part}
use Rattle.tcl_words.specs.Tree.{Word, word, Words, no_words, and_word, Command, command, Commands}
use Rattle.tcl_words.specs.Tree.{no_commands, and_command}
use Rattle.tcl_words.specs.Values.{inner_after, brace_unit_end}
use Rattle.tcl_words.specs.declared.places.Closer.{Closer}
use Rattle.tcl_words.specs.declared.places.Closer.TheVariants.{Quote, Paren}
use Rattle.tcl_words.specs.declared.script.Form.TheVariants.{Bare, Quoted, Braced}
use Rattle.tcl_words.proofs.Levels.{plain_moves, word_opens, command_opens, no_blanks}
use Rattle.tcl_words.proofs.Onward.{blanks_on, blanks_stop, gap_on, gap_stop, name_on, brace_on}
use Rattle.tcl_words.proofs.Onward.{unit_on, brace_unit_on}

pub both : (b : Bool) → b ≡ true → b ≡ false → ⊥
both b t f = grind arith

unit_moves : (text : List ℕ) (at b mid : ℕ) → unit text at ≡ (b, mid) → at < mid
unit_moves text at b mid e = let on = unit_on text at in rw (← ap (λ u. u.1) e) on

run_on : (c : Closer) (text : List ℕ) (at : ℕ) (bs : List ℕ) (end : ℕ)
    → SpellsRun c text at bs end → at ≤ end
run_on c text at [] end is = omega (arith, is.1)
run_on c text at (b ∷ bs) end is =
    let on = unit_moves text at b is.0 is.2 in
    let more = run_on c text is.0 bs end is.4 in
    omega (arith, on, more)

run_moves : (c : Closer) (text : List ℕ) (at : ℕ) (bs : List ℕ) (end : ℕ)
    → ends_run c text at ≡ false → SpellsRun c text at bs end → at < end
run_moves c text at [] end e is = absurd (both _ is.0 e)
run_moves c text at (b ∷ bs) end e is =
    let on = unit_moves text at b is.0 is.2 in
    let more = run_on c text is.0 bs end is.4 in
    omega (arith, on, more)

pub braces_on : (n room : ℕ) (text : List ℕ) (inner at : ℕ) (bytes : List ℕ) (end : ℕ)
    → SpellsBraces n room text inner at bytes end → at ≤ end
braces_on zero room text inner at bytes end is = omega (arith, is.2)
braces_on (suc n) room text inner at bytes end is =
    let on = brace_unit_on text at in
    let more = braces_on n room text (inner_after text at inner) (brace_unit_end text at) is.0 end
    is.4 in
    omega (arith, on, more)

named_on : (text : List ℕ) (at : ℕ) (name : List ℕ) (end : ℕ) → SpellsName text at name end → at < end
named_on text at name end is = let on = name_on text (at + 1) in omega (arith, on, is.end_is)

variable_on : (room : ℕ) (text : List ℕ) (at : ℕ) (name : List ℕ) (end : ℕ)
    → SpellsVariable text at name end ⊎ SpellsBracedName room text at name end → at < end
variable_on room text at name end (inl is) = named_on text at name end is.named
variable_on room text at name end (inr is) =
    let on = brace_on text (at + 2) in
    omega (arith, on, is.enclosed.inside.0, is.enclosed.end_is)

inside_on : (room : ℕ) (text : List ℕ) (at : ℕ) (ps : Parts) (close : ℕ)
    → (closes Quote text (at + 1) ≡ true) × (at + 1 ≡ close) × (ps ≡ empty_part (at + 1))
    ⊎ (closes Quote text (at + 1) ≡ false) × SpellsParts room Quote text (at + 1) ps close
    → (SpellsParts room Quote text (at + 1) ps close → at + 1 ≤ close) → at < close
inside_on room text at ps close (inl is) on = omega (arith, is.1)
inside_on room text at ps close (inr is) on = let more = on is.1 in omega (arith, more)

mutual
  pub part_on : (room : ℕ) (c : Closer) (text : List ℕ) (at : ℕ) (p : Part) (end : ℕ)
      → closes c text at ≡ false → SpellsPart room c text at p end → at < end
  part_on room c text at (plain span bytes) end e is =
      run_moves c text at bytes end (plain_moves c text at e is.1 is.2) is.3
  part_on room c text at (variable span name) end e is = variable_on room text at name end is.1
  part_on room c text at (element span name index) end e is =
      let i = is.4 in
      let on = named_on text at name is.0 is.2 in
      let more = parts_on i.below Paren text (is.0 + 1) index i.close i.inside in
      omega (arith, on, more, i.end_is)
  part_on room c text at (bracket span script) end e is =
      let b = is.2 in
      let more = commands_on b.below true text (at + 1) script b.inside.0 b.inside.2 in
      let gap = gap_on text b.inside.0 in
      omega (arith, more, gap, b.inside.1, b.end_is)

  pub parts_on : (room : ℕ) (c : Closer) (text : List ℕ) (at : ℕ) (ps : Parts) (end : ℕ)
      → SpellsParts room c text at ps end → at ≤ end
  parts_on room c text at no_parts end is = omega (arith, is.1)
  parts_on room c text at (and_part p ps) end is =
      let on = part_on room c text at p is.0 is.1 is.2 in
      let more = parts_on room c text is.0 ps end is.3 in
      omega (arith, on, more)

  pub word_on : (room : ℕ) (inside : Bool) (text : List ℕ) (at : ℕ) (w : Word) (end : ℕ)
      → closes (word_closer inside) text at ≡ false → SpellsWord room inside text at w end
      → at < end
  word_on room inside text at (word span Bare inner raw no_parts) end e is =
      absurd (both _ is.2.0 e)
  word_on room inside text at (word span Bare inner raw (and_part p ps)) end e is =
      let s = is.2 in
      let on = part_on room (word_closer inside) text at p s.0 e s.2 in
      let more = parts_on room (word_closer inside) text s.0 ps end s.3 in
      omega (arith, on, more)
  word_on room inside text at (word span Quoted inner raw parts) end e is =
      let q = is.2 in
      let more = inside_on q.below text at parts q.close q.inside
      (parts_on q.below Quote text (at + 1) parts q.close) in
      omega (arith, more, q.end_is)
  word_on room inside text at (word span Braced inner raw parts) end e is =
      let b = is.2 in
      let more = braces_on b.inside.0 b.below text 0 (at + 1) b.inside.1 b.close b.inside.2 in
      omega (arith, more, b.end_is)

  pub words_on : (room : ℕ) (inside : Bool) (text : List ℕ) (at : ℕ) (ws : Words) (end : ℕ)
      → SpellsWords room inside text at ws end → at ≤ end
  words_on room inside text at no_words end is = omega (arith, is.1)
  words_on room inside text at (and_word w ws) end is =
      let blanks = blanks_on text at in
      let on = word_on room inside text (blanks_end text at) w is.0
      (word_opens inside text (blanks_end text at) (blanks_stop text at) is.1) is.2 in
      let more = words_on room inside text is.0 ws end is.3 in
      omega (arith, blanks, on, more)

  pub command_on : (room : ℕ) (inside : Bool) (text : List ℕ) (at : ℕ) (c : Command) (end : ℕ)
      → SpellsCommand room inside text at c end → at ≤ end
  command_on room inside text at (command span ws) end is =
      words_on room inside text at ws end is.1

  pub commands_on : (room : ℕ) (inside : Bool) (text : List ℕ) (at : ℕ) (cs : Commands) (end : ℕ)
      → SpellsCommands room inside text at cs end → at ≤ end
  commands_on room inside text at no_commands end is = omega (arith, is.1)
  commands_on room inside text at (and_command c cs) end is =
      let gap = gap_on text at in
      let on = command_on room inside text (gap_end text at) c is.0 is.2 in
      let more = commands_on room inside text is.0 cs end is.3 in
      omega (arith, gap, on, more)

-- a command has a word
pub command_moves : (room : ℕ) (inside : Bool) (text : List ℕ) (at : ℕ) (c : Command) (end : ℕ)
    → ends_script inside text (gap_end text at) ≡ false
    → SpellsCommand room inside text (gap_end text at) c end → gap_end text at < end
command_moves room inside text at (command span no_words) end e is =
    let gap = gap_stop text at in
    let opens = command_opens inside text (gap_end text at) gap e in
    absurd (both _ is.1.0 (ap (ends_command inside text) (no_blanks text (gap_end text at) gap) ∙ opens))
command_moves room inside text at (command span (and_word w ws)) end e is =
    let start = gap_end text at in
    let blanks = blanks_on text start in
    let s = is.1 in
    let on = word_on room inside text (blanks_end text start) w s.0
    (word_opens inside text (blanks_end text start) (blanks_stop text start) s.1) s.2 in
    let more = words_on room inside text s.0 ws end s.3 in
    omega (arith, blanks, on, more)
