use Rattle.std.proofs.Common.{◌≡◌, map, ◌++◌, [], ◌∷◌, refl, sym, ap, ap₂, ◌∙◌, subst, arith, rules}
use Rattle.std.proofs.lemmas.Result.{IfOk-weaker}
use Rattle.tcl_words.specs.Faults.{to, closed}
use Rattle.tcl_words.specs.Reading.{level}
use Rattle.tcl_words.specs.Skips.{gap_end}
use Rattle.tcl_words.specs.Tree.{plain, variable, element, from_to}
use Rattle.tcl_words.specs.View.{parts_view, command_view, script_view, commands_of}
use Rattle.tcl_words.specs.declared.parse_fault.Fault.TheVariants.{MissingBracket}
use Rattle.tcl_words.proofs.Levels.{bracket_deepest, quoted_deepest, index_deepest, bracket_below}
use Rattle.tcl_words.proofs.Levels.{quoted_below, index_below, level_braced, level_name}
use Rattle.tcl_words.proofs.Levels.{variable_bare, variable_index, part_bracket, part_name}
use Rattle.tcl_words.proofs.Levels.{part_variable, part_plain, plain_moves, closes_within}
use Rattle.tcl_words.proofs.Levels.{word_quoted, word_braced, word_bare, trails, trails_nothing}
use Rattle.tcl_words.proofs.Levels.{word_opens, command_opens, no_blanks, quoted_read, command_read}
use Rattle.tcl_words.proofs.Runs.{stands_within}
use Rattle.tcl_words.proofs.Turns.{PartsTo, WordsTo, CommandsTo, parts_begin, parts_turn, parts_end}
use Rattle.tcl_words.proofs.Turns.{words_begin, words_turn, words_end, commands_begin}
use Rattle.tcl_words.proofs.Turns.{commands_turn, commands_end}
use Rattle.tcl_words.proofs.Views.{view-Plain, view-Bracket, view-Variable, view-Element}
use Rattle.tcl_words.proofs.Views.{view-Command, view-Script}
use Rattle.tcl_words.proofs.progress.Progress.+script.Goals as goal

pub bracket-returns-then-depth-eq0-clause-value : goal.bracket-returns-then-depth-eq0-clause-value
bracket-returns-then-depth-eq0-clause-value t c =
    bracket_deepest c.args.depth _ _ c.if-depth-eq0.true
    ∙ ap₂ (λ cs s. (cs, s))
    (sym (view-Script c.new.result ∙ ap (λ cs. commands_of (map command_view cs)) c.new.ensures.items))
    (sym c.in_ok-pass.ensures.value)

pub bracket-returns-clause-value : goal.bracket-returns-clause-value
bracket-returns-clause-value t c =
    let text = c.args.text.now in
    let missing = MissingBracket c.args.self.now.at in
    bracket_below c.args.depth _ _ (omega arith)
    ∙ ap (λ r. (r.0, closed 93 missing text (to (gap_end text r.1.at) r.1)))
    c.in_ok-script.ensures.value
    ∙ ap (λ s. (script_view c.in_ok-script.script, s))
    (ap (λ k. closed 93 missing text (to k c.script.new.self)) (sym c.gap_end-self.ensures.value)
    ∙ sym c.close.ensures.value)

pub index-returns-then-depth-eq0-clause-value : goal.index-returns-then-depth-eq0-clause-value
index-returns-then-depth-eq0-clause-value t c =
    index_deepest c.args.depth _ _ c.if-depth-eq0.true
    ∙ ap₂ (λ ps s. (parts_view ps, s)) (sym c.new.ensures.items) (sym c.in_ok-pass.ensures.value)

pub index-returns-clause-value : goal.index-returns-clause-value
index-returns-clause-value t c =
    index_below c.args.depth _ _ (omega arith)
    ∙ ap (λ r. (r.0, closed 41 (MissingBracket c.args.self.now.at) c.args.text.now r.1))
    c.in_ok-parts.ensures.value
    ∙ ap (λ s. (parts_view c.in_ok-parts.parts.items, s)) (sym c.close.ensures.value)

pub quoted-returns-then-depth-eq0-clause-value : goal.quoted-returns-then-depth-eq0-clause-value
quoted-returns-then-depth-eq0-clause-value t c =
    quoted_deepest c.args.depth _ _ c.if-depth-eq0.true
    ∙ ap₂ (λ w s. (w, s)) (sym c.nothing.ensures) (sym c.in_ok-pass.ensures.value)

pub quoted-returns-clause-value : goal.quoted-returns-clause-value
quoted-returns-clause-value t c =
    let same = quoted_below c.args.depth c.args.text.now c.args.self.now (omega arith)
    ∙ quoted_read _ c.args.text.now c.args.self.now c.parts.new.self c.close.new.self _
    c.in_ok-parts.ensures.value c.close.ensures.value in
    IfOk-weaker c.finished.result _ _ (λ w is. same ∙ ap (λ x. (x, c.close.new.self)) (sym is))
    c.finished.ensures

pub part-returns-then-stands-clause-value : goal.part-returns-then-stands-clause-value
part-returns-then-stands-clause-value t c =
    part_bracket (level c.args.depth) c.args.closer c.args.text.now c.args.self.now c.bracket.new.self _
    (sym c.stands.ensures ∙ c.if-stands.true) c.in_ok-script.ensures.value
    ∙ ap (λ p. (p, c.bracket.new.self)) (sym (view-Bracket _ c.in_ok-script.script))

pub part-returns-then-opens_name-clause-value : goal.part-returns-then-opens_name-clause-value
part-returns-then-opens_name-clause-value t c =
    let same = part_name (level c.args.depth) c.args.closer c.args.text.now c.args.self.now
    (sym c.stands.ensures ∙ c.if-stands.false) (sym c.opens_name.ensures ∙ c.if-opens_name.true) in
    let read = level_name c.args.depth c.args.text.now c.args.self.now in
    IfOk-weaker c.braced_name.result _ _ (λ p is. same ∙ read ∙ is) c.braced_name.ensures.value

pub part-returns-then-starts_variable-clause-value : goal.part-returns-then-starts_variable-clause-value
part-returns-then-starts_variable-clause-value t c =
    let same = part_variable (level c.args.depth) c.args.closer c.args.text.now c.args.self.now
    (sym c.stands.ensures ∙ c.if-stands.false) (sym c.opens_name.ensures ∙ c.if-opens_name.false)
    (sym c.starts_variable.ensures ∙ c.if-starts_variable.true) in
    IfOk-weaker c.variable.result _ _ (λ p is. same ∙ is) c.variable.ensures.value

pub part-returns-clause-value : goal.part-returns-clause-value
part-returns-clause-value t c =
    part_plain (level c.args.depth) c.args.closer c.args.text.now c.args.self.now c.run.new.self _
    (sym c.stands.ensures ∙ c.if-stands.false) (sym c.opens_name.ensures ∙ c.if-opens_name.false)
    (sym c.starts_variable.ensures ∙ c.if-starts_variable.false) c.in_ok-bytes.ensures.value
    ∙ ap (λ p. (p, c.run.new.self))
    (ap (plain (from_to c.args.self.now.at c.run.new.self.at)) (sym c.from_vec.ensures)
    ∙ sym (view-Plain _ c.from_vec.result))

pub part-returns-clause-onward : goal.part-returns-clause-onward
part-returns-clause-onward t c =
    c.in_ok-bytes.ensures.moves
    (plain_moves c.args.closer _ _ c.requires.going (sym c.stands.ensures ∙ c.if-stands.false)
    (sym c.starts_variable.ensures ∙ c.if-starts_variable.false))

pub parts-loop-alloc-init : goal.parts-loop-alloc-init
parts-loop-alloc-init t c = record {
  so_far = subst (λ ps. PartsTo (level c.args.depth) c.args.closer c.args.text.now c.args.self.now ps
      c.args.self.now) (sym c.new-parts.ensures.items) (parts_begin _ _ _ _);
  within = c.requires;
  onward = omega arith;
  moves = λ e. refl;
}

pub parts-part-requires : goal.parts-part-requires
parts-part-requires t c =
    let opened = sym c.closes.ensures ∙ c.loop-alloc-test.true in
    (search rules, (opened, closes_within c.args.closer _ _ opened))

pub parts-loop-alloc-preserved : goal.parts-loop-alloc-preserved
parts-loop-alloc-preserved t c =
    let l = c.loop-alloc in
    let opened = sym c.closes.ensures ∙ c.loop-alloc-test.true in
    let pushed : c.push.new.self.items ≡ l.parts.items ++ c.in_ok-part.part ∷ [] =
    c.in_ok-push.ensures.items in
    record {
      so_far = rw pushed (parts_turn (level c.args.depth) c.args.closer c.args.text.now
          c.args.self.now l.self c.part.new.self l.parts.items c.in_ok-part.part l.invariant.within
          opened c.in_ok-part.ensures.value c.in_ok-part.ensures.onward l.invariant.so_far);
      within = c.in_ok-part.ensures.within;
      onward = omega (arith, c.in_ok-part.ensures.onward, l.invariant.onward);
      moves = λ e. absurd (omega (arith, c.in_ok-part.ensures.onward, l.invariant.onward));
    }

pub parts-returns-clause-value : goal.parts-returns-clause-value
parts-returns-clause-value t c =
    parts_end (level c.args.depth) c.args.closer c.args.text.now c.args.self.now c.loop-alloc.self
    c.loop-alloc.parts.items c.loop-alloc.invariant.within
    (sym c.closes.ensures ∙ c.loop-alloc-test.false) c.loop-alloc.invariant.so_far

pub trailing-returns-then-closes-clause-value : goal.trailing-returns-then-closes-clause-value
trailing-returns-then-closes-clause-value t c =
    trails_nothing (level c.args.depth) c.args.inside c.args.text.now c.args.self.now
    (rw (← c.word_closer-closer.ensures) (sym c.closes.ensures ∙ c.if-closes.true))

pub trailing-returns-clause-value : goal.trailing-returns-clause-value
trailing-returns-clause-value t c =
    trails (level c.args.depth) c.args.inside c.args.text.now c.args.self.now c.parts.new.self
    (parts_view c.in_ok-parts.field-0.items)
    (rw (← c.word_closer-closer.ensures) (sym c.closes.ensures ∙ c.if-closes.false))
    (rw (← c.word_closer-closer.ensures, ← c.note.ensures.value) c.in_ok-parts.ensures.value)

pub variable-returns-then-not-stands-clause-value : goal.variable-returns-then-not-stands-clause-value
variable-returns-then-not-stands-clause-value t c =
    let end = c.name_end-end.result in
    variable_bare (level c.args.depth) c.args.text.now c.args.self.now end c.name_end-end.ensures.value
    (sym c.stands.ensures ∙ c.if-not-stands.true)
    ∙ ap (λ p. (p, to end c.args.self.now))
    (ap (variable (from_to c.args.self.now.at end)) (sym c.in_ok-name.ensures)
    ∙ sym (view-Variable _ c.in_ok-name.name))

pub variable-index-requires : goal.variable-index-requires
variable-index-requires t c =
    (search rules, stands_within c.args.text.now _ 40 (sym c.stands.ensures ∙ c.if-not-stands.false))

pub variable-returns-clause-value : goal.variable-returns-clause-value
variable-returns-clause-value t c =
    variable_index (level c.args.depth) c.args.text.now c.args.self.now c.index.new.self
    c.name_end-end.result _ c.name_end-end.ensures.value
    (sym c.stands.ensures ∙ c.if-not-stands.false) c.in_ok-index.ensures.value
    ∙ ap (λ p. (p, c.index.new.self))
    (ap (λ n. element (from_to c.args.self.now.at c.index.new.self.at) n
    (parts_view c.in_ok-index.index.items)) (sym c.in_ok-name.ensures)
    ∙ sym (view-Element _ c.in_ok-name.name c.in_ok-index.index))

pub word-returns-then-stands-clause-value : goal.word-returns-then-stands-clause-value
word-returns-then-stands-clause-value t c =
    word_quoted (level c.args.depth) c.args.inside c.args.text.now c.args.self.now c.quoted.new.self
    c.trailing.new.self _ (sym c.stands.ensures ∙ c.if-stands.true) c.in_ok-word.ensures.value
    c.in_ok-trailing.ensures.value

pub word-returns-then-stands-2-clause-value : goal.word-returns-then-stands-2-clause-value
word-returns-then-stands-2-clause-value t c =
    word_braced (level c.args.depth) c.args.inside c.args.text.now c.args.self.now c.braced.new.self
    c.trailing-then-stands-2.new.self _ (sym c.stands.ensures ∙ c.if-stands.false)
    (sym c.stands-2.ensures ∙ c.if-stands-2.true)
    (level_braced c.args.depth c.args.text.now c.args.self.now ∙ c.in_ok-word-2.ensures.value)
    c.in_ok-trailing-2.ensures.value

pub word-returns-clause-value : goal.word-returns-clause-value
word-returns-clause-value t c =
    let same = word_bare (level c.args.depth) c.args.inside c.args.text.now c.args.self.now
    c.parts.new.self _ (sym c.stands.ensures ∙ c.if-stands.false)
    (sym c.stands-2.ensures ∙ c.if-stands-2.false)
    (rw (← c.word_closer.ensures) c.in_ok-parts.ensures.value) in
    IfOk-weaker c.finished.result _ _ (λ w is. same ∙ ap (λ x. (x, c.parts.new.self)) (sym is))
    c.finished.ensures

pub words-loop-alloc-init : goal.words-loop-alloc-init
words-loop-alloc-init t c = record {
  so_far = subst (λ ws. WordsTo (level c.args.depth) c.args.inside c.args.text.now c.args.self.now ws
      c.args.self.now) (sym c.new-words.ensures.items) (words_begin _ _ _ _);
  within = c.requires;
  onward = omega arith;
  moves = λ e. refl;
}

pub words-returns-then-ends_command-clause-value : goal.words-returns-then-ends_command-clause-value
words-returns-then-ends_command-clause-value t c =
    let l = c.loop-alloc in
    words_end (level c.args.depth) c.args.inside c.args.text.now c.args.self.now l.self l.words.items
    l.invariant.within
    (rw (← c.blanks_end-next.ensures.value) (sym c.ends_command.ensures ∙ c.if-ends_command.true))
    l.invariant.so_far

pub words-word-requires : goal.words-word-requires
words-word-requires t c =
    let opened = word_opens c.args.inside c.args.text.now c.blanks_end-next.result
    c.blanks_end-next.ensures.stops (sym c.ends_command.ensures ∙ c.if-ends_command.false) in
    (search rules, (opened, closes_within _ _ _ opened))

pub words-loop-alloc-preserved : goal.words-loop-alloc-preserved
words-loop-alloc-preserved t c =
    let l = c.loop-alloc in
    let on = c.in_ok-word.ensures.onward in
    let pushed : c.push.new.self.items ≡ l.words.items ++ c.in_ok-word.word ∷ [] =
    c.in_ok-push.ensures.items in
    record {
      so_far = rw pushed (words_turn (level c.args.depth) c.args.inside c.args.text.now
          c.args.self.now l.self _ c.word.new.self l.words.items c.in_ok-word.word l.invariant.within
          (ap (λ k. to k l.self) (sym c.blanks_end-next.ensures.value))
          (sym c.ends_command.ensures ∙ c.if-ends_command.false) c.in_ok-word.ensures.value
          (omega (arith, on, c.blanks_end-next.ensures.onward)) l.invariant.so_far);
      within = c.in_ok-word.ensures.within;
      onward = omega (arith, on, c.blanks_end-next.ensures.onward, l.invariant.onward);
      moves = λ e. absurd
          (omega (arith, on, c.blanks_end-next.ensures.onward, l.invariant.onward));
    }

pub script-loop-alloc-init : goal.script-loop-alloc-init
script-loop-alloc-init t c = record {
  so_far = subst (λ cs. CommandsTo (level c.args.depth) c.args.inside c.args.text.now c.args.self.now
      cs c.args.self.now) (sym c.new-commands.ensures.items) (commands_begin _ _ _ _);
  within = c.requires;
  onward = omega arith;
}

pub script-returns-then-ends_script-clause-value : goal.script-returns-then-ends_script-clause-value
script-returns-then-ends_script-clause-value t c =
    let l = c.loop-alloc in
    commands_end (level c.args.depth) c.args.inside c.args.text.now c.args.self.now l.self
    l.commands.items l.invariant.within
    (rw (← c.gap_end-next.ensures.value) (sym c.ends_script.ensures ∙ c.if-ends_script.true))
    l.invariant.so_far
    ∙ ap (λ cs. (cs, l.self)) (sym (view-Script l.commands))

pub script-loop-alloc-smaller : goal.script-loop-alloc-smaller
script-loop-alloc-smaller t c =
    let on = c.in_ok-words.ensures.moves
    (rw (no_blanks c.args.text.now c.gap_end-next.result c.gap_end-next.ensures.stops)
    (command_opens c.args.inside _ _ c.gap_end-next.ensures.stops
    (sym c.ends_script.ensures ∙ c.if-ends_script.false))) in
    omega (arith, on, c.gap_end-next.ensures.onward, c.in_ok-words.ensures.within)

pub script-loop-alloc-preserved : goal.script-loop-alloc-preserved
script-loop-alloc-preserved t c =
    let l = c.loop-alloc in
    let on = c.in_ok-words.ensures.moves
    (rw (no_blanks c.args.text.now c.gap_end-next.result c.gap_end-next.ensures.stops)
    (command_opens c.args.inside _ _ c.gap_end-next.ensures.stops
    (sym c.ends_script.ensures ∙ c.if-ends_script.false))) in
    let pushed : c.push.new.self.items ≡ l.commands.items ++ _ ∷ [] = c.in_ok-push.ensures.items in
    record {
      so_far = rw pushed (commands_turn (level c.args.depth) c.args.inside c.args.text.now
          c.args.self.now l.self _ c.words.new.self l.commands.items _ l.invariant.within
          (ap (λ k. to k l.self) (sym c.gap_end-next.ensures.value))
          (sym c.ends_script.ensures ∙ c.if-ends_script.false)
          (command_read _ c.args.inside _ _ _ _ c.in_ok-words.ensures.value
          ∙ ap (λ x. (x, c.words.new.self)) (sym (view-Command _ c.in_ok-words.words)))
          (omega (arith, on, c.gap_end-next.ensures.onward)) l.invariant.so_far);
      within = c.in_ok-words.ensures.within;
      onward = omega (arith, on, c.gap_end-next.ensures.onward, l.invariant.onward);
    }
