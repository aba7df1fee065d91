use Rattle.std.proofs.Common.{◌+◌, ◌∷◌, drop, length, length-drop, take, take_all, refl, sym, ap, ◌∙◌, arith}
use Rattle.journal_value.specs.Journal.{parts_of}
use Rattle.journal_value.proofs.Lines.{line_at, no_line, shorter}
use Rattle.journal_value.proofs.reader.JournalReader.next_line.Goals as goal

pub returns-clause-some : goal.returns-clause-some
returns-clause-some c =
    let text = c.self.inside.rest.now in
    let at = c.in-Some.at in
    let found = rw c.in-Some.is at c.memchr.ensures in
    let long = length-drop (at + 1) text in
    let all = take_all (length (drop (at + 1) text)) (drop (at + 1) text) (omega arith) in
    let same = ap (λ n. take n (drop (at + 1) text)) (sym long) ∙ all in
    rw (← c.self.view_is) (record {
      parts = line_at text at found ∙ ap (λ more. take at text ∷ parts_of more) (sym same);
      number = refl;
      shorter = shorter text at found;
    })

pub returns-in_default-clause-none : goal.returns-in_default-clause-none
returns-in_default-clause-none c =
    rw (← c.self.view_is) (refl, no_line c.self.inside.rest.now (rw c.in_default.is at c.memchr.ensures))
