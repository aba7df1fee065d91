use Rattle.std.proofs.Common.{ℕ, List, sym, subst}
use Rattle.journal_value.specs.Exact.{Anything, Exact}
use Rattle.journal_value.specs.Words.{every_verb, verb_text}
use Rattle.journal_value.specs.declared.note_verb.NoteVerb.{NoteVerb}
use Rattle.journal_value.proofs.Found.{by_text}
use Rattle.journal_value.proofs.EachWord.{each_verb}
use Rattle.journal_value.proofs.note_verb.read_verb.Goals as goal

pub returns : goal.returns
returns c = subst (Exact NoteVerb (List ℕ) verb_text Anything c.args.word.now) (sym c.verb_at.ensures) (by_text NoteVerb verb_text Anything every_verb each_verb c.args.word.now)
