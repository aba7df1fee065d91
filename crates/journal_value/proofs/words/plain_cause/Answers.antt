use Rattle.std.proofs.Common.{ℕ, List, [], ◌∷◌, sym, subst}
use Rattle.core_events.specs.declared.note.Cause.{Cause}
use Rattle.journal_value.specs.Exact.{Anything, Exact}
use Rattle.journal_value.specs.Words.{cause_words}
use Rattle.journal_value.proofs.Leaves.{plain_exact}
use Rattle.journal_value.proofs.words.plain_cause.Goals as goal

pub returns : goal.returns
returns c = subst (Exact Cause (List (List ℕ)) cause_words Anything (c.args.word.now ∷ [])) (sym c.plain_at.ensures) (plain_exact c.args.word.now)
