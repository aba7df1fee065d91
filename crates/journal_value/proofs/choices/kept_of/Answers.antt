use Rattle.std.proofs.Common.{ℕ, List, Bool, sym, subst}
use Rattle.journal_text.specs.Notes.{kept_text}
use Rattle.journal_value.specs.Exact.{Anything, Exact}
use Rattle.journal_value.specs.Words.{every_kept}
use Rattle.journal_value.proofs.Found.{by_text}
use Rattle.journal_value.proofs.EachWord.{each_kept}
use Rattle.journal_value.proofs.choices.kept_of.Goals as goal

pub returns : goal.returns
returns c = subst (Exact Bool (List ℕ) kept_text Anything c.args.word.now) (sym c.kept_at.ensures) (by_text Bool kept_text Anything every_kept each_kept c.args.word.now)
