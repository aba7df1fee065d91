use Rattle.std.proofs.Common.{ℕ, List, sym, subst}
use Rattle.core_events.specs.declared.note.CutReason.{CutReason}
use Rattle.journal_text.specs.Notes.{cut_text}
use Rattle.journal_value.specs.Exact.{Anything, Exact}
use Rattle.journal_value.specs.Words.{every_reason}
use Rattle.journal_value.proofs.Found.{by_text}
use Rattle.journal_value.proofs.EachWord.{each_reason}
use Rattle.journal_value.proofs.choices.reason_of.Goals as goal

pub returns : goal.returns
returns c = subst (Exact CutReason (List ℕ) cut_text Anything c.args.word.now) (sym c.reason_at.ensures) (by_text CutReason cut_text Anything every_reason each_reason c.args.word.now)
