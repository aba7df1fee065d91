use Rattle.std.proofs.Common.{ℕ, List, sym, subst}
use Rattle.px_bytes.specs.declared.addr.Side.{Side}
use Rattle.journal_text.specs.Notes.{side_text}
use Rattle.journal_value.specs.Exact.{Anything, Exact}
use Rattle.journal_value.specs.Words.{every_side}
use Rattle.journal_value.proofs.Found.{by_text}
use Rattle.journal_value.proofs.EachWord.{each_side}
use Rattle.journal_value.proofs.choices.side_of.Goals as goal

pub returns : goal.returns
returns c = subst (Exact Side (List ℕ) side_text Anything c.args.word.now) (sym c.side_at.ensures) (by_text Side side_text Anything every_side each_side c.args.word.now)
