use Rattle.journal_value.proofs.Cuts.{cut_none, cut_some}
use Rattle.journal_value.proofs.cut.cut.Goals as goal

pub returns-then-at-text : goal.returns-then-at-text
returns-then-at-text c = cut_some c.args.text.now c.word_len-at.result c.word_len-at.ensures c.if-at-text.true

pub returns-else-at-text : goal.returns-else-at-text
returns-else-at-text c = cut_none c.args.text.now c.word_len-at.result c.word_len-at.ensures c.if-at-text.false
