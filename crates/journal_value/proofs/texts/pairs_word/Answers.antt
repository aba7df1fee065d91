use Rattle.std.proofs.Common.{ℕ, List, sym, subst}
use Rattle.px_bytes.specs.Hexadecimal.{hex_text}
use Rattle.px_bytes.specs.HexRead.{ReadsPrinted}
use Rattle.journal_value.specs.Exact.{Exact}
use Rattle.journal_value.specs.Words.{AreBytes}
use Rattle.journal_value.proofs.Exactly.{hex_compared, hex_none}
use Rattle.journal_value.proofs.texts.pairs_word.Goals as goal

pub returns-in_default : goal.returns-in_default
returns-in_default c =
    hex_none c.args.word.now c.requires (subst (ReadsPrinted c.args.word.now) c.in_default.is c.in_ok-bytes.ensures.reads_printed)

pub returns : goal.returns
returns c =
    let reads = subst (ReadsPrinted c.args.word.now) c.in-Some.is c.in_ok-bytes.ensures.reads_printed in
    subst (Exact (List ℕ) (List ℕ) hex_text AreBytes c.args.word.now) (sym c.then_some.ensures)
    (hex_compared c.args.word.now c.in-Some.bytes c.in_ok-same.same c.requires reads c.in_ok-same.ensures)
