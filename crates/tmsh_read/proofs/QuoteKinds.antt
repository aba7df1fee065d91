-- Bytes within quotes.
use Rattle.std.specs.Prelude.{ℕ}
use Rattle.tmsh_read.proofs.ReaderTypes.{Quote, Quoting}
use Rattle.tmsh_read.specs.declared.quoted.Quoting.TheVariants as quoting
use Rattle.tmsh_read.specs.declared.quoted.Quote.TheVariants as kind

abbrev pub Plain : Quote
Plain = kind.Plain

abbrev pub Escape : Quote
Escape = kind.Escape

abbrev pub High : Quote
High = kind.High

abbrev pub Low : ℕ → Quote
Low high = kind.Low high

abbrev pub Ends : Quoting
Ends = quoting.Ends

abbrev pub Goes : Quote → Quoting
Goes quote = quoting.Goes quote

abbrev pub Adds : ℕ → Quoting
Adds byte = quoting.Adds byte

abbrev pub Breaks : Quoting
Breaks = quoting.Breaks
