-- Types of the reader, for laws of the crates above.
use Rattle.tmsh_read.specs.declared.gap.Gap.{Gap as TheGap}
use Rattle.tmsh_read.specs.declared.item.Item.{Item as TheItem}
use Rattle.tmsh_read.specs.declared.next.Next.{Next as TheNext}
use Rattle.tmsh_read.specs.declared.quoted.Quote.{Quote as TheQuote}
use Rattle.tmsh_read.specs.declared.quoted.Quoting.{Quoting as TheQuoting}
use Rattle.tmsh_read.specs.declared.section.Block.{Block as TheBlock}
use Rattle.tmsh_read.specs.declared.section.Section.{Section as TheSection}
use Rattle.tmsh_read.specs.declared.token.Found.{Found as TheFound}
use Rattle.tmsh_read.specs.declared.token.Token.{Token as TheToken}

abbrev pub Gap : Type 0
Gap = TheGap

abbrev pub Item : Type 0
Item = TheItem

abbrev pub Next : Type 0
Next = TheNext

abbrev pub Quote : Type 0
Quote = TheQuote

abbrev pub Quoting : Type 0
Quoting = TheQuoting

abbrev pub Block : Type 0
Block = TheBlock

abbrev pub Section : Type 0
Section = TheSection

abbrev pub Found : Type 0
Found = TheFound

abbrev pub Token : Type 0
Token = TheToken
