-- Where items stand.
use Rattle.tmsh_read.proofs.ReaderTypes.{Block}
use Rattle.tmsh_read.specs.declared.section.Block.TheVariants as kind

abbrev pub Limits : Block
Limits = kind.Limits

abbrev pub Server : Block
Server = kind.Server

abbrev pub Pool : Block
Pool = kind.Pool

abbrev pub Group : Block
Group = kind.Group

abbrev pub Member : Block
Member = kind.Member

abbrev pub Row : Block
Row = kind.Row
