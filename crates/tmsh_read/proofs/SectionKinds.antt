-- Stanzas with a name.
use Rattle.tmsh_read.proofs.ReaderTypes.{Section}
use Rattle.tmsh_read.specs.declared.section.Section.TheVariants as kind

abbrev pub Server : Section
Server = kind.Server

abbrev pub Pool : Section
Pool = kind.Pool

abbrev pub Rule : Section
Rule = kind.Rule

abbrev pub Group : Section
Group = kind.Group
