-- Items.
use Rattle.tmsh_read.proofs.ReaderTypes.{Item}
use Rattle.tmsh_read.specs.declared.item.Item.TheVariants as kind

abbrev pub Budget : Item
Budget = kind.Budget

abbrev pub Connections : Item
Connections = kind.Connections

abbrev pub Idle : Item
Idle = kind.Idle

abbrev pub TableRows : Item
TableRows = kind.TableRows

abbrev pub Listen : Item
Listen = kind.Listen

abbrev pub Http : Item
Http = kind.Http

abbrev pub PoolName : Item
PoolName = kind.PoolName

abbrev pub Persist : Item
Persist = kind.Persist

abbrev pub PersistTimeout : Item
PersistTimeout = kind.PersistTimeout

abbrev pub RuleNames : Item
RuleNames = kind.RuleNames

abbrev pub Method : Item
Method = kind.Method

abbrev pub MinActive : Item
MinActive = kind.MinActive

abbrev pub Members : Item
Members = kind.Members

abbrev pub Kind : Item
Kind = kind.Kind

abbrev pub Rows : Item
Rows = kind.Rows

abbrev pub Ratio : Item
Ratio = kind.Ratio

abbrev pub Priority : Item
Priority = kind.Priority

abbrev pub Data : Item
Data = kind.Data
