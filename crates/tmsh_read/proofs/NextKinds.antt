-- What may stand next.
use Rattle.tmsh_read.proofs.ReaderTypes.{Block, Item, Next, Section as OfSection}
use Rattle.tmsh_read.specs.declared.next.Next.TheVariants as kind

abbrev pub Stanza : Next
Stanza = kind.Stanza

abbrev pub Limits : Next
Limits = kind.Limits

abbrev pub Section : Next
Section = kind.Section

abbrev pub Internal : Next
Internal = kind.Internal

abbrev pub Name : OfSection → Next
Name section = kind.Name section

abbrev pub Opens : Block → Next
Opens block = kind.Opens block

abbrev pub Items : Block → Next
Items block = kind.Items block

abbrev pub Value : Item → Next
Value item = kind.Value item

abbrev pub Http : Next
Http = kind.Http

abbrev pub HttpEnd : Next
HttpEnd = kind.HttpEnd

abbrev pub Names : Next
Names = kind.Names

abbrev pub Members : Next
Members = kind.Members

abbrev pub Rows : Next
Rows = kind.Rows

abbrev pub Text : Next
Text = kind.Text
