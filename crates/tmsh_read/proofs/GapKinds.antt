-- Where a byte between tokens stands.
use Rattle.tmsh_read.proofs.ReaderTypes.{Gap}
use Rattle.tmsh_read.specs.declared.gap.Gap.TheVariants as kind

abbrev pub LineStart : Gap
LineStart = kind.LineStart

abbrev pub Within : Gap
Within = kind.Within

abbrev pub Remark : Gap
Remark = kind.Remark
