use Rattle.tcl_encodings.proofs.Sizes.{decodes_nothing_else}
use Rattle.tcl_encodings.proofs.laws.decodes_nothing_else.Goals as goal

pub returns : goal.returns
returns c = decodes_nothing_else
