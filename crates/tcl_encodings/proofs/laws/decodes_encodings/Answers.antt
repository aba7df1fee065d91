use Rattle.tcl_encodings.proofs.Sizes.{decodes_encodings}
use Rattle.tcl_encodings.proofs.laws.decodes_encodings.Goals as goal

pub returns : goal.returns
returns c = decodes_encodings
