use Rattle.std.proofs.Common.{◌≡◌, Ok, Err, sym, ap, ◌∙◌}
use Rattle.tmsh_read.proofs.OneReading.{one_reading}
use Rattle.tmsh_read.specs.Reading.{blank, finished}
use Rattle.tmsh_read.specs.declared.gap.Gap.TheVariants.{LineStart}
use Rattle.tmsh_read.proofs.laws.one_meaning.Goals as goal

pub returns-clause-one : goal.returns-clause-one
returns-clause-one c text a b p q =
    let same = one_reading LineStart blank 0 text (Ok p.filled.last) (Ok q.filled.last) p.filled.reads q.filled.reads in
    let last : p.filled.last ≡ q.filled.last = cc in
    p.filled.table_is ∙ ap finished last ∙ sym q.filled.table_is

pub returns-clause-no_fault : goal.returns-clause-no_fault
returns-clause-no_fault c text table place p fault =
    let same = one_reading LineStart blank 0 text (Ok p.filled.last) (Err place) p.filled.reads fault.1 in
    absurd cc
