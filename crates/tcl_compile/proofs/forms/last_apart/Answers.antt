use Rattle.tcl_compile.proofs.Arms.{apart_viewed}
use Rattle.tcl_compile.proofs.forms.last_apart.Goals as goal

pub returns : goal.returns
returns c =
    let last = rw c.in-Some.is at c.split_last.ensures.cases in
    apart_viewed c.args.words.now c.in-Some.front.now c.in-Some.last.now last.0
