use Rattle.std.proofs.Common.{rules}
use Rattle.tcl_vars.proofs.Parens.{opens_before_end, index-is}
use Rattle.tcl_vars.proofs.name.name_of.Goals as goal

pub slice_bounds-result-count : goal.slice_bounds-result-count
slice_bounds-result-count c = opens_before_end c.args.text.now c.in-Some.at c.in-Some.ensures c.if-ends_with_paren.ensures

pub slice_bounds-result-start : goal.slice_bounds-result-start
slice_bounds-result-start c =
    let fits = opens_before_end c.args.text.now c.in-Some.at c.in-Some.ensures c.if-ends_with_paren.ensures in
    search rules

pub returns-in-Some-clause-index : goal.returns-in-Some-clause-index
returns-in-Some-clause-index c = index-is c.args.text.now c.in-Some.at c.in-Some.ensures c.if-ends_with_paren.ensures
