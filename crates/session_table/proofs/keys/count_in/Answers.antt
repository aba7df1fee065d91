use Rattle.std.proofs.Common.{◌≡◌, [], ap, arith, filter, length}
use Rattle.std.specs.Map.Iter.{deref}
use Rattle.std.proofs.lemmas.Map.Iter.{rest_all}
use Rattle.session_table.proofs.Subtables.{count_bounded, count_under_rows, under}
use Rattle.session_table.proofs.keys.count_in.Goals as goal

pub overflow_add-count : goal.overflow_add-count
overflow_add-count c =
    let few = count_bounded c.args.subtable.now c.args.rows.now in
    omega (arith, few, c.loop-key.invariant, c.keys-key-items.ensures.fits)

pub returns : goal.returns
returns c =
    let over : c.loop-key.key-iterator ≡ [] = rest_all deref _ _ _ c.in-None.is c.next.ensures.steps in
    let all = ap (λ ks. length (filter (under c.args.subtable.now) ks)) over in
    omega (arith, all, c.loop-key.invariant, count_under_rows c.args.subtable.now c.args.rows.now)
