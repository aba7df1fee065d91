use Rattle.std.proofs.Common.{rules, ◌-◌, ◌*◌, ◌<◌, length, drop, ap, ◌∙◌, arith}
use Rattle.tcl_strings.specs.FirstKeys.{keys_of, pair_in}
use Rattle.tcl_strings.proofs.Mapped.{pair_of, number_within}
use Rattle.tcl_strings.proofs.Numbering.{table_front}
use Rattle.tcl_strings.proofs.mapping.first_pair.Goals as goal

pub bounds-numbers-text : goal.bounds-numbers-text
bounds-numbers-text c = (table_front (keys_of c.args.pairs.now) c.args.numbers.now c.args.text.now c.requires.some c.requires.numbers).0

pub pair_at-requires : goal.pair_at-requires
pair_at-requires c =
    let front = table_front (keys_of c.args.pairs.now) c.args.numbers.now c.args.text.now c.requires.some c.requires.numbers in
    omega (arith, front.1, number_within c.args.pairs.now c.args.text.now)

pub returns : goal.returns
returns c =
    let front = table_front (keys_of c.args.pairs.now) c.args.numbers.now c.args.text.now c.requires.some c.requires.numbers in
    c.pair_at.ensures ∙ ap (λ n. pair_in (drop (2 * n) c.args.pairs.now)) front.1 ∙ pair_of c.args.pairs.now c.args.text.now

pub offset_bounds-numbers-text : goal.offset_bounds-numbers-text
offset_bounds-numbers-text c =
    let front = table_front (keys_of c.args.pairs.now) c.args.numbers.now c.args.text.now c.requires.some c.requires.numbers in
    let within : length c.args.text.now - 1 < length c.args.numbers.now = front.0 in
    search rules
