use Rattle.std.proofs.Common.{arith}
use Rattle.config.proofs.Items.{no_row}
use Rattle.config.proofs.row.row_in.Goals as goal

pub returns-in-len3-up : goal.returns-in-len3-up
returns-in-len3-up c =
    let long = c.in-len3-up.len_at_least in
    no_row c.args.items.now (λ e. omega (arith, long)) (λ e. omega (arith, long))
