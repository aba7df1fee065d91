use Rattle.std.proofs.Common.{rules}
use Rattle.tcl_list_commands.proofs.Cuts.{cut_by_set}
use Rattle.tcl_list_commands.proofs.splitting.pieces_by.Goals as goal

pub returns : goal.returns
returns c = cut_by_set c.byte_set.result c.args.chars.now c.args.text.now c.pieces.result (search rules) (search rules) c.byte_set.ensures c.pieces.ensures
