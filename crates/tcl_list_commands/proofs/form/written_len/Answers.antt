use Rattle.std.proofs.Common.{rules}
use Rattle.tcl_list_commands.proofs.Spelled.{escaped_size}
use Rattle.tcl_list_commands.proofs.form.written_len.Goals as goal

pub returns : goal.returns
returns c = escaped_size c.args.element.now c.special_count.result c.from-hash.result (search rules) (search rules) (search rules) c.special_count.ensures (search rules)
