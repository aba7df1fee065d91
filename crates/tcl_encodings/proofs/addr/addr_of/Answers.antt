use Rattle.std.proofs.Common.{rules}
use Rattle.tcl_encodings.proofs.Addrs.{addr_is}
use Rattle.tcl_encodings.proofs.addr.addr_of.Goals as goal

pub returns : goal.returns
returns c = addr_is c.args.text.now c.read_addr.result c.read_addr.ensures.found (search rules) c.read_addr.ensures.none
