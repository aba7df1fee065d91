use Rattle.std.proofs.Common.{rules}
use Rattle.tcl_encodings.proofs.Networks.{address_is}
use Rattle.tcl_encodings.proofs.addresses.read_address.Goals as goal

pub returns : goal.returns
returns c = address_is c.args.text.now c.read_ip.result c.read_ip.ensures.found (search rules) c.read_ip.ensures.none
