use Rattle.std.proofs.Common.{rules}
use Rattle.tcl_encodings.proofs.Networks.{network_is}
use Rattle.tcl_encodings.proofs.addresses.read_network.Goals as goal

pub returns-clause-value : goal.returns-clause-value
returns-clause-value c = network_is c.args.text.now c.read_net.result c.read_net.ensures.found (search rules) c.read_net.ensures.none
