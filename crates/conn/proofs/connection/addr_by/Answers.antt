use Rattle.std.proofs.Common.{rules}
use Rattle.conn.proofs.Replying.{address_is}
use Rattle.conn.proofs.connection.addr_by.Goals as goal

pub returns : goal.returns
returns c = address_is c.args.text.now c.read_addr.result c.read_addr.ensures.found (search rules) c.read_addr.ensures.none
