use Rattle.px_bytes.proofs.HexReads.{reads_printed}
use Rattle.px_bytes.proofs.hex_read.read_hex.Goals as goal

pub returns-clause-reads_printed : goal.returns-clause-reads_printed
returns-clause-reads_printed c = reads_printed _ c.args.text.now c.read_pairs.result c.read_pairs.ensures
