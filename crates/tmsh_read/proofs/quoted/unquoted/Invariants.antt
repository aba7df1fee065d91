use Rattle.std.proofs.Common.{◌≡◌, drop}
use Rattle.tmsh_read.specs.Quoted.{behind, unquoted}
use Rattle.tmsh_read.specs.declared.quoted.Quote.TheVariants.{Plain}
use Rattle.tmsh_read.proofs.quoted.unquoted.Given as goal

abbrev pub invariant-loop-byte : goal.invariant-loop-byte
invariant-loop-byte l = (behind l.value.items l.size (unquoted l.quote (drop l.byte-index l.bytes)) ≡ unquoted Plain l.bytes) × (l.size ≡ l.byte-index)
