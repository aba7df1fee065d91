use Rattle.std.proofs.Common.{ap, ◌∙◌}
use Rattle.std.specs.Fmt.{signed_decimal}
use Rattle.std.proofs.lemmas.Int.{to_z-of_z}
use Rattle.px_bytes.proofs.Wholes.{each_reads_back}
use Rattle.px_bytes.proofs.whole.print_whole.Goals as goal

pub returns-clause-reads_back : goal.returns-clause-reads_back
returns-clause-reads_back c =
    each_reads_back c.new.result _ c.args.value c.new.ensures (c.as_bytes.ensures.value ∙ c.format.ensures.text ∙ ap signed_decimal (to_z-of_z _ _ c.ranges.value)) c.ranges.value.sfits
