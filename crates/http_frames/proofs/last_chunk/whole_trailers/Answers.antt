use Rattle.std.proofs.Common.{false, ◌+◌, arith, ap, ◌∙◌}
use Rattle.http_frames.specs.Units.{is_paired}
use Rattle.std.proofs.lemmas.List.{take-take}
use Rattle.http_frames.proofs.last_chunk.whole_trailers.Goals as goal

pub of_lines-requires-clause-lines : goal.of_lines-requires-clause-lines
of_lines-requires-clause-lines c =
    ap (is_paired false) (take-take c.args.from (c.args.place + 4) c.args.text.now (omega (arith, c.requires.behind))) ∙ c.requires.lines
