use Rattle.std.proofs.Common.{false, ap₂, ◌∙◌}
use Rattle.std.proofs.lemmas.List.{take_rest}
use Rattle.http_frames.specs.Units.{is_paired}
use Rattle.http_frames.proofs.LookedOnce.{paired_on}
use Rattle.http_frames.proofs.last_chunk.are_lines.Goals as goal

pub returns : goal.returns
returns c =
    let text = c.args.text.now in
    c.is_paired.ensures
    ∙ ap₂ is_paired c.is_behind_cr.ensures (take_rest text c.args.from)
    ∙ paired_on false c.args.from text c.requires.inside c.requires.lines
