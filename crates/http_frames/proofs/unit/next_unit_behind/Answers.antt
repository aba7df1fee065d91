use Rattle.std.proofs.Common.{ap, sym, ◌∙◌}
use Rattle.http_frames.specs.NextUnit.{unit_of}
use Rattle.http_frames.specs.declared.state.BodyState.TheVariants as state
use Rattle.http_frames.proofs.NextUnits.{unit_value}
use Rattle.http_frames.proofs.unit.next_unit_behind.Goals as goal

pub returns-in-FirstLine-clause-value : goal.returns-in-FirstLine-clause-value
returns-in-FirstLine-clause-value c =
    unit_value state.FirstLine c.args.held.now c.args.ended c.line_unit.result c.line_unit.ensures ∙ ap (λ s. unit_of s c.args.held.now c.args.ended) (sym c.in-FirstLine.is)

pub returns-in-Chunk-clause-value : goal.returns-in-Chunk-clause-value
returns-in-Chunk-clause-value c =
    unit_value (state.Chunk c.in-Chunk.left) c.args.held.now c.args.ended c.chunk_unit.result c.chunk_unit.ensures ∙ ap (λ s. unit_of s c.args.held.now c.args.ended) (sym c.in-Chunk.is)

pub returns-in-NextLine-clause-value : goal.returns-in-NextLine-clause-value
returns-in-NextLine-clause-value c =
    unit_value state.NextLine c.args.held.now c.args.ended c.next_line_unit.result c.next_line_unit.ensures ∙ ap (λ s. unit_of s c.args.held.now c.args.ended) (sym c.in-NextLine.is)
