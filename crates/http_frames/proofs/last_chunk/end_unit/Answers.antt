use Rattle.std.proofs.Common.{◌+◌, ◌-◌, sym, subst}
use Rattle.std.proofs.lemmas.List.{take_rest}
use Rattle.http_frames.specs.Looked.{IsEndOf, NoEnd}
use Rattle.http_frames.proofs.last_chunk.end_unit.Goals as goal

pub end_behind-requires-clause-looked : goal.end_behind-requires-clause-looked
end_behind-requires-clause-looked c =
    rw c.saturating_sub.ensures
    (subst (λ t. NoEnd t (c.args.looked - (c.args.at + 3))) (sym (take_rest c.args.held.now c.args.at)) c.requires.looked)

pub returns : goal.returns
returns c =
    subst (λ t. IsEndOf c.args.at t c.args.ended c.end_behind.result) (take_rest c.args.held.now c.args.at) c.end_behind.ensures
