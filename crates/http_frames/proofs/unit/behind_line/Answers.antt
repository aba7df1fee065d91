use Rattle.std.proofs.Common.{sym, arith}
use Rattle.http_frames.proofs.LookedOnce.{line_looked}
use Rattle.http_frames.proofs.unit.behind_line.Goals as goal

pub returns-in-Whole : goal.returns-in-Whole
returns-in-Whole c =
    line_looked c.args.before c.args.held.now c.args.looked (omega (arith, c.if-looked-before.false)) c.requires.inside
    c.in-Whole.length c.in-Whole.size c.requires.looked (sym c.in-Whole.ensures.value)
