use Rattle.std.proofs.Common.{sym, ◌∙◌}
use Rattle.px_bytes.proofs.Globs.{matches_nothing}
use Rattle.px_bytes.proofs.pattern.at_end.Goals as goal

pub returns-then-is_empty : goal.returns-then-is_empty
returns-then-is_empty c = matches_nothing c.args.rest.now (sym c.is_empty.ensures ∙ c.if-is_empty.true)
