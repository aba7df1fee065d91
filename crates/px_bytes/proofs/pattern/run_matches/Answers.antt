use Rattle.px_bytes.proofs.Globs.{settles_whole}
use Rattle.px_bytes.proofs.pattern.run_matches.Goals as goal

pub loop-run-init : goal.loop-run-init
loop-run-init c = settles_whole _ _ c.run_to_star-run.result c.run_to_star-run.ensures
