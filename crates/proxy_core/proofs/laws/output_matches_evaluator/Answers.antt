use Rattle.proxy_core.proofs.Promises.{every_past_matches}
use Rattle.proxy_core.proofs.laws.output_matches_evaluator.Goals as goal

pub returns : goal.returns
returns c = every_past_matches
