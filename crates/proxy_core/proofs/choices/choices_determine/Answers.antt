use Rattle.proxy_core.proofs.Determined.{choices_determine}
use Rattle.proxy_core.proofs.choices.choices_determine.Goals as goal

pub returns : goal.returns
returns c = choices_determine
