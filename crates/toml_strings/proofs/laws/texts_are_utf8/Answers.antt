use Rattle.toml_strings.proofs.ViewTexts.{texts}
use Rattle.toml_strings.proofs.laws.texts_are_utf8.Goals as goal

pub returns : goal.returns
returns c = texts
