use Rattle.http_cookies.proofs.Values.{apart}
use Rattle.http_cookies.proofs.laws.values_are_apart.Goals as goal

pub returns : goal.returns
returns c = apart
