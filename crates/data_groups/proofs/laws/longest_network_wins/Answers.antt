use Rattle.data_groups.proofs.Longest.{longest_wins}
use Rattle.data_groups.proofs.laws.longest_network_wins.Goals as goal

pub returns : goal.returns
returns c = longest_wins
