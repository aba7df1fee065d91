use Rattle.access_report.proofs.Raised.{sorted_seen}
use Rattle.access_report.proofs.rows.tree_lines.Goals as goal

pub returns-clause-sorted : goal.returns-clause-sorted
returns-clause-sorted c = sorted_seen (λ k. k.items) c.args.tree.now.entries c.iter-name-items.ensures.ordered
