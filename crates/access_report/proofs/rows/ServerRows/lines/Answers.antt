use Rattle.access_report.proofs.rows.ServerRows.lines.Goals as goal

pub returns-clause-lines : goal.returns-clause-lines
returns-clause-lines c = rw c.self.view_is at c.tree_lines.ensures.lines

pub returns-clause-sorted : goal.returns-clause-sorted
returns-clause-sorted c = rw c.self.view_is at c.tree_lines.ensures.sorted
