use Rattle.std.proofs.Common.{subst}
use Rattle.session_table.specs.Serves.{Serves}
use Rattle.session_table.proofs.Turning.{came_names, made_served}
use Rattle.session_table.proofs.table.SessionTable.make.Goals as goal

pub add-requires-clause-names : goal.add-requires-clause-names
add-requires-clause-names c =
    came_names c.args.call c.args.key c.args.moment c.in_ok-came.came c.in_ok-came.ensures c.requires.subtable c.requires.key

pub returns : goal.returns
returns c =
    subst (Serves c.add.result c.args.self.now c.add.new.self)
    (made_served c.args.self.now.limit c.args.call c.args.moment c.args.self.now.rows c.in_ok-came.came c.in_ok-came.ensures)
    c.add.ensures
