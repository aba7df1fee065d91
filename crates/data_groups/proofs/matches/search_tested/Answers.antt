use Rattle.std.proofs.Common.{ap, sym, ◌∙◌}
use Rattle.std.specs.List.{position}
use Rattle.data_groups.specs.Groups.{Row}
use Rattle.data_groups.specs.Matches.{holds}
use Rattle.data_groups.proofs.Operators.{texts_tested}
use Rattle.data_groups.proofs.matches.search_tested.Goals as goal

pub returns-in-String : goal.returns-in-String
returns-in-String c =
    let item = c.args.item.now in
    c.first_searched.ensures ∙ ap (λ rows. position (λ (row : Row). let key = row.0 in holds c.args.op key item) rows) (c.as_slice.ensures ∙ c.rows.ensures)
    ∙ texts_tested c.args.group.now.kind (λ key. holds c.args.op key item) c.args.group.now.rows (sym c.kind.ensures ∙ c.in-String.is)
