use Rattle.std.proofs.Common.{ap, ◌∙◌}
use Rattle.toml.specs.View.{members_view, view}
use Rattle.tmsh_read.proofs.Members.{inserted}
use Rattle.tmsh_read.specs.Tables.{with_member}
use Rattle.tmsh_read.proofs.tables.put.Goals as goal

pub returns : goal.returns
returns c =
    let es = c.args.table.now.entries in
    ap members_view c.in_ok-insert.ensures.entries
    ∙ inserted es c.in_ok-key.key c.args.value
    ∙ ap (λ k. with_member k (view c.args.value) (members_view es)) c.in_ok-key.ensures.ok
