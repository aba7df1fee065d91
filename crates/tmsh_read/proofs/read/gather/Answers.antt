use Rattle.std.proofs.Common.{◌<◌, length, ap, ◌∙◌, arith}
use Rattle.std.proofs.lemmas.Grind.{common_steps}
use Rattle.toml.proofs.Views.{view-Array}
use Rattle.toml.specs.Data.{array}
use Rattle.toml.specs.View.{array_view, table_view}
use Rattle.tmsh_read.proofs.Arrays.{some_put}
use Rattle.tmsh_read.specs.Tables.{with_member}
use Rattle.tmsh_read.proofs.read.gather.Goals as goal

pub returns : goal.returns
returns c =
    let vs = c.args.array.now.items in
    let old = table_view c.args.table.now in
    let some : 0 < length vs = grind (arith, common_steps) in
    c.in_ok-put.ensures
    ∙ ap (λ d. with_member c.args.key.now d old) (view-Array c.replace-whole.result ∙ ap (λ v. array (array_view v)) c.replace-whole.ensures.value)
    ∙ some_put c.args.key.now vs old some
