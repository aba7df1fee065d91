use Rattle.std.proofs.Common.{◌≡◌, true, rules}
use Rattle.std.specs.List.{list_all}
use Rattle.http_heads.specs.Fields.{is_field}
use Rattle.http_answers.specs.Options.{pairs_of}
use Rattle.irule_http.proofs.answers.redirects_by.Goals as goal

pub returns : goal.returns
returns c =
    let are : list_all is_field (pairs_of c.args.given.now) ≡ true = search rules in
    rw are (rw c.closes_by.ensures at c.answers.ensures)
