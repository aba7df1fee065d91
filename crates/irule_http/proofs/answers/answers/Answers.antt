use Rattle.std.proofs.Common.{◌≡◌, Some, rules}
use Rattle.http_answers.specs.Answers.{composed}
use Rattle.http_answers.specs.Seen.{seen}
use Rattle.irule_http.proofs.answers.answers.Goals as goal

pub returns-in-Some : goal.returns-in-Some
returns-in-Some c =
    let is : composed c.args.state.now.request (seen c.args.answer.now) ≡ Some c.as_bytes.result.now = search rules in
    rw is c.sends.ensures
