use Rattle.std.proofs.Common.{◌≡◌, Some, rules}
use Rattle.irule_http.specs.Commands.{found}
use Rattle.irule_http.proofs.command.named.Goals as goal

pub returns-in-Some : goal.returns-in-Some
returns-in-Some c =
    let is : found c.args.name.now ≡ Some c.in-Some.command = search rules in rw is c.carried.ensures
