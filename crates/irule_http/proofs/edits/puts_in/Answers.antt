use Rattle.irule_http.specs.Edits.{edited}
use Rattle.irule_http.specs.State.{fields_here}
use Rattle.irule_http.proofs.Refusals.{refused}
use Rattle.irule_http.proofs.edits.puts_in.Goals as goal

pub returns-in-Err : goal.returns-in-Err
returns-in-Err c =
    refused c.args.event c.args.name.now (edited c.args.form c.args.field (fields_here c.args.event c.args.state.now)) c.args.state.now
    c.in-Err.raise (rw c.fields_here.ensures at c.in-Err.ensures)
