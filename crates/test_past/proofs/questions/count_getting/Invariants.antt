use Rattle.std.proofs.Common.{◌≡◌, ◌+◌, drop}
use Rattle.std.specs.List.{count_by}
use Rattle.px_bytes.specs.declared.addr.Side.TheVariants.{Client}
use Rattle.test_past.specs.Got.{got_by, is_wished}
use Rattle.test_past.proofs.questions.count_getting.Given as goal

abbrev pub invariant-loop-client : goal.invariant-loop-client
invariant-loop-client l =
    l.count + count_by (λ client. is_wished l.fn.what (got_by l.fn.steps l.fn.came Client client l.fn.entries))
    (drop l.client-index l.fn.clients)
    ≡ count_by (λ client. is_wished l.fn.what (got_by l.fn.steps l.fn.came Client client l.fn.entries)) l.fn.clients
