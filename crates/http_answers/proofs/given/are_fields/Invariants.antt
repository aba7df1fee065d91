use Rattle.std.proofs.Common.{◌≡◌, length}
use Rattle.std.specs.List.{list_all}
use Rattle.http_heads.specs.Fields.{is_field}
use Rattle.http_answers.specs.Options.{pairs_of}
use Rattle.http_answers.proofs.given.are_fields.Given as goal

abbrev pub invariant-loop-rest : goal.invariant-loop-rest
invariant-loop-rest l =
    list_all is_field (pairs_of l.rest) ≡ list_all is_field (pairs_of l.fn.words)

abbrev pub decreases-loop-rest : goal.decreases-loop-rest
decreases-loop-rest l = length l.rest
