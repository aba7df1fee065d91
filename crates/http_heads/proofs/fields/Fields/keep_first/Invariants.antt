use Rattle.std.proofs.Common.{◌≡◌, ◌-◌, length}
use Rattle.http_heads.specs.Passed.{first_alone}
use Rattle.http_heads.proofs.FirstFields.{rest_from}
use Rattle.http_heads.proofs.fields.Fields.keep_first.Given as goal

abbrev pub invariant-loop-at : goal.invariant-loop-at
invariant-loop-at l = rest_from l.name l.seen l.at l.self-inside.list.items ≡ first_alone l.name l.initial.self-inside.list.items

abbrev pub decreases-loop-at : goal.decreases-loop-at
decreases-loop-at l = length l.self-inside.list.items - l.at
