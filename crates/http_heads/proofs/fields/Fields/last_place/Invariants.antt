use Rattle.std.proofs.Common.{◌≡◌, ◌<◌, take}
use Rattle.std.specs.Prelude.{IfSome}
use Rattle.http_heads.specs.Fields.{last_place}
use Rattle.http_heads.proofs.fields.Fields.last_place.Given as goal

abbrev pub invariant-loop-at : goal.invariant-loop-at
invariant-loop-at l = (l.last ≡ last_place l.name (take l.at l.self-inside.list.items)) × IfSome l.last (λ place. place < l.at)
