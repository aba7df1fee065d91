use Rattle.std.proofs.Common.{◌≡◌, map, take}
use Rattle.http_heads.proofs.fields.Fields.names.Given as goal

abbrev pub invariant-loop-field : goal.invariant-loop-field
invariant-loop-field l = l.names ≡ map (λ f. f.0) (take l.field-index l.field-items)
