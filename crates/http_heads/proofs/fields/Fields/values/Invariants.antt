use Rattle.std.proofs.Common.{◌≡◌, map, take}
use Rattle.http_heads.specs.Fields.{named}
use Rattle.http_heads.proofs.fields.Fields.values.Given as goal

abbrev pub invariant-loop-field : goal.invariant-loop-field
invariant-loop-field l = l.values ≡ map (λ f. f.1) (named l.name (take l.field-index l.field-items))
