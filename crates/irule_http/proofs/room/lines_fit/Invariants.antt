use Rattle.std.proofs.Common.{◌≡◌, ◌+◌, sum_by, take}
use Rattle.http_heads.specs.Fields.{line_length}
use Rattle.irule_http.proofs.room.lines_fit.Given as goal

abbrev pub invariant-loop-field : goal.invariant-loop-field
invariant-loop-field l = l.room + sum_by line_length (take l.field-index l.fields) ≡ l.most
