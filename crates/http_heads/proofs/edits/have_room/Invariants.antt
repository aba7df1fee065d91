use Rattle.std.proofs.Common.{◌≡◌, ◌+◌, sum_by, take}
use Rattle.http_heads.specs.Fields.{line_length}
use Rattle.http_heads.proofs.edits.have_room.Given as goal

abbrev pub invariant-loop-field : goal.invariant-loop-field
invariant-loop-field l = l.room + sum_by line_length (take l.field-index l.fields) ≡ 65536
