use Rattle.std.proofs.Common.{◌≡◌, ◌++◌, false, drop}
use Rattle.http_heads.specs.Forwarded.{fields_out}
use Rattle.http_heads.specs.Written.{lines_of}
use Rattle.http_heads.proofs.forwarded.put_fields.Given as goal

abbrev pub invariant-loop-field : goal.invariant-loop-field
invariant-loop-field l =
    l.out.items ++ lines_of (fields_out l.by.omitted l.by.size l.told (drop l.field-index l.fields))
    ≡ l.initial.out.items ++ lines_of (fields_out l.by.omitted l.by.size false l.fields)
