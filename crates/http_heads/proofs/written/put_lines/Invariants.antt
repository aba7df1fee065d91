use Rattle.std.proofs.Common.{◌≡◌, ◌++◌, flat_map, map, take}
use Rattle.httparse.specs.Grammar.{print_field}
use Rattle.http_heads.specs.Written.{line_of}
use Rattle.http_heads.proofs.written.put_lines.Given as goal

abbrev pub invariant-loop-field : goal.invariant-loop-field
invariant-loop-field l =
    l.out.items ≡ l.initial.out.items ++ flat_map print_field (map line_of (take l.field-index l.fields))
