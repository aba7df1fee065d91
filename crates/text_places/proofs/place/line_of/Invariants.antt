use Rattle.std.proofs.Common.{◌≡◌, ◌+◌, ◌≤◌, take}
use Rattle.std.specs.List.{count_by}
use Rattle.text_places.specs.Places.{is_newline}
use Rattle.text_places.proofs.place.line_of.Given as goal

abbrev pub invariant-loop-byte : goal.invariant-loop-byte
invariant-loop-byte l = record {
  so_far : l.line ≡ 1 + count_by is_newline (take l.byte-index l.byte-items);
  within : l.line ≤ 1 + l.byte-index;
}
