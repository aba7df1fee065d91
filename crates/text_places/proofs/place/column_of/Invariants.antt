use Rattle.std.proofs.Common.{◌≡◌, ◌+◌, ◌≤◌, not, take}
use Rattle.std.specs.List.{suffix_len}
use Rattle.text_places.specs.Places.{is_newline}
use Rattle.text_places.proofs.place.column_of.Given as goal

abbrev pub invariant-loop-byte : goal.invariant-loop-byte
invariant-loop-byte l = record {
  so_far : l.column ≡ 1 + suffix_len (λ b. not (is_newline b)) (take l.byte-index l.byte-items);
  within : l.column ≤ 1 + l.byte-index;
}
