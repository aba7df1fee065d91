use Rattle.std.proofs.Common.{◌≡◌, ℕ, ◌<◌, length, slice_index}
use Rattle.std.specs.Char.{to_ascii_lowercase}
use Rattle.px_bytes.proofs.letters.same_name.Given as goal

abbrev pub invariant-loop-x : goal.invariant-loop-x
invariant-loop-x l =
    (k : ℕ) → k < length l.yielded → to_ascii_lowercase (slice_index l.a k) ≡ to_ascii_lowercase (slice_index l.b k)
