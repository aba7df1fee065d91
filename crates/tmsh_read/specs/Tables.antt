-- Members in the order of their keys.
use Rattle.std.specs.Prelude.{List, ℕ}
use Rattle.std.specs.Cmp.Lexicographic.{slice_cmp}
use Rattle.std.specs.Ordering.{match_ordering, nat_cmp}
use Rattle.toml.specs.Data.{Data, Members, no_members, member}

-- with this value at a key
abbrev pub with_member : List ℕ → Data → Members → Members
with_member k d no_members = member k d no_members
with_member k d (member l e ms) =
    match_ordering (slice_cmp nat_cmp k l) (member k d (member l e ms)) (member l d ms)
    (member l e (with_member k d ms))
