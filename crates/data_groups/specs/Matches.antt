-- Which row of a data group an item matches (iRules: `class match`, `class search`,
-- `class lookup`).
use Rattle.std.specs.Prelude.{ℕ, ℤ, Bool, false, nat_eq, List, Option, None, Some, position}
use Rattle.std.specs.Prelude.{option_and_then, option_map, slice_get}
use Rattle.std.specs.List.{starts_with, ends_with}
use Rattle.std.specs.Ordering.{int_eq}
use Rattle.std.specs.Str.{bytes_eq}
use Rattle.px_bytes.specs.Whole.{whole}
use Rattle.tcl_encodings.specs.Addresses.{address_of}
use Rattle.tcl_expr.specs.TextTests.{contains}
use Rattle.data_groups.specs.Groups.{DataGroup, Row}
use Rattle.data_groups.specs.Networks.{longest_network}
use Rattle.data_groups.specs.declared.kind.ClassOp.{ClassOp}
use Rattle.data_groups.specs.declared.kind.ClassOp.TheVariants.{Equals, StartsWith, EndsWith}
use Rattle.data_groups.specs.declared.kind.ClassOp.TheVariants.{Contains}
use Rattle.data_groups.specs.declared.kind.GroupKind.{GroupKind}
use Rattle.data_groups.specs.declared.kind.GroupKind.TheVariants.{String, Ip, Integer}

-- `x OP y` of two texts
abbrev pub holds : ClassOp → List ℕ → List ℕ → Bool
holds Equals x y = bytes_eq x y
holds StartsWith x y = starts_with nat_eq x y
holds EndsWith x y = ends_with nat_eq x y
holds Contains x y = contains x y

-- two whole numbers, and the same; another text is none
abbrev pub same_number : Option ℤ → Option ℤ → Bool
same_number (Some a) (Some b) = int_eq a b
same_number (Some a) None = false
same_number None b = false

-- the row whose key equals the item: as a text; as a number; or as a network that has the item's
-- address
abbrev pub equal_row : GroupKind → List ℕ → List Row → Option ℕ
equal_row String item rows = position (λ row. bytes_eq item row.0) rows
equal_row Ip item rows = longest_network (address_of item) rows
equal_row Integer item rows = position (λ row. same_number (whole item) (whole row.0)) rows

-- the first row for which a test of its key holds, in a group of texts; a group of addresses or
-- numbers has no other operator than `equals`
abbrev pub tested_row : GroupKind → (List ℕ → Bool) → List Row → Option ℕ
tested_row String test rows = position (λ row. test row.0) rows
tested_row Ip test rows = None
tested_row Integer test rows = None

-- the first row for which `item OP key`
abbrev pub first_match : DataGroup → ClassOp → List ℕ → Option ℕ
first_match group Equals item = equal_row group.kind item group.rows
first_match group op item = tested_row group.kind (λ key. holds op item key) group.rows

-- the first row for which `key OP item`
abbrev pub first_search : DataGroup → ClassOp → List ℕ → Option ℕ
first_search group Equals item = equal_row group.kind item group.rows
first_search group op item = tested_row group.kind (λ key. holds op key item) group.rows

-- the value of the row whose key equals the item
abbrev pub value_of : DataGroup → List ℕ → Option (List ℕ)
value_of group item =
    option_and_then (λ at. option_map (λ row. row.1) (slice_get group.rows at))
    (equal_row group.kind item group.rows)
