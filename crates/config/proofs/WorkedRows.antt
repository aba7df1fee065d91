-- Documents whose faults are known by hand.
use Rattle.std.proofs.Common.{◌≡◌, ◌++◌, [], Some, None, codes, pos, refl}
use Rattle.toml.specs.Data.{Data, integer, string, table, array, no_items, item, Members, no_members}
use Rattle.toml.specs.Data.{member}
use Rattle.config.specs.Documents.{document_fault}
use Rattle.config.specs.Faults.{fault_at}
use Rattle.config.specs.Places.{item_place, prefix_of}
use Rattle.config.specs.declared.fault.ConfigFaultKind.TheVariants.{UnknownKey, WrongKind, Twice, Range}

abbrev versioned : Members
versioned = member (codes "version") (integer (pos 1)) no_members

-- nothing at all
pub empty : document_fault no_members ≡ Some (fault_at WrongKind (codes "version"))
unfolding document_fault
empty = refl

pub version_alone : document_fault versioned ≡ None
unfolding document_fault
version_alone = refl

-- version = 3
pub version_3 : document_fault (member (codes "version") (integer (pos 3)) no_members) ≡ Some (fault_at Range (codes "version"))
unfolding document_fault
version_3 = refl

-- rows = 5, version = 1
pub rows_in_version_1 : document_fault (member (codes "rows") (integer (pos 5)) versioned) ≡ Some (fault_at UnknownKey (codes "rows"))
unfolding document_fault
rows_in_version_1 = refl

abbrev pool_named : Data
pool_named = table (member (codes "name") (string (codes "p")) no_members)

-- two pools of one name: `pool[1].name`
pub pool_twice : document_fault (member (codes "pool") (array (item pool_named (item pool_named no_items))) versioned)
    ≡ Some (fault_at Twice (prefix_of (item_place [] (codes "pool") 1) ++ codes "name"))
unfolding document_fault
pool_twice = refl
