-- What a test names and its configuration hasn't: a virtual server, a pool, or a member of it.
use Rattle.std.specs.Prelude.{ℕ, Bool, false, List, [], ◌∷◌, Option, Some, None, is_none, option_map, codes}
use Rattle.std.specs.Prelude.{if◌then◌else◌}
use Rattle.std.specs.List.{list_any}
use Rattle.std.specs.Str.{bytes_eq}
use Rattle.run_config.specs.declared.config.Config.{Config}
use Rattle.run_config.specs.declared.config.Virtual.{Virtual}
use Rattle.pools.specs.Pools.{PoolState}
use Rattle.shared_store.specs.Store.{has_member, has_name, pool_of}
use Rattle.shared_store.specs.declared.named.NamedPool.{NamedPool}
use Rattle.test_text.specs.declared.deed.Deed.{Deed}
use Rattle.test_text.specs.declared.deed.Deed.TheVariants.{Comes, Marks}
use Rattle.test_text.specs.declared.deed.PlacedAddr.{PlacedAddr}
use Rattle.test_text.specs.declared.deed.PlacedName.{PlacedName}
use Rattle.test_text.specs.declared.test_file.PlacedDeed.{PlacedDeed}
use Rattle.test_text.specs.declared.test_file.PlacedStep.{PlacedStep}
use Rattle.test_text.specs.declared.test_file.TestStep.{TestStep}
use Rattle.test_text.specs.declared.test_file.TestStep.TheVariants.{One, Together, Expect}
use Rattle.test_names.specs.declared.named.Unnamed.{Unnamed}
use Rattle.test_names.specs.declared.named.Unnamed.TheVariants as unnamed
use Rattle.test_names.specs.declared.named.UnnamedAt.{UnnamedAt}

-- whether there is a pool, which has this name
abbrev pub is_named : List ℕ → Option NamedPool → Bool
is_named name None = false
is_named name (Some named) = has_name name named

abbrev pub pool_in : Option NamedPool → Option PoolState
pool_in named = option_map (λ n. n.pool) named

abbrev pub has_virtual : List Virtual → List ℕ → Bool
has_virtual servers name = list_any (λ v. bytes_eq v.name name) servers

abbrev pub unnamed_virtual : Config → PlacedName → Option UnnamedAt
unnamed_virtual C to =
    if has_virtual C.virtuals to.name then None else Some (record { what = unnamed.Virtual; place = to.place })

abbrev pub unnamed_member : Config → PlacedName → PlacedAddr → Option UnnamedAt
unnamed_member C pool member =
    if is_none (pool_of pool.name C.pools) then Some (record { what = unnamed.Pool; place = pool.place })
    else (if has_member member.addr (pool_of pool.name C.pools) then None
    else Some (record { what = unnamed.Member; place = member.place }))

abbrev pub unnamed_in : Config → Deed → Option UnnamedAt
unnamed_in C (Comes client from to) = unnamed_virtual C to
unnamed_in C (Marks pool member up) = unnamed_member C pool member
unnamed_in C other = None

abbrev pub or_later : Option UnnamedAt → Option UnnamedAt → Option UnnamedAt
or_later None later = later
or_later (Some found) later = Some found

-- the first among these
abbrev pub unnamed_among : Config → List PlacedDeed → Option UnnamedAt
unnamed_among C [] = None
unnamed_among C (x ∷ xs) = or_later (unnamed_in C x.deed) (unnamed_among C xs)

abbrev pub unnamed_by : Config → TestStep → Option UnnamedAt
unnamed_by C (One deed) = unnamed_in C deed
unnamed_by C (Together deeds) = unnamed_among C deeds
unnamed_by C (Expect question) = None

abbrev pub unnamed_of : Config → List PlacedStep → Option UnnamedAt
unnamed_of C [] = None
unnamed_of C (x ∷ xs) = or_later (unnamed_by C x.step) (unnamed_of C xs)

-- what is wrong, in English
abbrev pub unnamed_words : Unnamed → List ℕ
unnamed_words unnamed.Virtual = codes "no virtual server of this name"
unnamed_words unnamed.Pool = codes "no pool of this name"
unnamed_words unnamed.Member = codes "the pool has no such member"
