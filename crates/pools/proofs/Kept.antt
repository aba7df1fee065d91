-- The members stay when their marks change.
use Rattle.std.proofs.Common.{◌≡◌, ℕ, zero, suc, Bool, List, [], ◌∷◌, get_or, map, sym, refl, ap}
use Rattle.std.proofs.Math.ListN.{set}
use Rattle.pools.specs.Pools.{up}
use Rattle.pools.specs.declared.member.Marked.{Marked}
use Rattle.pools.specs.declared.member.Member.{Member}

abbrev pub members_of : List Marked → List Member
members_of marked = map (λ m. m.member) marked

pub members_up : (members : List Member) → members_of (map up members) ≡ members
members_up [] = refl
members_up (m ∷ ms) = ap (λ t. m ∷ t) (members_up ms)

pub members_marked : (xs : List Marked) (at : ℕ) (x : Marked) (mark : Bool) → get_or xs at x ≡ x
    → members_of (set xs at (record { member = x.member; up = mark })) ≡ members_of xs
members_marked [] at x mark here = refl
members_marked (y ∷ ys) zero x mark here = ap (λ m. m.member ∷ members_of ys) (sym here)
members_marked (y ∷ ys) (suc at) x mark here = ap (λ t. y.member ∷ t) (members_marked ys at x mark here)
