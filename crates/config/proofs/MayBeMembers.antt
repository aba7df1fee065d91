-- Whether some may be the members of a pool, by one test.
use Rattle.std.proofs.Common.{◌≡◌, refl, List, length, Bool, true, false, ◌&&◌, nat_le, arith}
use Rattle.std.specs.Prelude.{◌↔◌, IsTrue}
use Rattle.std.specs.List.{list_all}
use Rattle.std.proofs.lemmas.Bool.{and_parts}
use Rattle.std.proofs.lemmas.Bool.Decides.{nat_tests}
use Rattle.pools.specs.Pools.{AreMembers, are_apart, priority_fits, ratio_fits}
use Rattle.pools.specs.declared.member.Member.{Member}
use Rattle.config.specs.Filled.{may_be_members}

pub members_by : (ms : List Member) → may_be_members ms ≡ true → AreMembers ms
members_by ms h =
    let first = and_parts (nat_le (length ms) 1000) (list_all ratio_fits ms && (list_all priority_fits ms && are_apart ms)) h in
    let rest = and_parts (list_all ratio_fits ms) (list_all priority_fits ms && are_apart ms) first.1 in
    let last = and_parts (list_all priority_fits ms) (are_apart ms) rest.1 in
    record { few = grind (arith, nat_tests, first.0); ratios = rest.0; priorities = last.0; apart = last.1 }

both : (a b : Bool) → a ≡ true → b ≡ true → (a && b) ≡ true
both true true p q = refl
both false b p q = cc
both true false p q = cc

by_members : (ms : List Member) → AreMembers ms → may_be_members ms ≡ true
by_members ms k =
    let few = k.few in
    let t : nat_le (length ms) 1000 ≡ true = grind (arith, nat_tests) in
    both (nat_le (length ms) 1000) _ t (both (list_all ratio_fits ms) _ k.ratios (both (list_all priority_fits ms) (are_apart ms) k.priorities k.apart))

pub tested : (b : Bool) (ms : List Member) → IsTrue b ↔ AreMembers ms → b ≡ may_be_members ms
tested true ms h = let e = by_members ms (h.0 refl) in cc
tested false ms h = by_test (may_be_members ms) refl
  where
    by_test : (t : Bool) → may_be_members ms ≡ t → false ≡ t
    by_test true e = h.1 (members_by ms e)
    by_test false e = refl
