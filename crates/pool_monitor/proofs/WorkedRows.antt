-- Rows that are known by hand: a member that is refused at each probe, and a file's faults.
use Rattle.std.proofs.Common.{◌≡◌, ℕ, ◌++◌, Bool, true, false, List, [], ◌∷◌, Some, None, codes, pos, refl}
use Rattle.toml.specs.Data.{Data, Items, integer, string, table, array, no_items, item, Members, no_members, member}
use Rattle.pools.specs.declared.member.Method.TheVariants.{RoundRobin}
use Rattle.config.specs.Faults.{fault_at}
use Rattle.config.specs.Places.{item_place, prefix_of}
use Rattle.config.specs.declared.config.PoolSettings.{PoolSettings}
use Rattle.config.specs.declared.fault.ConfigFaultKind.TheVariants.{UnknownKey, WrongKind, Twice, NoSuch, Range}
use Rattle.pool_monitor.specs.Documents.{document_fault}
use Rattle.pool_monitor.specs.History.{Passed, marks_after, sends, was_up}
use Rattle.pool_monitor.specs.Pump.{mark_of}
use Rattle.pool_monitor.specs.declared.monitor.Monitor.{Monitor}
use Rattle.pool_monitor.specs.declared.probe.ProbedMember.{ProbedMember}

-- ---- by TCP with the usual times: each probe is refused, at 0, 5000, 10000, 15000 and 16000

abbrev at : (moment : ℕ) (sent succeeded : Bool) → Passed
at moment sent succeeded = record { moment = moment; sent = sent; succeeded = succeeded }

abbrev until_15000 : List Passed
until_15000 = at 15000 true false ∷ at 10000 true false ∷ at 5000 true false ∷ at 0 true false ∷ []

-- a probe is sent at the first four, and none at 16000
pub sent_at_0 : sends 0 5000 [] ≡ true
sent_at_0 = refl

pub sent_at_15000 : sends 15000 5000 (at 10000 true false ∷ at 5000 true false ∷ at 0 true false ∷ []) ≡ true
sent_at_15000 = refl

pub none_at_16000 : sends 16000 5000 until_15000 ≡ false
none_at_16000 = refl

abbrev down_at_16000 : List Passed
down_at_16000 = at 16000 false false ∷ until_15000

module _ (monitors : List Monitor) (p : ProbedMember) where
  -- it is up at 15000, and marked down at 16000; at 16000 again there is no mark
  pub no_mark_at_15000 : marks_after monitors p (was_up 16000 (at 10000 true false ∷ at 5000 true false ∷ at 0 true false ∷ [])) (was_up 16000 until_15000) ≡ []
  no_mark_at_15000 = refl

  pub down : marks_after monitors p (was_up 16000 until_15000) (was_up 16000 down_at_16000) ≡ mark_of monitors false p ∷ []
  down = refl

  pub down_once : marks_after monitors p (was_up 16000 down_at_16000) (was_up 16000 (at 16000 false false ∷ down_at_16000)) ≡ []
  down_once = refl

  -- at 20000 a probe is sent, and at 20000 again it has connected: it is marked up
  pub up : marks_after monitors p (was_up 16000 (at 20000 true false ∷ down_at_16000)) (was_up 16000 (at 20000 false true ∷ at 20000 true false ∷ down_at_16000))
      ≡ mark_of monitors true p ∷ []
  up = refl

-- ---- files for a configuration with the pool `p`

abbrev pools : List PoolSettings
pools = record { name = codes "p"; method = RoundRobin; members = []; min_active = 0 } ∷ []

abbrev file : Items → Members
file monitors = member (codes "monitor") (array monitors) (member (codes "version") (integer (pos 1)) no_members)

abbrev tcp : List ℕ → Members → Data
tcp pool more = table (member (codes "kind") (string (codes "tcp")) (member (codes "pool") (string pool) more))

abbrev one : Data → Members
one d = file (item d no_items)

abbrev place : ℕ → List ℕ → List ℕ
place n key = prefix_of (item_place [] (codes "monitor") n) ++ key

pub right : document_fault pools (one (tcp (codes "p") no_members)) ≡ None
unfolding document_fault
right = refl

-- what is waited for, though it is by TCP
pub unknown : document_fault pools (one (tcp (codes "p") (member (codes "recv") (string (codes "x")) no_members))) ≡ Some (fault_at UnknownKey (place 0 (codes "recv")))
unfolding document_fault
unknown = refl

pub wrong : document_fault pools (file (item (array no_items) no_items)) ≡ Some (fault_at WrongKind (item_place [] (codes "monitor") 0))
unfolding document_fault
wrong = refl

pub twice : document_fault pools (file (item (tcp (codes "p") no_members) (item (tcp (codes "p") no_members) no_items))) ≡ Some (fault_at Twice (place 1 (codes "pool")))
unfolding document_fault
twice = refl

pub missing : document_fault pools (one (tcp (codes "q") no_members)) ≡ Some (fault_at NoSuch (place 0 (codes "pool")))
unfolding document_fault
missing = refl

pub range : document_fault pools (one (tcp (codes "p") (member (codes "timeout") (integer (pos 0)) no_members))) ≡ Some (fault_at Range (place 0 (codes "timeout")))
unfolding document_fault
range = refl
