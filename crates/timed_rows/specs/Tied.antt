-- How entries, the keys of slots and deadlines go together. No public clause cites this module.
use Rattle.std.specs.Prelude.{◌≡◌, ℕ, ◌<◌, true, List, length, map, Option, Some, IsSome}
use Rattle.std.specs.declared.cmp.Ordering.{Ordering}
use Rattle.std.specs.List.Sorted.{IsStrictlySortedBy}
use Rattle.std.specs.Map.{keys_of, lookup}
use Rattle.std.specs.BTreeMap.{is_at}
use Rattle.slab.specs.Slab.{Slab, get}
use Rattle.index_lists.specs.Wheel.{due_of}
use Rattle.timed_rows.specs.Rows.{Timed}
use Rattle.timed_rows.specs.declared.timed_value.TimedValue.{TimedValue}

abbrev pub seen_held : {T : Type 0} → TimedValue T → Timed T
seen_held h = (h.value, h.due)

module _ {K T : Type 0} where
  -- the entries as a contract sees them
  abbrev pub seen : List (K × TimedValue T) → List (K × Timed T)
  seen es = map (λ e. (e.0, seen_held e.1)) es

  -- the slot of what stands at a key has that key, and the deadline
  pub record HasSlot (cmp : K → K → Ordering) (s : Slab K) (ds : List (Option ℕ)) (k : K) (h : TimedValue T) : Type 0 where
    pub own : K
    pub there : get s h.slot ≡ Some own
    pub same : is_at (cmp k) own ≡ true
    pub due : due_of ds h.slot ≡ h.due

  -- the key of a slot has an entry, which has that slot
  pub record HasEntry (cmp : K → K → Ordering) (es : List (K × TimedValue T)) (at : ℕ) (k : K) : Type 0 where
    pub held : TimedValue T
    pub there : lookup (is_at (cmp k)) es ≡ Some held
    pub slot : held.slot ≡ at

  -- each entry has a slot of its own, each slot with a key an entry, and only those have deadlines
  pub record IsTied (cmp : K → K → Ordering) (es : List (K × TimedValue T)) (s : Slab K) (ds : List (Option ℕ)) : Type 0 where
    pub sorted : IsStrictlySortedBy cmp (keys_of es)
    pub slots : (k : K) (h : TimedValue T) → lookup (is_at (cmp k)) es ≡ Some h → HasSlot cmp s ds k h
    pub entries : (slot : ℕ) (k : K) → get s slot ≡ Some k → HasEntry cmp es slot k
    pub alive : (slot due : ℕ) → due_of ds slot ≡ Some due → IsSome (get s slot)
    pub reserved : (slot : ℕ) → IsSome (get s slot) → slot < length ds
