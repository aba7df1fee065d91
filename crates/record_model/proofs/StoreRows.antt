-- What a Tick leaves of the store, and what calls make of it, worked out by hand.
use Rattle.std.proofs.Common.{◌≡◌, ℕ, List, [], ◌∷◌, codes, length, refl}
use Rattle.px_bytes.specs.declared.fault.Reply.TheVariants.{Ok as Replied}
use Rattle.core_events.specs.declared.event.Event.TheVariants.{Tick, Turn}
use Rattle.core_events.specs.declared.note.Note.TheVariants.{History}
use Rattle.shared_store.specs.Calls.{live_reply, reply}
use Rattle.record_model.specs.History.{store_of}
use Rattle.record_model.specs.Past.{Happened, Past}
use Rattle.run_config.specs.declared.config.Config.{Config}

abbrev tick : ℕ → Happened
tick moment = record { event = Tick moment; group = [] }

-- a Turn that answered a call of the table at a moment
abbrev turn : ℕ → List (List ℕ) → List ℕ → Happened
turn moment words text = record { event = Turn; group = History 1 moment (codes "table" ∷ words) (Replied text) ∷ [] }

-- `table set k v 2`, `table lookup k`, `table lookup -notouch k`
abbrev sets : Happened
sets = turn 0 (codes "set" ∷ codes "k" ∷ codes "v" ∷ codes "2" ∷ []) (codes "v")

abbrev looks : ℕ → Happened
looks moment = turn moment (codes "lookup" ∷ codes "k" ∷ []) (codes "v")

abbrev passes : ℕ → Happened
passes moment = turn moment (codes "lookup" ∷ codes "-notouch" ∷ codes "k" ∷ []) (codes "v")

abbrev rows : Config → Past → ℕ
rows C past = length (store_of C past).table.rows

record Rows (C : Config) : Type 0 where
  -- it lasts for 2,000 milliseconds from its last touch, their end not among them
  at_1999 : rows C (tick 1999 ∷ sets ∷ []) ≡ 1
  at_2000 : rows C (tick 2000 ∷ sets ∷ []) ≡ 0
  touched : rows C (tick 3998 ∷ looks 1999 ∷ tick 1999 ∷ sets ∷ []) ≡ 1
  touched_end : rows C (tick 3999 ∷ looks 1999 ∷ tick 1999 ∷ sets ∷ []) ≡ 0
  untouched : rows C (tick 2000 ∷ passes 1999 ∷ tick 1999 ∷ sets ∷ []) ≡ 0
  -- a Turn takes nothing away but what its own call leaves dead
  other_key : rows C (turn 9999 (codes "lookup" ∷ codes "j" ∷ []) [] ∷ sets ∷ []) ≡ 1
  own_key : rows C (passes 9999 ∷ sets ∷ []) ≡ 0
  -- what is gone is no reply, and no key
  found : (reply (store_of C (tick 1999 ∷ sets ∷ [])) 1999 (codes "table" ∷ codes "lookup" ∷ codes "k" ∷ [])).reply ≡ Replied (codes "v")
  gone : (live_reply (store_of C (tick 2000 ∷ sets ∷ [])) 2000 (codes "table" ∷ codes "lookup" ∷ codes "k" ∷ [])).reply ≡ Replied []
  no_key : (live_reply (store_of C (tick 2000 ∷ sets ∷ [])) 2000 (codes "table" ∷ codes "keys" ∷ [])).reply ≡ Replied []

-- where two rows may be live
all_rows : (C : Config) → Rows (record C { rows = 2 })
all_rows C = record { at_1999 = refl; at_2000 = refl; touched = refl; touched_end = refl; untouched = refl; other_key = refl; own_key = refl; found = refl; gone = refl; no_key = refl }
