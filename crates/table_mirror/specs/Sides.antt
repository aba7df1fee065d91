-- What the two sides of a mirror do by themselves.
use Rattle.std.specs.Prelude.{◌≡◌, ◌⊎◌, ℕ, ◌+◌, nat_lt, Bool, true, false, Option, Some, None, if◌then◌else◌}
use Rattle.px_bytes.specs.declared.fault.Reply.{Reply}
use Rattle.session_table.specs.Tables.{TableState, after, expired}
use Rattle.table_mirror.specs.Mirrored.{differs}
use Rattle.table_mirror.specs.Pushed.{Entry}
use Rattle.table_mirror.specs.declared.standby.Standby.{Standby}
use Rattle.table_mirror.specs.declared.standby.EntryTaken.{EntryTaken}
use Rattle.table_mirror.specs.declared.standby.EntryTaken.TheVariants.{Applied, Old, Ahead, Differs}

-- a place among so many
abbrev pub place_in : ℕ → ℕ → Option ℕ
place_in many place = if nat_lt place many then Some place else None

abbrev pub applied_or : Option Reply → EntryTaken
applied_or None = Applied
applied_or (Some ours) = Differs ours

abbrev pub is_other : EntryTaken → Bool
is_other (Differs ours) = true
is_other t = false

-- what a standby says to the entry of a place
abbrev pub taken_by : Standby → ℕ → Entry → EntryTaken
taken_by s place e =
    if nat_lt place s.applied then Old
    else (if nat_lt s.applied place then Ahead else applied_or (differs s.table e))

-- and how it stands then; behind a reply that differs nothing more is asked of it
abbrev pub TakenTo : EntryTaken → Standby → Standby → Entry → Type 0
TakenTo Applied old new e = new ≡ record { table = after old.table e.moment e.words; applied = old.applied + 1 }
TakenTo Old old new e = new ≡ old
TakenTo Ahead old new e = new ≡ old
TakenTo (Differs ours) old new e = Unit {0}

-- where memory was refused
abbrev pub Left : TableState → TableState → ℕ → Type 0
Left old new moment = (new ≡ old) ⊎ (new ≡ expired moment old)

-- where memory was refused, rows that aren't live at the entry's moment may be gone
abbrev pub Refused : Standby → Standby → Entry → Type 0
Refused old new e = (new ≡ old) ⊎ (new ≡ record old { table = expired e.moment old.table })
