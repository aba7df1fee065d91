-- Faults of serving, and what each comes of.
use Rattle.std.specs.Prelude.{ℕ, Bool, true, false, Result, Ok, Err}
use Rattle.px_outside.specs.declared.failed.Failed.{Failed}
use Rattle.px_outside.specs.declared.failed.Failed.TheVariants as failed
use Rattle.px_outside.specs.Outside.{Rose}
use Rattle.serve_loop.specs.declared.fault.ServeFault.{ServeFault}
use Rattle.serve_loop.specs.declared.fault.ServeFault.TheVariants as fault

-- what a fault of the net is
abbrev pub fault_of : Failed → ServeFault
fault_of failed.Failed = fault.Net
fault_of failed.Memory = fault.Memory

-- Net comes only where the net's own count rose, Write not at all.
abbrev pub FromNet : (before now : ℕ) → ServeFault → Type 0
FromNet before now fault.Net = Rose before now
FromNet before now fault.Write = ⊥
FromNet before now fault.Memory = Unit {0}

-- Write comes only where the journal's count rose, Net not at all.
abbrev pub FromSink : (before now : ℕ) → ServeFault → Type 0
FromSink before now fault.Net = ⊥
FromSink before now fault.Write = Rose before now
FromSink before now fault.Memory = Unit {0}

-- Net comes only where the net's count rose, Write only where the journal's did.
abbrev pub FromNetOrSink : (net net' sink sink' : ℕ) → ServeFault → Type 0
FromNetOrSink net net' sink sink' fault.Net = Rose net net'
FromNetOrSink net net' sink sink' fault.Write = Rose sink sink'
FromNetOrSink net net' sink sink' fault.Memory = Unit {0}

-- memory was refused
abbrev pub is_memory : ServeFault → Bool
is_memory fault.Net = false
is_memory fault.Write = false
is_memory fault.Memory = true

-- lines may be missing in the journal
abbrev pub is_not_net : ServeFault → Bool
is_not_net fault.Net = false
is_not_net fault.Write = true
is_not_net fault.Memory = true

-- how a turn ends, by the end of what it did and that of the writing of its lines: want of memory
-- goes first, then a fault of the journal
abbrev pub turn_end : (done written : Result (Unit {0}) ServeFault) → Result (Unit {0}) ServeFault
turn_end (Err fault.Memory) written = Err fault.Memory
turn_end done (Err why) = Err why
turn_end done (Ok u) = done
