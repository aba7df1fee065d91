-- The status of each end.
use Rattle.std.specs.Prelude.{ℕ, Result, Ok, Err}
use Rattle.px_outside.specs.declared.failed.Failed.{Failed}
use Rattle.px_outside.specs.declared.failed.Failed.TheVariants as failed
use Rattle.proxy.specs.declared.end.End.{End}
use Rattle.proxy.specs.declared.end.End.TheVariants.{Done, Usage, Config, Schedule, ReadFault}
use Rattle.proxy.specs.declared.end.End.TheVariants.{WriteFault, Memory, Differs, SecondText}

abbrev pub status_of : End → ℕ
status_of Done = 0
status_of Usage = 2
status_of Config = 3
status_of Schedule = 4
status_of ReadFault = 5
status_of WriteFault = 6
status_of Memory = 7
status_of Differs = 10
status_of SecondText = 11

-- the end of a command whose file can't be read
abbrev pub end_of_read : Failed → End
end_of_read failed.Failed = ReadFault
end_of_read failed.Memory = Memory

-- an end, unless another one came before
abbrev pub end_unless : End → Result (Unit {0}) End → End
end_unless end (Ok u) = end
end_unless end (Err earlier) = earlier
