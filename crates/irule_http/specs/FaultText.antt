-- The fault that HTTP commands alone raise, with its text, which is this project's own.
use Rattle.std.specs.Prelude.{ℕ, List, ◌++◌, codes}
use Rattle.px_bytes.specs.declared.fault.FaultKind.TheVariants.{Context}
use Rattle.px_bytes.specs.declared.fault.TclFault.{TclFault}

-- the command of this name comes behind an answer
abbrev pub already_answered : List ℕ → TclFault
already_answered name = record { kind = Context; text = name ++ codes ": already answered" }
