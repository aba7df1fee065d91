use Rattle.std.proofs.Common.{◌≡◌, map, take}
use Rattle.core_events.specs.declared.note.Note.TheVariants.{Log}
use Rattle.proxy_core.proofs.init.start_notes.Given as goal

abbrev pub invariant-loop-line : goal.invariant-loop-line
invariant-loop-line l = l.notes.items ≡ map (λ line. Log 0 line) (take l.line-index l.lines)
