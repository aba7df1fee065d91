use Rattle.std.proofs.Common.{◌≡◌, ◌++◌, drop}
use Rattle.std.specs.List.{flat_map}
use Rattle.test_run.specs.Told.{told}
use Rattle.test_run.proofs.told.add_notes.Given as goal

abbrev pub invariant-loop-note : goal.invariant-loop-note
invariant-loop-note l =
    l.entries ++ flat_map told (drop l.note-index l.fn.notes) ≡ l.initial.entries ++ flat_map told l.fn.notes
