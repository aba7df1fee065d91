use Rattle.std.proofs.Common.{◌≡◌, drop}
use Rattle.px_outside.specs.MemFiles.{contents_of}
use Rattle.px_outside.proofs.mem_files.contents_of.Given as goal

abbrev pub invariant-loop-file : goal.invariant-loop-file
invariant-loop-file l = contents_of (drop l.file-index l.file-items) l.name ≡ contents_of l.fn.files l.name
