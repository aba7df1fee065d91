-- What stays over a call, as the code has it.
use Rattle.std.specs.Prelude.{option_map}
use Rattle.tcl_trees.specs.Procedures.{procs_view}
use Rattle.frame_words.specs.Calls.{Caller}
use Rattle.frame_words.specs.declared.calls.Caller as code

abbrev pub caller_view : code.Caller → Caller
caller_view c = record {
  statics = option_map (λ v. v.now.statics) c.statics;
  procedures = procs_view c.procs.now;
  room = c.room;
  wanted = c.wanted;
}
