-- The call of a procedure, as the code has it.
use Rattle.tcl_trees.specs.Procedures.{procedure_view}
use Rattle.rule_model.specs.Commands.{Bound}
use Rattle.rule_nodes.specs.declared.calls.Call.{Call}

abbrev pub call_view : Call → Bound
call_view c = record { procedure = procedure_view c.procedure.now; values = c.values }
