-- What the proofs speak of, passed on by one name.
pub use Rattle.std.proofs.Common.{Bool, Err, List, None, Ok, Option, Result, Some, [], ap}
pub use Rattle.std.proofs.Common.{arith, codes, drop, false, get_or, length, length-append, map}
pub use Rattle.std.proofs.Common.{nat_eq, nat_lt, refl, suc, sym, true, zero, ℕ, ◌*◌, ◌++◌, ◌+◌}
pub use Rattle.std.proofs.Common.{◌-◌, ◌<◌, ◌∙◌, ◌∷◌, ◌≡◌, ◌≤◌}
pub use Rattle.std.proofs.lemmas.Bool.Decides.{nat_tests}
pub use Rattle.std.proofs.lemmas.List.{append-nil, append_assoc, drop_all, drop_more}
pub use Rattle.std.proofs.lemmas.List.{nil_from_length}
pub use Rattle.std.specs.Prelude.{IfOk, IsErr, IsErrAnd, IsOk, if◌then◌else◌, option_and_then}
pub use Rattle.std.specs.Prelude.{slice_get, sum_by}
pub use Rattle.std.specs.Result.{is_err}
pub use Rattle.px_bytes.specs.FaultText.{budget_spent, too_long}
pub use Rattle.px_bytes.specs.Gives.{Gives}
pub use Rattle.px_bytes.specs.Limit.{text_limit}
pub use Rattle.px_bytes.specs.declared.fault.Raise.{Raise}
pub use Rattle.px_bytes.specs.declared.fault.TclFault.{TclFault}
pub use Rattle.px_bytes.specs.declared.memory.Memory.{Memory}
pub use Rattle.tcl_trees.specs.Tree.{Tree, each, operands_of, script, trees_of, values_of}
pub use Rattle.tcl_trees.specs.TreeView.{node_step, node_view, nodes_view, operands_view}
pub use Rattle.tcl_trees.specs.TreeView.{values_view}
pub use Rattle.tcl_trees.specs.declared.node.Node.{Node, fold_out-Node, map-Node, out-Node}
pub use Rattle.tcl_trees.specs.declared.node.Node.TheOpen.{Node-F}
pub use Rattle.tcl_trees.specs.declared.node.Verb.{Verb}
pub use Rattle.tcl_expr.specs.declared.expr.Joint.{Joint}
pub use Rattle.tcl_var_commands.specs.Changed.{Changed, Does}
pub use Rattle.tcl_vars.specs.Scopes.{Level, Scopes, in_proc, out_of_proc}
pub use Rattle.rule_model.specs.Children.{alone, child, count, free, is_next, one, places_of}
pub use Rattle.rule_model.specs.Commands.{Bound, called, code_left, command, deeper, entered}
pub use Rattle.rule_model.specs.Commands.{expression_read, leave, named_command, too_deep}
pub use Rattle.rule_model.specs.Control.{Row, after_body, after_next, caught, caught_in, chosen}
pub use Rattle.rule_model.specs.Control.{chosen_of, code_number, each_rows, first_body, hit_of}
pub use Rattle.rule_model.specs.Control.{is_caught, most_turns, number_changed, row_loop}
pub use Rattle.rule_model.specs.Control.{rows_command, rows_of as list_rows, turn, turn_assigned}
pub use Rattle.rule_model.specs.Control.{turns}
pub use Rattle.rule_model.specs.Evaluator.{bodies, eval, evals, inner, inner_limit, joints, parts}
pub use Rattle.rule_model.specs.Evaluator.{read_element, values, words}
pub use Rattle.rule_model.specs.Host.{HostStep}
pub use Rattle.rule_model.specs.Outcome.{Act, Ends, Meaning, Outcome, State, Waits, answered}
pub use Rattle.rule_model.specs.Outcome.{changed, code_of, ends, heard_code, paid, spend, state}
pub use Rattle.rule_model.specs.Outcome.{then_code, then_value, unvalued, with_value}
pub use Rattle.rule_model.specs.Setting.{Inner, Setting}
pub use Rattle.rule_model.specs.Words.{after_piece, commands, in_order, in_word, told, word_at}
pub use Rattle.rule_model.specs.declared.code.Code.{Code}
pub use Rattle.rule_model.specs.declared.code.Code.TheVariants.{Raised, Value}
pub use Rattle.rule_nodes.specs.Calls.{call_view}
pub use Rattle.rule_nodes.specs.Goes.{body_goes, next_goes}
pub use Rattle.rule_nodes.specs.Rows.{if_some, rows_view}
pub use Rattle.plain_eval.specs.End.{AddsPiece, AddsValue, Caught, CaughtBy, ChangeIs, Is, Leaves}
pub use Rattle.plain_eval.specs.End.{Limited, Spends, after_end, caught_code, end_of, ended}
pub use Rattle.plain_eval.specs.End.{fault_end, going, kept, kept_end, loop_end, value_in}
pub use Rattle.plain_eval.specs.Ran.{body_of, first_of, loop_tree, meaning_of, pieces_of, test_of}
pub use Rattle.plain_eval.specs.Ran.{turns_of, words_of}
pub use Rattle.plain_eval.specs.Stand.{EndsAs, Gave, GoesOn, Ran, Stand, Went, from, inner_of}
pub use Rattle.plain_eval.specs.Stand.{setting_of, stand}
pub use Rattle.plain_eval.specs.declared.run.End.{End}
pub use Rattle.plain_eval.specs.declared.run.Halted.{Halted}
pub use Rattle.plain_eval.specs.declared.context.Context.{Context}
pub use Rattle.plain_eval.specs.declared.run.Run.{Run}
