use Rattle.std.proofs.Common.{ap, ap₂, subst, ◌∙◌, List, [], ◌++◌}
use Rattle.px_bytes.specs.declared.fault.Reply.{Reply}
use Rattle.tcl_vars.specs.Scopes.{Scopes, in_proc}
use Rattle.rule_model.specs.Evaluator.{evaluate}
use Rattle.plain_eval.specs.Plain.{IsOutcome}
use Rattle.conn_trace.specs.Setup.{Handler}
use Rattle.conn.specs.Setups.{handler_of}
use Rattle.record_model.specs.Init.{init_host, init_setting, lines_in, ran}
use Rattle.proxy_core.specs.InitPlaces.{plain_lines}
use Rattle.record_model.specs.Init.{InitHost}
use Rattle.proxy_core.proofs.InitRuns.{ended_is, left}
use Rattle.proxy_core.proofs.init.run_on.Goals as goal

pub returns : goal.returns
unfolding ran
returns c =
    let K = c.args.config.now in
    let s = c.args.left.now in
    let b : Handler = handler_of c.args.handler in
    let p = c.in_ok-plain.plain in
    let vars = c.eval_plain.new.vars in
    let host = c.eval_plain.new.host in
    let I : Scopes → InitHost → List Reply → Type 0 = λ v h rs. IsOutcome (evaluate (init_setting K.groups b.procedures) b.body v h rs K.budget) p vars host rs in
    let by_replies : I c.enter_proc.new.self c.args.host.now [] = subst (λ rs. I c.enter_proc.new.self c.args.host.now rs) c.new-replies.ensures c.in_ok-plain.ensures in
    let by_host : I c.enter_proc.new.self init_host [] = subst (λ h. I c.enter_proc.new.self h []) c.requires by_replies in
    let by_vars : I (in_proc s.vars) init_host [] = subst (λ v. I v init_host []) c.in_ok-enter_proc.ensures.ok by_host in
    ap₂ left c.leave_proc.ensures (c.in_ok-add_end.ensures ∙ ap (λ l. l ++ plain_lines b.rule p) (c.in_ok-add_lines.ensures ∙ ap (λ es. s.lines ++ lines_in es) (c.as_slice.ensures ∙ c.made.ensures)))
    ∙ ended_is b.rule s (evaluate (init_setting K.groups b.procedures) b.body (in_proc s.vars) init_host [] K.budget) p vars host by_vars
