use Rattle.std.proofs.Common.{rules, not, nat_eq, sym, ap, ◌∙◌, true}
use Rattle.std.proofs.lemmas.Fn.{filter_same}
use Rattle.proxy_core.specs.Calls.{kept_calls, kept_sleepers, without_calls, without_sleepers}
use Rattle.proxy_core.specs.declared.call.Asked.{Asked}
use Rattle.proxy_core.specs.declared.call.Asleep.{Asleep}
use Rattle.proxy_core.proofs.call_queue.CallQueue.forget.Goals as goal

pub returns-then-waited-clause-items : goal.returns-then-waited-clause-items
returns-then-waited-clause-items c =
    filter_same _ (λ (a : Asked). not (nat_eq c.args.conn a.conn)) _ (λ x b f k. search rules) _ _ c.retain.ensures.filtered
    ∙ ap (λ q. without_calls c.args.conn q.items) c.self.view_is
    ∙ sym (ap (λ b. kept_calls b c.args.waits c.args.conn c.args.self.now.items) c.if-waited.true ∙ ap (λ b. kept_calls true b c.args.conn c.args.self.now.items) c.if-waits.false)

pub returns-then-waited-clause-asleep : goal.returns-then-waited-clause-asleep
returns-then-waited-clause-asleep c =
    filter_same _ (λ (a : Asleep). not (nat_eq c.args.conn a.conn)) _ (λ x b f k. search rules) _ _ c.retain-then-waited.ensures.filtered
    ∙ ap (λ q. without_sleepers c.args.conn q.asleep) c.self.view_is
    ∙ sym (ap (λ b. kept_sleepers b c.args.waits c.args.conn c.args.self.now.asleep) c.if-waited.true ∙ ap (λ b. kept_sleepers true b c.args.conn c.args.self.now.asleep) c.if-waits.false)
