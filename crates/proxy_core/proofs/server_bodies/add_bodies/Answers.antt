use Rattle.std.proofs.Common.{◌≡◌, sym, ap, ◌∙◌, ℕ, List, [], ◌∷◌, ◌++◌, append_assoc, take, zero-add, Some, arith}
use Rattle.std.specs.Prelude.{slice_get}
use Rattle.conn.specs.declared.setup.Place.{Place}
use Rattle.proxy_core.specs.Bodies.{placed}
use Rattle.proxy_core.proofs.Ordering.{placed_more, some_at}
use Rattle.proxy_core.proofs.server_bodies.add_bodies.Goals as goal

pub loop-number-preserved : goal.loop-number-preserved
loop-number-preserved c =
    let all = c.args.all.now in
    let hs = c.args.handlers.now in
    let i = c.loop-number.number in
    let h = c.index-handlers-number.result in
    let some : slice_get hs i ≡ Some h = some_at hs i h (omega arith) c.index-handlers-number.is in
    let place : ℕ → List Place = λ n. record { rule = c.args.rule; number = n; priority = h.priority } ∷ [] in
    c.in_ok-push.ensures.ok
    ∙ ap (λ a. a ++ place i) c.loop-number.invariant
    ∙ append_assoc all (placed c.args.rule 0 (take i hs)) (place i)
    ∙ ap (λ r. all ++ r) (ap (λ n. placed c.args.rule 0 (take i hs) ++ place n) (sym (zero-add i)) ∙ sym (placed_more c.args.rule 0 hs i h some))
