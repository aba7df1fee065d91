use Rattle.std.proofs.Common.{◌≡◌, length, arith, subst, sym, ◌∙◌}
use Rattle.std.proofs.lemmas.List.{with_items_is}
use Rattle.std.specs.Vec.{with_items}
use Rattle.pool_monitor.specs.Pump.{Tells, watch}
use Rattle.pool_monitor.proofs.Pumps.{pumped_of}
use Rattle.pool_monitor.proofs.board.Board.pump.Goals as goal

pub returns-clause-pumped : goal.returns-clause-pumped
returns-clause-pumped g c =
    let did = g.P.Net.did in
    let moment = c.args.moment in
    let ms = c.self.inside.monitors in
    let v = c.self.inside.members in
    let old = c.args.net.now in
    let new = c.probe_each.new.net in
    let out = c.args.out.now in
    let out' = c.mark_each.new.out in
    let ps = c.probe_each.new.members in
    let rs = c.mark_each.new.members in
    let long : length ps ≡ v.len = omega arith in
    let long' : length rs ≡ v.len = omega arith in
    let between = c.deref_mut-3.ensures.value ∙ with_items_is v ps long in
    let tells = pumped_of did moment old new out out' ms c.as_slice-monitors.result.now v.items c.deref_mut.result.now ps c.deref_mut-3.result.now rs
    c.as_slice-monitors.ensures c.deref_mut.ensures.value between c.in_ok-probe_each.ensures.probed c.in_ok-mark_each.ensures in
    let shown = subst (λ qs. Tells did (watch ms v.items) moment old new (watch ms qs) out out') (sym (with_items_is (with_items v ps) rs long')) tells in
    subst (λ w. Tells did w moment old new (watch ms (with_items (with_items v ps) rs).items) out out') c.self.view_is shown
