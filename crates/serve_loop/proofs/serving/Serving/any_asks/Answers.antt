use Rattle.std.proofs.Common.{◌+◌}
use Rattle.serve_loop.specs.Part.{stand}
use Rattle.serve_loop.proofs.Anyone.{any_next, any_found, any_none}
use Rattle.serve_loop.proofs.Chains.{front_at, none_left}
use Rattle.serve_loop.proofs.serving.Serving.any_asks.Goals as goal

pub loop-link-init : goal.loop-link-init
loop-link-init g c = λ b e. e

pub loop-link-preserved : goal.loop-link-preserved
loop-link-preserved g c =
    let links = c.args.links.now in
    let i = c.loop-link.link-index in
    any_next g.C.EventCore.face c.args.self.now.conns (stand c.args.self.now) links i (i + 1) _ (front_at links i 0 c.loop-link-test.true) c.if-can_ask.ensures
    c.loop-link.invariant

pub returns-then-can_ask : goal.returns-then-can_ask
returns-then-can_ask g c =
    let links = c.args.links.now in
    let i = c.loop-link.link-index in
    any_found g.C.EventCore.face c.args.self.now.conns (stand c.args.self.now) links i (i + 1) _ (front_at links i 0 c.loop-link-test.true) c.if-can_ask.ensures
    c.loop-link.invariant

pub returns : goal.returns
returns g c =
    let links = c.args.links.now in
    let i = c.loop-link.link-index in
    any_none g.C.EventCore.face c.args.self.now.conns (stand c.args.self.now) links i (none_left links i c.loop-link-test.false) c.loop-link.invariant
