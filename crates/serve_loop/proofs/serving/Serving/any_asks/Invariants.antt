use Rattle.serve_loop.specs.Part.{stand}
use Rattle.serve_loop.proofs.Anyone.{AsksRest}
use Rattle.serve_loop.proofs.serving.Serving.any_asks.Given as goal

abbrev pub invariant-loop-link : goal.invariant-loop-link
invariant-loop-link g l = AsksRest g.C.EventCore.face l.fn.self.conns (stand l.fn.self) l.links l.link-index
