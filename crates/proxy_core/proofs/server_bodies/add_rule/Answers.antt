use Rattle.std.proofs.Common.{◌≡◌, sym, ap, ◌∙◌, ◌++◌, append-nil, None}
use Rattle.std.specs.Prelude.{slice_get}
use Rattle.std.proofs.lemmas.Option.{slice_get_past}
use Rattle.proxy_core.specs.Bodies.{placed_in}
use Rattle.proxy_core.proofs.server_bodies.add_rule.Goals as goal

pub returns-in-None : goal.returns-in-None
returns-in-None c =
    let all = c.args.all.now in
    let none : slice_get c.args.rules.now c.args.number ≡ None = slice_get_past c.args.rules.now c.args.number c.in-None.ensures.lookup.3 in
    sym (ap (λ o. all ++ placed_in c.args.event c.args.number o) none ∙ append-nil all)
