use Rattle.std.proofs.Common.{sym, subst, ◌∙◌, ℕ, Option}
use Rattle.conn.specs.Acts.{CollectsBy}
use Rattle.conn.proofs.connection.Conn.collect.Goals as goal

pub returns-in-None-clause-ok : goal.returns-in-None-clause-ok
returns-in-None-clause-ok c =
    let old = c.args.self.now in
    let P : Option ℕ → Type 0 = λ met. CollectsBy met c.args.setup.now c.args.number old c.rest_or_cut.new.self c.args.notes.now.items c.rest_or_cut.new.notes.items c.rest_or_cut.result in
    subst P (sym c.in-None.is ∙ c.meets.ensures) c.rest_or_cut.ensures.rests
