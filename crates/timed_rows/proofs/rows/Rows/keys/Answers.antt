use Rattle.std.proofs.Common.{ap, arith, length, subst, sym, ◌∙◌}
use Rattle.std.specs.List.Sorted.{IsStrictlySortedBy}
use Rattle.std.specs.Map.{keys_of}
use Rattle.timed_rows.proofs.Seen.{seen-keys, seen-length}
use Rattle.timed_rows.proofs.rows.Rows.keys.Goals as goal

pub returns-clause-rest : goal.returns-clause-rest
returns-clause-rest g c = c.keys.ensures.rest ∙ seen-keys c.self.inside.entries.entries ∙ ap keys_of c.self.view_is

pub returns-clause-sorted : goal.returns-clause-sorted
returns-clause-sorted g c =
    subst (IsStrictlySortedBy g.K.Ord.cmp) (seen-keys c.self.inside.entries.entries ∙ ap keys_of c.self.view_is)
    c.self.invariant.sorted

pub returns-clause-fits : goal.returns-clause-fits
returns-clause-fits g c =
    let same = sym (ap length c.self.view_is) ∙ seen-length c.self.inside.entries.entries in
    omega (arith, same, c.keys.ensures.fits)
