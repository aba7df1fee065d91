use Rattle.std.proofs.Common.{◌≡◌, ◌∙◌, arith, sym}
use Rattle.index_lists.specs.Ring.{without}
use Rattle.index_lists.proofs.Rings.{distinct_without, found_in, found_within, missing_out, not_in_without}
use Rattle.index_lists.proofs.Rings.{without_absent, without_found}
use Rattle.index_lists.proofs.ring.Ring.unlink.Goals as goal

pub returns-in_default-clause-was : goal.returns-in_default-clause-was
returns-in_default-clause-was c = rw (← c.self.view_is) (sym (missing_out c.args.number _ c.in_default.ensures))

pub returns-in_default-clause-items : goal.returns-in_default-clause-items
returns-in_default-clause-items c = rw (← c.self.view_is) (sym (without_absent c.args.number _ c.in_default.ensures))

pub returns-in_default-clause-out : goal.returns-in_default-clause-out
returns-in_default-clause-out c = rw (← c.self.view_is) (missing_out c.args.number _ c.in_default.ensures)

taken : (c : goal.After-remove) → c.remove.new.self.items ≡ without c.args.number c.self.inside.numbers.items
taken c =
    let w = found_within c.args.number c.in-Some.at c.self.inside.numbers.items c.in-Some.ensures in
    let s = c.remove.ensures.succeeds 0 (omega (arith, w, c.self.inside.numbers.ok.0)) in
    (rw s at c.remove.ensures.items) ∙ sym (without_found _ _ _ c.in-Some.ensures)

pub invariant_of-self : goal.invariant_of-self
invariant_of-self c = (
  rw (taken c) (distinct_without c.args.number _ c.self.invariant.0),
  omega (arith, c.self.invariant.1, c.remove.ensures.capacity),
)

pub returns-clause-was : goal.returns-clause-was
returns-clause-was c = rw (← c.self.view_is) (sym (found_in c.args.number c.in-Some.at _ c.in-Some.ensures))

pub returns-clause-items : goal.returns-clause-items
returns-clause-items c = rw (← c.self.view_is) (taken c)

pub returns-clause-out : goal.returns-clause-out
returns-clause-out c = rw (taken c) (not_in_without c.args.number _ c.self.invariant.0)
