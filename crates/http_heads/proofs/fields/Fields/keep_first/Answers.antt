use Rattle.std.proofs.Common.{◌≡◌, ◌⊎◌, inl, inr, suc, ◌+◌, Bool, false, true, ◌&&◌, ◌||◌, remove, ap, ap₂, refl, sym, subst, ◌∙◌, arith}
use Rattle.http_heads.specs.Fields.{AreFields}
use Rattle.http_heads.specs.Passed.{first_alone}
use Rattle.http_heads.proofs.FirstFields.{at_end, fields_first, goes, rest_from, stays}
use Rattle.http_heads.proofs.fields.Fields.keep_first.Goals.{then-seen-2, else-seen-2}
use Rattle.http_heads.proofs.fields.Fields.keep_first.Goals as goal

pub loop-at-init : goal.loop-at-init
loop-at-init c = refl

all_seen : (c : goal.After-loop-at) → c.loop-at.self-inside.list.items ≡ first_alone c.args.name.now c.self.inside.list.items
all_seen c = sym (at_end c.args.name.now c.loop-at.seen c.loop-at.self-inside.list.items c.loop-at.at (omega arith)) ∙ c.loop-at.invariant

pub invariant_of-self : goal.invariant_of-self
invariant_of-self c = subst AreFields (sym (all_seen c)) (fields_first c.args.name.now c.self.inside.list.items c.self.invariant)

pub returns : goal.returns
returns c = all_seen c ∙ ap (first_alone c.args.name.now) c.self.view_is

pub loop-at-preserved-then-seen : goal.loop-at-preserved-then-seen
loop-at-preserved-then-seen c =
    let fs = c.loop-at.self-inside.list.items in
    let at = c.loop-at.at in
    let name = c.args.name.now in
    ap (rest_from name c.loop-at.seen at) c.remove.ensures.items
    ∙ subst (λ t. rest_from name t at (remove fs at) ≡ rest_from name t at fs) (sym c.if-seen.true)
    (goes name fs at c.index.result.now (omega arith) c.index.ensures (sym c.is_named-named.ensures ∙ c.if-named.true))
    ∙ c.loop-at.invariant

further : (named seen : Bool) → (named ≡ true × seen ≡ false) ⊎ (named ≡ false) → (named && seen) ≡ false
further named seen (inl both) = ap₂ (λ s t. s && t) both.0 both.1
further named seen (inr none) = ap (λ s. s && seen) none

seen_is : (c : goal.Joined-seen-2) → c.if-seen-2.seen ≡ (c.loop-at.seen || c.is_named-named.result)
seen_is c = elim c.if-seen-2.branch as (λ b. c.if-seen-2.seen ≡ (c.loop-at.seen || c.is_named-named.result)) [
  | then-seen-2 w ↦ w.seen-is ∙ w.if-seen-2.true ∙ sym (ap (λ s. s || c.is_named-named.result) w.if-seen-2.true)
  | else-seen-2 w ↦ w.seen-is ∙ sym (ap (λ s. s || c.is_named-named.result) w.if-seen-2.false)
]

pub loop-at-preserved : goal.loop-at-preserved
loop-at-preserved c =
    let fs = c.loop-at.self-inside.list.items in
    let at = c.loop-at.at in
    let name = c.args.name.now in
    let named = c.is_named-named.result in
    let further_on : at + 1 ≡ suc at = omega arith in
    ap₂ (λ s n. rest_from name s n fs) (seen_is c) further_on
    ∙ stays name c.loop-at.seen fs at c.index.result.now named (omega arith) c.index.ensures (sym c.is_named-named.ensures)
    (further named c.loop-at.seen c.else-named.either)
    ∙ c.loop-at.invariant
