use Rattle.std.proofs.Common.{◌≡◌, ◌∷◌, [], refl, sym, ap, ◌∙◌, subst, arith}
use Rattle.std.specs.Prelude.{reverse}
use Rattle.tcl_words.proofs.Depths.{DeepTo, deep_begins, deep_turn, deep_at_end, deep_closed}
use Rattle.tcl_words.proofs.Depths.{deep_on, reverse_push, no_items}
use Rattle.tcl_words.proofs.deep.deep_end.Goals as goal

pub loop-at-init : goal.loop-at-init
loop-at-init c = record {
  so_far = subst (λ xs. DeepTo c.args.text.now c.args.first c.args.start (c.args.first ∷ reverse xs) c.args.start) (sym c.new-outer.ensures.items) (deep_begins _ _ _);
  within = c.requires;
  onward = omega arith;
}

pub loop-at-preserved-in-On : goal.loop-at-preserved-in-On
loop-at-preserved-in-On c =
    let l = c.loop-at in
    let next = deep_turn c.args.text.now c.args.first l.inside c.args.start l.at (reverse l.outer.items) c.turn-done.result (omega arith) c.turn-done.ensures.value c.turn-done.ensures.onward l.invariant.so_far in
    record { so_far = deep_on _ _ _ _ _ _ (reverse l.outer.items) _ c.in-On.is refl next; within = c.turn-done.ensures.within; onward = omega (arith, c.turn-done.ensures.onward, l.invariant.onward) }

pub loop-at-preserved-in-Opens : goal.loop-at-preserved-in-Opens
loop-at-preserved-in-Opens c =
    let l = c.loop-at in
    let next = deep_turn c.args.text.now c.args.first l.inside c.args.start l.at (reverse l.outer.items) c.turn-done.result (omega arith) c.turn-done.ensures.value c.turn-done.ensures.onward l.invariant.so_far in
    let pushed : reverse c.push.new.self.items ≡ c.in-Opens.under ∷ reverse l.outer.items = ap reverse c.in_ok-push-in-Opens.ensures.items ∙ reverse_push l.outer.items c.in-Opens.under in
    record { so_far = deep_on _ _ _ _ _ _ (reverse l.outer.items) _ c.in-Opens.is (ap (λ xs. c.in-Opens.now ∷ xs) (sym pushed)) next; within = c.turn-done.ensures.within; onward = omega (arith, c.turn-done.ensures.onward, l.invariant.onward) }

pub loop-at-preserved : goal.loop-at-preserved
loop-at-preserved c =
    let l = c.loop-at in
    let next = deep_turn c.args.text.now c.args.first l.inside c.args.start l.at (reverse l.outer.items) c.turn-done.result (omega arith) c.turn-done.ensures.value c.turn-done.ensures.onward l.invariant.so_far in
    let popped : reverse l.outer.items ≡ c.in-Some.now ∷ reverse c.pop.new.self.items = ap reverse c.in-Some.ensures.items ∙ reverse_push c.pop.new.self.items c.in-Some.now in
    record { so_far = deep_on _ _ _ _ _ _ (reverse l.outer.items) _ c.in-Ends.is popped next; within = c.turn-done.ensures.within; onward = omega (arith, c.turn-done.ensures.onward, l.invariant.onward) }

pub returns-in-None-clause-value : goal.returns-in-None-clause-value
returns-in-None-clause-value c =
    let l = c.loop-at in
    let next = deep_turn c.args.text.now c.args.first l.inside c.args.start l.at (reverse l.outer.items) c.turn-done.result (omega arith) c.turn-done.ensures.value c.turn-done.ensures.onward l.invariant.so_far in
    let none : l.outer.items ≡ [] = no_items l.outer.items (omega (arith, c.in-None.ensures.cases.0, l.outer.ok.0)) in
    deep_closed _ _ _ _ c.turn-done.ensures.within (deep_on _ _ _ _ _ _ (reverse l.outer.items) _ c.in-Ends.is (ap reverse none) next)

pub returns-clause-value : goal.returns-clause-value
returns-clause-value c = deep_at_end _ _ _ _ _ _ (omega arith) c.loop-at.invariant.so_far
