use Rattle.std.proofs.Common.{◌<◌, ◌++◌, sym, ◌∙◌, ap, subst, arith}
use Rattle.tcl_words.specs.Faults.{to}
use Rattle.tcl_words.specs.Values.{brace_bytes, brace_unit_end}
use Rattle.tcl_words.proofs.Runs.{BracesTo, in_braces, braces_begin, braces_turn, braces_stop}
use Rattle.tcl_words.proofs.progress.Progress.braces.Goals as goal

pub loop-next-init : goal.loop-next-init
loop-next-init c = record {
  so_far = subst (λ bs. BracesTo c.args.room c.args.text.now c.args.self.now bs 0 c.args.self.now)
      (sym c.new-bytes.ensures.items) (braces_begin _ _ _);
  within = c.requires;
  few = omega arith;
  onward = omega arith;
}

pub inner_after-next-requires : goal.inner_after-next-requires
inner_after-next-requires c = record {
  within = in_braces c.args.text.now c.loop-next.inner _
      (sym c.ends_braces.ensures ∙ c.loop-next-test.true);
  few = c.loop-next.invariant.few;
}

pub push_brace_unit-requires : goal.push_brace_unit-requires
push_brace_unit-requires c =
    let here = in_braces c.args.text.now c.loop-next.inner c.loop-next.self.at
    (sym c.ends_braces.ensures ∙ c.loop-next-test.true) in
    omega (arith, here, c.deepen.ensures.stays)

pub loop-next-preserved : goal.loop-next-preserved
loop-next-preserved c =
    let l = c.loop-next in
    let done = c.in_ok-self.ensures in
    let here = c.deepen.ensures.stays in
    let on : l.self.at < c.in_ok-self.field-0 = omega (arith, done.onward, here) in
    record {
      so_far = braces_turn c.args.room c.args.text.now c.args.self.now l.self c.deepen.new.self _
          l.bytes.items _ l.inner _ (sym c.ends_braces.ensures ∙ c.loop-next-test.true)
          c.deepen.ensures.value
          (done.bytes ∙ ap (λ k. l.bytes.items ++ brace_bytes c.args.text.now k) here)
          (ap (λ k. to k c.deepen.new.self)
          (done.end ∙ ap (brace_unit_end c.args.text.now) here))
          c.inner_after-next.ensures.value on l.invariant.so_far;
      within = done.within;
      few = omega (arith, on, c.inner_after-next.ensures.few, l.invariant.few);
      onward = omega (arith, on, l.invariant.onward);
    }

pub returns-clause-value : goal.returns-clause-value
returns-clause-value c =
    braces_stop c.args.room c.args.text.now c.args.self.now c.loop-next.self c.loop-next.bytes.items
    c.loop-next.inner c.loop-next.invariant.within
    (sym c.ends_braces.ensures ∙ c.loop-next-test.false) c.loop-next.invariant.so_far
