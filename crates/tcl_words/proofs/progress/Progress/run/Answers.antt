use Rattle.std.proofs.Common.{◌≡◌, ◌++◌, [], ◌∷◌, refl, sym, ◌∙◌, subst, arith}
use Rattle.tcl_words.proofs.Runs.{RunTo, goes_on, run_begins, run_turn, run_ends}
use Rattle.tcl_words.proofs.progress.Progress.run.Goals as goal

pub loop-closer-init : goal.loop-closer-init
loop-closer-init c = record {
  so_far = subst (λ bs. RunTo c.args.closer c.args.text.now c.args.self.now bs c.args.self.now)
      (sym c.new-bytes.ensures.items) (run_begins _ _ _);
  within = c.requires;
  onward = omega arith;
  moves = λ e. refl;
}

pub next_byte-byte-requires : goal.next_byte-byte-requires
next_byte-byte-requires c =
    goes_on c.args.closer _ _ (sym c.ends_run.ensures ∙ c.loop-closer-test.true)

pub loop-closer-preserved : goal.loop-closer-preserved
loop-closer-preserved c =
    let l = c.loop-closer in
    let done = c.next_byte-byte.ensures in
    let pushed : c.push.new.self.items ≡ l.bytes.items ++ c.next_byte-byte.result ∷ [] =
    c.in_ok-push.ensures.items in
    record {
      so_far = rw pushed (run_turn c.args.closer c.args.text.now c.args.self.now l.self
          c.next_byte-byte.new.self l.bytes.items c.next_byte-byte.result l.invariant.within
          (sym c.ends_run.ensures ∙ c.loop-closer-test.true) done.value done.onward
          l.invariant.so_far);
      within = done.within;
      onward = omega (arith, done.onward, l.invariant.onward);
      moves = λ e. absurd (omega (arith, done.onward, l.invariant.onward));
    }

pub returns-clause-value : goal.returns-clause-value
returns-clause-value c =
    run_ends c.args.closer c.args.text.now c.args.self.now c.loop-closer.self
    c.loop-closer.bytes.items c.loop-closer.invariant.within
    (sym c.ends_run.ensures ∙ c.loop-closer-test.false) c.loop-closer.invariant.so_far
