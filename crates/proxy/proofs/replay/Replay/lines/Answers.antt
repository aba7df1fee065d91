use Rattle.std.proofs.Common.{◌≡◌, ◌+◌, ◌-◌, ℕ, List, [], Option, take, drop, subst, arith}
use Rattle.std.proofs.lemmas.List.{length-drop, take_all}
use Rattle.run_config.specs.declared.config.Config.{Config}
use Rattle.proxy.specs.Stops.{StoppedAtLine}
use Rattle.proxy.specs.Written.{Stands}
use Rattle.proxy.proofs.LineCuts.{cut}
use Rattle.proxy.proofs.ScheduleStops.{placed, within_rest, behind_line, stops_there, stops_unended}
use Rattle.proxy.proofs.replay.Replay.lines.Goals as goal

pub returns-in_default-clause-stops : goal.returns-in_default-clause-stops
returns-in_default-clause-stops g c =
    let l = c.loop-at in
    let s = c.args.schedule.now in
    let old = c.args.self.now in
    let before : Config → Option (List ℕ) → Type 0 = λ C told. Stands C [] 0 old.core old.taken.items old.events told (g.K.Sink.written c.args.out.now) in
    stops_unended s l.at l.line l.self.core l.self.taken.items l.self.events (g.K.Sink.written l.out) before c.last_kind-kind.result (omega (arith, c.loop-at-test.true)) (placed l.at s _ _ c.line_len.ensures.place c.in_default.is) c.last_kind-kind.ensures.skipped c.last_kind-kind.ensures.not_skipped l.invariant.stands

pub line-requires-clause-is_line : goal.line-requires-clause-is_line
line-requires-clause-is_line g c =
    let l = c.loop-at in
    let e : l.at + c.in-Some.len - l.at ≡ c.in-Some.len = omega arith in
    rw e ((cut c.in-Some.len _ (placed l.at c.args.schedule.now _ _ c.line_len.ensures.place c.in-Some.is)).is_line)

pub returns-in-Err-clause-stops : goal.returns-in-Err-clause-stops
returns-in-Err-clause-stops g c C told st =
    let l = c.loop-at in
    let s = c.args.schedule.now in
    let n = c.line.new.self in
    let e : l.at + c.in-Some.len - l.at ≡ c.in-Some.len = omega arith in
    let h = within_rest l.at c.in-Some.len s c.in-Some.ensures.within in
    stops_there C s l.at c.in-Some.len l.line n.core n.taken.items n.events told _ c.in-Err.why (placed l.at c.args.schedule.now _ _ c.line_len.ensures.place c.in-Some.is) h
    (let P : ℕ → Type 0 = λ m. StoppedAtLine C (take l.at s) (take m (drop l.at s)) l.line (l.line + 1) n.core n.taken.items n.events told (g.K.Sink.written c.line.new.out) c.in-Err.why in
    subst P e (c.in-Err.ensures.stops C told (take l.at s) l.line (l.invariant.stands C told st)))

pub returns-clause-goes_on : goal.returns-clause-goes_on
returns-clause-goes_on g c C told st =
    let l = c.loop-at in
    let s = c.args.schedule.now in
    let P : List ℕ → Type 0 = λ t. Stands C t l.line l.self.core l.self.taken.items l.self.events told (g.K.Sink.written l.out) in
    record { number = l.line; stands = subst P (take_all l.at s (omega (arith, c.loop-at-test.false))) (l.invariant.stands C told st) }

pub loop-at-preserved : goal.loop-at-preserved
loop-at-preserved g c =
    let l = c.loop-at in
    let s = c.args.schedule.now in
    let n = c.line.new.self in
    let h = within_rest l.at c.in-Some.len s c.in-Some.ensures.within in
    let k = length-drop l.at s in
    record {
      stands = λ C told st.
          let e : l.at + c.in-Some.len - l.at ≡ c.in-Some.len = omega arith in
          behind_line C s l.at c.in-Some.len l.line n.core n.taken.items n.events told _ (placed l.at c.args.schedule.now _ _ c.line_len.ensures.place c.in-Some.is) h
          (rw e at (c.in_default-line.ensures.goes_on C told (take l.at s) l.line (l.invariant.stands C told st)));
      events = omega (arith, c.line.ensures.counts, l.invariant.events);
      line = omega (arith, l.invariant.line);
      within = omega (arith, h, k, l.invariant.within);
      faults = omega (arith, c.line.ensures.faults_never_fall, l.invariant.faults);
    }
