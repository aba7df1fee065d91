use Rattle.std.proofs.Common.{◌+◌, Err, Ok}
use Rattle.tmsh_read.proofs.Filling.{ends_at, goes_at, stops_at, within_text}
use Rattle.tmsh_read.specs.Sketch.{sketch}
use Rattle.tmsh_read.proofs.draft.Draft.fill.Goals as goal

pub returns-in-Ends-clause-read : goal.returns-in-Ends-clause-read
returns-in-Ends-clause-read c =
    let t = sketch c.turn.new.self in
    c.tokens.invariant.joins (Ok t)
    (ends_at c.args.text.now c.tokens.at c.tokens.gap (sketch c.tokens.self) t (rw c.in-Ends.is at c.in_ok-turn.ensures.turn))

pub returns-in-Stops-clause-stopped : goal.returns-in-Stops-clause-stopped
returns-in-Stops-clause-stopped c =
    c.tokens.invariant.joins (Err (c.tokens.at + c.in-Stops.start))
    (stops_at c.args.text.now c.tokens.at c.tokens.gap (sketch c.tokens.self) c.in-Stops.start (rw c.in-Stops.is at c.in_ok-turn.ensures.turn))

pub tokens-preserved : goal.tokens-preserved
tokens-preserved c =
    let fits = rw c.in-Goes.is at c.in_ok-turn.ensures.within in
    record {
      within = within_text c.args.text.now c.tokens.at c.in-Goes.size c.tokens.invariant.within fits.1;
      joins = λ r more. c.tokens.invariant.joins r
          (goes_at c.args.text.now c.tokens.at c.tokens.gap (sketch c.tokens.self) (sketch c.turn.new.self) c.in-Goes.size r (rw c.in-Goes.is at c.in_ok-turn.ensures.turn) more);
    }
