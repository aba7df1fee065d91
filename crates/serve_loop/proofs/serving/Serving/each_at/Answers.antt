use Rattle.std.proofs.Common.{true, false, sym}
use Rattle.std.proofs.lemmas.List.{append-nil}
use Rattle.serve_loop.specs.declared.fault.ServeFault.TheVariants.{Memory as OutOfMemory}
use Rattle.serve_loop.specs.Broken.{AreAsks}
use Rattle.serve_loop.proofs.Breaking.{broke_after, broke_nothing}
use Rattle.serve_loop.proofs.Exits.{at_fault}
use Rattle.serve_loop.proofs.Walking.{work_goes}
use Rattle.serve_loop.proofs.serving.Serving.each_at.Goals as goal

pub returns-clause-one : goal.returns-clause-one
returns-clause-one g c = record {
  number = c.number-number.result;
  is = c.number-number.ensures;
  stays = false;
  kept = sym (append-nil c.args.stay.now);
  did = rw c.if-branch.false at c.in_ok-one.ensures.part;
}

pub returns-in_err-one-clause-broke : goal.returns-in_err-one-clause-broke
returns-in_err-one-clause-broke g c =
    at_fault _ c.from_residual.result c.in_err-one.field-0.0 c.from_residual.ensures.1 c.in_err-one.ensures.broke

pub returns-in_err-push-clause-broke : goal.returns-in_err-push-clause-broke
returns-in_err-push-clause-broke g c =
    at_fault _ c.from_residual-in_err-push.result OutOfMemory c.from_residual-in_err-push.ensures.1
    (broke_after (work_goes g.C.EventCore.face c.args.work c.args.self.now.conns c.number-number.result _) c.in_ok-one.ensures.part
    (broke_nothing AreAsks true c.one.new.self c.one.new.net tt))
