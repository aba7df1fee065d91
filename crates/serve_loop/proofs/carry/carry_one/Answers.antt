use Rattle.std.proofs.Common.{sym}
use Rattle.serve_loop.specs.declared.fault.ServeFault.TheVariants.{Memory as OutOfMemory}
use Rattle.serve_loop.specs.Faults.{fault_of}
use Rattle.serve_loop.proofs.Exits.{at_fault}
use Rattle.serve_loop.proofs.Carried.{stops_failed, stops_unopened}
use Rattle.serve_loop.proofs.Carried.{carried_nothing, carried_connect, carried_finish, carried_no_finish, carried_close, carried_no_close}
use Rattle.serve_loop.proofs.carry.carry_one.Goals as goal

pub returns-in_ok-open-in-Connects-clause-carries : goal.returns-in_ok-open-in-Connects-clause-carries
returns-in_ok-open-in-Connects-clause-carries g c =
    rw c.in-Connects.is
    (carried_connect c.args.links.now c.open.new.self c.args.net.now c.connect.new.self c.in-Connects.conn c.in_ok-link-in-Connects.link c.in-Connects.to
    c.in_ok-link-in-Connects.ensures.did c.connect.ensures.lasts.given c.in_ok-link-in-Connects.ensures.is_new c.in_ok-open-in-Connects.ensures.opens)

pub returns-in-Some-clause-carries : goal.returns-in-Some-clause-carries
returns-in-Some-clause-carries g c =
    rw c.in-Finishes.is
    (carried_finish c.args.links.now c.args.net.now c.finish.new.self c.in-Finishes.conn c.in-Some.link c.in-Finishes.side
    (sym c.in-Some.ensures) c.finish.ensures.did c.finish.ensures.lasts.given)

pub returns-in-Some-link-clause-carries : goal.returns-in-Some-link-clause-carries
returns-in-Some-link-clause-carries g c =
    rw c.in-Closes.is
    (carried_close c.args.links.now c.close-in-Some-link.new.self c.args.net.now c.close.new.self c.in-Closes.conn c.in-Some-link.link c.in-Closes.side
    (sym c.in-Some-link.ensures) c.close.ensures.did c.close.ensures.lasts.given c.close-in-Some-link.ensures)

pub returns-in-Nothing-clause-carries : goal.returns-in-Nothing-clause-carries
returns-in-Nothing-clause-carries g c =
    rw c.in-Nothing.is
    (carried_nothing c.args.links.now c.args.net.now)

pub returns-in_default-clause-carries : goal.returns-in_default-clause-carries
returns-in_default-clause-carries g c =
    rw c.in-Finishes.is
    (carried_no_finish c.args.links.now c.args.net.now c.in-Finishes.conn c.in-Finishes.side (sym c.in_default.ensures))

pub returns-in_default-link-clause-carries : goal.returns-in_default-link-clause-carries
returns-in_default-link-clause-carries g c =
    rw c.in-Closes.is
    (carried_no_close c.args.links.now c.args.net.now c.in-Closes.conn c.in-Closes.side (sym c.in_default-link.ensures))

pub returns-in_err-link-in-Connects-clause-broke : goal.returns-in_err-link-in-Connects-clause-broke
returns-in_err-link-in-Connects-clause-broke g c =
    at_fault _ c.from_residual.result (fault_of c.in_err-link-in-Connects.field-0.0) c.from_residual.ensures.1
    (rw c.in-Connects.is
    (stops_failed c.args.net.now c.connect.new.self c.in-Connects.conn c.in-Connects.to c.in_err-link-in-Connects.field-0.0
    c.in_err-link-in-Connects.ensures.did c.connect.ensures.lasts.given))

pub returns-in_err-open-in-Connects-clause-broke : goal.returns-in_err-open-in-Connects-clause-broke
returns-in_err-open-in-Connects-clause-broke g c =
    at_fault _ c.from_residual-in_err-open-in-Connects.result OutOfMemory c.from_residual-in_err-open-in-Connects.ensures.1
    (rw c.in-Connects.is
    (stops_unopened c.args.net.now c.connect.new.self c.in-Connects.conn c.in_ok-link-in-Connects.link c.in-Connects.to
    c.in_ok-link-in-Connects.ensures.did c.connect.ensures.lasts.given c.in_ok-link-in-Connects.ensures.is_new))
