use Rattle.std.proofs.Common.{◌≡◌, ap, sym, ◌∙◌, true, false, Bool, Some, None, option_map, drop, arith}
use Rattle.std.specs.List.{list_all}
use Rattle.std.specs.Prelude.{slice_get}
use Rattle.proxy.specs.HostCommands.{is_built}
use Rattle.tcl_trees.specs.Procedures.{Procedure, procs_view}
use Rattle.proxy.specs.Runnable.{most_procedures}
use Rattle.proxy.proofs.ListTests.{all_next, all_past, none_of}
use Rattle.proxy.proofs.runnable.are_built.Goals as goal

abbrev built : (http : Bool) → Procedure → Bool
built http p = is_built http p.body

pub returns-in_default : goal.returns-in_default
returns-in_default c =
    let ps = procs_view c.args.procs.now in
    let i = c.loop-number.number in
    let none : option_map (built c.args.http) (slice_get ps i) ≡ None = sym c.built_at.ensures ∙ c.in_default.is in
    sym (all_past (built c.args.http) ps i none) ∙ c.loop-number.invariant

pub returns-then-not-built : goal.returns-then-not-built
returns-then-not-built c =
    let ps = procs_view c.args.procs.now in
    let i = c.loop-number.number in
    let some : option_map (built c.args.http) (slice_get ps i) ≡ Some false = sym c.in-Some.ensures ∙ ap Some c.if-not-built.true in
    sym (all_next (built c.args.http) ps i false some) ∙ c.loop-number.invariant

pub loop-number-preserved : goal.loop-number-preserved
loop-number-preserved c =
    let ps = procs_view c.args.procs.now in
    let i = c.loop-number.number in
    let some : option_map (built c.args.http) (slice_get ps i) ≡ Some true = sym c.in-Some.ensures ∙ ap Some c.if-not-built.false in
    sym (all_next (built c.args.http) ps i true some) ∙ c.loop-number.invariant

pub returns : goal.returns
returns c =
    let ps = procs_view c.args.procs.now in
    let all : c.loop-number.number ≡ most_procedures = omega arith in
    let none : option_map (built c.args.http) (slice_get ps most_procedures) ≡ None = none_of (built c.args.http) (slice_get ps most_procedures) c.requires in
    sym (all_past (built c.args.http) ps most_procedures none) ∙ ap (λ n. list_all (built c.args.http) (drop n ps)) (sym all) ∙ c.loop-number.invariant
