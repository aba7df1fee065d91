use Rattle.std.proofs.Common.{◌≡◌, true, false}
use Rattle.rule_nodes.specs.Own.{is_own}
use Rattle.frames.specs.Given.{setting_of}
use Rattle.frame_words.proofs.InCommands.{finished_host, finished_own}
use Rattle.frame_words.proofs.commands.by_words.Goals as goal

pub returns-clause-did : goal.returns-clause-did
returns-clause-did g c =
    let own : is_own c.args.verb c.args.words.now ≡ true =
    (let e = c.is_own.ensures in let t = c.if-not-is_own.false in cc) in
    finished_own (setting_of g.H.Host.table c.args.context.now) c.args.wanted c.args.verb c.args.words.now
    c.args.vars.now _ _ c.in_ok-code.code _ own c.in_ok-code.ensures.code c.in_ok-code.ensures.vars
    (g.met.H.Host.made_none _)

pub returns-then-not-is_own-clause-did : goal.returns-then-not-is_own-clause-did
returns-then-not-is_own-clause-did g c =
    let own : is_own c.args.verb c.args.words.now ≡ false =
    (let e = c.is_own.ensures in let t = c.if-not-is_own.true in cc) in
    finished_host (setting_of g.H.Host.table c.args.context.now) c.args.wanted c.args.verb c.args.words.now
    c.args.vars.now _ _ c.in_ok-done.done _ c.requires.call c.requires.read own c.in_ok-done.ensures.did
