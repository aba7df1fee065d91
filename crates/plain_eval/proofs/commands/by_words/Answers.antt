use Rattle.plain_eval.specs.Stand.{inner_of, setting_of}
use Rattle.plain_eval.proofs.InCommands.{host_ran}
use Rattle.plain_eval.proofs.Steps.{any_ran}
use Rattle.plain_eval.proofs.commands.by_words.Goals as goal

pub returns-then-not-is_own-clause-ran : goal.returns-then-not-is_own-clause-ran
returns-then-not-is_own-clause-ran g c =
    any_ran c.args.wanted (host_ran (setting_of g.H.PlainHost.table c.args.context.now) (inner_of g.H.PlainHost.table c.args.context.now) c.args.verb c.args.words.now c.requires.call c.requires.read (cc (c.is_own.ensures, c.if-not-is_own.true)) c.call_host.ensures.ran)
