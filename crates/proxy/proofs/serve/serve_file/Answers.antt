use Rattle.std.proofs.Common.{ℕ, List, inr, refl, sym, subst}
use Rattle.std.specs.Prelude.{Err}
use Rattle.config.specs.Outcomes.{Answers}
use Rattle.proxy.proofs.Serving.{not_built, refused, served}
use Rattle.proxy.specs.Serving.{outside}
use Rattle.proxy.proofs.serve.serve_file.Goals as goal

pub returns-in-Err : goal.returns-in-Err
returns-in-Err g c =
    rw c.refused_end.ensures (refused g.N.Net.did g.N.Net.gave g.T.Clock.gave (g.F.Files.told c.args.files.now)
    (outside c.args.net.now c.args.clock.now (g.K.Sink.written c.args.journal.now) (g.F.Files.faults c.args.files.now) (g.N.Net.faults c.args.net.now) (g.K.Sink.faults c.args.journal.now))
    (outside c.args.net.now c.args.clock.now (g.K.Sink.written c.args.journal.now) (g.F.Files.faults c.read_config.new.files) (g.N.Net.faults c.args.net.now) (g.K.Sink.faults c.args.journal.now))
    c.args.serve.now c.in-Err.why
    (subst (λ (name : List ℕ). Answers (g.F.Files.told c.args.files.now) (g.F.Files.faults c.args.files.now) (g.F.Files.faults c.read_config.new.files) name (Err c.in-Err.why)) c.as_bytes.ensures c.in-Err.ensures.answer) (record { net = refl; clock = refl; written = refl }))

pub returns-in_default : goal.returns-in_default
returns-in_default g c = inr (record { net = refl; clock = refl; written = refl })

pub returns-in_default-config : goal.returns-in_default-config
returns-in_default-config g c =
    not_built g.N.Net.did g.N.Net.gave g.T.Clock.gave (g.F.Files.told c.args.files.now)
    (outside c.args.net.now c.args.clock.now (g.K.Sink.written c.args.journal.now) (g.F.Files.faults c.args.files.now) (g.N.Net.faults c.args.net.now) (g.K.Sink.faults c.args.journal.now))
    (outside c.args.net.now c.args.clock.now (g.K.Sink.written c.args.journal.now) (g.F.Files.faults c.read_config.new.files) (g.N.Net.faults c.args.net.now) (g.K.Sink.faults c.args.journal.now))
    c.args.serve.now c.in-Ok.loaded (rw c.as_bytes.ensures at c.in-Ok.ensures.answer) (sym (rw c.in_default-config.is at c.in-Ok-core_config.ensures)) (record { net = refl; clock = refl; written = refl })

pub returns : goal.returns
returns g c =
    rw c.end_of.ensures (served g.N.Net.did g.N.Net.gave g.T.Clock.gave (g.F.Files.told c.args.files.now)
    (outside c.args.net.now c.args.clock.now (g.K.Sink.written c.args.journal.now) (g.F.Files.faults c.args.files.now) (g.N.Net.faults c.args.net.now) (g.K.Sink.faults c.args.journal.now))
    (outside c.serve_config.new.net c.serve_config.new.clock (g.K.Sink.written c.serve_config.new.journal) (g.F.Files.faults c.read_config.new.files) (g.N.Net.faults c.serve_config.new.net) (g.K.Sink.faults c.serve_config.new.journal))
    c.args.serve.now c.in-Ok.loaded c.in-Some.config (rw c.as_bytes.ensures at c.in-Ok.ensures.answer) (sym (rw c.in-Some.is at c.in-Ok-core_config.ensures))
    c.serve_config.result c.serve_config.ensures.serves c.serve_config.ensures.stopped c.serve_config.ensures.fails)
