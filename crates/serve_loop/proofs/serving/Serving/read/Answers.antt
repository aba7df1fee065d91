use Rattle.std.proofs.Common.{refl, subst}
use Rattle.px_outside.specs.declared.answers.ReadyAt.TheVariants as ready
use Rattle.serve_loop.specs.declared.polled.Polled.TheVariants as is
use Rattle.serve_loop.specs.Asking.{AskedOnce}
use Rattle.serve_loop.proofs.Compose.{part_nothing}
use Rattle.serve_loop.proofs.serving.Serving.read.Goals as goal

pub returns-then-wanted-eq0-clause-part : goal.returns-then-wanted-eq0-clause-part
returns-then-wanted-eq0-clause-part g c =
    part_nothing (AskedOnce g.C.EventCore.face c.args.self.now.conns (ready.Link c.args.link) is.Stays) c.args.self.now c.args.net.now (record {
      none = refl;
      same = refl;
      because = record {
        row = c.args.row;
        owned = c.requires.owned;
        waits = c.requires.waits;
        wants = subst (λ n. g.C.EventCore.face.wants c.args.self.now.core c.args.row.conn c.args.row.side n) c.if-wanted-eq0.true c.wants-wanted.ensures.wants;
      };
    })
