use Rattle.std.proofs.Common.{refl}
use Rattle.conn.specs.declared.connection.Conn.{Conn}
use Rattle.conn.specs.declared.stage.Stage.TheVariants as stage
use Rattle.conn.proofs.Replying.{replies}
use Rattle.conn.proofs.connection.Conn.hear.Goals as goal

pub returns-clause-replies : goal.returns-clause-replies
returns-clause-replies c =
    let old = c.args.self.now in
    let new : Conn = record { stage = stage.Running c.args.at c.args.number; body = c.resume.new.self; vars = old.vars; host = old.host; ends = old.ends } in
    replies c.args.reply.now old new c.args.at c.args.number c.requires refl c.in_ok-resume.ensures refl refl refl
