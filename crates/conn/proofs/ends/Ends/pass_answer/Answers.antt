use Rattle.std.proofs.Common.{◌≡◌}
use Rattle.conn.specs.Forwarding.{answer_of}
use Rattle.conn.specs.declared.response.Answer.TheVariants.{Head}
use Rattle.conn.proofs.Responding.{head_there}
use Rattle.conn.proofs.ends.Ends.pass_answer.Goals as goal

pub pass_interim-requires : goal.pass_interim-requires
pass_interim-requires c =
    let e = c.args.self.now.server in
    let is : answer_of c.args.came.now e ≡ Head c.in-Head.n c.in-Head.response = cc (c.requires, c.in-Head.is) in
    head_there c.args.came.now e.unread e.ended c.in-Head.n c.in-Head.response is
