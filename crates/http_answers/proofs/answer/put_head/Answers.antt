use Rattle.std.proofs.Common.{◌∙◌}
use Rattle.http_answers.proofs.Composing.{put_behind}
use Rattle.http_answers.proofs.answer.put_head.Goals as goal

pub returns-clause-text : goal.returns-clause-text
returns-clause-text c =
    c.in_ok-extend_from_slice.ensures.items
    ∙ put_behind c.args.answer.now c.args.out.now.items c.put_status_line.new.out.items c.put_given.new.out.items c.put_own.new.out.items
    c.in_ok-put_status_line.ensures c.in_ok-given.ensures.text c.in_ok-own.ensures.text
