use Rattle.conn_trace.proofs.Given.{next_same_on_replies}
use Rattle.conn_trace.proofs.laws.next_is_same_on_replies.Goals as goal

pub returns : goal.returns
returns c = next_same_on_replies
