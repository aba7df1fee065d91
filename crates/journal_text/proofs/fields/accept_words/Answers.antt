use Rattle.std.proofs.Common.{arith}
use Rattle.journal_text.proofs.Failing.{bad_conn, bad_port}
use Rattle.journal_text.proofs.fields.accept_words.Goals as goal

pub returns-in_default-conn_of-clause-answered : goal.returns-in_default-conn_of-clause-answered
returns-in_default-conn_of-clause-answered c =
    bad_conn _ _ _ _ c.in-Some.ip c.in-Some.ensures.found (omega arith) c.in_default-conn_of.ensures.none

pub returns-in_default-port_of-clause-answered : goal.returns-in_default-port_of-clause-answered
returns-in_default-port_of-clause-answered c =
    bad_port _ _ _ _ c.in-Some.ip c.in-Some.ensures.found (omega arith) c.in_default-port_of.ensures.none
