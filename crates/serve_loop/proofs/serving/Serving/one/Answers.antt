use Rattle.serve_loop.proofs.serving.Serving.one.Goals as goal

pub returns-in-Listener-clause-part : goal.returns-in-Listener-clause-part
returns-in-Listener-clause-part g c = rw c.in-Listener.is c.ask_listener.ensures.part

pub returns-in-Link-clause-part : goal.returns-in-Link-clause-part
returns-in-Link-clause-part g c = rw c.in-Link.is c.ask_often.ensures.part

pub returns-in-Writer-clause-part : goal.returns-in-Writer-clause-part
returns-in-Writer-clause-part g c = rw c.in-Writer.is c.write_both.ensures.part
