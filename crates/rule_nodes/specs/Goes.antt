-- What a loop does after the end of its body (while(n), for(n)).
use Rattle.rule_model.specs.declared.code.Code.{Code}
use Rattle.rule_model.specs.declared.code.Code.TheVariants.{Value, Raised, Return, Break, Continue}
use Rattle.rule_nodes.specs.declared.goes.Goes.{Goes}
use Rattle.rule_nodes.specs.declared.goes.Goes.TheVariants.{On, Over, Ends}

abbrev pub body_goes : Code → Goes
body_goes (Value v) = On
body_goes (Raised f) = Ends
body_goes (Return v) = Ends
body_goes Break = Over
body_goes Continue = On

abbrev pub next_goes : Code → Goes
next_goes (Value v) = On
next_goes (Raised f) = Ends
next_goes (Return v) = Ends
next_goes Break = Over
next_goes Continue = Ends
