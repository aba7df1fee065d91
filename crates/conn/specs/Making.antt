-- What a host made grows along.
use Rattle.std.proofs.Common.{sym, ap, ◌∙◌, List, [], ◌++◌, append_assoc, append-nil}
use Rattle.px_bytes.specs.Host.{Effect}
use Rattle.conn.specs.declared.host.RuleHost.{RuleHost}
use Rattle.conn.specs.Hosts.{Made, made_in}

pub made_none : (a : RuleHost) → Made a [] a
made_none a = sym (append-nil (made_in a))

pub made_both : (a b c : RuleHost) (es fs : List Effect) → Made a es b → Made b fs c → Made a (es ++ fs) c
made_both a b c es fs p q = q ∙ ap (λ x. x ++ fs) p ∙ append_assoc (made_in a) es fs
