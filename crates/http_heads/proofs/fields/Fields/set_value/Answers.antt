use Rattle.std.proofs.Common.{◌<◌, ◌∙◌, length, ap, sym, rules, subst}
use Rattle.http_heads.specs.Fields.{AreFields}
use Rattle.http_heads.specs.Received.{value_set}
use Rattle.http_heads.proofs.HostFields.{fields_value_set, set_is}
use Rattle.http_heads.proofs.fields.Fields.set_value.Goals as goal

pub invariant_of-self : goal.invariant_of-self
invariant_of-self c =
    let fs = c.self.inside.list.items in
    let there : c.args.at < length fs = subst (λ l. c.args.at < length l) (sym c.self.view_is) c.requires.inside in
    subst AreFields (sym (set_is fs c.args.at c.index_mut.result.now c.args.value there (search rules))) (fields_value_set fs c.args.at c.args.value c.self.invariant c.requires.is_value)

pub returns : goal.returns
returns c =
    let fs = c.self.inside.list.items in
    let there : c.args.at < length fs = subst (λ l. c.args.at < length l) (sym c.self.view_is) c.requires.inside in
    set_is fs c.args.at c.index_mut.result.now c.args.value there (search rules) ∙ ap (λ gs. value_set gs c.args.at c.args.value) c.self.view_is
