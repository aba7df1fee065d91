use Rattle.std.proofs.Common.{◌<◌, ◌∙◌, length, ap, sym, subst}
use Rattle.http_heads.specs.Fields.{AreFields}
use Rattle.http_heads.specs.Hosts.{is_host}
use Rattle.http_heads.proofs.HostFields.{fields_more, host_field}
use Rattle.http_heads.proofs.fields.Fields.add_host.Goals as goal

pub invariant_of-self-2 : goal.invariant_of-self-2
invariant_of-self-2 c =
    let fs = c.self.inside.list.items in
    let few : length fs < 100 = subst (λ l. length l < 100) (sym c.self.view_is) c.requires.few in
    let field = host_field c.in_ok-name.name c.in_ok-value.value c.in_ok-name.ensures (ap is_host c.in_ok-value.ensures ∙ c.requires.is_host) in
    subst AreFields (sym c.in_ok-push.ensures.items) (fields_more fs (c.in_ok-name.name, c.in_ok-value.value) c.self.invariant field few)
