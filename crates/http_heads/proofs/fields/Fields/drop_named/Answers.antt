use Rattle.std.proofs.Common.{◌≡◌, ap, not, subst, sym, ◌∙◌, rules}
use Rattle.std.proofs.lemmas.Fn.{filter_same}
use Rattle.http_heads.specs.Fields.{AreFields, is_named, without}
use Rattle.http_heads.proofs.FilterFields.{fields_left}
use Rattle.http_heads.proofs.fields.Fields.drop_named.Goals as goal

left : (c : goal.After-retain) → c.retain.new.self.items ≡ without c.args.name.now c.self.inside.list.items
left c = filter_same _ (λ f. not (is_named c.args.name.now f)) _ (λ x b f k. search rules) _ _ c.retain.ensures.filtered

pub invariant_of-self : goal.invariant_of-self
invariant_of-self c =
    subst AreFields (sym (left c)) (fields_left (λ f. not (is_named c.args.name.now f)) c.self.inside.list.items c.self.invariant)

pub returns : goal.returns
returns c = left c ∙ ap (without c.args.name.now) c.self.view_is
