use Rattle.std.proofs.Common.{◌≡◌, ap, filter, subst, sym, ◌∙◌, rules}
use Rattle.std.proofs.lemmas.Fn.{filter_same}
use Rattle.http_heads.specs.Fields.{AreFields}
use Rattle.http_heads.specs.Passed.{is_kept}
use Rattle.http_heads.proofs.FilterFields.{fields_left}
use Rattle.http_heads.proofs.fields.Fields.drop_options.Goals as goal

left : (c : goal.After-retain) → c.retain.new.self.items ≡ filter (λ f. is_kept c.args.connection.now f.0) c.self.inside.list.items
left c = filter_same _ (λ f. is_kept c.args.connection.now f.0) _ (λ x b f k. search rules) _ _ c.retain.ensures.filtered

pub invariant_of-self : goal.invariant_of-self
invariant_of-self c =
    subst AreFields (sym (left c)) (fields_left (λ f. is_kept c.args.connection.now f.0) c.self.inside.list.items c.self.invariant)

pub returns : goal.returns
returns c = left c ∙ ap (filter (λ f. is_kept c.args.connection.now f.0)) c.self.view_is
