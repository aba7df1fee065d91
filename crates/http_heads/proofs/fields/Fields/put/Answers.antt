use Rattle.std.proofs.Common.{◌≡◌, ◌<◌, ◌∙◌, false, length, sym, rules, subst, set}
use Rattle.http_heads.specs.Fields.{AreFields, fit}
use Rattle.http_heads.proofs.LastFields.{edit_refused, fields_set, set_back}
use Rattle.http_heads.proofs.fields.Fields.put.Goals as goal

pub invariant_of-self : goal.invariant_of-self
invariant_of-self c =
    fields_set c.self.inside.list.items c.args.at c.replace-old.new.dest c.self.invariant (search rules)

back : (c : goal.After-too_long) → set (set c.self.inside.list.items c.args.at c.replace-old.new.dest) c.args.at c.replace-old.result ≡ c.self.inside.list.items
back c =
    let fs = c.self.inside.list.items in
    let there : c.args.at < length fs = subst (λ l. c.args.at < length l) (sym c.self.view_is) c.requires in
    set_back fs c.args.at c.replace-old.new.dest c.replace-old.result there (search rules)

pub invariant_of-self-2 : goal.invariant_of-self-2
invariant_of-self-2 c = subst AreFields (sym (back c)) c.self.invariant

pub returns : goal.returns
returns c =
    let long : fit (set c.args.self.now c.args.at c.args.field) ≡ false = search rules in
    edit_refused c.too_long.result c.args.self.now _ (set c.args.self.now c.args.at c.args.field) c.too_long.ensures long (back c ∙ c.self.view_is)
