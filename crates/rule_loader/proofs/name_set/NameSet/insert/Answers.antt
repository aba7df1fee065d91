use Rattle.std.proofs.Common.{ap, map, not, ◌∙◌, ◌||◌}
use Rattle.std.specs.Str.{bytes_eq}
use Rattle.rule_loader.specs.Names.{has_name}
use Rattle.rule_loader.proofs.NameSets.{has_more, has_seen}
use Rattle.rule_loader.proofs.name_set.NameSet.insert.Goals as goal

pub returns-clause-is_new : goal.returns-clause-is_new
returns-clause-is_new c =
    c.in_ok-is_new.ensures.added ∙ ap not (has_seen (λ k. k.items) c.args.name.items c.self.inside.set.keys)
    ∙ ap (λ names. not (has_name c.args.name.items names)) c.self.view_is

pub returns-clause-names : goal.returns-clause-names
returns-clause-names c = λ asked.
    ap (λ ks. has_name asked (map (λ k. k.items) ks)) c.in_ok-is_new.ensures.keys
    ∙ has_more (λ k. k.items) c.args.name asked c.self.inside.set.keys
    ∙ ap (λ names. has_name asked names || bytes_eq asked c.args.name.items) c.self.view_is
