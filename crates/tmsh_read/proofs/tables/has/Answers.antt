use Rattle.std.proofs.Common.{◌≡◌, Bor, Option, Some, None, refl, ap, ◌∙◌}
use Rattle.std.specs.Prelude.{is_some, option_map}
use Rattle.toml.proofs.Views.{table_get}
use Rattle.toml.specs.View.{view}
use Rattle.toml.specs.declared.value.Value.{Value}
use Rattle.tmsh_read.proofs.tables.has.Goals as goal

seen : (r : Option (Bor Value)) → is_some r ≡ is_some (option_map (λ x. view x.now) r)
seen None = refl
seen (Some x) = refl

pub returns : goal.returns
returns c =
    c.is_some.ensures ∙ seen c.get.result
    ∙ ap is_some (table_get c.get.result c.args.key.now c.args.table.now.entries c.get.ensures.value)
