use Rattle.std.proofs.Common.{◌≡◌, Some, ap, length, option_map, ◌∙◌, arith}
use Rattle.std.specs.Prelude.{nat_le}
use Rattle.config.specs.Values.{few}
use Rattle.config.proofs.Items.{length_of_items}
use Rattle.config.proofs.value.array_fits.Goals as goal

pub returns-in-Some : goal.returns-in-Some
returns-in-Some c =
    let long : c.len.result ≡ length c.in-Some.items.now.items = omega arith in
    ap (λ n. Some (nat_le n c.args.most)) (long ∙ length_of_items c.in-Some.items.now.items)
    ∙ ap (option_map (few c.args.most)) c.in-Some.ensures
