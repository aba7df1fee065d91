use Rattle.std.proofs.Common.{ap, ◌∙◌, [], ◌∷◌}
use Rattle.event_order.specs.declared.event.EventName.TheVariants.{RuleInit}
use Rattle.proxy_core.specs.Bodies.{places_of}
use Rattle.proxy_core.specs.InitPlaces.{places_ran}
use Rattle.proxy_core.proofs.InitRuns.{rule_ran}
use Rattle.proxy_core.proofs.init.run_rule.Goals as goal

pub returns : goal.returns
returns c =
    let K = c.args.config.now in
    let n = c.args.number in
    let left = c.args.left.now in
    c.in_ok-run_places.ensures
    ∙ ap (λ ps. places_ran K ps left) (c.as_slice-2.ensures ∙ c.in_ok-places.ensures ∙ ap (λ rs. places_of rs (n ∷ []) RuleInit) c.as_slice.ensures)
    ∙ rule_ran K n left
