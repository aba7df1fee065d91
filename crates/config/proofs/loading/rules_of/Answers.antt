use Rattle.std.proofs.Common.{◌≡◌, ◌+◌, ap, subst, ◌∙◌, get_or, arith}
use Rattle.toml.specs.View.{items_view, view}
use Rattle.config.specs.Loading.{IsLoaded}
use Rattle.config.proofs.RulesInTurn.{all_loaded, more_loaded, more_stops}
use Rattle.config.proofs.loading.rules_of.Goals as goal

pub loop-value-preserved : goal.loop-value-preserved
loop-value-preserved g c =
    let l = c.loop-value in
    let told = g.F.Files.told c.args.files.now in
    let before = g.F.Files.faults c.args.files.now in
    let vs = c.args.values.now.items in
    let v = c.value-item.result in
    let r = c.in_ok-rule.rule in
    let is : v ≡ get_or vs l.value-index v = c.value-item.is ∙ ap (λ xs. get_or xs l.value-index v) c.deref-value-items.ensures.value in
    let loaded : IsLoaded told (view v) r = subst (λ t. IsLoaded t (view v) r) l.invariant.1 c.in_ok-rule.ensures.loaded in
    let first = l.invariant.2 in
    let more = c.in_ok-rule.ensures.faults_never_fall in (
      ap (λ n. n + 1) l.invariant.0,
      c.in_ok-rule.ensures.same_files ∙ l.invariant.1,
      omega (arith, first, more),
      more_loaded told vs l.value-index v (omega arith) is r loaded l.rules c.push.new.self c.in_ok-push.ensures.ok l.invariant.3,
      more_stops told vs l.value-index v (omega arith) is r loaded before l.at l.invariant.4,
    )

pub returns-clause-loaded : goal.returns-clause-loaded
returns-clause-loaded g c =
    let l = c.loop-value in
    let vs = c.args.values.now.items in
    all_loaded (g.F.Files.told c.args.files.now) (items_view vs) vs l.value-index l.rules (omega arith) l.invariant.3
