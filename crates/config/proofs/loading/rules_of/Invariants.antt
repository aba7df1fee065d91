use Rattle.std.proofs.Common.{◌≡◌, ◌≤◌, ℕ, List, ◌++◌, drop}
use Rattle.toml.specs.View.{items_view}
use Rattle.config.specs.Loading.{AreLoaded, StopsAt}
use Rattle.config.specs.declared.fault.ConfigFault.{ConfigFault}
use Rattle.config.specs.declared.rule_text.LoadedRule.{LoadedRule}
use Rattle.config.proofs.loading.rules_of.Given as goal

abbrev pub invariant-loop-value : goal.invariant-loop-value
invariant-loop-value g l =
    let told = g.F.Files.told l.fn.files in
    let before = g.F.Files.faults l.fn.files in
    let all = items_view l.values.items in
    let rest = items_view (drop l.value-index l.values.items) in
    (l.at ≡ l.value-index)
    × (g.F.Files.told l.files ≡ told)
    × (before ≤ g.F.Files.faults l.files)
    × ((more : List LoadedRule) → AreLoaded told rest more → AreLoaded told all (l.rules ++ more))
    × ((f : ConfigFault) (now : ℕ) → StopsAt told before now l.at rest f → StopsAt told before now 0 all f)
