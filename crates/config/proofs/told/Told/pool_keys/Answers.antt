use Rattle.std.proofs.Common.{◌≡◌, ℕ, List, [], ◌∷◌, ◌++◌, OnOk, subst, sym, ap, ◌∙◌}
use Rattle.toml.specs.Data.{Members}
use Rattle.toml.specs.View.{table_view}
use Rattle.config.specs.Faults.{after_faults}
use Rattle.config.specs.Keys.{TableKey, key_view}
use Rattle.config.specs.Keys as key
use Rattle.config.specs.Pools.{pool_keys_faults}
use Rattle.config.specs.Read.{member_count}
use Rattle.config.specs.Tables.{keys_faults, unknown_faults}
use Rattle.config.specs.declared.fault.ConfigFault.{ConfigFault}
use Rattle.config.specs.declared.version.Version.{Version}
use Rattle.config.specs.declared.version.Version.TheVariants.{Two}
use Rattle.config.proofs.told.Told.pool_keys.Goals as goal

pub returns-in-One : goal.returns-in-One
returns-in-One c = rw c.in-One.is c.all_keys.ensures

abbrev faults_by : List ℕ → Members → TableKey → List ConfigFault
faults_by prefix ms last =
    let keys = key.name_key ∷ key.method ∷ key.members ∷ last ∷ [] in
    keys_faults prefix keys ms ++ unknown_faults prefix keys ms

by_version : (prefix : List ℕ) (ms : Members) (v : Version) (last : TableKey) (most : ℕ) → v ≡ Two → last ≡ key.min_active most → most ≡ member_count ms
    → faults_by prefix ms last ≡ pool_keys_faults v prefix ms
by_version prefix ms v last most is key_is count =
    ap (faults_by prefix ms) (key_is ∙ ap key.min_active count) ∙ ap (λ w. pool_keys_faults w prefix ms) (sym is)

pub returns-in-Two : goal.returns-in-Two
returns-in-Two c =
    let same = by_version c.args.prefix.now (table_view c.args.table.now) c.args.version (key_view c.min_active.result) c.member_count-most.result c.in-Two.is c.min_active.ensures c.member_count-most.ensures in
    subst (λ fs. OnOk c.all_keys-in-Two.result (c.all_keys-in-Two.new.self ≡ after_faults fs c.args.self.now)) same c.all_keys-in-Two.ensures
