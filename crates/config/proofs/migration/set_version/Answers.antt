use Rattle.std.proofs.Common.{pos, ap, ap₂, ◌∙◌}
use Rattle.toml.proofs.Views.{view-Integer}
use Rattle.toml.specs.View.{members_view}
use Rattle.toml.specs.declared.value.Value.{Integer}
use Rattle.config.proofs.Migrating.{inserted}
use Rattle.config.specs.Migrated.{with_member}
use Rattle.config.proofs.migration.set_version.Goals as goal

pub returns : goal.returns
returns c =
    let es = c.args.top.now.entries in
    ap members_view c.in_ok-insert.ensures.entries
    ∙ inserted es c.in_ok-key.key (Integer (pos 2))
    ∙ ap₂ (λ k d. with_member k d (members_view es)) c.in_ok-key.ensures.ok (view-Integer (pos 2))
