-- What `migrate` comes to, from what it said.
use Rattle.std.proofs.Common.{◌≡◌, ℕ, List, Option, inl, inr, refl, sym, subst}
use Rattle.std.specs.Prelude.{Result, Ok, Err, IfOk}
use Rattle.config.specs.Migrated.{IsMigrated}
use Rattle.config.specs.Outcomes.{Answers}
use Rattle.config.specs.declared.fault.ConfigError.{ConfigError}
use Rattle.px_bytes.specs.declared.memory.Memory as want
use Rattle.toml.specs.Data.{Members}
use Rattle.toml_text.specs.Text.{IsTextOf}
use Rattle.proxy.specs.declared.end.End.{End}
use Rattle.proxy.specs.declared.end.End.TheVariants.{Done}
use Rattle.proxy.specs.Migrating.{IsMigration, IsMigrationText, MigratesFile}
use Rattle.proxy.specs.Mirroring.{TellsMade}
use Rattle.proxy.specs.Says.{Refuses}
use Rattle.proxy.proofs.Ends.{by_end, by_refusal, cut_due}

module _ (told : List ℕ → Option (List ℕ)) (old new : Option (List ℕ)) (rb rn b n : ℕ) (name : List ℕ) where
  pub migration_told : (table : Members) → IsMigrated told name table → (line : Result (List ℕ) want.Memory) → IfOk line (IsTextOf table) → (end : End) → TellsMade line Done old new b n end → MigratesFile name told old new rb rn b n end
  migration_told table in_two (Ok text) text_is end t =
      let is : IsMigration told name text = record { table = table; in_two = in_two; text_is = text_is } in
      by_end text Done old new b n (λ e. MigratesFile name told old new rb rn b n e)
      (λ written. (text, is, written)) (λ rose front. (rose, (text, inr is, front)))
      (λ part. cut_due text (IsMigrationText told rb rn name) old new (inr is) part) end t
  migration_told table in_two (Err w) text_is end t =
      subst (λ e. MigratesFile name told old new rb rn b n e) (sym t.0) (inl t.1)

  pub migration_refused : (why : ConfigError) → Answers told rb rn name (Err why) → (end : End) → Refuses why old new b n end → MigratesFile name told old new rb rn b n end
  migration_refused why answers end t =
      by_refusal told old new rb rn b n name (λ e. MigratesFile name told old new rb rn b n e)
      (λ text is written. (text, is, written)) (λ text is rose front. (rose, (text, inl is, front)))
      (λ text is part. cut_due text (IsMigrationText told rb rn name) old new (inl is) part)
      (λ rose unread same. (rose, unread, same)) (λ same. inl same) why answers end t
