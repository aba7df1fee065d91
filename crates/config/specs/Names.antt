-- Texts that stand there twice, and names of what isn't there.
use Rattle.std.specs.Prelude.{ℕ, false, ◌==◌, List, Option, Some, None, is_some}
use Rattle.std.specs.Prelude.{if◌then◌else◌}
use Rattle.std.specs.Option.{option_map_or}
use Rattle.toml.specs.Data.{Members}
use Rattle.config.specs.Keys.{TableKey}
use Rattle.config.specs.Places.{key_place}
use Rattle.config.specs.Tables.{faults_of}
use Rattle.config.specs.Texts.{text_at}
use Rattle.config.specs.declared.fault.ConfigFault.{ConfigFault}
use Rattle.config.specs.declared.fault.ConfigFaultKind.{ConfigFaultKind}
use Rattle.config.specs.declared.fault.ConfigFaultKind.TheVariants.{Twice, NoSuch}

-- the text of the item at this place isn't the first of its kind
abbrev pub twice : (List ℕ → Option ℕ) → ℕ → Option (List ℕ) → Option ConfigFaultKind
twice first at None = None
twice first at (Some text) =
    if option_map_or (λ n. n == at) (first text) false then None else Some Twice

-- the text names nothing
abbrev pub missing : (List ℕ → Option ℕ) → Option (List ℕ) → Option ConfigFaultKind
missing first None = None
missing first (Some text) = if is_some (first text) then None else Some NoSuch

abbrev pub once_faults : (List ℕ → Option ℕ) → ℕ → List ℕ → TableKey → Members → List ConfigFault
once_faults first at prefix key ms =
    faults_of (key_place prefix key.name) (twice first at (text_at key.name ms))

abbrev pub there_faults : (List ℕ → Option ℕ) → List ℕ → TableKey → Members → List ConfigFault
there_faults first prefix key ms =
    faults_of (key_place prefix key.name) (missing first (text_at key.name ms))
