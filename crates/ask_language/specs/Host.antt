-- A host without commands of its own.
use Rattle.std.specs.Prelude.{ℕ, List, [], ◌∷◌}
use Rattle.px_bytes.specs.FaultText.{no_command}
use Rattle.rule_model.specs.Host.{HostStep, Faults}

-- the first word, which is empty where there is none
abbrev pub name_of : List (List ℕ) → List ℕ
name_of [] = []
name_of (name ∷ words) = name

abbrev pub no_commands : {E H : Type 0} → E → H → List (List ℕ) → HostStep H
no_commands env host words = Faults (no_command (name_of words)) host []
