-- The words of the command line.
use Rattle.std.specs.Prelude.{ℕ, List, [], ◌∷◌, Bool, false, not, ◌&&◌, nat_eq, Option, Some, None}
use Rattle.std.specs.Prelude.{if◌then◌else◌, codes}
use Rattle.std.specs.Str.{bytes_eq}
use Rattle.proxy.specs.declared.command.Command as code
use Rattle.proxy.specs.declared.command.Command.TheVariants as words
use Rattle.proxy.specs.declared.command.MirrorFiles.{MirrorFiles}
use Rattle.proxy.specs.declared.command.ReplayFiles.{ReplayFiles}

-- the names of the files that a replay reads
pub record Named : Type 0 where
  pub config : List ℕ
  pub schedule : List ℕ

abbrev pub named_of : ReplayFiles → Named
named_of r = record { config = r.config.now; schedule = r.schedule.now }

-- the names of the files that a mirror reads
pub record MirrorNames : Type 0 where
  pub config : List ℕ
  pub record_file : List ℕ
  pub plan : List ℕ

abbrev pub mirror_names : MirrorFiles → MirrorNames
mirror_names m = record { config = m.config.now; record_file = m.record_file.now; plan = m.plan.now }

-- what is to be done, with the names of the files
pub data Command : Type 0 where
  Checks : List ℕ → Command
  Explains : List ℕ → Command
  Migrates : List ℕ → Command
  Imports : List ℕ → Command
  Exports : List ℕ → Command
  Reports : List ℕ → Command
  Replays : Named → Command
  Mirrors : MirrorNames → Command

abbrev pub command_view : code.Command → Command
command_view (words.Check config) = Checks config.now
command_view (words.Explain config) = Explains config.now
command_view (words.Migrate config) = Migrates config.now
command_view (words.Import file) = Imports file.now
command_view (words.Export config) = Exports config.now
command_view (words.Report file) = Reports file.now
command_view (words.Replay r) = Replays (named_of r)
command_view (words.Mirror m) = Mirrors (mirror_names m)

-- a word that names a file: it isn't empty and doesn't begin with `-`
abbrev pub is_file_name : List ℕ → Bool
is_file_name [] = false
is_file_name (b ∷ bytes) = not (nat_eq b 45)

-- `check CONFIG`, `explain CONFIG`, `migrate CONFIG`, `import FILE`, `export CONFIG`, `report RECORD`, `replay CONFIG
-- SCHEDULE` and `mirror CONFIG RECORD PLAN`
abbrev pub command_of : List (List ℕ) → Option Command
command_of (command ∷ config ∷ []) =
    if bytes_eq command (codes "check") && is_file_name config then Some (Checks config)
    else (if bytes_eq command (codes "explain") && is_file_name config then Some (Explains config)
    else (if bytes_eq command (codes "migrate") && is_file_name config then Some (Migrates config)
    else (if bytes_eq command (codes "import") && is_file_name config then Some (Imports config)
    else (if bytes_eq command (codes "export") && is_file_name config then Some (Exports config)
    else (if bytes_eq command (codes "report") && is_file_name config then Some (Reports config)
    else None)))))
command_of (command ∷ config ∷ schedule ∷ []) =
    if bytes_eq command (codes "replay") && (is_file_name config && is_file_name schedule)
    then Some (Replays (record { config = config; schedule = schedule })) else None
command_of (command ∷ config ∷ file ∷ plan ∷ []) =
    if bytes_eq command (codes "mirror") && (is_file_name config && (is_file_name file && is_file_name plan))
    then Some (Mirrors (record { config = config; record_file = file; plan = plan })) else None
command_of words = None
