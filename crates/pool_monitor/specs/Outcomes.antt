-- What a monitors' file is: the monitors of its document, or what is wrong with it first.
use Rattle.std.specs.Prelude.{◌≡◌, ◌⊎◌, ℕ, List, Option, Some, None, ⊤}
use Rattle.toml.specs.Data.{Members}
use Rattle.config.specs.Faults.{fault_at}
use Rattle.config.specs.Loading.{CantRead, IsContents}
use Rattle.config.specs.Outcomes.{Holds, IsDocument}
use Rattle.config.specs.declared.config.PoolSettings.{PoolSettings}
use Rattle.config.specs.declared.fault.ConfigError.{ConfigError}
use Rattle.config.specs.declared.fault.ConfigError.TheVariants as refused
use Rattle.config.specs.declared.fault.ConfigFault.{ConfigFault}
use Rattle.config.specs.declared.fault.ConfigFaultKind.TheVariants.{NotToml}
use Rattle.pool_monitor.specs.Documents.{document_fault}
use Rattle.pool_monitor.specs.Made.{watch_of}
use Rattle.pool_monitor.specs.Pump.{Watch}

-- no document is these bytes
pub record IsNone (name bytes : List ℕ) (f : ConfigFault) : Type 0 where
  pub refused : (top : Members) → IsDocument bytes top → ⊥
  pub fault : f ≡ fault_at NotToml name

-- the file holds no document
pub record HoldsNone (told : List ℕ → Option (List ℕ)) (name : List ℕ) (f : ConfigFault) : Type 0 where
  pub bytes : List ℕ
  pub contents : IsContents told name bytes
  pub none : IsNone name bytes f

-- the monitors of a document without faults
pub record IsWatch (ps : List PoolSettings) (top : Members) (w : Watch) : Type 0 where
  pub right : document_fault ps top ≡ None
  pub watch : w ≡ watch_of ps top

pub record HoldsWatch (told : List ℕ → Option (List ℕ)) (ps : List PoolSettings) (name : List ℕ)
    (w : Watch) : Type 0 where
  pub top : Members
  pub holds : Holds told name top
  pub watch : IsWatch ps top w

-- a document with this fault
pub record HoldsFault (told : List ℕ → Option (List ℕ)) (ps : List PoolSettings) (name : List ℕ)
    (f : ConfigFault) : Type 0 where
  pub top : Members
  pub holds : Holds told name top
  pub wrong : document_fault ps top ≡ Some f

-- what is said of a fault; out of memory says nothing
abbrev pub Refuses : (List ℕ → Option (List ℕ)) → (before now : ℕ) → List PoolSettings → List ℕ
    → ConfigError → Type 0
Refuses told before now ps name refused.Memory = ⊤
Refuses told before now ps name (refused.Fault f) =
    CantRead before now name f ⊎ (HoldsNone told name f ⊎ HoldsFault told ps name f)
