-- What a configuration file is: the configuration that its document is, or what is wrong with it
-- first.
use Rattle.std.specs.Prelude.{◌≡◌, ◌⊎◌, ◌≤◌, ℕ, List, length, Option, Some, None, Result, Ok, Err, IsUtf8}
use Rattle.std.specs.Prelude.{option_map, ⊤}
use Rattle.toml.specs.Data.{Members}
use Rattle.toml.specs.Parse.{parse_document}
use Rattle.config.specs.Documents.{document_fault, items_at}
use Rattle.config.specs.KeyLines.{with_line}
use Rattle.config.specs.Keys.{name_key, rules}
use Rattle.config.specs.Loading.{AreLoaded, CantRead, IsContents, OfFault, StopsAt}
use Rattle.config.specs.Misplaced.{first_misplaced}
use Rattle.config.specs.RuleFaults.{misplaced_fault}
use Rattle.config.specs.Settings.{settings_of}
use Rattle.config.specs.Spots.{spot_at}
use Rattle.config.specs.Texts.{first_place}
use Rattle.config.specs.declared.fault.ConfigError.{ConfigError}
use Rattle.config.specs.declared.fault.ConfigError.TheVariants as refused
use Rattle.config.specs.declared.fault.ConfigFault.{ConfigFault}
use Rattle.config.specs.declared.fault.ConfigFaultKind.TheVariants.{NotToml}
use Rattle.config.specs.declared.misplaced.Misplaced.{Misplaced}
use Rattle.config.specs.declared.reader.LoadedConfig.{LoadedConfig}
use Rattle.config.specs.declared.rule_text.LoadedRule.{LoadedRule}
use Rattle.config.specs.declared.spot.Source.TheVariants.{Document}

-- the bytes are UTF-8 and a TOML document (toml.io, v1.1.0)
pub record IsDocument (bytes : List ℕ) (top : Members) : Type 0 where
  pub text : IsUtf8 bytes
  pub table : parse_document bytes ≡ Some top

-- the file holds this document
pub record Holds (told : List ℕ → Option (List ℕ)) (name : List ℕ) (top : Members) : Type 0 where
  pub bytes : List ℕ
  pub contents : IsContents told name bytes
  pub document : IsDocument bytes top

-- where the reader of TOML stopped, and what it says of it
abbrev pub not_toml : List ℕ → List ℕ → ℕ → List ℕ → ConfigFault
not_toml name bytes place said =
    record { kind = NotToml; place = name; spot = Some (spot_at (Document said) bytes place) }

-- no document is these bytes
pub record RefusesDocument (name bytes : List ℕ) (f : ConfigFault) : Type 0 where
  pub refused : (top : Members) → IsDocument bytes top → ⊥
  pub place : ℕ
  pub within : place ≤ length bytes
  pub said : List ℕ
  pub fault : f ≡ not_toml name bytes place said

-- the file holds no document
pub record HoldsNone (told : List ℕ → Option (List ℕ)) (name : List ℕ) (f : ConfigFault) : Type 0 where
  pub bytes : List ℕ
  pub contents : IsContents told name bytes
  pub refused : RefusesDocument name bytes f

-- the first event that a virtual server doesn't have, of the rules that it has
abbrev pub misplaced_of : Members → List LoadedRule → Option Misplaced
misplaced_of top rs =
    first_misplaced (first_place (Some name_key.name) (items_at rules top)) rs
    (settings_of top).virtuals

-- ---- a document without faults

-- what it says, its rules loaded, and each virtual server has the events of its rules
pub record Configures (told : List ℕ → Option (List ℕ)) (top : Members) (C : LoadedConfig) : Type 0 where
  pub settings : C.settings ≡ settings_of top
  pub loaded : AreLoaded told (items_at rules top) C.rules
  pub placed : misplaced_of top C.rules ≡ None

-- all rules are loaded, and this is the first event that a virtual server doesn't have
pub record EventFault (told : List ℕ → Option (List ℕ)) (top : Members) (f : ConfigFault) : Type 0 where
  pub all : List LoadedRule
  pub loaded : AreLoaded told (items_at rules top) all
  pub misplaced : Misplaced
  pub first : misplaced_of top all ≡ Some misplaced
  pub fault : f ≡ misplaced_fault all misplaced

-- the rules come first
abbrev pub RulesFault : (List ℕ → Option (List ℕ)) → (before now : ℕ) → Members → ConfigFault → Type 0
RulesFault told before now top f =
    StopsAt told before now 0 (items_at rules top) f ⊎ EventFault told top f

abbrev pub Loads : (List ℕ → Option (List ℕ)) → (before now : ℕ) → Members
    → Result LoadedConfig ConfigError → Type 0
Loads told before now top (Ok C) = Configures told top C
Loads told before now top (Err e) = OfFault (RulesFault told before now top) e

-- ---- a document, by its fault

-- the fault that is told, with the line of its key
abbrev pub told_fault : List ℕ → Members → Option ConfigFault
told_fault bytes top = option_map (with_line bytes) (document_fault top)

abbrev pub OfDocument : (List ℕ → Option (List ℕ)) → (before now : ℕ) → Members → Option ConfigFault
    → Result LoadedConfig ConfigError → Type 0
OfDocument told before now top None r = Loads told before now top r
OfDocument told before now top (Some f) (Ok C) = ⊥
OfDocument told before now top (Some f) (Err e) = OfFault (λ g. g ≡ f) e

-- ---- a file

-- the file holds a document, and that is what it comes to
pub record OfHeld (told : List ℕ → Option (List ℕ)) (before now : ℕ) (name : List ℕ)
    (r : Result LoadedConfig ConfigError) : Type 0 where
  pub top : Members
  pub holds : Holds told name top
  pub answer : OfDocument told before now top (told_fault holds.bytes top) r

-- What is answered for a file of this name: `told` is what the files hold, where they tell it, and
-- `before` and `now` are their counts of faults. Out of memory says nothing.
abbrev pub Answers : (List ℕ → Option (List ℕ)) → (before now : ℕ) → List ℕ
    → Result LoadedConfig ConfigError → Type 0
Answers told before now name (Ok C) = OfHeld told before now name (Ok C)
Answers told before now name (Err refused.Memory) = ⊤
Answers told before now name (Err (refused.Fault f)) =
    CantRead before now name f
    ⊎ (HoldsNone told name f ⊎ OfHeld told before now name (Err (refused.Fault f)))
