-- The rules of a document: each has its text in the document or in a file, and its text is loaded.
use Rattle.std.specs.Prelude.{◌≡◌, ◌⊎◌, ℕ, ◌+◌, true, false, List, [], ◌∷◌, Option, Some, None, IfSome}
use Rattle.std.specs.Prelude.{Ok, Err, ⊤, unwrap_or}
use Rattle.px_outside.specs.Outside.{Rose}
use Rattle.rule_loader.specs.Loading.{rule_of}
use Rattle.rule_loader.specs.Outcome.{Gives}
use Rattle.rule_loader.specs.declared.load_fault.RuleFault.{RuleFault}
use Rattle.toml.specs.Data.{Data, Items, no_items, item}
use Rattle.config.specs.EventWords.{misplaced_in}
use Rattle.config.specs.Faults.{fault_at}
use Rattle.config.specs.Keys.{name_key, rule_file, rule_text}
use Rattle.config.specs.LineEnds.{without_returns}
use Rattle.config.specs.RuleFaults.{rule_fault}
use Rattle.config.specs.Texts.{text_in}
use Rattle.config.specs.declared.fault.ConfigError.{ConfigError}
use Rattle.config.specs.declared.fault.ConfigError.TheVariants as refused
use Rattle.config.specs.declared.fault.ConfigFault.{ConfigFault}
use Rattle.config.specs.declared.fault.ConfigFaultKind.TheVariants.{ReadFault}
use Rattle.config.specs.declared.rule_text.LoadedRule.{LoadedRule}
use Rattle.config.specs.declared.rule_text.RuleText.{RuleText}

-- what is said of a fault; out of memory says nothing
abbrev pub OfFault : (ConfigFault → Type 0) → ConfigError → Type 0
OfFault P (refused.Fault f) = P f
OfFault P refused.Memory = ⊤

-- ---- files

-- these are the bytes of a file, where the files tell what they hold
abbrev pub IsContents : (List ℕ → Option (List ℕ)) → List ℕ → List ℕ → Type 0
IsContents told name bytes = IfSome (told name) (λ held. bytes ≡ held)

-- a file can't be read, which the files' count of faults tells
pub record CantRead (before now : ℕ) (name : List ℕ) (f : ConfigFault) : Type 0 where
  pub rose : Rose before now
  pub fault : f ≡ fault_at ReadFault name

-- ---- a rule

-- the text at a key of an item, empty where there is none
abbrev pub item_text : List ℕ → Data → List ℕ
item_text key d = unwrap_or (text_in (Some key) d) []

abbrev pub rule_name : Data → List ℕ
rule_name d = item_text name_key.name d

abbrev pub file_name : Data → List ℕ
file_name d = item_text rule_file.name d

-- this is the text of a rule's file, in which CR LF ends a line as LF does
pub record IsFileText (told : List ℕ → Option (List ℕ)) (file : List ℕ) (text : RuleText)
    : Type 0 where
  pub held : List ℕ
  pub contents : IsContents told file held
  pub file_is : text.file ≡ Some file
  pub bytes_are : text.bytes ≡ without_returns held

-- this text stands in the document
pub record IsOwnText (held : List ℕ) (text : RuleText) : Type 0 where
  pub no_file : text.file ≡ None
  pub bytes_are : text.bytes ≡ held

abbrev pub HasText : (List ℕ → Option (List ℕ)) → Option (List ℕ) → List ℕ → RuleText → Type 0
HasText told (Some held) file text = IsOwnText held text
HasText told None file text = IsFileText told file text

-- its text: that of the document, or that of its file
abbrev pub IsRuleText : (List ℕ → Option (List ℕ)) → Data → RuleText → Type 0
IsRuleText told d text = HasText told (text_in (Some rule_text.name) d) (file_name d) text

-- the text can't be loaded
pub record CantLoad (at : ℕ) (name : List ℕ) (text : RuleText) (f : ConfigFault) : Type 0 where
  pub why : RuleFault
  pub refused : rule_of name text.bytes ≡ Err why
  pub fault : f ≡ rule_fault at why text

-- the rule is that of its name and of this text
pub record IsRuleOf (name : List ℕ) (text : RuleText) (r : LoadedRule) : Type 0 where
  pub text_is : r.text ≡ text
  pub rule : Gives (Ok r.rule) (rule_of name text.bytes)
  pub of_http : r.events.of_http ≡ misplaced_in false text.bytes
  pub of_bytes : r.events.of_bytes ≡ misplaced_in true text.bytes

-- the item is this rule
pub record IsLoaded (told : List ℕ → Option (List ℕ)) (d : Data) (r : LoadedRule) : Type 0 where
  pub text : RuleText
  pub contents : IsRuleText told d text
  pub rule : IsRuleOf (rule_name d) text r

-- the item's text can't be loaded
pub record TextFault (told : List ℕ → Option (List ℕ)) (at : ℕ) (d : Data) (f : ConfigFault)
    : Type 0 where
  pub text : RuleText
  pub contents : IsRuleText told d text
  pub refused : CantLoad at (rule_name d) text f

-- the item's file can't be read, or its text can't be loaded
abbrev pub IsRuleFault : (List ℕ → Option (List ℕ)) → (before now : ℕ) → ℕ → Data → ConfigFault → Type 0
IsRuleFault told before now at d f = CantRead before now (file_name d) f ⊎ TextFault told at d f

-- ---- all rules, in their order

-- the items are these rules
abbrev pub AreLoaded : (List ℕ → Option (List ℕ)) → Items → List LoadedRule → Type 0
AreLoaded told no_items [] = ⊤
AreLoaded told no_items (r ∷ rs) = ⊥
AreLoaded told (item d ds) [] = ⊥
AreLoaded told (item d ds) (r ∷ rs) = IsLoaded told d r × AreLoaded told ds rs

-- so many are loaded, and the next one has this fault
abbrev pub StopsAt : (List ℕ → Option (List ℕ)) → (before now : ℕ) → ℕ → Items → ConfigFault → Type 0
StopsAt told before now at no_items f = ⊥
StopsAt told before now at (item d ds) f =
    IsRuleFault told before now at d f
    ⊎ ((r : LoadedRule) × IsLoaded told d r × StopsAt told before now (at + 1) ds f)
