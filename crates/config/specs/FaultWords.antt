-- What is wrong with a configuration, in English.
use Rattle.std.specs.Prelude.{ℕ, List, codes}
use Rattle.rule_loader.specs.Words.{load_words}
use Rattle.config.specs.declared.fault.ConfigFaultKind.{ConfigFaultKind}
use Rattle.config.specs.declared.fault.ConfigFaultKind.TheVariants.{ReadFault, NotToml, UnknownKey}
use Rattle.config.specs.declared.fault.ConfigFaultKind.TheVariants.{WrongKind, Twice, NoSuch, Range, Rule}

abbrev pub words_of : ConfigFaultKind → List ℕ
words_of ReadFault = codes "this file can't be read"
words_of NotToml = codes "this is no TOML in UTF-8"
words_of UnknownKey = codes "there is no such key"
words_of WrongKind = codes "a key must stand here and doesn't, or its value is of another kind"
words_of Twice = codes "this name, address or rule is there already"
words_of NoSuch = codes "there is no pool or rule of this name"
words_of Range = codes "its value is out of range, too long, or not of its form"
words_of (Rule kind) = load_words kind
