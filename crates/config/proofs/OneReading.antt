-- A document is one configuration only, where the files tell what they hold.
use Rattle.std.proofs.Common.{◌≡◌, List, [], ◌∷◌, map, Option, Some, None, IsSome, IfSome, ℕ, refl, sym, ap}
use Rattle.std.proofs.Common.{ap₂, ◌∙◌}
use Rattle.std.specs.Prelude.{Result, Ok, Err}
use Rattle.rule_loader.specs.Faults.{told_of}
use Rattle.rule_loader.specs.Loading.{Loaded, loaded, rule_faults, rule_of, script_of, unless}
use Rattle.tcl_trees.specs.Pieces.{all_commands}
use Rattle.rule_loader.specs.Outcome.{Gives}
use Rattle.rule_loader.specs.declared.load_fault.RuleFault.{RuleFault}
use Rattle.rule_loader.specs.declared.rule.Rule.{Rule}
use Rattle.toml.specs.Data.{Data, Items, no_items, item, Members}
use Rattle.config.specs.Documents.{items_at}
use Rattle.config.specs.Keys.{rule_text, rules}
use Rattle.config.specs.Laws.{AreSame, named_text}
use Rattle.config.specs.LineEnds.{without_returns}
use Rattle.config.specs.Loading.{AreLoaded, HasText, IsLoaded, file_name, rule_name}
use Rattle.config.specs.Outcomes.{Configures}
use Rattle.config.specs.Texts.{text_in}
use Rattle.config.specs.declared.reader.LoadedConfig.{LoadedConfig}
use Rattle.config.specs.declared.rule_text.LoadedRule.{LoadedRule}
use Rattle.config.specs.declared.rule_text.RuleText.{RuleText}

same_held : (o : Option (List ℕ)) → IsSome o → (a b : List ℕ) → IfSome o (λ held. a ≡ held) → IfSome o (λ held. b ≡ held) → a ≡ b
same_held (Some held) some a b one other = one ∙ sym other
same_held None some a b one other = cc

same_text : (told : List ℕ → Option (List ℕ)) (o : Option (List ℕ)) (file : List ℕ) (a b : RuleText) → IsSome (told file) → HasText told o file a → HasText told o file b → a.bytes ≡ b.bytes
same_text told (Some held) file a b some one other = one.bytes_are ∙ sym other.bytes_are
same_text told None file a b some one other =
    one.bytes_are ∙ ap without_returns (same_held (told file) some one.held other.held one.contents other.contents) ∙ sym other.bytes_are

-- the rule's name is the one that it was loaded under
name_given : (name : List ℕ) (r : Rule) (says : Result Loaded RuleFault) → ((of : Loaded) → says ≡ Ok of → of.name ≡ name) → Gives (Ok r) says → r.name ≡ name
name_given name r (Ok of) named gives = gives.name ∙ named of refl
name_given name r (Err f) named gives = absurd gives

unless_named : (o : Option RuleFault) (l of : Loaded) → unless o l ≡ Ok of → of.name ≡ l.name
unless_named None l of e = let k : l ≡ of = cc in ap (λ x. x.name) (sym k)
unless_named (Some f) l of e = absurd (cc)

loaded_name : (name bytes : List ℕ) (of : Loaded) → rule_of name bytes ≡ Ok of → of.name ≡ name
unfolding rule_of
loaded_name name bytes of e = unless_named (told_of (rule_faults (script_of bytes))) (loaded name (all_commands (script_of bytes).0)) of e

rule_named : (told : List ℕ → Option (List ℕ)) (d : Data) (r : LoadedRule) → IsLoaded told d r → r.rule.name ≡ rule_name d
rule_named told d r is = name_given (rule_name d) r.rule (rule_of (rule_name d) is.text.bytes) (loaded_name (rule_name d) is.text.bytes) is.rule.rule

module _ (told : List ℕ → Option (List ℕ)) (tells : (file : List ℕ) → IsSome (told file)) where
  same_rule : (d : Data) (r s : LoadedRule) → IsLoaded told d r → IsLoaded told d s → named_text r ≡ named_text s
  same_rule d r s one other =
      let bytes = same_text told (text_in (Some rule_text.name) d) (file_name d) one.text other.text (tells (file_name d)) one.contents other.contents in
      ap₂ (λ n t. (n, t)) (rule_named told d r one ∙ sym (rule_named told d s other)) (ap (λ t. t.bytes) one.rule.text_is ∙ bytes ∙ sym (ap (λ t. t.bytes) other.rule.text_is))

  same_rules : (ds : Items) (rs ss : List LoadedRule) → AreLoaded told ds rs → AreLoaded told ds ss → map named_text rs ≡ map named_text ss
  same_rules no_items [] [] one other = refl
  same_rules no_items [] (s ∷ ss) one other = absurd other
  same_rules no_items (r ∷ rs) ss one other = absurd one
  same_rules (item d ds) [] ss one other = absurd one
  same_rules (item d ds) (r ∷ rs) [] one other = absurd other
  same_rules (item d ds) (r ∷ rs) (s ∷ ss) one other =
      ap₂ (λ x xs. x ∷ xs) (same_rule d r s one.0 other.0) (same_rules ds rs ss one.1 other.1)

pub one_reading : (told : List ℕ → Option (List ℕ)) (top : Members) (C D : LoadedConfig) → ((file : List ℕ) → IsSome (told file)) → Configures told top C → Configures told top D → AreSame C D
one_reading told top C D tells one other = record {
  settings = one.settings ∙ sym other.settings;
  rules = same_rules told tells (items_at rules top) C.rules D.rules one.loaded other.loaded;
}
