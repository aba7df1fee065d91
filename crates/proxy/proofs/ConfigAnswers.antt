-- What a configuration file loads, from what is answered for it.
use Rattle.std.proofs.Common.{◌≡◌, ℕ, ◌+◌, true, false, List, Option, Some, None, IfSome, inl, inr, refl, sym, ap, ◌∙◌}
use Rattle.std.specs.Prelude.{Ok, Err, option_map}
use Rattle.std.proofs.lemmas.Bool.{false≢true}
use Rattle.px_outside.specs.Outside.{Rose}
use Rattle.toml.specs.Data.{Items, no_items, item, Members}
use Rattle.config.specs.Documents.{document_fault, items_at}
use Rattle.config.specs.Keys.{rules}
use Rattle.config.specs.Loading.{StopsAt}
use Rattle.config.specs.KeyLines.{with_line}
use Rattle.config.specs.Outcomes.{Answers, OfDocument, RulesFault, told_fault}
use Rattle.config.specs.declared.fault.ConfigError.TheVariants as refused
use Rattle.config.specs.declared.fault.ConfigFault.{ConfigFault}
use Rattle.config.specs.declared.reader.LoadedConfig.{LoadedConfig}
use Rattle.proxy.specs.Loads.{Loads, is_read_fault}
use Rattle.proxy.proofs.DocumentFaults.{document_was_read}

-- a fault of another kind isn't that a file can't be read
pub other_kind : (f g : ConfigFault) → f ≡ g → is_read_fault g.kind ≡ false → is_read_fault f.kind ≡ true → ⊥
other_kind f g same other is = false≢true (sym other ∙ ap (λ h. is_read_fault h.kind) (sym same) ∙ is)

module _ (told : List ℕ → Option (List ℕ)) (before now : ℕ) (name : List ℕ) where
  pub loads : (C : LoadedConfig) → Answers told before now name (Ok C) → Loads told name C
  loads C h = by_fault (document_fault h.top) refl h.answer
    where
      by_fault : (o : Option ConfigFault) → document_fault h.top ≡ o → OfDocument told before now h.top (option_map (with_line h.holds.bytes) o) (Ok C) → Loads told name C
      by_fault None e k = record { top = h.top; holds = h.holds; faultless = e; configures = k }
      by_fault (Some f) e k = absurd k

  was_read : (bytes : List ℕ) (o : Option ConfigFault) → IfSome o (λ g. is_read_fault g.kind ≡ false) → IfSome (option_map (with_line bytes) o) (λ g. is_read_fault g.kind ≡ false)
  was_read bytes None was = was
  was_read bytes (Some g) was = was

  module _ (f : ConfigFault) (is : is_read_fault f.kind ≡ true) where
    of_rule : (at : ℕ) (ds : Items) → StopsAt told before now at ds f → Rose before now
    of_rule at no_items stops = absurd stops
    of_rule at (item d ds) (inl (inl c)) = c.rose
    of_rule at (item d ds) (inl (inr t)) = absurd (other_kind f _ t.refused.fault refl is)
    of_rule at (item d ds) (inr s) = of_rule (at + 1) ds s.2

    of_rules : (top : Members) → RulesFault told before now top f → Rose before now
    of_rules top (inl stops) = of_rule 0 (items_at rules top) stops
    of_rules top (inr event) = absurd (other_kind f _ event.fault refl is)

    of_document : (top : Members) (o : Option ConfigFault) → IfSome o (λ g. is_read_fault g.kind ≡ false) → OfDocument told before now top o (Err (refused.Fault f)) → Rose before now
    of_document top None was k = of_rules top k
    of_document top (Some g) was k = absurd (other_kind f g k was is)

    -- that a file can't be read is told only where the files' count of faults rose
    pub read_rose : Answers told before now name (Err (refused.Fault f)) → Rose before now
    read_rose (inl c) = c.rose
    read_rose (inr (inl none)) = absurd (other_kind f _ none.refused.fault refl is)
    read_rose (inr (inr h)) = of_document h.top (told_fault h.holds.bytes h.top) (was_read h.holds.bytes (document_fault h.top) (document_was_read h.top)) h.answer
