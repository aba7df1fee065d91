-- The text of a verb is that of no other one, so that it is found by its text.
use Rattle.std.proofs.Common.{◌≡◌, ℕ, List, find, Some, refl, ◌↔◌, subst, sym}
use Rattle.std.specs.Str.{bytes_eq}
use Rattle.std.proofs.lemmas.Slice.Eq.{bytes_eq-Decides}
use Rattle.journal_text.proofs.Found.{found_passes}
use Rattle.journal_text.specs.Verb.{verb_text, every_verb}
use Rattle.journal_text.specs.declared.verb.EventVerb.{EventVerb}
use Rattle.journal_text.specs.declared.verb.EventVerb.TheVariants.{Accept, Client, ClientEnd, ClientReset}
use Rattle.journal_text.specs.declared.verb.EventVerb.TheVariants.{Connected, Refused, Server, ServerEnd}
use Rattle.journal_text.specs.declared.verb.EventVerb.TheVariants.{ServerReset, ClientTook, ServerTook}
use Rattle.journal_text.specs.declared.verb.EventVerb.TheVariants.{Tick, Turn, Run, Mark}

abbrev pub verb_named : List ℕ → EventVerb → Type 0
verb_named t v = find (λ x. bytes_eq (verb_text x) t) every_verb ≡ Some v

pub verb_at_text : (v : EventVerb) → verb_named (verb_text v) v
verb_at_text Accept = refl
verb_at_text Client = refl
verb_at_text ClientEnd = refl
verb_at_text ClientReset = refl
verb_at_text Connected = refl
verb_at_text Refused = refl
verb_at_text Server = refl
verb_at_text ServerEnd = refl
verb_at_text ServerReset = refl
verb_at_text ClientTook = refl
verb_at_text ServerTook = refl
verb_at_text Tick = refl
verb_at_text Turn = refl
verb_at_text Run = refl
verb_at_text Mark = refl

pub verb_by_text : (t : List ℕ) (v : EventVerb) → verb_named t v ↔ (t ≡ verb_text v)
verb_by_text t v = (
  λ h. sym ((bytes_eq-Decides (verb_text v) t).0 (found_passes (λ x. bytes_eq (verb_text x) t) every_verb v h)),
  λ h. subst (λ u. verb_named u v) (sym h) (verb_at_text v),
)
