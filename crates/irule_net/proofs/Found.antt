-- Commands by their names, and events in lists of them.
use Rattle.std.proofs.Common.{◌≡◌, refl, sym, ◌∙◌, Bool, true, false, List, Option, Some, None, ◌↔◌, Contains}
use Rattle.std.proofs.Common.{IsTrue}
use Rattle.std.specs.Cmp.{IsEquivalence}
use Rattle.std.specs.List.{list_any}
use Rattle.std.proofs.lemmas.Cmp.{nat_list_eq_equiv}
use Rattle.std.proofs.lemmas.Map.Views.{Contains-from_any, list_any-from_Contains}
use Rattle.std.proofs.lemmas.Slice.Eq.{bytes_eq-Decides}
use Rattle.event_order.specs.Event.{event_text}
use Rattle.event_order.specs.declared.event.EventName.{EventName}
use Rattle.event_order.proofs.ByName.{event_by_text}
use Rattle.event_order.proofs.Found.{some_same}
use Rattle.irule_net.specs.Checks.{same_event}

pub same_options : {A : Type 0} (a b : Option A) → ((x : A) → a ≡ Some x → b ≡ Some x)
    → ((x : A) → b ≡ Some x → a ≡ Some x) → a ≡ b
same_options (Some x) b f g = sym (f x refl)
same_options None (Some y) f g = g y refl
same_options None None f g = refl

events_alike : IsEquivalence same_event
events_alike = record {
  refl = λ a. nat_list_eq_equiv.refl (event_text a);
  symm = λ a b. nat_list_eq_equiv.symm (event_text a) (event_text b);
  congr = λ a b d. nat_list_eq_equiv.congr (event_text a) (event_text b) (event_text d);
}

-- two events of one name are the same
one_event : (a b : EventName) → same_event a b ≡ true → a ≡ b
one_event a b h =
    let text : event_text a ≡ event_text b = (bytes_eq-Decides (event_text a) (event_text b)).0 h in
    some_same _ _ (sym ((event_by_text (event_text b) a).1 (sym text))
    ∙ (event_by_text (event_text b) b).1 refl)

not_any : (events : List EventName) (e : EventName) (b : Bool) → (Contains events e → false ≡ true)
    → list_any (same_event e) events ≡ b → false ≡ b
not_any events e false none is = refl
not_any events e true none is = none (Contains-from_any one_event e events is)

pub allowed_by : (r : Bool) (events : List EventName) (e : EventName)
    → (IsTrue r ↔ Contains events e) → r ≡ list_any (same_event e) events
allowed_by true events e h = sym (list_any-from_Contains events_alike e events (h.0 refl))
allowed_by false events e h = not_any events e (list_any (same_event e) events) h.1 refl
