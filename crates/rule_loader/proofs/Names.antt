-- Names of events and commands.
use Rattle.std.proofs.Common.{◌≡◌, ℕ, zero, suc, ◌<◌, Bool, true, false, ◌||◌, List, [], ◌∷◌, length, get_or, Option, Some, None, Contains, IsTrue, ◌↔◌, refl, sym, ap, ap₂, subst, ◌∙◌, find, arith, eq-eqb}
use Rattle.std.specs.List.{list_any}
use Rattle.std.proofs.lemmas.Bool.{eqb-true}
use Rattle.std.proofs.lemmas.List.Elements.{Contains-append_right}
use Rattle.event_order.proofs.ByName.{command_by_name}
use Rattle.event_order.specs.Event.{every_event}
use Rattle.event_order.specs.declared.event.EventName.{EventName}
use Rattle.event_order.specs.declared.event.EventName.TheVariants.{RuleInit, ClientAccepted, ClientData, ClientClosed, ServerConnected, ServerData, ServerClosed, LbSelected, LbFailed, HttpRequest, HttpRequestData, HttpResponse, HttpResponseData}
use Rattle.rule_loader.specs.CommandNames.{host_named, is_tcl, kind_is_tcl}
use Rattle.rule_loader.specs.Events.{event_place, is_event}
use Rattle.tcl_commands.specs.Kind.{KindIs, is_pure, is_control}
use Rattle.tcl_commands.specs.declared.kind.Kind.{Kind}
use Rattle.tcl_commands.specs.declared.kind.Kind.TheVariants.{Pure, Control, Host, Unknown}

-- two that are the same of everything are the same
pub both_named : {X : Type 0} (a b : Option X) (P : X → Type 0) → ((x : X) → (a ≡ Some x) ↔ P x) → ((x : X) → (b ≡ Some x) ↔ P x) → a ≡ b
both_named None None P f g = refl
both_named None (Some y) P f g = (f y).1 ((g y).0 refl)
both_named (Some x) None P f g = sym ((g x).1 ((f x).0 refl))
both_named (Some x) (Some y) P f g = sym ((g x).1 ((f x).0 refl))

pub same_truth : (a b : Bool) (P : Type 0) → IsTrue a ↔ P → IsTrue b ↔ P → a ≡ b
same_truth true true P one other = refl
same_truth true false P one other = sym (other.1 (one.0 refl))
same_truth false true P one other = one.1 (other.0 refl)
same_truth false false P one other = refl

or_right : (a b : Bool) → b ≡ true → (a || b) ≡ true
or_right true b h = refl
or_right false b h = h

-- ---- events

at_place : (e : EventName) → get_or every_event (event_place e) RuleInit ≡ e
at_place RuleInit = refl
at_place ClientAccepted = refl
at_place ClientData = refl
at_place ClientClosed = refl
at_place ServerConnected = refl
at_place ServerData = refl
at_place ServerClosed = refl
at_place LbSelected = refl
at_place LbFailed = refl
at_place HttpRequest = refl
at_place HttpRequestData = refl
at_place HttpResponse = refl
at_place HttpResponseData = refl

pub same_event : (a b : EventName) → is_event a b ≡ true → a ≡ b
same_event a b h =
    sym (at_place a) ∙ ap (λ k. get_or every_event k RuleInit) (eqb-true (event_place a) (event_place b) h) ∙ at_place b

contains_at : (e : EventName) (es : List EventName) (k : ℕ) → k < length es → get_or es k e ≡ e → list_any (is_event e) es ≡ true
contains_at e [] k below is = absurd (omega arith)
contains_at e (x ∷ es) zero below is = ap (λ y. is_event e y || list_any (is_event e) es) is ∙ ap (λ b. b || list_any (is_event e) es) (eq-eqb (event_place e) (event_place e) refl)
contains_at e (x ∷ es) (suc k) below is = or_right (is_event e x) (list_any (is_event e) es) (contains_at e es k (omega arith) is)

contains_if : (e : EventName) (es : List EventName) → list_any (is_event e) es ≡ true → Contains es e
contains_if e [] h = cc
contains_if e (x ∷ es) h =
    elim (is_event e x) as (λ b. is_event e x ≡ b → (b || list_any (is_event e) es) ≡ true → Contains (x ∷ es) e) [
      | true ↦ λ same any. subst (λ y. Contains (y ∷ es) e) (same_event e x same) (0, omega arith, refl)
      | false ↦ λ other any. Contains-append_right (x ∷ []) es e (contains_if e es any)
    ] refl h

pub contains_test : (e : EventName) (es : List EventName) → IsTrue (list_any (is_event e) es) ↔ Contains es e
contains_test e es = (contains_if e es, λ there. contains_at e es there.0 there.1 there.2)

-- ---- commands of Tcl

pub tcl_named : (name : List ℕ) (k : Kind) → KindIs name k → host_named name ≡ None → kind_is_tcl k ≡ is_tcl name
tcl_named name Pure h none = sym (ap (λ b. b || is_control name) h)
tcl_named name Control h none = sym (or_right (is_pure name) (is_control name) h)
tcl_named name Host h none = let some = (command_by_name name h.0).1 h.1 in cc
tcl_named name Unknown h none = sym (ap₂ (λ a b. a || b) h.0 h.1)
