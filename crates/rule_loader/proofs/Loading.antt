-- What commands load, one after another.
use Rattle.std.proofs.Common.{◌≡◌, ℕ, ◌+◌, ◌<◌, List, [], ◌∷◌, ◌++◌, length, get_or, take, map, flat_map, refl, sym, ap, ◌∙◌}
use Rattle.std.specs.List.{filter}
use Rattle.std.proofs.lemmas.Grind.{flat_map-append}
use Rattle.std.proofs.lemmas.List.{append_assoc, append-nil, map-append, map_more, take_more}
use Rattle.std.proofs.lemmas.List.Elements.{filter-append}
use Rattle.event_order.specs.declared.event.EventName.{EventName}
use Rattle.rule_loader.specs.Events.{is_event}
use Rattle.rule_loader.specs.Faults.{after_faults}
use Rattle.rule_loader.specs.Handlers.{Handling, handled_at, handler_view, handlers_at, without_event}
use Rattle.rule_loader.specs.Loading.{command_faults, faults_from, handlings_in, procedures_in}
use Rattle.rule_loader.specs.Names.{AreNamesOf}
use Rattle.rule_loader.specs.Outcome.{Holds}
use Rattle.rule_loader.specs.declared.load_fault.RuleFault.{RuleFault}
use Rattle.rule_loader.specs.declared.loader.Loader.{Loader}
use Rattle.rule_loader.specs.declared.told.Told.{Told}
use Rattle.rule_loader.proofs.Faults.{after_both}
use Rattle.tcl_trees.specs.Procedures.{Procedure, procs_view}
use Rattle.tcl_words.specs.Tree.{Command}

-- one item more
pub flat_more : {X A : Type 0} (f : X → List A) (xs : List X) (i : ℕ) (x : X) → i < length xs → x ≡ get_or xs i x
    → flat_map f (take (i + 1) xs) ≡ flat_map f (take i xs) ++ f x
flat_more f xs i x there is =
    ap (flat_map f) (take_more xs i x there ∙ ap (λ y. take i xs ++ y ∷ []) (sym is))
    ∙ flat_map-append f (take i xs) (x ∷ []) ∙ ap (λ l. flat_map f (take i xs) ++ l) (append-nil (f x))

pub told_more : {X : Type 0} (f : X → List RuleFault) (xs : List X) (i : ℕ) (x : X) → i < length xs → x ≡ get_or xs i x
    → (t t1 t2 : Told) → t1 ≡ after_faults (flat_map f (take i xs)) t → t2 ≡ after_faults (f x) t1
    → t2 ≡ after_faults (flat_map f (take (i + 1) xs)) t
told_more f xs i x there is t t1 t2 so now =
    now ∙ ap (after_faults (f x)) so ∙ sym (after_both (flat_map f (take i xs)) (f x) t)
    ∙ ap (λ l. after_faults l t) (sym (flat_more f xs i x there is))

-- the commands before one, as the definitions see them, and that one
pub seen_more : {X A : Type 0} (view : X → A) (xs : List X) (i : ℕ) (x : X) → i < length xs → x ≡ get_or xs i x
    → map view (take (i + 1) xs) ≡ map view (take i xs) ++ view x ∷ []
seen_more view xs i x there is = map_more view xs i x there ∙ ap (λ y. map view (take i xs) ++ view y ∷ []) (sym is)

pub flat_one : {X A : Type 0} (f : X → List A) (xs : List X) (x : X) → flat_map f (xs ++ x ∷ []) ≡ flat_map f xs ++ f x
flat_one f xs x = flat_map-append f xs (x ∷ []) ∙ ap (λ l. flat_map f xs ++ l) (append-nil (f x))

pub faults_one : (before : List Procedure) (cs : List Command) (c : Command)
    → faults_from before (cs ++ c ∷ []) ≡ faults_from before cs ++ command_faults (before ++ flat_map procedures_in cs) c
faults_one before [] c =
    append-nil (command_faults before c) ∙ ap (λ ps. command_faults ps c) (sym (append-nil before))
faults_one before (d ∷ cs) c =
    ap (λ l. command_faults before d ++ l) (faults_one (before ++ procedures_in d) cs c
    ∙ ap (λ ps. faults_from (before ++ procedures_in d) cs ++ command_faults ps c) (append_assoc before (procedures_in d) (flat_map procedures_in cs)))
    ∙ sym (append_assoc (command_faults before d) (faults_from (before ++ procedures_in d) cs) (command_faults (before ++ (procedures_in d ++ flat_map procedures_in cs)) c))

pub handled_both : (event : EventName) (hs gs : List Handling) → handled_at event (hs ++ gs) ≡ handled_at event hs ++ handled_at event gs
handled_both event hs gs =
    ap (map without_event) (filter-append (λ h. is_event h.event event) hs gs)
    ∙ map-append without_event (filter (λ h. is_event h.event event) hs) (filter (λ h. is_event h.event event) gs)

-- one command more
pub holds_more : (t : Told) (cs : List Command) (c : Command) (l1 l2 : Loader) → Holds t cs l1
    → l2.told ≡ after_faults (command_faults (procs_view l1.procs) c) l1.told
    → procs_view l2.procs ≡ procs_view l1.procs ++ procedures_in c
    → AreNamesOf (procs_view l2.procs) l2.names
    → ((event : EventName) → map handler_view (handlers_at event l2.bodies) ≡ map handler_view (handlers_at event l1.bodies) ++ handled_at event (handlings_in c))
    → Holds t (cs ++ c ∷ []) l2
holds_more t cs c l1 l2 so told procs names bodies = record {
  told = told ∙ ap (λ ps. after_faults (command_faults ps c) l1.told) so.procedures
      ∙ ap (after_faults (command_faults (flat_map procedures_in cs) c)) so.told
      ∙ sym (after_both (faults_from [] cs) (command_faults (flat_map procedures_in cs) c) t)
      ∙ ap (λ l. after_faults l t) (sym (faults_one [] cs c));
  procedures = procs ∙ ap (λ ps. ps ++ procedures_in c) so.procedures ∙ sym (flat_one procedures_in cs c);
  names = names;
  bodies = λ event. bodies event ∙ ap (λ l. l ++ handled_at event (handlings_in c)) (so.bodies event)
      ∙ sym (handled_both event (flat_map handlings_in cs) (handlings_in c)) ∙ ap (handled_at event) (sym (flat_one handlings_in cs c));
}
