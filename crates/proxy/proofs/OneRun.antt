-- What is read of files that are told: a configuration that loads isn't faulty, and what the core
-- runs for it is told by its document alone.
use Rattle.std.proofs.Common.{◌≡◌, ◌⊎◌, ℕ, ◌+◌, zero, suc, Bool, true, false, if◌then◌else◌, ◌&&◌, ◌||◌, List, [], ◌∷◌, Option, Some, None, IfSome, IsSome, inl, inr, refl, sym, ap, ap₂, subst, ◌∙◌, map}
use Rattle.std.specs.Prelude.{Result, Ok, Err, option_map, option_and_then, slice_get}
use Rattle.std.specs.List.{list_all, list_any}
use Rattle.std.specs.Option.{option_or}
use Rattle.event_order.specs.Event.{every_event}
use Rattle.event_order.specs.declared.event.EventName.{EventName}
use Rattle.proxy.specs.HostCommands.{is_built}
use Rattle.rule_loader.specs.Loading.{Loaded, rule_of}
use Rattle.rule_loader.specs.Outcome.{Gives}
use Rattle.rule_loader.specs.declared.load_fault.RuleFault.{RuleFault}
use Rattle.rule_loader.specs.declared.rule.Rule.{Rule}
use Rattle.tcl_trees.specs.Procedures.{procs_view}
use Rattle.toml.specs.Data.{Data, Items, no_items, item, Members}
use Rattle.toml.specs.Parse.{parse_document}
use Rattle.config.specs.Documents.{items_at}
use Rattle.config.specs.EventWords.{misplaced_in}
use Rattle.config.specs.Faults.{fault_at}
use Rattle.config.specs.KeyLines.{with_line}
use Rattle.config.specs.Keys.{name_key, rules, rule_text}
use Rattle.config.specs.LineEnds.{without_returns}
use Rattle.config.specs.Loading.{AreLoaded, HasText, IsContents, IsLoaded, StopsAt, file_name, rule_name}
use Rattle.config.specs.Misplaced.{first_misplaced, misplaced_at, place_in, server_misplaced}
use Rattle.config.specs.Outcomes.{Answers, Configures, EventFault, IsDocument, OfDocument, RulesFault, misplaced_of, told_fault}
use Rattle.config.specs.Settings.{settings_of}
use Rattle.config.specs.Texts.{first_place, text_in}
use Rattle.config.specs.declared.config.VirtualSettings.{VirtualSettings}
use Rattle.config.specs.declared.event_words.FirstEventPlaces.{FirstEventPlaces}
use Rattle.config.specs.declared.fault.ConfigError.TheVariants as refused
use Rattle.config.specs.declared.fault.ConfigFault.{ConfigFault}
use Rattle.config.specs.declared.fault.ConfigFaultKind.TheVariants.{ReadFault}
use Rattle.config.specs.declared.reader.LoadedConfig.{LoadedConfig}
use Rattle.config.specs.declared.rule_text.LoadedRule.{LoadedRule}
use Rattle.config.specs.declared.rule_text.RuleText.{RuleText}
use Rattle.proxy.specs.Complete.{AreTold, IsTold, MayLoad}
use Rattle.proxy.specs.Loads.{Loads, is_read_fault}
use Rattle.config.specs.Filled.{filled, pool_of, server_of}
use Rattle.config.proofs.Filling.{parts_of}
use Rattle.run_config.specs.declared.config.Config as core
use Rattle.proxy.specs.Runnable.{are_built, bodies_at, can_run, has_built_bodies, has_few, is_plain, is_rule_built, sets_no_cookie, speaks_http}
use Rattle.proxy.proofs.ConfigAnswers.{other_kind}
use Rattle.proxy.proofs.ListTests.{all_map}

-- the contents of a file that is told
pub told_is : (o : Option (List ℕ)) (bytes held : List ℕ) → o ≡ Some held → IfSome o (λ h. bytes ≡ h) → bytes ≡ held
told_is o bytes held e i = let P : Option (List ℕ) → Type 0 = λ x. IfSome x (λ h. bytes ≡ h) in subst P e i

same_held : (o : Option (List ℕ)) → IsSome o → (a b : List ℕ) → IfSome o (λ held. a ≡ held) → IfSome o (λ held. b ≡ held) → a ≡ b
same_held (Some held) some a b one other = one ∙ sym other
same_held None some a b one other = cc

same_text : (told : List ℕ → Option (List ℕ)) (o : Option (List ℕ)) (file : List ℕ) (a b : RuleText) → IsSome o ⊎ IsSome (told file) → HasText told o file a → HasText told o file b → a.bytes ≡ b.bytes
same_text told (Some held) file a b some one other = one.bytes_are ∙ sym other.bytes_are
same_text told None file a b (inl some) one other = cc
same_text told None file a b (inr some) one other =
    one.bytes_are ∙ ap without_returns (same_held (told file) some one.held other.held one.contents other.contents) ∙ sym other.bytes_are

-- ---- what is seen of a rule

-- whether it can be run
abbrev built : (http : Bool) → LoadedRule → Bool
built http r = is_rule_built http r.rule

same_built : (http : Bool) (r s : Rule) → procs_view r.procs ≡ procs_view s.procs → ((event : EventName) → bodies_at event r ≡ bodies_at event s) → is_rule_built http r ≡ is_rule_built http s
same_built http r s procs bodies = ap₂ (λ a b. a && b) (each every_event) (ap (λ ps. has_few ps && are_built http ps) procs)
  where
    each : (events : List EventName) → list_all (has_built_bodies http r) events ≡ list_all (has_built_bodies http s) events
    each [] = refl
    each (e ∷ events) = ap₂ (λ a b. a && b) (ap (λ hs. list_all (λ h. is_built http h.body) hs) (bodies e)) (each events)

by_text : (http : Bool) (r s : LoadedRule) (says : Result Loaded RuleFault) → Gives (Ok r.rule) says → Gives (Ok s.rule) says → built http r ≡ built http s
by_text http r s (Ok of) one other = same_built http r.rule s.rule (one.procedures ∙ sym other.procedures) (λ event. one.bodies event ∙ sym (other.bodies event))
by_text http r s (Err f) one other = absurd one

module _ (told : List ℕ → Option (List ℕ)) where
  one_text : (d : Data) (r s : LoadedRule) → IsTold told d → (p : IsLoaded told d r) (q : IsLoaded told d s) → p.text.bytes ≡ q.text.bytes
  one_text d r s is p q = same_text told (text_in (Some rule_text.name) d) (file_name d) p.text q.text is p.contents q.contents

  same_rule : (http : Bool) (d : Data) (r s : LoadedRule) → IsTold told d → IsLoaded told d r → IsLoaded told d s → built http r ≡ built http s
  same_rule http d r s is p q =
      by_text http r s (rule_of (rule_name d) q.text.bytes) (subst (λ b. Gives (Ok r.rule) (rule_of (rule_name d) b)) (one_text d r s is p q) p.rule.rule) q.rule.rule

  same_events : (d : Data) (r s : LoadedRule) → IsTold told d → IsLoaded told d r → IsLoaded told d s → r.events ≡ s.events
  same_events d r s is p q =
      let same = one_text d r s is p q in
      ap₂ (λ a b. record { of_http = a; of_bytes = b })
      (p.rule.of_http ∙ ap (misplaced_in false) same ∙ sym q.rule.of_http)
      (p.rule.of_bytes ∙ ap (misplaced_in true) same ∙ sym q.rule.of_bytes)

  module _ {A : Type 0} (view : LoadedRule → A) (same : (d : Data) (r s : LoadedRule) → IsTold told d → IsLoaded told d r → IsLoaded told d s → view r ≡ view s) where
    all_same : (ds : Items) (rs ss : List LoadedRule) → AreTold told ds → AreLoaded told ds rs → AreLoaded told ds ss → map view rs ≡ map view ss
    all_same no_items [] [] is p q = refl
    all_same no_items [] (s ∷ ss) is p q = absurd q
    all_same no_items (r ∷ rs) ss is p q = absurd p
    all_same (item d ds) [] ss is p q = absurd p
    all_same (item d ds) (r ∷ rs) [] is p q = absurd q
    all_same (item d ds) (r ∷ rs) (s ∷ ss) is p q = ap₂ (λ x xs. x ∷ xs) (same d r s is.0 p.0 q.0) (all_same ds rs ss is.1 p.1 q.1)

-- ---- events that a virtual server doesn't have

abbrev events : LoadedRule → FirstEventPlaces
events r = r.events

cut : {A : Type 0} (x y : A) (xs ys : List A) → x ∷ xs ≡ y ∷ ys → (x ≡ y) × (xs ≡ ys)
cut x y xs ys e = (cc, cc)

module _ (http : Bool) where
  same_place : (rs ss : List LoadedRule) (at : ℕ) → map events rs ≡ map events ss → option_and_then (place_in http) (slice_get rs at) ≡ option_and_then (place_in http) (slice_get ss at)
  same_place [] [] at e = refl
  same_place [] (s ∷ ss) at e = absurd (cc)
  same_place (r ∷ rs) [] at e = absurd (cc)
  same_place (r ∷ rs) (s ∷ ss) zero e = ap (λ x. if http then x.of_bytes else x.of_http) (cut r.events s.events (map events rs) (map events ss) e).0
  same_place (r ∷ rs) (s ∷ ss) (suc at) e = same_place rs ss at (cut r.events s.events (map events rs) (map events ss) e).1

module _ (index : List ℕ → Option ℕ) (rs ss : List LoadedRule) (same : map events rs ≡ map events ss) where
  at_rule : (http : Bool) (o : Option ℕ) → option_and_then (misplaced_at rs http) o ≡ option_and_then (misplaced_at ss http) o
  at_rule http None = refl
  at_rule http (Some at) = ap (option_map (λ place. record { rule = at; place = place })) (same_place http rs ss at same)

  in_server : (http : Bool) (names : List (List ℕ)) → server_misplaced index rs http names ≡ server_misplaced index ss http names
  in_server http [] = refl
  in_server http (name ∷ names) = ap₂ option_or (at_rule http (index name)) (in_server http names)

  in_servers : (vs : List VirtualSettings) → first_misplaced index rs vs ≡ first_misplaced index ss vs
  in_servers [] = refl
  in_servers (v ∷ vs) = ap₂ option_or (in_server v.http v.rules) (in_servers vs)

-- ---- a configuration that loads

some_is : {A : Type 0} (x y : A) → Some x ≡ Some y → x ≡ y
some_is x y e = cc

all_built : (http : Bool) (rs : List LoadedRule) → list_all (built http) rs ≡ list_all (λ b. b) (map (built http) rs)
all_built http [] = refl
all_built http (r ∷ rs) = ap (λ b. built http r && b) (all_built http rs)

-- whether a virtual server can be run, and whether one speaks HTTP
abbrev plain : VirtualSettings → Bool
plain v = sets_no_cookie v.persist

abbrev speaks : List VirtualSettings → Bool
speaks virtuals = list_any (λ v. v.http) virtuals

same_speaks : (rs : List LoadedRule) (vs : List VirtualSettings) → speaks_http (map (server_of rs) vs) ≡ speaks vs
same_speaks rs [] = refl
same_speaks rs (v ∷ vs) = ap (λ b. v.http || b) (same_speaks rs vs)

-- whether what is filled can be run, by the settings and the rules
abbrev can_be : List VirtualSettings → List LoadedRule → Bool
can_be virtuals rs = list_all plain virtuals && list_all (built (speaks virtuals)) rs

can_of : (C : LoadedConfig) (K : core.Config) → filled C ≡ Some K → can_run K ≡ can_be C.settings.virtuals C.rules
can_of C K e =
    let parts = parts_of C K e in
    let vs = C.settings.virtuals in
    ap₂ (λ vs rs. list_all is_plain vs && list_all (is_rule_built (speaks_http vs)) rs) parts.0 parts.1
    ∙ ap₂ (λ a http. a && list_all (is_rule_built http) (map (λ r. r.rule) C.rules)) (all_map is_plain (server_of C.rules) vs) (same_speaks C.rules vs)
    ∙ ap (λ b. list_all plain vs && b) (all_map (is_rule_built (speaks vs)) (λ r. r.rule) C.rules)

module _ (told : List ℕ → Option (List ℕ)) (name : List ℕ) (C : LoadedConfig) (m : MayLoad told name C) where
  same_bytes : (bytes : List ℕ) → IsContents told name bytes → bytes ≡ m.bytes
  same_bytes bytes contents = told_is (told name) bytes m.bytes m.config contents

  same_document : (bytes : List ℕ) (top : Members) → IsContents told name bytes → IsDocument bytes top → top ≡ m.top
  same_document bytes top contents document =
      some_is top m.top (sym document.table ∙ ap parse_document (same_bytes bytes contents) ∙ m.document.table)

  pub same_settings : (D : LoadedConfig) → Loads told name D → D.settings ≡ C.settings
  same_settings D l =
      let top : l.top ≡ m.top = same_document l.holds.bytes l.top l.holds.contents l.holds.document in
      (subst (λ t. Configures told t D) top l.configures).settings ∙ sym m.configures.settings

  -- what is filled of another one that loads can be run, or not, alike
  pub same_run : (D : LoadedConfig) → Loads told name D → (K L : core.Config) → filled C ≡ Some K → filled D ≡ Some L → can_run L ≡ can_run K
  same_run D l K L of_C of_D =
      let top : l.top ≡ m.top = same_document l.holds.bytes l.top l.holds.contents l.holds.document in
      let D_is : Configures told m.top D = subst (λ t. Configures told t D) top l.configures in
      let settings : D.settings ≡ C.settings = same_settings D l in
      let http = speaks C.settings.virtuals in
      let alike : map (built http) D.rules ≡ map (built http) C.rules = all_same told (built http) (same_rule told http) (items_at rules m.top) D.rules C.rules m.texts D_is.loaded m.configures.loaded in
      let all : list_all (built http) D.rules ≡ list_all (built http) C.rules = all_built http D.rules ∙ ap (λ bs. list_all (λ b. b) bs) alike ∙ sym (all_built http C.rules) in
      can_of D L of_D ∙ ap (λ st. can_be st.virtuals D.rules) settings ∙ ap (λ b. list_all plain C.settings.virtuals && b) all ∙ sym (can_of C K of_C)

  -- it isn't faulty
  module _ (before now : ℕ) (f : ConfigFault) (was : is_read_fault f.kind ≡ false) where
    not_a_read_fault : (file : List ℕ) → f ≡ fault_at ReadFault file → ⊥
    not_a_read_fault file e = other_kind (fault_at ReadFault file) f (sym e) was refl

    no_stop : (at : ℕ) (ds : Items) (rs : List LoadedRule) → AreTold told ds → AreLoaded told ds rs → StopsAt told before now at ds f → ⊥
    no_stop at no_items rs is l stops = stops
    no_stop at (item d ds) [] is l stops = l
    no_stop at (item d ds) (r ∷ rs) is l (inl (inl c)) = not_a_read_fault (file_name d) c.fault
    no_stop at (item d ds) (r ∷ rs) is l (inl (inr t)) =
        let same : l.0.text.bytes ≡ t.text.bytes = same_text told (text_in (Some rule_text.name) d) (file_name d) l.0.text t.text is.0 l.0.contents t.contents in
        let says : rule_of (rule_name d) l.0.text.bytes ≡ Err t.refused.why = ap (rule_of (rule_name d)) same ∙ t.refused.refused in
        subst (Gives (Ok r.rule)) says l.0.rule.rule
    no_stop at (item d ds) (r ∷ rs) is l (inr s) = no_stop (at + 1) ds rs is.1 l.1 s.2

    no_event : EventFault told m.top f → ⊥
    no_event e =
        let alike : map events e.all ≡ map events C.rules = all_same told events (same_events told) (items_at rules m.top) e.all C.rules m.texts e.loaded m.configures.loaded in
        let found : misplaced_of m.top C.rules ≡ Some e.misplaced = sym (in_servers (first_place (Some name_key.name) (items_at rules m.top)) e.all C.rules alike (settings_of m.top).virtuals) ∙ e.first in
        let none : misplaced_of m.top C.rules ≡ None = m.configures.placed in
        cc

    no_rule : RulesFault told before now m.top f → ⊥
    no_rule (inl stops) = no_stop 0 (items_at rules m.top) C.rules m.texts m.configures.loaded stops
    no_rule (inr event) = no_event event

    no_document : (o : Option ConfigFault) → o ≡ None → OfDocument told before now m.top o (Err (refused.Fault f)) → ⊥
    no_document None e k = no_rule k
    no_document (Some g) e k = cc

    pub not_faulty : Answers told before now name (Err (refused.Fault f)) → ⊥
    not_faulty (inl c) = not_a_read_fault name c.fault
    not_faulty (inr (inl none)) = none.refused.refused m.top (subst (λ b. IsDocument b m.top) (sym (same_bytes none.bytes none.contents)) m.document)
    not_faulty (inr (inr h)) =
        let top : h.top ≡ m.top = same_document h.holds.bytes h.top h.holds.contents h.holds.document in
        let P : Members → Type 0 = λ t. OfDocument told before now t (told_fault h.holds.bytes t) (Err (refused.Fault f)) in
        no_document (told_fault h.holds.bytes m.top) (ap (option_map (with_line h.holds.bytes)) m.faultless) (subst P top h.answer)
