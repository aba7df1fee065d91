-- Where bodies stand is where they are found.
use Rattle.std.proofs.Common.{◌≡◌, refl, sym, ap, ◌∙◌, ℕ, zero, suc, ◌+◌, List, [], ◌∷◌, ◌++◌, map, flat_map, length, Bool, true, false, Option, Some, None, option_map, nat_le, arith, if◌then◌else◌}
use Rattle.std.specs.Prelude.{option_and_then, slice_get, slice_index_or}
use Rattle.event_order.specs.declared.event.EventName.{EventName}
use Rattle.event_order.specs.declared.event.EventName.TheVariants as event
use Rattle.rule_loader.specs.Handlers.{handlers_at}
use Rattle.rule_loader.specs.declared.handler.EventHandler as loaded
use Rattle.rule_loader.specs.declared.rule.Rule.{Rule}
use Rattle.conn.specs.Setups.{body_in, body_of, handler_view, places_in}
use Rattle.conn.specs.declared.setup.Place.{Place}
use Rattle.record_model.specs.Bodies.{Body, bodies_in, bodies_of, body_view, rule_bodies}
use Rattle.proxy_core.specs.Bodies.{all_places, gathered, place_priority, placed, placed_in, places_of, rule_places, server_places}
use Rattle.record_model.specs.Order.{by_priority, put}
use Rattle.record_model.specs.Setup.{numbers_in}
use Rattle.run_config.specs.declared.config.Virtual.{Virtual}

-- a body stands at a place of rules
pub record Found (rules : List Rule) (e : EventName) (p : Place) (b : Body) : Type 0 where
  pub there : body_in rules e p ≡ Some b.handler
  pub same : p.priority ≡ b.priority

-- bodies stand at places, one by one
abbrev pub AllFound : List Rule → EventName → List Place → List Body → Type 0
AllFound rules e [] [] = Unit {0}
AllFound rules e [] (b ∷ bs) = ⊥
AllFound rules e (p ∷ ps) [] = ⊥
AllFound rules e (p ∷ ps) (b ∷ bs) = Found rules e p b × AllFound rules e ps bs

module _ (rules : List Rule) (e : EventName) where
  both : (ps qs : List Place) (bs cs : List Body) → AllFound rules e ps bs → AllFound rules e qs cs → AllFound rules e (ps ++ qs) (bs ++ cs)
  both [] qs [] cs f g = g
  both [] qs (b ∷ bs) cs f g = absurd f
  both (p ∷ ps) qs [] cs f g = absurd f
  both (p ∷ ps) qs (b ∷ bs) cs f g = (f.0, both ps qs bs cs f.1 g)

  put_by : (x y : Bool) (p q : Place) (b c : Body) (ps rest : List Place) (bs more : List Body) → x ≡ y → Found rules e p b → Found rules e q c → AllFound rules e ps bs → AllFound rules e rest more
      → AllFound rules e (if x then p ∷ q ∷ ps else q ∷ rest) (if y then b ∷ c ∷ bs else c ∷ more)
  put_by true true p q b c ps rest bs more is f g fs gs = (f, (g, fs))
  put_by false false p q b c ps rest bs more is f g fs gs = (g, gs)
  put_by true false p q b c ps rest bs more is f g fs gs = absurd (cc)
  put_by false true p q b c ps rest bs more is f g fs gs = absurd (cc)

  put_found : (p : Place) (b : Body) (ps : List Place) (bs : List Body) → Found rules e p b → AllFound rules e ps bs → AllFound rules e (put place_priority p ps) (put (λ b. b.priority) b bs)
  put_found p b [] [] f g = (f, tt)
  put_found p b [] (c ∷ bs) f g = absurd g
  put_found p b (q ∷ ps) [] f g = absurd g
  put_found p b (q ∷ ps) (c ∷ bs) f g =
      let same : nat_le p.priority q.priority ≡ nat_le b.priority c.priority = ap (λ n. nat_le n q.priority) f.same ∙ ap (λ n. nat_le b.priority n) g.0.same in
      put_by (nat_le p.priority q.priority) (nat_le b.priority c.priority) p q b c ps (put place_priority p ps) bs (put (λ b. b.priority) b bs) same f g.0 g.1 (put_found p b ps bs f g.1)

  sorted_found : (ps : List Place) (bs : List Body) → AllFound rules e ps bs → AllFound rules e (by_priority place_priority ps) (by_priority (λ b. b.priority) bs)
  sorted_found [] [] f = tt
  sorted_found [] (b ∷ bs) f = absurd f
  sorted_found (p ∷ ps) [] f = absurd f
  sorted_found (p ∷ ps) (b ∷ bs) f = put_found p b (by_priority place_priority ps) (by_priority (λ b. b.priority) bs) f.0 (sorted_found ps bs f.1)

  -- those of a rule
  placed_found : (n : ℕ) (r : Rule) (from : ℕ) (hs : List loaded.EventHandler) → slice_get rules n ≡ Some r → ((k : ℕ) → slice_get (handlers_at e r.bodies) (from + k) ≡ slice_get hs k) → AllFound rules e (placed n from hs) (map (body_view r) hs)
  placed_found n r from [] is all = tt
  placed_found n r from (h ∷ hs) is all =
      let here : from ≡ from + 0 = omega arith in
      let first : slice_get (handlers_at e r.bodies) from ≡ Some h = ap (λ k. slice_get (handlers_at e r.bodies) k) here ∙ all 0 in
      let found : option_and_then (body_of e from) (slice_get rules n) ≡ Some (handler_view r h) = ap (option_and_then (body_of e from)) is ∙ ap (option_map (handler_view r)) first in
      (record { there = found; same = refl }, placed_found n r (from + 1) hs is (λ k. let next : (from + 1) + k ≡ from + suc k = omega arith in ap (λ j. slice_get (handlers_at e r.bodies) j) next ∙ all (suc k)))

  rule_found : (n : ℕ) → AllFound rules e (rule_places rules e n) (rule_bodies rules e n)
  rule_found n = by_rule (slice_get rules n) refl
    where
      by_rule : (o : Option Rule) → slice_get rules n ≡ o → AllFound rules e (placed_in e n o) (bodies_in e o)
      by_rule None is = tt
      by_rule (Some r) is = placed_found n r 0 (handlers_at e r.bodies) is (λ k. let same : 0 + k ≡ k = omega arith in ap (λ j. slice_get (handlers_at e r.bodies) j) same)

  gathered_found : (numbers : List ℕ) → AllFound rules e (gathered rules e numbers) (flat_map (rule_bodies rules e) numbers)
  gathered_found [] = tt
  gathered_found (n ∷ ns) = both (rule_places rules e n) (gathered rules e ns) (rule_bodies rules e n) (flat_map (rule_bodies rules e) ns) (rule_found n) (gathered_found ns)

  -- the bodies stand there
  pub places_found : (numbers : List ℕ) → AllFound rules e (places_of rules numbers e) (bodies_of rules numbers e)
  places_found numbers = sorted_found (gathered rules e numbers) (flat_map (rule_bodies rules e) numbers) (gathered_found numbers)

  pub found_count : (ps : List Place) (bs : List Body) → AllFound rules e ps bs → length (map (λ b. b.handler) bs) ≡ length ps
  found_count [] [] f = refl
  found_count [] (b ∷ bs) f = absurd f
  found_count (p ∷ ps) [] f = absurd f
  found_count (p ∷ ps) (b ∷ bs) f = let more = found_count ps bs f.1 in omega (arith, more)

  pub found_each : (ps : List Place) (bs : List Body) → AllFound rules e ps bs → (n : ℕ) → slice_get (map (λ b. b.handler) bs) n ≡ option_and_then (body_in rules e) (slice_get ps n)
  found_each [] [] f zero = refl
  found_each [] [] f (suc n) = refl
  found_each [] (b ∷ bs) f n = absurd f
  found_each (p ∷ ps) [] f n = absurd f
  found_each (p ∷ ps) (b ∷ bs) f zero = sym f.0.there
  found_each (p ∷ ps) (b ∷ bs) f (suc n) = found_each ps bs f.1 n

-- those of a virtual server
abbrev server_of : List Rule → Option Virtual → List (List Place)
server_of rules None = []
server_of rules (Some v) = server_places rules v.rules

all_at : (rules : List Rule) (virtuals : List Virtual) (vs : ℕ) → slice_index_or (all_places rules virtuals) vs [] ≡ server_of rules (slice_get virtuals vs)
all_at rules [] zero = refl
all_at rules [] (suc vs) = refl
all_at rules (v ∷ virtuals) zero = refl
all_at rules (v ∷ virtuals) (suc vs) = all_at rules virtuals vs

server_at : (rules : List Rule) (o : Option Virtual) (e : EventName) → places_in (server_of rules o) e ≡ places_of rules (numbers_in o) e
unfolding server_places
server_at rules None event.RuleInit = refl
server_at rules None event.ClientAccepted = refl
server_at rules None event.ClientData = refl
server_at rules None event.ClientClosed = refl
server_at rules None event.ServerConnected = refl
server_at rules None event.ServerData = refl
server_at rules None event.ServerClosed = refl
server_at rules None event.LbSelected = refl
server_at rules None event.LbFailed = refl
server_at rules None event.HttpRequest = refl
server_at rules None event.HttpRequestData = refl
server_at rules None event.HttpResponse = refl
server_at rules None event.HttpResponseData = refl
server_at rules (Some v) event.RuleInit = refl
server_at rules (Some v) event.ClientAccepted = refl
server_at rules (Some v) event.ClientData = refl
server_at rules (Some v) event.ClientClosed = refl
server_at rules (Some v) event.ServerConnected = refl
server_at rules (Some v) event.ServerData = refl
server_at rules (Some v) event.ServerClosed = refl
server_at rules (Some v) event.LbSelected = refl
server_at rules (Some v) event.LbFailed = refl
server_at rules (Some v) event.HttpRequest = refl
server_at rules (Some v) event.HttpRequestData = refl
server_at rules (Some v) event.HttpResponse = refl
server_at rules (Some v) event.HttpResponseData = refl

-- where they stand of the virtual server at a place
pub stand_at : (rules : List Rule) (virtuals : List Virtual) (vs : ℕ) (e : EventName) → places_in (slice_index_or (all_places rules virtuals) vs []) e ≡ places_of rules (numbers_in (slice_get virtuals vs)) e
stand_at rules virtuals vs e = ap (λ x. places_in x e) (all_at rules virtuals vs) ∙ server_at rules (slice_get virtuals vs) e
