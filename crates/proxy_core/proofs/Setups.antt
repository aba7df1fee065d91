-- What the code's connections run on is the setup of their traces.
use Rattle.std.proofs.Common.{◌≡◌, refl, sym, ap, ◌∙◌, ℕ, List, [], length, Option, Some, None}
use Rattle.std.specs.Prelude.{option_and_then, slice_get, slice_index_or}
use Rattle.tcl_vars.specs.Scopes.{Level}
use Rattle.event_order.specs.declared.event.EventName.{EventName}
use Rattle.conn_trace.specs.Bounds.{HeadsFit}
use Rattle.conn_trace.specs.Heard.{Accepted, Heard}
use Rattle.conn_trace.specs.Setup.{Setup}
use Rattle.conn_trace.proofs.TheHeads.{the_heads_fit}
use Rattle.conn.specs.Setups as conn
use Rattle.conn.specs.Setups.{body_in, places_in}
use Rattle.conn.specs.declared.setup.Place.{Place}
use Rattle.conn.specs.declared.setup.Setup as code
use Rattle.record_model.specs.Bodies.{bodies_of}
use Rattle.proxy_core.specs.Bodies.{all_places, places_of}
use Rattle.proxy_core.specs.Serving.{Serves, IsSetup}
use Rattle.record_model.specs.Setup.{numbers_in, setup_in, setup_of}
use Rattle.run_config.specs.declared.config.Config.{Config}
use Rattle.proxy_core.proofs.BodyPlaces.{found_count, found_each, places_found, stand_at}

pub serves_code : (C : Config) (level : Level) (places : List (List (List Place))) (vs : ℕ) (s : code.Setup) (g : Setup) → places ≡ all_places C.rules C.virtuals → IsSetup C level places vs s → Serves C level vs g → conn.Serves s g
serves_code C level places vs s g all i k =
    let numbers = numbers_in (slice_get C.virtuals vs) in
    let same : (e : EventName) → places_in s.places.now e ≡ places_of C.rules numbers e = λ e. ap (λ x. places_in x e) (i.places ∙ ap (λ ps. slice_index_or ps vs []) all) ∙ stand_at C.rules C.virtuals vs e in
    record {
      name = k.name ∙ sym i.name;
      port = k.port ∙ sym i.port;
      pool = k.pool ∙ sym i.pool;
      http = k.http ∙ sym i.http;
      heads = λ speaks. k.heads;
      budget = k.budget ∙ sym i.budget;
      statics = k.statics ∙ sym i.statics;
      groups = k.groups ∙ sym i.groups;
      count = λ e. ap length (k.handlers e) ∙ found_count C.rules e (places_of C.rules numbers e) (bodies_of C.rules numbers e) (places_found C.rules e numbers) ∙ ap length (sym (same e));
      each = λ e n. ap (λ hs. slice_get hs n) (k.handlers e) ∙ found_each C.rules e (places_of C.rules numbers e) (bodies_of C.rules numbers e) (places_found C.rules e numbers) n
          ∙ ap (λ ps. option_and_then (body_in C.rules e) (slice_get ps n)) (sym (same e))
          ∙ ap (λ rules. option_and_then (body_in rules e) (slice_get (places_in s.places.now e) n)) (sym i.rules);
    }

-- its heads are those of every connection that speaks HTTP
pub heads_fit : (C : Config) (h : Heard) → HeadsFit (setup_of C h)
heads_fit C h = by_accept h.accepted
  where
    by_accept : (o : Option Accepted) → HeadsFit (setup_in C o)
    by_accept None = the_heads_fit (setup_in C None) refl
    by_accept (Some a) = the_heads_fit (setup_in C (Some a)) refl
