-- The setups of a virtual server's connections, of the code and of the trace.
use Rattle.std.specs.Prelude.{◌≡◌, ℕ, List, [], slice_get, slice_index_or}
use Rattle.tcl_vars.specs.Scopes.{Level}
use Rattle.event_order.specs.declared.event.EventName.{EventName}
use Rattle.conn_trace.specs.Http.{the_heads}
use Rattle.conn_trace.specs.Setup.{Setup}
use Rattle.conn.specs.declared.setup.Place.{Place}
use Rattle.conn.specs.declared.setup.Setup as code
use Rattle.record_model.specs.Setup.{handlers_in, http_at, name_at, pool_at, port_of}
use Rattle.run_config.specs.declared.config.Config.{Config}

-- it is the setup of a trace, of the virtual server at a place
pub record Serves (C : Config) (level : Level) (vs : ℕ) (g : Setup) : Type 0 where
  pub name : g.name ≡ name_at C vs
  pub port : g.port ≡ port_of C vs
  pub pool : g.pool ≡ pool_at C vs
  pub http : g.http ≡ http_at C vs
  pub budget : g.budget ≡ C.budget
  pub statics : g.statics ≡ level
  pub groups : g.groups ≡ C.groups
  pub heads : g.heads ≡ the_heads
  pub handlers : (e : EventName) → g.handlers e ≡ handlers_in C (slice_get C.virtuals vs) e

-- it is what the code's connections of that virtual server run on, where the bodies of all stand
-- there
pub record IsSetup (C : Config) (level : Level) (all : List (List (List Place))) (vs : ℕ)
    (s : code.Setup) : Type 0 where
  pub name : s.name.now ≡ name_at C vs
  pub port : s.port ≡ port_of C vs
  pub pool : s.pool.now ≡ pool_at C vs
  pub http : s.http ≡ http_at C vs
  pub budget : s.budget ≡ C.budget
  pub statics : s.statics.now.statics ≡ level
  pub groups : s.groups.now ≡ C.groups
  pub rules : s.rules.now ≡ C.rules
  pub places : s.places.now ≡ slice_index_or all vs []
