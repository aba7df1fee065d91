-- What each server connection of a connection was sent and took, by its number.
use Rattle.std.specs.Prelude.{◌≡◌, ◌≤◌, ◌<◌, ℕ, [], length}
use Rattle.conn_trace.specs.Item.{server_output}
use Rattle.proxy_core.specs.Moves.{Leads}
use Rattle.record_model.specs.Past.{Past, heard}
use Rattle.proxy_core.specs.Scheduler.{State}
use Rattle.proxy_core.specs.Servers.{made, took_of}
use Rattle.run_config.specs.declared.config.Config.{Config}

-- Nothing was sent to one that wasn't heard of. What one took is within what was sent to it.
pub record Numbered (past : Past) (s : State) (c : ℕ) : Type 0 where
  pub unsent : (n : ℕ) → made (heard c past).connects < n → server_output n (s.places c) ≡ []
  pub within : (n : ℕ) → took_of (heard c past).connects n ≤ length (server_output n (s.places c))

-- behind every past
abbrev pub ServersAreNumbered : Type 0
ServersAreNumbered =
    (C : Config) (past : Past) (s : State) → Leads C past s → (c : ℕ) → Numbered past s c
