-- A core before any event, and what a configuration gives it.
use Rattle.std.specs.Prelude.{◌≡◌, ◌≤◌, []}
use Rattle.shared_store.specs.Store.{new_store}
use Rattle.proxy_core.specs.Bodies.{all_places}
use Rattle.record_model.specs.History.{times_of}
use Rattle.record_model.specs.Setup.{init_notes, statics_of}
use Rattle.run_config.specs.declared.config.Config.{Config}
use Rattle.proxy_core.specs.declared.core_state.Core.{Core}
use Rattle.proxy_core.specs.declared.start.StartRoom.{StartRoom}
use Rattle.proxy_core.specs.declared.start.StartRules.{StartRules}

pub record IsStart (C : Config) (core : Core) : Type 0 where
  pub config : core.config ≡ C
  pub statics : core.statics.statics ≡ statics_of C
  pub places : core.places ≡ all_places C.rules C.virtuals
  pub last : core.last ≡ 0
  pub moment : core.moment ≡ 0
  pub live : core.live.items ≡ []
  pub ring : core.live.ring ≡ []
  pub queue : core.queue.items ≡ []
  pub asleep : core.queue.asleep ≡ []
  pub store : core.store ≡ new_store C.pools (times_of C) C.rows

-- what the rules give: where bodies stand, what RULE_INIT left, and the notes of what it logged
pub record IsStartRules (C : Config) (ruled : StartRules) : Type 0 where
  pub places : ruled.places ≡ all_places C.rules C.virtuals
  pub statics : ruled.vars.statics ≡ statics_of C
  pub notes : ruled.notes.items ≡ init_notes C

-- nothing is live and no call waits or sleeps, with room for all that may; and a store without rows and records
pub record IsStartRoom (C : Config) (room : StartRoom) : Type 0 where
  pub live : room.live.items ≡ []
  pub numbers : room.live.numbers ≡ []
  pub ring : room.live.ring ≡ []
  pub queue : room.queue.items ≡ []
  pub asleep : room.queue.asleep ≡ []
  pub live_room : C.connections ≤ room.live.room
  pub queue_room : C.connections ≤ room.queue.room
  pub store : room.store ≡ new_store C.pools (times_of C) C.rows
