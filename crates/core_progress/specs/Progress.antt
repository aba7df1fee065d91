-- Runs and Turns, with nothing from outside between them: what each of them gives, and how many of
-- them there may be before the core is settled.
use Rattle.std.specs.Prelude.{◌≡◌, ℕ, ◌+◌, ◌-◌, ◌*◌, ◌≤◌, List, [], ◌∷◌, ◌++◌, length}
use Rattle.core_events.specs.Kinds.{kind_of}
use Rattle.core_events.specs.declared.event_kind.EventKind.{EventKind}
use Rattle.core_events.specs.declared.event_kind.EventKind.TheVariants.{Turns, Runs}
use Rattle.proxy_core.specs.Headline.{IsSettled}
use Rattle.proxy_core.specs.Moves.{Moves}
use Rattle.proxy_core.specs.Scheduler.{State}
use Rattle.record_model.specs.Past.{Past}
use Rattle.run_config.specs.declared.config.Config.{Config}

-- a Run finds a connection that is ready, and a Turn a call that waits
abbrev pub FindsWork : EventKind → State → Type 0
FindsWork Runs s = s.ring ≡ [] → ⊥
FindsWork Turns s = s.queue ≡ [] → ⊥
FindsWork other s = ⊥

-- behind this past such events, the newest first, move one state to another
abbrev pub Works : Config → (past more : Past) → (from to : State) → Type 0
Works C past [] from to = to ≡ from
Works C past (x ∷ more) from to =
    (mid : State) × Works C past more from mid × FindsWork (kind_of x.event) mid
    × Moves C (more ++ past) x mid to

-- how many items the connection at the ring's front passed, and slices it spent
abbrev pub front_gave : List ℕ → (old new : State) → ℕ
front_gave [] old new = 0
front_gave (c ∷ rest) old new =
    (length (new.places c) - length (old.places c)) + (new.spent c - old.spent c)

-- a Turn passes none
abbrev pub gave : EventKind → (old new : State) → ℕ
gave Runs old new = front_gave old.ring old new
gave other old new = 0

-- how many all of them did
abbrev pub all_gave : (C : Config) (past more : Past) (from to : State)
    → Works C past more from to → ℕ
all_gave C past [] from to w = 0
all_gave C past (x ∷ more) from to w =
    all_gave C past more from w.0 w.1 + gave (kind_of x.event) w.0 to

-- what there is to do: a Run for each connection that is ready, and for each call that waits its Turn
-- and the Run behind that
abbrev pub to_do : State → ℕ
to_do s = length s.ring + 2 * length s.queue

-- Each of them gives something, or leaves less to do; and where neither a Run nor a Turn finds
-- something, the core is settled.
pub record SettledComes : Type 0 where
  pub each_gives_or_leaves_less : (C : Config) (past more : Past) (from to : State)
      (w : Works C past more from to)
      → length more + to_do to ≤ to_do from + 2 * all_gave C past more from to w
  pub settled_behind_all : (s : State) → (FindsWork Runs s → ⊥) → (FindsWork Turns s → ⊥)
      → IsSettled s
