-- What one action does, by where the connection stands.
use Rattle.std.specs.Prelude.{◌≡◌, ℕ, List, [], ◌∷◌, ◌++◌, true, is_some}
use Rattle.core_events.specs.declared.note.Note.{Note}
use Rattle.core_events.specs.declared.note.Note.TheVariants as note
use Rattle.conn.specs.declared.connection.Conn.{Conn}
use Rattle.conn.specs.declared.setup.Setup.{Setup}
use Rattle.conn.specs.declared.stage.Stage.{Stage}
use Rattle.conn.specs.declared.stage.Stage.TheVariants as stage
use Rattle.conn.specs.declared.turn.Act.{Act}
use Rattle.conn.specs.declared.turn.Act.TheVariants as act
use Rattle.conn.specs.Acts.{Answers, BehindFault, Collects, ConnectsNext, DropsBody, Finishes}
use Rattle.conn.specs.Acts.{PassesGate, PassesReleased, ReadsHead, Relays, TellsToGoOn}
use Rattle.conn.specs.Choosing.{Chooses, TakesChosen}
use Rattle.conn.specs.Gathering.{GathersBody}
use Rattle.conn.specs.Messages.{ForwardsBody, GivesUp, ReadsResponse, Retires, Reuses, SendsHead}
use Rattle.conn.specs.Steps.{BodyMoved}

-- What one action does, by where the connection stands; a body's step alone ticks.
abbrev pub ActedAt : Stage → Setup → ℕ → Conn → Conn → List Note → List Note → Act → (ticks : ℕ)
    → Type 0
ActedAt (stage.Gated at) s c old new before after a ticks =
    PassesGate s c at old new before after a
ActedAt (stage.Running at number) s c old new before after a ticks =
    BodyMoved s c at number old new before after a ticks
ActedAt (stage.Failing at next kind line) s c old new before after a ticks =
    (a ≡ act.Goes) × BehindFault s at next kind old new × (after ≡ before ++ note.Log c line ∷ [])
ActedAt stage.Choosing s c old new before after a ticks =
    Chooses s old new a × (after ≡ before)
ActedAt (stage.Chosen addr) s c old new before after a ticks =
    (a ≡ act.Goes) × TakesChosen s addr old new × (after ≡ before)
ActedAt (stage.Connecting to) s c old new before after a ticks =
    ConnectsNext s c to old new before after a
ActedAt (stage.Answering to) s c old new before after a ticks =
    Answers s c old new before after a
ActedAt stage.Collecting s c old new before after a ticks = Collects s c old new before after a
ActedAt stage.Releasing s c old new before after a ticks =
    PassesReleased s c old new before after a
ActedAt (stage.Relaying first) s c old new before after a ticks =
    Relays s c first old new before after a
ActedAt stage.AtHead s c old new before after a ticks =
    (is_some old.host.http ≡ true) × ReadsHead s c old new before after a
ActedAt stage.Continuing s c old new before after a ticks =
    (is_some old.host.http ≡ true) × TellsToGoOn s c old new before after a
ActedAt (stage.Gathering side wanted reader) s c old new before after a ticks =
    (is_some old.host.http ≡ true) × GathersBody side wanted reader s c old new before after a
ActedAt (stage.Dropping reader) s c old new before after a ticks =
    (is_some old.host.http ≡ true) × DropsBody reader s c old new before after a
ActedAt stage.AtReuse s c old new before after a ticks =
    (a ≡ act.Goes) × Reuses c old new before after
ActedAt (stage.GivingUp b) s c old new before after a ticks =
    (a ≡ act.Goes) × GivesUp s b old new × (after ≡ before)
ActedAt (stage.Retiring b) s c old new before after a ticks =
    (a ≡ act.Goes) × Retires c b old new before after
ActedAt (stage.Heading side) s c old new before after a ticks =
    (is_some old.host.http ≡ true) × SendsHead side s c old new before after a
ActedAt (stage.Forwarding side reader standing) s c old new before after a ticks =
    (is_some old.host.http ≡ true)
    × ForwardsBody side reader standing s c old new before after a
ActedAt stage.AtResponse s c old new before after a ticks =
    (is_some old.host.http ≡ true) × ReadsResponse s c old new before after a
ActedAt (stage.Finishing f) s c old new before after a ticks =
    (a ≡ act.Goes) × Finishes s c f old new before after
ActedAt other s c old new before after a ticks =
    (a ≡ act.Rests) × (new ≡ old) × (after ≡ before)

-- logs the fault that a body left
abbrev pub LogsAt : Stage → Setup → ℕ → Conn → Conn → List Note → List Note → Type 0
LogsAt (stage.Failing at next kind line) s c old new before after =
    BehindFault s at next kind old new × (after ≡ before ++ note.Log c line ∷ [])
LogsAt other s c old new before after = Unit {0}

abbrev pub LogsFault : Setup → ℕ → Conn → Conn → List Note → List Note → Type 0
LogsFault s c old new before after = LogsAt old.stage s c old new before after

abbrev pub Acted : Setup → ℕ → Conn → Conn → List Note → List Note → Act → (ticks : ℕ) → Type 0
Acted s c old new before after a ticks = ActedAt old.stage s c old new before after a ticks
