-- What a test said of its peers.
use Rattle.std.specs.Prelude.{ℕ, ◌==◌, ◌&&◌, Bool, true, false, List, [], ◌∷◌, Option, Some, None}
use Rattle.std.specs.Prelude.{if◌then◌else◌}
use Rattle.pools.specs.Pools.{same_addr}
use Rattle.px_bytes.specs.declared.addr.Addr.{Addr}
use Rattle.px_bytes.specs.declared.addr.Side.{Side}
use Rattle.test_past.specs.Got.{same_side}
use Rattle.test_run.specs.declared.known.Amount.{Amount}
use Rattle.test_run.specs.declared.known.Meets.{Meets}
use Rattle.test_text.specs.declared.deed.Meeting.{Meeting}
use Rattle.test_text.specs.declared.deed.Meeting.TheVariants.{Connects, Refuses, Waits}

abbrev pub meeting_by : Addr → Meets → Meeting → Meeting
meeting_by addr one before = if same_addr one.addr addr then one.meeting else before

-- how a server meets those that connect, by the last line of its address
abbrev pub meeting_from : Addr → Meeting → List Meets → Meeting
meeting_from addr before [] = before
meeting_from addr before (one ∷ meets) = meeting_from addr (meeting_by addr one before) meets

-- the answer to a connect; none, where the server waits
abbrev pub answer_of : Meeting → Option Bool
answer_of Connects = Some true
answer_of Refuses = Some false
answer_of Waits = None

abbrev pub amount_by : Side → ℕ → Amount → Option ℕ → Option ℕ
amount_by side client one before = if same_side one.side side && (one.client == client) then one.most else before

-- how many bytes a side of a client takes behind each step; all, where no number is said
abbrev pub amount_from : Side → ℕ → Option ℕ → List Amount → Option ℕ
amount_from side client before [] = before
amount_from side client before (one ∷ amounts) = amount_from side client (amount_by side client one before) amounts
