-- The queue of shared calls that wait for their Turn, and those that sleep before they come to it.
use Rattle.std.specs.Prelude.{ℕ, zero, suc, length, List, [], ◌∷◌, ◌++◌, map, Bool, true, false}
use Rattle.std.specs.Prelude.{not, nat_eq, nat_lt}
use Rattle.std.specs.Prelude.{if◌then◌else◌}
use Rattle.std.specs.List.{filter}
use Rattle.core_events.specs.declared.note.Note.{Note}
use Rattle.core_events.specs.declared.note.Note.TheVariants.{Sleep}
use Rattle.conn.specs.declared.turn.ConnTurn.{ConnTurn}
use Rattle.conn.specs.declared.turn.ConnTurn.TheVariants as turn
use Rattle.shared_store.specs.Calls.{sleeps_for}
use Rattle.record_model.specs.Clock.{is_due, wakes_at}
use Rattle.proxy_core.specs.declared.call.Asked.{Asked}
use Rattle.proxy_core.specs.declared.call.Asleep.{Asleep}
use Rattle.proxy_core.specs.CallQueue.{CallQueue}
use Rattle.proxy_core.specs.Ready.{with_ready}

-- the calls of connection c
abbrev pub calls_of : ℕ → List Asked → List (List (List ℕ))
calls_of c [] = []
calls_of c (a ∷ queue) = if nat_eq c a.conn then a.call ∷ calls_of c queue else calls_of c queue

abbrev pub is_any : {A : Type 0} → List A → Bool
is_any [] = false
is_any (a ∷ more) = true

-- the queue without those of connection c
abbrev pub without_calls : ℕ → List Asked → List Asked
without_calls c queue = filter (λ a. not (nat_eq c a.conn)) queue

-- the queue where c waited, or waits now: one that doesn't any more has no call in it
abbrev pub kept_calls : (waited waits : Bool) → ℕ → List Asked → List Asked
kept_calls true false c queue = without_calls c queue
kept_calls waited waits c queue = queue

-- whether a call sleeps before it comes to the queue
abbrev pub sleeps : List (List ℕ) → Bool
sleeps call = nat_lt 0 (sleeps_for call)

-- n's call at the back, unless it sleeps
abbrev pub calls_with : ℕ → List (List ℕ) → List Asked → List Asked
calls_with n call queue =
    if sleeps call then queue else queue ++ record { conn = n; call = call } ∷ []

-- where n's Run stopped at one
abbrev pub queue_behind : ConnTurn → ℕ → List Asked → List Asked
queue_behind (turn.Asks call) n queue = calls_with n call queue
queue_behind other n queue = queue

-- c gets ready, unless it waits for a reply
abbrev pub woken : (waits : Bool) → ℕ → List ℕ → List ℕ
woken waits c ring = if waits then ring else with_ready ring c

-- whose call the next Turn answers; no connection has number 0
abbrev pub asker : List Asked → ℕ
asker [] = 0
asker (a ∷ rest) = a.conn

-- ---- calls that sleep

-- one that n asks at a moment
abbrev pub falls_asleep : ℕ → (moment : ℕ) → List (List ℕ) → Asleep
falls_asleep n moment call =
    record { conn = n; call = call; due = wakes_at moment call }

-- until when it sleeps is noted
abbrev pub sleep_note : ConnTurn → ℕ → (moment : ℕ) → List Note
sleep_note (turn.Asks call) n moment =
    if sleeps call then Sleep n (wakes_at moment call) ∷ [] else []
sleep_note other n moment = []

-- of the calls that sleep, those of connection c
abbrev pub sleepers_of : ℕ → List Asleep → List Asleep
sleepers_of c asleep = filter (λ a. nat_eq c a.conn) asleep

-- n's call among those that sleep, if it does
abbrev pub sleepers_with : ℕ → (moment : ℕ) → List (List ℕ) → List Asleep → List Asleep
sleepers_with n moment call asleep =
    if sleeps call then asleep ++ falls_asleep n moment call ∷ [] else asleep

-- where n's Run stopped at one
abbrev pub sleepers_behind : ConnTurn → ℕ → (moment : ℕ) → List Asleep → List Asleep
sleepers_behind (turn.Asks call) n moment asleep = sleepers_with n moment call asleep
sleepers_behind other n moment asleep = asleep

abbrev pub without_sleepers : ℕ → List Asleep → List Asleep
without_sleepers c asleep = filter (λ a. not (nat_eq c a.conn)) asleep

abbrev pub kept_sleepers : (waited waits : Bool) → ℕ → List Asleep → List Asleep
kept_sleepers true false c asleep = without_sleepers c asleep
kept_sleepers waited waits c asleep = asleep

-- those that come to the queue at a moment, and those that sleep on
abbrev pub as_asked : Asleep → Asked
as_asked a = record { conn = a.conn; call = a.call }

abbrev pub woken_calls : (moment : ℕ) → List Asleep → List Asked
woken_calls moment asleep = map as_asked (filter (λ a. is_due moment a.due) asleep)

abbrev pub sleeping_on : (moment : ℕ) → List Asleep → List Asleep
sleeping_on moment asleep = filter (λ a. not (is_due moment a.due)) asleep

-- a call comes to the queue, if there is room
abbrev pub pushed : Asked → CallQueue → CallQueue
pushed a q = if nat_lt (length q.items) q.room then record q { items = q.items ++ a ∷ [] } else q

-- the first of those that sleep comes to the queue, or sleeps on behind the others
abbrev pub passed : (moment : ℕ) → List Asleep → CallQueue → CallQueue
passed moment [] q = q
passed moment (a ∷ rest) q =
    if is_due moment a.due then pushed (as_asked a) (record q { asleep = rest })
    else record q { asleep = rest ++ a ∷ [] }

abbrev pub passes : (moment : ℕ) → CallQueue → CallQueue
passes moment q = passed moment q.asleep q

-- so many of them, one after another
abbrev pub all_passed : (moment n : ℕ) → CallQueue → CallQueue
all_passed moment zero q = q
all_passed moment (suc n) q = all_passed moment n (passes moment q)
