-- The run of the front, of the whole ring; the answer to the front of the calls.
use Rattle.std.proofs.Common.{◌≡◌, ◌-◌, ℕ, List, [], ◌∷◌, ◌++◌, length, length-append, ap, ◌∙◌, subst, sym, refl, Bool, true, false, inr, arith}
use Rattle.conn.specs.Runs.{IsWhole}
use Rattle.conn.specs.RunsItems.{ends}
use Rattle.conn.specs.declared.turn.ConnTurn.{ConnTurn}
use Rattle.conn.specs.declared.turn.ConnTurn.TheVariants as turn
use Rattle.proxy_core.specs.Ready.{ring_behind}
use Rattle.proxy_core.specs.declared.core_state.Core.{Core}
use Rattle.core_events.specs.declared.note.Note.{Note}
use Rattle.proxy_core.specs.Calls.{kept_calls, kept_sleepers}
use Rattle.proxy_core.specs.Changes.{RunsRing, RunsFront, Idles, TurnsAt, TurnsQueue}
use Rattle.proxy_core.specs.declared.call.Asked.{Asked}
use Rattle.proxy_core.specs.declared.call.Asleep.{Asleep}

pub front_runs : (old new : Core) (ring rest : List ℕ) (n : ℕ) (group : List Note) (steps : ℕ) → ring ≡ n ∷ rest → RunsFront old new n rest group steps → RunsRing old new ring group steps
front_runs old new ring rest n group steps e h = let P : List ℕ → Type 0 = λ r. RunsRing old new r group steps in subst P (sym e) h

pub idle_runs : (old new : Core) (ring : List ℕ) (steps : ℕ) → ring ≡ [] → Idles old new [] steps → RunsRing old new ring [] steps
idle_runs old new ring steps e h = let P : List ℕ → Type 0 = λ r. RunsRing old new r [] steps in subst P (sym e) h

-- the front of the calls is answered
pub front_turns : (old new : Core) (queue rest : List Asked) (a : Asked) (group : List Note) → queue ≡ a ∷ rest → TurnsAt old new a rest group → TurnsQueue old new queue group
front_turns old new queue rest a group e h = let P : List Asked → Type 0 = λ q. TurnsQueue old new q group in subst P (sym e) (inr h)

-- one that waits as before leaves the calls
pub same_sleepers : (waited waits : Bool) (c : ℕ) (asleep : List Asleep) → waits ≡ waited → kept_sleepers waited waits c asleep ≡ asleep
same_sleepers true true c asleep e = refl
same_sleepers true false c asleep e = cc
same_sleepers false waits c asleep e = refl

pub kept_same : (waited waits : Bool) (c : ℕ) (queue : List Asked) → waits ≡ waited → kept_calls waited waits c queue ≡ queue
kept_same true true c queue e = refl
kept_same true false c queue e = cc
kept_same false waits c queue e = refl

-- the ring behind a Run
pub behind_over : (t : ConnTurn) (n : ℕ) (rest : List ℕ) → ends t ≡ true → ring_behind t n rest ≡ rest
behind_over turn.More n rest e = cc
behind_over (turn.Asks call) n rest e = refl
behind_over turn.NotYet n rest e = refl
behind_over turn.Over n rest e = refl

-- the notes that were added are those of the group
pub given_is : (before after group : List Note) (t : ConnTurn) (steps : ℕ) → after ≡ before ++ group → IsWhole t steps (length after - length before) → IsWhole t steps (length group)
given_is before after group t steps e w =
    let n = ap length e ∙ length-append before group in
    let P : ℕ → Type 0 = λ k. IsWhole t steps k in
    subst P (omega (arith, n)) w
