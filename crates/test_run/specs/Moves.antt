-- The moves of a run, and what each does.
use Rattle.std.specs.Prelude.{◌≡◌, ℕ, ◌==◌, ◌&&◌, Bool, true, false, List, [], ◌∷◌, ◌++◌, Option, Some, None}
use Rattle.std.specs.Prelude.{is_some, option_map, slice_get}
use Rattle.core_events.specs.Face.{Face, from_event}
use Rattle.test_past.specs.Standing.{conn_of, finish_of}
use Rattle.test_past.specs.declared.entry.RunEntry.TheVariants as entry
use Rattle.test_past.specs.declared.verdict.RunEnd.{RunEnd}
use Rattle.test_past.specs.declared.verdict.RunEnd.TheVariants as run_end
use Rattle.test_plan.specs.declared.plan.TestMove.{TestMove}
use Rattle.test_plan.specs.declared.plan.TestMove.TheVariants as move
use Rattle.test_run.specs.Deeds.{DoesDeed, RefusesDeed}
use Rattle.test_run.specs.Due.{ComesToRest, IsRestless, RestRefused}
use Rattle.test_run.specs.Stand.{Gives, Refuses, Stand, with_entry}
use Rattle.test_run.specs.declared.known.SendingText.{SendingText}
use Rattle.test_run.specs.declared.moves.SendingSide.{SendingSide}
use Rattle.test_run.specs.declared.rest.MoveEnd.{MoveEnd}
use Rattle.test_run.specs.declared.rest.MoveEnd.TheVariants.{Made, Refused, Restless}
use Rattle.test_text.specs.declared.deed.Deed.{Deed}
use Rattle.test_text.specs.declared.deed.Deed.TheVariants as deed
use Rattle.test_text.specs.declared.test_file.PlacedStep.{PlacedStep}
use Rattle.test_text.specs.declared.test_file.TestStep.{TestStep}
use Rattle.test_text.specs.declared.test_file.TestStep.TheVariants as step

-- ---- deeds by their numbers

abbrev pub deed_in : TestStep → ℕ → Option Deed
deed_in (step.One it) at = Some it
deed_in (step.Together deeds) at = option_map (λ d. d.deed) (slice_get deeds at)
deed_in (step.Expect question) at = None

abbrev pub deed_in_some : Option PlacedStep → ℕ → Option Deed
deed_in_some None at = None
deed_in_some (Some placed) at = deed_in placed.step at

-- the deed of a number in a step
abbrev pub deed_at : List PlacedStep → (number at : ℕ) → Option Deed
deed_at steps number at = deed_in_some (slice_get steps number) at

abbrev pub sender_of : Deed → Option SendingSide
sender_of (deed.Does side client it) = Some (record { side = side; client = client })
sender_of other = None

abbrev pub sender_of_some : Option Deed → Option SendingSide
sender_of_some None = None
sender_of_some (Some it) = sender_of it

-- who sends by a deed
abbrev pub sender_at : List PlacedStep → (number at : ℕ) → Option SendingSide
sender_at steps number at = sender_of_some (deed_at steps number at)

-- ---- pieces

abbrev pub same_text : Option SendingText → SendingText → Bool
same_text None sending = false
same_text (Some last) sending = (last.step == sending.step) && (last.at == sending.at)

-- a piece isn't given any more where one of its text was, and its connection finishes
abbrev pub is_dropped : {S : Type 0} → SendingText → ℕ → Stand S → Bool
is_dropped sending conn s = same_text s.known.sending sending && is_some (finish_of conn None s.entries)

abbrev pub with_sending : {S : Type 0} → SendingText → Stand S → Stand S
with_sending sending s = record s { known = record (s.known) { sending = Some sending } }

abbrev pub SendsUnless : {S : Type 0} → (dropped : Bool) → Face S → SendingText → SendingSide → ℕ → List ℕ → Stand S
    → Stand S → Type 0
SendsUnless true face sending sender conn bytes a b = b ≡ a
SendsUnless false face sending sender conn bytes a b =
    Gives face (from_event sender.side conn bytes) (with_sending sending a) b

-- a piece of a text is given, unless it is dropped
pub record DoesPiece {S : Type 0} (face : Face S) (sending : SendingText) (sender : SendingSide) (bytes : List ℕ)
    (a b : Stand S) : Type 0 where
  pub conn : ℕ
  pub of_client : conn_of sender.client a.known.came ≡ Some conn
  pub sends : SendsUnless (is_dropped sending conn a) face sending sender conn bytes a b

-- ---- moves

abbrev pub DoesSome : {S : Type 0} → Face S → Option Deed → Stand S → Stand S → Type 0
DoesSome face None a b = ⊥
DoesSome face (Some it) a b = DoesDeed face it a b

abbrev pub SendsSome : {S : Type 0} → Face S → SendingText → Option SendingSide → List ℕ → Stand S → Stand S → Type 0
SendsSome face sending None bytes a b = ⊥
SendsSome face sending (Some sender) bytes a b = DoesPiece face sending sender bytes a b

abbrev pub DoesMove : {S : Type 0} → Face S → List PlacedStep → TestMove → Stand S → Stand S → Type 0
DoesMove face steps (move.Does number at) a b = DoesSome face (deed_at steps number at) a b
DoesMove face steps (move.Sends number at bytes) a b =
    SendsSome face (record { step = number; at = at }) (sender_at steps number at) bytes a b
DoesMove face steps move.Rests a b = ComesToRest face (with_entry entry.Rests a) b
DoesMove face steps (move.Asks number) a b = b ≡ with_entry (entry.Asks number) a

-- ---- moves that can't be made

-- there is no such deed, or it can't be done
abbrev pub RefusesSome : {S : Type 0} → Face S → Option Deed → Stand S → Stand S → Type 0
RefusesSome face None a b = b ≡ a
RefusesSome face (Some it) a b = RefusesDeed face it a b

-- a piece that is dropped isn't refused
abbrev pub RefusesUnless : {S : Type 0} → (dropped : Bool) → Face S → SendingText → SendingSide → ℕ → List ℕ → Stand S
    → Stand S → Type 0
RefusesUnless true face sending sender conn bytes a b = ⊥
RefusesUnless false face sending sender conn bytes a b =
    Refuses face (from_event sender.side conn bytes) (with_sending sending a) b

-- the client hasn't come, or the piece is refused
abbrev pub RefusesPiece : {S : Type 0} → Face S → SendingText → SendingSide → (conn : Option ℕ) → List ℕ → Stand S
    → Stand S → Type 0
RefusesPiece face sending sender None bytes a b = b ≡ a
RefusesPiece face sending sender (Some conn) bytes a b =
    RefusesUnless (is_dropped sending conn a) face sending sender conn bytes a b

-- nobody sends by this deed, or the piece can't be sent
abbrev pub RefusesSending : {S : Type 0} → Face S → SendingText → Option SendingSide → List ℕ → Stand S → Stand S → Type 0
RefusesSending face sending None bytes a b = b ≡ a
RefusesSending face sending (Some sender) bytes a b =
    RefusesPiece face sending sender (conn_of sender.client a.known.came) bytes a b

abbrev pub RefusesMove : {S : Type 0} → Face S → List PlacedStep → TestMove → Stand S → Stand S → Type 0
RefusesMove face steps (move.Does number at) a b = RefusesSome face (deed_at steps number at) a b
RefusesMove face steps (move.Sends number at bytes) a b =
    RefusesSending face (record { step = number; at = at }) (sender_at steps number at) bytes a b
RefusesMove face steps move.Rests a b = RestRefused face (with_entry entry.Rests a) b
RefusesMove face steps (move.Asks number) a b = ⊥

-- only a rest goes on for too long
abbrev pub RestlessMove : {S : Type 0} → Face S → TestMove → Stand S → Stand S → Type 0
RestlessMove face move.Rests a b = IsRestless face (with_entry entry.Rests a) b
RestlessMove face other a b = ⊥

abbrev pub MoveEnds : {S : Type 0} → Face S → List PlacedStep → TestMove → MoveEnd → Stand S → Stand S → Type 0
MoveEnds face steps one Made a b = DoesMove face steps one a b
MoveEnds face steps one Refused a b = RefusesMove face steps one a b
MoveEnds face steps one Restless a b = RestlessMove face one a b

-- ---- all moves

-- the moves are made, one behind the other
pub data Follows {S : Type 0} (face : Face S) (steps : List PlacedStep) : List TestMove → Stand S → Stand S → Type 0 where
  Still : {a : Stand S} → Follows face steps [] a a
  More : {a c : Stand S} → (moves : List TestMove) (one : TestMove) (b : Stand S) → Follows face steps moves a b
      → DoesMove face steps one b c → Follows face steps (moves ++ one ∷ []) a c

-- the step of a move: a rest is of the step before it
abbrev pub step_of : TestMove → (before : ℕ) → ℕ
step_of (move.Does number at) before = number
step_of (move.Sends number at bytes) before = number
step_of move.Rests before = before
step_of (move.Asks number) before = number

abbrev pub step_from : ℕ → List TestMove → ℕ
step_from before [] = before
step_from before (one ∷ moves) = step_from (step_of one before) moves

-- The moves before one are made, that one ends so, in this step, and none behind it is made.
pub record StopsAt {S : Type 0} (face : Face S) (steps : List PlacedStep) (moves : List TestMove)
    (Ends : TestMove → Stand S → Stand S → Type 0) (step : ℕ) (a b : Stand S) : Type 0 where
  pub made : List TestMove
  pub one : TestMove
  pub later : List TestMove
  pub moves_are : moves ≡ made ++ one ∷ later
  pub between : Stand S
  pub follows : Follows face steps made a between
  pub ends : Ends one between b
  pub step_is : step ≡ step_from 0 (made ++ one ∷ [])

-- how a run ends: all moves are made, or one can't be made, or a rest goes on for too long
abbrev pub RunEnds : {S : Type 0} → Face S → List PlacedStep → List TestMove → RunEnd → Stand S → Stand S → Type 0
RunEnds face steps moves run_end.Done a b = Follows face steps moves a b
RunEnds face steps moves (run_end.Refused step) a b = StopsAt face steps moves (RefusesMove face steps) step a b
RunEnds face steps moves (run_end.Restless step) a b = StopsAt face steps moves (RestlessMove face) step a b
