-- What happens in a run of a test, move by move: by a cut of what it sends, and an order of what is done together.
use Rattle.std.specs.Prelude.{ℕ, ◌+◌, Bool, List, [], ◌∷◌, ◌++◌, flat_map, length, map, take, Option, Some, None}
use Rattle.std.specs.Prelude.{is_some, slice_get}
use Rattle.std.specs.List.{count_by}
use Rattle.test_orders.specs.Cuts.{pieces}
use Rattle.test_orders.specs.declared.cut.Cut.{Cut}
use Rattle.test_plan.specs.declared.plan.TestMove.{TestMove}
use Rattle.test_plan.specs.declared.plan.TestMove.TheVariants.{Does, Sends, Rests, Asks}
use Rattle.test_text.specs.declared.deed.Deed.{Deed}
use Rattle.test_text.specs.declared.deed.Deed.TheVariants as deed
use Rattle.test_text.specs.declared.deed.PeerDeed.TheVariants as peer
use Rattle.test_text.specs.declared.test_file.PlacedDeed.{PlacedDeed}
use Rattle.test_text.specs.declared.test_file.PlacedStep.{PlacedStep}
use Rattle.test_text.specs.declared.test_file.TestStep.{TestStep}
use Rattle.test_text.specs.declared.test_file.TestStep.TheVariants as step

-- the text that is sent by a deed
abbrev pub sent_by : Deed → Option (List ℕ)
sent_by (deed.Does side client (peer.Sends bytes)) = Some bytes
sent_by other = None

abbrev pub sends : PlacedDeed → Bool
sends d = is_some (sent_by d.deed)

-- ---- what may be cut, and what may change places

abbrev pub length_of : Option (List ℕ) → List ℕ
length_of None = []
length_of (Some bytes) = length bytes ∷ []

abbrev pub step_lengths : TestStep → List ℕ
step_lengths (step.One d) = length_of (sent_by d)
step_lengths (step.Together ds) = flat_map (λ d. length_of (sent_by d.deed)) ds
step_lengths (step.Expect e) = []

-- the lengths of all texts that are sent, as they are written
abbrev pub lengths_of : List PlacedStep → List ℕ
lengths_of steps = flat_map (λ s. step_lengths s.step) steps

-- the client whose own deeds stay in order
abbrev pub client_of : Deed → Option ℕ
client_of (deed.Comes client from to) = Some client
client_of (deed.Does side client it) = Some client
client_of other = None

-- what is no client's has a group of its own, behind those of so many clients
abbrev pub group_by : ℕ → ℕ → Option ℕ → ℕ
group_by clients at (Some client) = client
group_by clients at None = clients + at

abbrev pub groups_from : ℕ → ℕ → List PlacedDeed → List ℕ
groups_from clients at [] = []
groups_from clients at (d ∷ ds) = group_by clients at (client_of d.deed) ∷ groups_from clients (at + 1) ds

-- ---- the moves

-- a rest between each two
abbrev pub rested : List TestMove → List TestMove
rested [] = []
rested (m ∷ ms) = m ∷ flat_map (λ n. Rests ∷ (n ∷ [])) ms

-- a text that is sent goes in pieces
abbrev pub sending : Cut → (send step at : ℕ) → Option (List ℕ) → List TestMove
sending cut send step at None = Does step at ∷ []
sending cut send step at (Some bytes) = rested (map (λ piece. Sends step at piece) (pieces cut send bytes))

abbrev pub deed_moves : Cut → (send step at : ℕ) → Deed → List TestMove
deed_moves cut send step at d = sending cut send step at (sent_by d)

-- the deed of a number among several; its text has the number behind those that are written before it
abbrev pub numbered_moves : Cut → (send step : ℕ) → List PlacedDeed → ℕ → Option PlacedDeed → List TestMove
numbered_moves cut send step deeds at None = []
numbered_moves cut send step deeds at (Some d) =
    deed_moves cut (send + count_by sends (take at deeds)) step at d.deed

-- what is done together, in an order, has one rest behind it
abbrev pub together_moves : Cut → (send step : ℕ) → List PlacedDeed → List ℕ → List TestMove
together_moves cut send step deeds order =
    flat_map (λ at. numbered_moves cut send step deeds at (slice_get deeds at)) order ++ Rests ∷ []

abbrev pub order_of : Option (List ℕ) → List ℕ
order_of None = []
order_of (Some order) = order

abbrev pub step_moves : Cut → (send number : ℕ) → List ℕ → TestStep → List TestMove
step_moves cut send number order (step.One d) = deed_moves cut send number 0 d ++ Rests ∷ []
step_moves cut send number order (step.Together ds) = together_moves cut send number ds order
step_moves cut send number order (step.Expect e) = Asks number ∷ []

abbrev pub step_sends : TestStep → ℕ
step_sends s = length (step_lengths s)

-- the moves of these steps, behind so many texts and steps; the orders are told by the numbers of the steps
abbrev pub moves_from : Cut → List (List ℕ) → (send at : ℕ) → List PlacedStep → List TestMove
moves_from cut orders send at [] = []
moves_from cut orders send at (s ∷ ss) =
    step_moves cut send at (order_of (slice_get orders at)) s.step
    ++ moves_from cut orders (send + step_sends s.step) (at + 1) ss

abbrev pub plan : Cut → List (List ℕ) → List PlacedStep → List TestMove
plan cut orders steps = moves_from cut orders 0 0 steps
