-- The units of a stream that comes in fragments: what `next_unit` tells call by call, where each unit is taken
-- off what is held and a fragment is added whenever nothing is there yet.
use Rattle.std.specs.Prelude.{◌≡◌, ℕ, ◌+◌, Bool, false, List, [], ◌∷◌, ◌++◌, drop, ⊤}
use Rattle.std.specs.List.{concat}
use Rattle.http_frames.specs.States.{after_unit}
use Rattle.http_frames.specs.Units.{IsUnit}
use Rattle.http_frames.specs.declared.state.BodyState.{BodyState}
use Rattle.http_frames.specs.declared.unit.Unit.{Unit}
use Rattle.http_frames.specs.declared.unit.Unit.TheVariants.{Piece, ChunkLine, Finished, NotYet, Fault}

-- whether no more comes: the stream ends, if it does, with its last fragment
abbrev pub at_end : Bool → List (List ℕ) → Bool
at_end ended [] = ended
at_end ended (fragment ∷ fragments) = false

-- the units that the calls give, one after another, the last of which is the end of the body, a fault, or
-- NotYet where all fragments were added
abbrev pub AreUnits : List Unit → BodyState → (held : List ℕ) → List (List ℕ) → Bool → Type 0
AreUnits [] s held fragments ended = ⊥
AreUnits (Piece taken ∷ us) s held fragments ended =
    IsUnit s held (at_end ended fragments) (Piece taken)
    × AreUnits us (after_unit s (Piece taken)) (drop taken held) fragments ended
AreUnits (ChunkLine line size ∷ us) s held fragments ended =
    IsUnit s held (at_end ended fragments) (ChunkLine line size)
    × AreUnits us (after_unit s (ChunkLine line size)) (drop line held) fragments ended
AreUnits (NotYet ∷ us) s held [] ended = IsUnit s held ended NotYet × (us ≡ [])
AreUnits (NotYet ∷ us) s held (fragment ∷ fragments) ended =
    IsUnit s held false NotYet × AreUnits us s (held ++ fragment) fragments ended
AreUnits (Finished size ∷ us) s held fragments ended =
    IsUnit s held (at_end ended fragments) (Finished size) × (us ≡ [])
AreUnits (Fault f ∷ us) s held fragments ended =
    IsUnit s held (at_end ended fragments) (Fault f) × (us ≡ [])

-- bytes of a body before further units
abbrev pub joined_to : ℕ → List Unit → List Unit
joined_to taken (Piece more ∷ us) = Piece (taken + more) ∷ us
joined_to taken us = Piece taken ∷ us

-- the units with neighbouring pieces joined, and without what tells nothing
abbrev pub joined : List Unit → List Unit
joined [] = []
joined (Piece taken ∷ us) = joined_to taken (joined us)
joined (NotYet ∷ us) = joined us
joined (u ∷ us) = u ∷ joined us

-- for every cutting of a stream into fragments the units are the same, neighbouring pieces joined
abbrev pub CutsAreNotSeen : Type 0
CutsAreNotSeen = (s : BodyState) (fragments others : List (List ℕ)) (ended : Bool) (us vs : List Unit)
    → concat fragments ≡ concat others → AreUnits us s [] fragments ended → AreUnits vs s [] others ended
    → joined us ≡ joined vs

-- every cutting has units
abbrev pub CutsAreRead : Type 0
CutsAreRead = (s : BodyState) (fragments : List (List ℕ)) (ended : Bool)
    → (us : List Unit) × AreUnits us s [] fragments ended

-- a unit of a longer front of the stream, beside that of a shorter one
abbrev pub Lasts : Unit → Unit → Type 0
Lasts NotYet v = ⊤
Lasts (Piece taken) v = (more : ℕ) × (v ≡ Piece (taken + more))
Lasts u v = v ≡ u

-- a unit that was found stays the unit, whatever follows, but that a piece may become longer
abbrev pub EachIsRead : Type 0
EachIsRead = (s : BodyState) (held more : List ℕ) (ended : Bool) (u v : Unit)
    → IsUnit s held false u → IsUnit s (held ++ more) ended v → Lasts u v

-- bytes of the body, a chunk line or the end
abbrev pub IsFound : Unit → Type 0
IsFound (Piece taken) = ⊤
IsFound (ChunkLine line size) = ⊤
IsFound (Finished size) = ⊤
IsFound u = ⊥

-- where nothing is there yet, what is held is the front of a unit
abbrev pub NotYetMayBecome : Type 0
NotYetMayBecome = (s : BodyState) (held : List ℕ) → IsUnit s held false NotYet
    → (more : List ℕ) × (u : Unit) × IsUnit s (held ++ more) false u × IsFound u
