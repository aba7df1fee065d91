-- Questions on rows, worked out by hand of the manual of `table`: a row that is set stays for 180 seconds from when it was
-- touched last, or as long as its own times say.
use Rattle.std.proofs.Common.{◌≡◌, refl, ℕ, List, [], ◌∷◌, codes, Option, Some, None}
use Rattle.std.specs.Fmt.{digits}
use Rattle.core_events.specs.declared.event.Event.TheVariants.{Tick}
use Rattle.test_past.specs.Rows.{row_told}
use Rattle.test_past.specs.declared.entry.RunEntry.{RunEntry}
use Rattle.test_past.specs.declared.entry.RunEntry.TheVariants.{Called, Given}

-- `table set -subtable hits k v TIMES` in the first second, and what is told of the row k at a moment
abbrev told_of : (times : List (List ℕ)) → (value : List ℕ) → (moment : ℕ) → Option (List ℕ)
told_of times value moment = row_told 10 (codes "hits") (codes "k")
    (Given (Tick 1000) ∷ Called 1000 (codes "set" ∷ codes "-subtable" ∷ codes "hits" ∷ codes "k" ∷ value ∷ times)
    ∷ Given (Tick moment) ∷ [])

stays : told_of [] (codes "v") 180999 ≡ Some (codes "v")
unfolding digits
stays = refl

runs_out : told_of [] (codes "v") 181000 ≡ None
runs_out = refl

empty_value : told_of [] [] 2000 ≡ Some []
unfolding digits
empty_value = refl

without_timeout : told_of (codes "indef" ∷ codes "10" ∷ []) (codes "v") 10999 ≡ Some (codes "v")
without_timeout = refl

ends_with_lifetime : told_of (codes "indef" ∷ codes "10" ∷ []) (codes "v") 11000 ≡ None
ends_with_lifetime = refl

counted : row_told 10 [] (codes "k") (Called 5 (codes "incr" ∷ codes "k" ∷ []) ∷ Called 6 (codes "incr" ∷ codes "k" ∷ []) ∷ [])
    ≡ Some (codes "2")
unfolding digits
counted = refl

other_key : row_told 10 [] (codes "j") (Called 5 (codes "incr" ∷ codes "k" ∷ []) ∷ []) ≡ None
other_key = refl

other_subtable : row_told 10 (codes "hits") (codes "k") (Called 5 (codes "incr" ∷ codes "k" ∷ []) ∷ []) ≡ None
other_subtable = refl
