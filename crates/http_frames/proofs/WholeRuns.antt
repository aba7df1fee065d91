-- The units of a stream that comes in fragments, beside those of the whole one.
use Rattle.std.proofs.Common.{◌≡◌, ℕ, zero, suc, ◌+◌, ◌≤◌, Bool, false, List, [], ◌∷◌, ◌++◌, length, drop, refl, sym, ap, ap₂, subst, ◌∙◌, append_assoc, arith}
use Rattle.std.specs.List.{concat}
use Rattle.std.proofs.lemmas.List.{append-nil, drop-append-le, drop-drop}
use Rattle.http_frames.specs.Cuttings.{AreUnits, CutsAreNotSeen, joined, joined_to}
use Rattle.http_frames.specs.States.{after_unit}
use Rattle.http_frames.specs.Units.{IsUnit}
use Rattle.http_frames.specs.declared.state.BodyState.{BodyState}
use Rattle.http_frames.specs.declared.unit.Unit.{Unit}
use Rattle.http_frames.specs.declared.unit.Unit.TheVariants.{Piece, ChunkLine, Finished, NotYet, Fault}
use Rattle.http_frames.proofs.Longer.{stays}
use Rattle.http_frames.proofs.OneUnit.{one_unit}
use Rattle.http_frames.proofs.SplitPieces.{split}
use Rattle.http_frames.proofs.Taken.{inside}

-- all fragments are there
abbrev pub Run : List Unit → BodyState → List ℕ → Bool → Type 0
Run us s held ended = AreUnits us s held [] ended

-- what stands behind a unit
abbrev Rest : Unit → List Unit → BodyState → List ℕ → Bool → Type 0
Rest (Piece n) us s held ended = Run us (after_unit s (Piece n)) (drop n held) ended
Rest (ChunkLine line size) us s held ended = Run us (after_unit s (ChunkLine line size)) (drop line held) ended
Rest NotYet us s held ended = us ≡ []
Rest (Finished size) us s held ended = us ≡ []
Rest (Fault f) us s held ended = us ≡ []

opened : (u : Unit) (us : List Unit) (s : BodyState) (held : List ℕ) (ended : Bool) → Run (u ∷ us) s held ended → IsUnit s held ended u × Rest u us s held ended
opened (Piece n) us s held ended run = run
opened (ChunkLine line size) us s held ended run = run
opened NotYet us s held ended run = run
opened (Finished size) us s held ended run = run
opened (Fault f) us s held ended run = run

closed : (u : Unit) (us : List Unit) (s : BodyState) (held : List ℕ) (ended : Bool) → IsUnit s held ended u → Rest u us s held ended → Run (u ∷ us) s held ended
closed (Piece n) us s held ended is rest = (is, rest)
closed (ChunkLine line size) us s held ended is rest = (is, rest)
closed NotYet us s held ended is rest = (is, rest)
closed (Finished size) us s held ended is rest = (is, rest)
closed (Fault f) us s held ended is rest = (is, rest)

-- a run that begins with that unit
same_first : (u v : Unit) (us : List Unit) (s : BodyState) (held : List ℕ) (ended : Bool) → IsUnit s held ended u → Run (v ∷ us) s held ended → (u ≡ v) × Rest u us s held ended
same_first u v us s held ended is run =
    let open_run = opened v us s held ended run in
    let same = one_unit held ended u v s is open_run.0 in
    (same, subst (λ w. Rest w us s held ended) (sym same) open_run.1)

one_run : (us vs : List Unit) (s : BodyState) (held : List ℕ) (ended : Bool) → Run us s held ended → Run vs s held ended → us ≡ vs
one_run [] vs s held ended a b = absurd a
one_run (u ∷ us) [] s held ended a b = absurd b
one_run (Piece n ∷ us) (v ∷ vs) s held ended a b =
    let same = same_first (Piece n) v vs s held ended a.0 b in
    ap₂ (λ x xs. x ∷ xs) same.0 (one_run us vs (after_unit s (Piece n)) (drop n held) ended a.1 same.1)
one_run (ChunkLine line size ∷ us) (v ∷ vs) s held ended a b =
    let same = same_first (ChunkLine line size) v vs s held ended a.0 b in
    ap₂ (λ x xs. x ∷ xs) same.0 (one_run us vs (after_unit s (ChunkLine line size)) (drop line held) ended a.1 same.1)
one_run (NotYet ∷ us) (v ∷ vs) s held ended a b =
    let same = same_first NotYet v vs s held ended a.0 b in ap₂ (λ x xs. x ∷ xs) same.0 (a.1 ∙ sym same.1)
one_run (Finished size ∷ us) (v ∷ vs) s held ended a b =
    let same = same_first (Finished size) v vs s held ended a.0 b in ap₂ (λ x xs. x ∷ xs) same.0 (a.1 ∙ sym same.1)
one_run (Fault f ∷ us) (v ∷ vs) s held ended a b =
    let same = same_first (Fault f) v vs s held ended a.0 b in ap₂ (λ x xs. x ∷ xs) same.0 (a.1 ∙ sym same.1)

-- the units of the whole stream, which are those of its fragments with pieces joined
record Joins (us : List Unit) (s : BodyState) (stream : List ℕ) (ended : Bool) : Type 0 where
  units : List Unit
  run : Run units s stream ended
  same : joined units ≡ joined us

join_twice : (n k : ℕ) (us : List Unit) → joined_to n (joined_to k us) ≡ joined_to (n + k) us
join_twice n k [] = refl
join_twice n k (Piece m ∷ us) = ap (λ size. Piece size ∷ us) (omega arith)
join_twice n k (ChunkLine line size ∷ us) = refl
join_twice n k (NotYet ∷ us) = refl
join_twice n k (Finished size ∷ us) = refl
join_twice n k (Fault f ∷ us) = refl

-- a piece before others of the whole stream
longer : (n k : ℕ) (us ws : List Unit) (s : BodyState) (stream : List ℕ) (ended : Bool) → IsUnit s stream ended (Piece (n + suc k)) → Run ws (after_unit s (Piece n)) (drop n stream) ended
    → joined ws ≡ joined us → Joins (Piece n ∷ us) s stream ended
longer n k us [] s stream ended is run same = absurd run
longer n k us (v ∷ vs) s stream ended is run same =
    let parts = split s stream ended n (suc k) (omega arith) is in
    let first = same_first (Piece (suc k)) v vs (after_unit s (Piece n)) (drop n stream) ended parts.second run in
    let behind : Run vs (after_unit s (Piece (n + suc k))) (drop (n + suc k) stream) ended =
    subst (λ r. Run vs (after_unit s (Piece (n + suc k))) r ended) (drop-drop (suc k) n stream)
    (subst (λ t. Run vs t (drop (suc k) (drop n stream)) ended) parts.same first.1) in
    record {
      units = Piece (n + suc k) ∷ vs;
      run = (is, behind);
      same = sym (join_twice n (suc k) (joined vs)) ∙ ap (joined_to n) (ap (λ w. joined (w ∷ vs)) first.0 ∙ same);
    }

with_piece : (n k : ℕ) (us : List Unit) (s : BodyState) (stream : List ℕ) (ended : Bool) → IsUnit s stream ended (Piece (n + k))
    → Joins us (after_unit s (Piece n)) (drop n stream) ended → Joins (Piece n ∷ us) s stream ended
with_piece n zero us s stream ended is rest = record {
  units = Piece n ∷ rest.units;
  run = (subst (λ m. IsUnit s stream ended (Piece m)) (omega arith) is, rest.run);
  same = ap (joined_to n) rest.same;
}
with_piece n (suc k) us s stream ended is rest = longer n k us rest.units s stream ended is rest.run rest.same

-- behind what was taken of what is held
moved : (us : List Unit) (s : BodyState) (n : ℕ) (held more : List ℕ) (ended : Bool) → n ≤ length held → Joins us s (drop n held ++ more) ended → Joins us s (drop n (held ++ more)) ended
moved us s n held more ended inside rest = subst (λ t. Joins us s t ended) (sym (drop-append-le n held more inside)) rest

last : (u : Unit) (us : List Unit) (s : BodyState) (stream : List ℕ) (ended : Bool) → Run (u ∷ []) s stream ended → us ≡ [] → Joins (u ∷ us) s stream ended
last u us s stream ended run none = record { units = u ∷ []; run = run; same = ap (λ vs. joined (u ∷ vs)) (sym none) }

whole : (us : List Unit) (s : BodyState) (held : List ℕ) (fs : List (List ℕ)) (ended : Bool) → AreUnits us s held fs ended → Joins us s (held ++ concat fs) ended
whole [] s held fs ended run = absurd run
whole (u ∷ us) s held [] ended run = record { units = u ∷ us; run = subst (λ t. Run (u ∷ us) s t ended) (sym (append-nil held)) run; same = refl }
whole (NotYet ∷ us) s held (f ∷ fs) ended run =
    let rest = whole us s (held ++ f) fs ended run.1 in
    record { units = rest.units; run = subst (λ t. Run rest.units s t ended) (append_assoc held f (concat fs)) rest.run; same = rest.same }
whole (Finished size ∷ us) s held (f ∷ fs) ended run =
    last (Finished size) us s (held ++ concat (f ∷ fs)) ended (stays s held (concat (f ∷ fs)) ended (Finished size) run.0, refl) run.1
whole (Fault g ∷ us) s held (f ∷ fs) ended run =
    last (Fault g) us s (held ++ concat (f ∷ fs)) ended (stays s held (concat (f ∷ fs)) ended (Fault g) run.0, refl) run.1
whole (ChunkLine line size ∷ us) s held (f ∷ fs) ended run =
    let more = concat (f ∷ fs) in
    let next = after_unit s (ChunkLine line size) in
    let rest = moved us next line held more ended (inside s held false (ChunkLine line size) run.0).within (whole us next (drop line held) (f ∷ fs) ended run.1) in
    record {
      units = ChunkLine line size ∷ rest.units;
      run = (stays s held more ended (ChunkLine line size) run.0, rest.run);
      same = ap (λ vs. ChunkLine line size ∷ vs) rest.same;
    }
whole (Piece n ∷ us) s held (f ∷ fs) ended run =
    let more = concat (f ∷ fs) in
    let next = after_unit s (Piece n) in
    let long = stays s held more ended (Piece n) run.0 in
    with_piece n long.0 us s (held ++ more) ended long.1 (moved us next n held more ended (inside s held false (Piece n) run.0).within (whole us next (drop n held) (f ∷ fs) ended run.1))

pub cuts_are_not_seen : CutsAreNotSeen
cuts_are_not_seen s fragments others ended us vs same a b =
    let whole_us = whole us s [] fragments ended a in
    let whole_vs = whole vs s [] others ended b in
    let other = subst (λ t. Run whole_vs.units s t ended) (sym same) whole_vs.run in
    sym whole_us.same ∙ ap joined (one_run whole_us.units whole_vs.units s (concat fragments) ended whole_us.run other) ∙ whole_vs.same
