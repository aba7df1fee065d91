-- Units of a body that are dropped one after another, by the trace: an item for each byte, and for each chunk line.
use Rattle.std.proofs.Common.{◌≡◌, refl, sym, ap, subst, ◌∙◌, ℕ, zero, suc, ◌+◌, ◌-◌, ◌<◌, ◌≤◌, min, List, [], ◌∷◌, ◌++◌, map, take, drop, drop-drop, length, length-drop, length-take-le, Bool, true, false, true≢false, None, ◌==◌, if◌then◌else◌, ne_eqb, arith}
use Rattle.std.proofs.lemmas.List.{take-append-drop}
use Rattle.px_bytes.specs.declared.addr.Side.TheVariants.{Client}
use Rattle.http_frames.specs.NextUnit.{unit_of}
use Rattle.http_frames.specs.Parts.{Chunk, part_by, part_of}
use Rattle.http_frames.specs.States.{after_unit, chunk_left}
use Rattle.http_frames.specs.Units.{IsUnit, piece}
use Rattle.http_frames.specs.declared.state.BodyState.{BodyState}
use Rattle.http_frames.specs.declared.state.BodyState.TheVariants as body
use Rattle.http_frames.specs.declared.unit.Unit.{Unit as BodyUnit}
use Rattle.http_frames.specs.declared.unit.Unit.TheVariants.{Piece, ChunkLine}
use Rattle.http_frames.proofs.NextUnits.{unit_is}
use Rattle.http_frames.proofs.Taken.{Inside, first_other, inside, next_other}
use Rattle.conn_trace.specs.Fronts.{in_chunk}
use Rattle.conn_trace.specs.Item.{Item, Read}
use Rattle.conn_trace.specs.Messages.{dropping_next}
use Rattle.conn_trace.specs.Setup.{Setup}
use Rattle.conn_trace.specs.State.{TraceState, Does, read_side}
use Rattle.conn_trace.specs.Trace.{Unfolds, counted, next_item}
use Rattle.conn_trace.specs.Units.{Holds, after_bytes, dropping, read_items}
use Rattle.conn_trace.proofs.Slices.{dropped_unfold}
use Rattle.conn_trace.proofs.Longer.{plain_next}
use Rattle.conn_trace.proofs.Unfolding.{unfolds_on, unfolds_one}
use Rattle.conn_trace.proofs.Units.{none_read}
use Rattle.conn.specs.Dropping.{Drops, DropsSome, reads}

pub drops_none : (s : BodyState) (unread : List ℕ) (ended : Bool) → Drops s unread ended s 0
drops_none s unread ended = record { within = omega arith; items = λ g l here over none. ([], ap (dropping s l.sent) (sym (none_read Client l))) }

reads_join : (a b : List ℕ) → reads (a ++ b) ≡ reads a ++ reads b
reads_join [] b = refl
reads_join (n ∷ a) b = ap (λ x. Read Client n ∷ x) (reads_join a b)

one_each : (bytes : List ℕ) → reads (map (λ b. 1) bytes) ≡ read_items Client bytes
one_each [] = refl
one_each (b ∷ bytes) = ap (λ x. Read Client 1 ∷ x) (one_each bytes)

read_more : (n k : ℕ) (l : TraceState) → read_side Client k (read_side Client n l) ≡ read_side Client (n + k) l
read_more n k l = ap (λ u. record l { client = record { unread = u; ended = l.client.ended } }) (drop-drop k n l.client.unread)

-- these items more, from where it stands
drops_more : (from s to : BodyState) (unread : List ℕ) (ended : Bool) (n k : ℕ) → Drops from unread ended s n → n + k ≤ length unread
    → ((g : Setup) (m : TraceState) → m.client.unread ≡ drop n unread → m.client.ended ≡ ended → m.answers.cut ≡ None → (amounts : List ℕ) × Unfolds g (dropping s m.sent m) (reads amounts) (dropping to m.sent (read_side Client k m)))
    → Drops from unread ended to (n + k)
drops_more from s to unread ended n k d within more = record {
  within = within;
  items = λ g l here over none.
      (let p = d.items g l here over none in
      let m = read_side Client n l in
      let q = more g m (ap (drop n) here) over none in
      let u = unfolds_on g (dropping from l.sent l) (dropping s l.sent m) (dropping to l.sent (read_side Client k m)) (reads p.0) (reads q.0) p.1 q.1 in
      let U : List Item → TraceState → Type 0 = λ items at. Unfolds g (dropping from l.sent l) items (dropping to l.sent at) in
      (p.0 ++ q.0, subst (λ items. U items (read_side Client (n + k) l)) (sym (reads_join p.0 q.0)) (subst (U (reads p.0 ++ reads q.0)) (read_more n k l) u)));
}

-- a piece, byte by byte
pub drops_piece : (from s : BodyState) (unread : List ℕ) (ended : Bool) (n k : ℕ) → Drops from unread ended s n → n + k ≤ length unread → Holds k s → Drops from unread ended (after_bytes k s) (n + k)
drops_piece from s unread ended n k d within holds = drops_more from s (after_bytes k s) unread ended n k d within (λ g m here over none.
    (let bytes = take k (drop n unread) in
    let rest = drop k (drop n unread) in
    let len : length bytes ≡ k = length-take-le k (drop n unread) (omega (arith, within, length-drop n unread)) in
    let split : m.client.unread ≡ bytes ++ rest = here ∙ sym (take-append-drop k (drop n unread)) in
    let u = dropped_unfold g m s bytes rest m.sent none split (subst (λ j. Holds j s) (sym len) holds) in
    let P : ℕ → List Item → Type 0 = λ j items. Unfolds g (dropping s m.sent m) items (dropping (after_bytes j s) m.sent (read_side Client j m)) in
    (map (λ b. 1) bytes, subst (P k) (sym (one_each bytes)) (subst (λ j. P j (read_items Client bytes)) len u))))

-- a chunk line
pub drops_line : (from s : BodyState) (unread : List ℕ) (ended : Bool) (n line size : ℕ) → Drops from unread ended s n → n + line ≤ length unread → part_of s (drop n unread) ended ≡ Chunk line size → Drops from unread ended (body.Chunk size) (n + line)
drops_line from s unread ended n line size d within is = drops_more from s (body.Chunk size) unread ended n line d within (λ g m here over none.
    (let r = dropping s m.sent m in
    let part : part_of s m.client.unread m.client.ended ≡ Chunk line size = ap (λ u. part_of s u m.client.ended) here ∙ ap (part_of s (drop n unread)) over ∙ is in
    let step : next_item g r ≡ Does (Read Client line) (dropping (body.Chunk size) m.sent (read_side Client line m)) = plain_next g r none ∙ ap (λ p. counted m.sent (dropping_next g r s p)) part in
    (line ∷ [], unfolds_one g r (dropping (body.Chunk size) m.sent (read_side Client line m)) (Read Client line) step)))

-- ---- units one after another

in_piece : (left : ℕ) (held : List ℕ) (ended : Bool) (n : ℕ) → Piece n ≡ piece left held ended → n ≤ left
in_piece left [] true n is = absurd (cc)
in_piece left [] false n is = absurd (cc)
in_piece left (b ∷ held) ended n is = let same : n ≡ min left (length (b ∷ held)) = cc in omega (arith, same)

-- a piece is of the body, or of the chunk that stands open
pub piece_holds : (s : BodyState) (held : List ℕ) (ended : Bool) (n : ℕ) → IsUnit s held ended (Piece n) → Holds n s
piece_holds (body.Left zero) held ended n is = absurd (cc)
piece_holds (body.Left (suc k)) held ended n is = in_piece (suc k) held ended n is
piece_holds body.FirstLine held ended n is = absurd (true≢false (first_other held ended (Piece n) is))
piece_holds (body.Chunk zero) held ended n is = absurd (true≢false (next_other held ended (Piece n) is))
piece_holds (body.Chunk (suc k)) held ended n is = in_piece (suc k) held ended n is
piece_holds body.NextLine held ended n is = absurd (true≢false (next_other held ended (Piece n) is))
piece_holds body.ToEnd held ended n is = tt

left_after : (n k : ℕ) → after_bytes n (body.Left k) ≡ body.Left (k - n)
left_after zero k = ap body.Left (omega arith)
left_after (suc n) k = left_after n (k - 1) ∙ ap body.Left (omega arith)

line_stays : (n : ℕ) → after_bytes n body.NextLine ≡ body.NextLine
line_stays zero = refl
line_stays (suc n) = line_stays n

end_stays : (n : ℕ) → after_bytes n body.ToEnd ≡ body.ToEnd
end_stays zero = refl
end_stays (suc n) = end_stays n

some_left : (k : ℕ) → 0 < k → body.Chunk k ≡ chunk_left k
some_left k some =
    let not_zero : (k == 0) ≡ false = ne_eqb k 0 (λ is. omega (arith, is, some)) in
    sym (ap (λ b. if b then body.NextLine else body.Chunk k) not_zero)

chunk_after_bytes : (n k : ℕ) → 0 < k → n ≤ k → after_bytes n (body.Chunk k) ≡ chunk_left (k - n)
chunk_after_bytes zero k some within = some_left k some ∙ ap chunk_left (omega arith)
chunk_after_bytes (suc n) zero some within = absurd (omega (arith, some))
chunk_after_bytes (suc n) (suc zero) some within =
    let none : 0 ≡ suc zero - suc n = omega arith in line_stays n ∙ ap chunk_left none
chunk_after_bytes (suc n) (suc (suc k)) some within =
    let less : suc (suc k) - 1 ≡ suc k = omega arith in
    let rest : suc k - n ≡ suc (suc k) - suc n = omega arith in
    ap (λ j. after_bytes n (in_chunk j)) less ∙ chunk_after_bytes n (suc k) (omega arith) (omega (arith, within)) ∙ ap chunk_left rest

-- its reader goes on as one byte after another
pub piece_after : (n : ℕ) (s : BodyState) → 0 < n → Holds n s → after_bytes n s ≡ after_unit s (Piece n)
piece_after n (body.Left k) some holds = left_after n k
piece_after n body.FirstLine some holds = absurd (omega (arith, some, holds))
piece_after n (body.Chunk k) some holds = chunk_after_bytes n k (omega (arith, some, holds)) holds
piece_after n body.NextLine some holds = absurd (omega (arith, some, holds))
piece_after n body.ToEnd some holds = end_stays n

pub some_none : (s : BodyState) (unread : List ℕ) (ended : Bool) → DropsSome s unread ended s unread
some_none s unread ended = record { size = 0; drops = drops_none s unread ended; rest = refl }

module _ (from s : BodyState) (old : List ℕ) (ended : Bool) (rest : List ℕ) (d : DropsSome from old ended s rest) where
  within : (n : ℕ) → n ≤ length rest → d.size + n ≤ length old
  within n few = let all = length-drop d.size old in let same = ap length d.rest in omega (arith, few, all, same, d.drops.within)

  on : (n : ℕ) → drop n rest ≡ drop (d.size + n) old
  on n = ap (drop n) d.rest ∙ drop-drop n d.size old

  pub unit_inside : (u : BodyUnit) → u ≡ unit_of s rest ended → Inside rest u
  unit_inside u is = inside s rest ended u (subst (IsUnit s rest ended) (sym is) (unit_is rest ended s))

  pub some_piece : (n : ℕ) → Piece n ≡ unit_of s rest ended → DropsSome from old ended (after_unit s (Piece n)) (drop n rest)
  some_piece n is =
      let in_it = unit_inside (Piece n) is in
      let holds = piece_holds s rest ended n (subst (IsUnit s rest ended) (sym is) (unit_is rest ended s)) in
      record {
        size = d.size + n;
        drops = subst (λ x. Drops from old ended x (d.size + n)) (piece_after n s in_it.some holds) (drops_piece from s old ended d.size n d.drops (within n in_it.within) holds);
        rest = on n;
      }

  pub some_line : (line size : ℕ) → ChunkLine line size ≡ unit_of s rest ended → DropsSome from old ended (body.Chunk size) (drop line rest)
  some_line line size is =
      let in_it = unit_inside (ChunkLine line size) is in
      record {
        size = d.size + line;
        drops = drops_line from s old ended d.size line size d.drops (within line in_it.within) (ap (λ t. part_of s t ended) (sym d.rest) ∙ ap part_by (sym is));
        rest = on line;
      }
