-- Bytes of a body that are dropped or gathered go byte by byte, and are gathered at once.
use Rattle.std.proofs.Common.{◌≡◌, refl, sym, ap, subst, ◌∙◌, ℕ, zero, suc, ◌+◌, ◌-◌, ◌≤◌, Bool, true, false, List, [], ◌∷◌, ◌++◌, length, map, drop, take, Option, Some, None, arith, append_assoc, length-append}
use Rattle.px_bytes.specs.declared.addr.Side.{Side}
use Rattle.px_bytes.specs.declared.addr.Side.TheVariants.{Client, Server}
use Rattle.http_frames.specs.declared.state.BodyState.{BodyState}
use Rattle.http_frames.specs.declared.state.BodyState.TheVariants as body
use Rattle.conn_trace.specs.Gates.{Counts}
use Rattle.conn_trace.specs.Host.{HostState, http_of}
use Rattle.conn_trace.specs.Item.{Read}
use Rattle.conn_trace.specs.Setup.{Setup}
use Rattle.conn_trace.specs.Fronts.{after_byte, in_chunk, is_at_end}
use Rattle.conn_trace.specs.Http.{with_gathered, gathered_so}
use Rattle.http_frames.specs.Parts.{Part, Byte, part_of}
use Rattle.irule_http.specs.declared.state.Http.{Http}
use Rattle.conn_trace.specs.State.{TraceState, Does, Next, read_side, stream_of, server_stream, link_of}
use Rattle.conn_trace.specs.Messages.{dropping_next, gathering_next, gathered_on, http_at, reads_next, byte_gathered}
use Rattle.conn_trace.specs.Trace.{counted, next_item}
use Rattle.conn_trace.specs.Trace.{Unfolds}
use Rattle.conn_trace.specs.Units.{Holds, after_bytes, dropping, read_items, gathering_at, gathered_bytes, GoesOn}
use Rattle.conn_trace.proofs.Longer.{plain_next}
use Rattle.conn_trace.proofs.Units.{read_both, none_read, keeps_cut, byte_here, holds_on, one_left}

drop_step : (g : Setup) (l : TraceState) (s : BodyState) (b : ℕ) (bytes : List ℕ) (n : ℕ) (sent : Counts) → l.answers.cut ≡ None → l.client.unread ≡ b ∷ bytes → Holds (suc n) s
    → next_item g (dropping s sent l) ≡ Does (Read Client 1) (dropping (after_byte s) sent (read_side Client 1 l))
drop_step g l s b bytes n sent none here holds =
    let r = dropping s sent l in
    plain_next g r none ∙ ap (λ p. counted sent (dropping_next g r s p)) (ap (λ u. part_of s u l.client.ended) here ∙ byte_here s n b bytes l.client.ended holds)

pub dropped_unfold : (g : Setup) (l : TraceState) (s : BodyState) (bytes rest : List ℕ) (sent : Counts) → l.answers.cut ≡ None → l.client.unread ≡ bytes ++ rest → Holds (length bytes) s
    → Unfolds g (dropping s sent l) (read_items Client bytes) (dropping (after_bytes (length bytes) s) sent (read_side Client (length bytes) l))
dropped_unfold g l s [] rest sent none here holds = ap (dropping s sent) (sym (none_read Client l))
dropped_unfold g l s (b ∷ bytes) rest sent none here holds =
    let one : 1 + length bytes ≡ length (b ∷ bytes) = omega arith in (
      dropping (after_byte s) sent (read_side Client 1 l),
      drop_step g l s b (bytes ++ rest) (length bytes) sent none here holds,
      subst (λ x. Unfolds g (dropping (after_byte s) sent (read_side Client 1 l)) (read_items Client bytes) (dropping (after_bytes (length bytes) (after_byte s)) sent x)) (read_both Client (length bytes) (length (b ∷ bytes)) l one)
          (dropped_unfold g (read_side Client 1 l) (after_byte s) bytes rest sent (keeps_cut Client 1 l ∙ none) (one_left Client l ∙ ap (drop 1) here) (holds_on s (length bytes) holds)),
    )

-- ---- gathered

goes_holds : (s : BodyState) (n : ℕ) → GoesOn n s → Holds n s
goes_holds (body.Left k) n goes = omega (arith, goes)
goes_holds body.FirstLine n goes = goes
goes_holds (body.Chunk k) n goes = goes
goes_holds body.NextLine n goes = goes
goes_holds body.ToEnd n goes = goes

-- behind a byte that isn't the last
not_at_end : (k : ℕ) → 1 ≤ k → is_at_end (body.Left k) ≡ false
not_at_end zero some = absurd (omega (arith, some))
not_at_end (suc k) some = refl

chunk_not_at_end : (k : ℕ) → is_at_end (in_chunk k) ≡ false
chunk_not_at_end zero = refl
chunk_not_at_end (suc k) = refl

goes_open : (s : BodyState) (n : ℕ) → GoesOn (suc n) s → is_at_end (after_byte s) ≡ false
goes_open (body.Left k) n goes = not_at_end (k - 1) (omega (arith, goes))
goes_open body.FirstLine n goes = refl
goes_open (body.Chunk k) n goes = chunk_not_at_end (k - 1)
goes_open body.NextLine n goes = refl
goes_open body.ToEnd n goes = refl

chunk_goes : (n k : ℕ) → n ≤ k → GoesOn n (in_chunk k)
chunk_goes n zero less = omega (arith, less)
chunk_goes n (suc k) less = less

goes_on_behind : (s : BodyState) (n : ℕ) → GoesOn (suc n) s → GoesOn n (after_byte s)
goes_on_behind (body.Left k) n goes = omega (arith, goes)
goes_on_behind body.FirstLine n goes = absurd (omega (arith, goes))
goes_on_behind (body.Chunk k) n goes = chunk_goes n (k - 1) (omega (arith, goes))
goes_on_behind body.NextLine n goes = absurd (omega (arith, goes))
goes_on_behind body.ToEnd n goes = tt

gather_step : (g : Setup) (l : TraceState) (side : Side) (s : BodyState) (wanted : ℕ) (h : HostState) (b : ℕ) (bytes : List ℕ) (n : ℕ) (sent : Counts) → l.answers.cut ≡ None → (stream_of side l).unread ≡ b ∷ bytes → GoesOn (suc n) s
    → next_item g (gathering_at side (suc (suc wanted)) s h sent l) ≡ Does (Read side 1) (gathering_at side (suc wanted) (after_byte s) (http_at (with_gathered (b ∷ []) (after_byte s) (http_of h)) h) sent (read_side side 1 l))
gather_step g l side s wanted h b bytes n sent none here goes = plain_next g (gathering_at side (suc (suc wanted)) s h sent l) none ∙ by_side side here
  where
    went : Side → List ℕ → Bool → Next
    went side unread whole =
        let r = gathering_at side (suc (suc wanted)) s h sent l in
        counted sent (reads_next r side 1 (gathered_on g side (link_of l.server) (suc wanted) (after_byte s) whole (http_at (with_gathered (take 1 unread) (after_byte s) (http_of h)) h)))

    by_side : (side : Side) → (stream_of side l).unread ≡ b ∷ bytes
        → (let r = gathering_at side (suc (suc wanted)) s h sent l in counted sent (gathering_next g r side (suc (suc wanted)) s (part_of s (stream_of side r).unread (stream_of side r).ended)))
        ≡ Does (Read side 1) (gathering_at side (suc wanted) (after_byte s) (http_at (with_gathered (b ∷ []) (after_byte s) (http_of h)) h) sent (read_side side 1 l))
    by_side Client here =
        let r = gathering_at Client (suc (suc wanted)) s h sent l in
        ap (λ p. counted sent (gathering_next g r Client (suc (suc wanted)) s p)) (ap (λ u. part_of s u l.client.ended) here ∙ byte_here s n b bytes l.client.ended (goes_holds s (suc n) goes))
        ∙ (ap (λ u. went Client u (is_at_end (after_byte s))) here ∙ ap (went Client (b ∷ bytes)) (goes_open s n goes))
    by_side Server here =
        let r = gathering_at Server (suc (suc wanted)) s h sent l in
        ap (λ p. counted sent (gathering_next g r Server (suc (suc wanted)) s p)) (ap (λ u. part_of s u (server_stream l.server).ended) here ∙ byte_here s n b bytes (server_stream l.server).ended (goes_holds s (suc n) goes))
        ∙ (ap (λ u. went Server u (is_at_end (after_byte s))) here ∙ ap (went Server (b ∷ bytes)) (goes_open s n goes))

pub gathered_unfold : (g : Setup) (l : TraceState) (side : Side) (s : BodyState) (wanted : ℕ) (h : HostState) (bytes rest : List ℕ) (sent : Counts) → l.answers.cut ≡ None → (stream_of side l).unread ≡ bytes ++ rest → GoesOn (length bytes) s
    → Unfolds g (gathering_at side (length bytes + suc wanted) s h sent l) (read_items side bytes) (gathering_at side (suc wanted) (after_bytes (length bytes) s) (gathered_bytes bytes s h) sent (read_side side (length bytes) l))
gathered_unfold g l side s wanted h [] rest sent none here goes =
    let same : length {A = ℕ} [] + suc wanted ≡ suc wanted = omega arith in
    ap (λ n. gathering_at side n s h sent l) same ∙ ap (gathering_at side (suc wanted) s h sent) (sym (none_read side l))
gathered_unfold g l side s wanted h (b ∷ bytes) rest sent none here goes =
    let one : 1 + length bytes ≡ length (b ∷ bytes) = omega arith in
    let all : length (b ∷ bytes) + suc wanted ≡ suc (suc (length bytes + wanted)) = omega arith in
    let left : suc (length bytes + wanted) ≡ length bytes + suc wanted = omega arith in
    let h' = http_at (with_gathered (b ∷ []) (after_byte s) (http_of h)) h in (
      gathering_at side (length bytes + suc wanted) (after_byte s) h' sent (read_side side 1 l),
      ap (λ n. next_item g (gathering_at side n s h sent l)) all ∙ (gather_step g l side s (length bytes + wanted) h b (bytes ++ rest) (length bytes) sent none here goes ∙ ap (λ n. Does (Read side 1) (gathering_at side n (after_byte s) h' sent (read_side side 1 l))) left),
      subst (λ x. Unfolds g (gathering_at side (length bytes + suc wanted) (after_byte s) h' sent (read_side side 1 l)) (read_items side bytes) (gathering_at side (suc wanted) (after_bytes (length bytes) (after_byte s)) (gathered_bytes bytes (after_byte s) h') sent x)) (read_both side (length bytes) (length (b ∷ bytes)) l one)
          (gathered_unfold g (read_side side 1 l) side (after_byte s) wanted h' bytes rest sent (keeps_cut side 1 l ∙ none) (one_left side l ∙ ap (drop 1) here) (goes_on_behind s (length bytes) goes)),
    )

-- two pieces one after the other are one
joined : (a c : List ℕ) (s t : BodyState) (h : HostState) → http_at (with_gathered c t (with_gathered a s (http_of h))) (http_at (with_gathered a s (http_of h)) h) ≡ http_at (with_gathered (a ++ c) t (http_of h)) h
joined a c s t h =
    let so : gathered_so (http_of h).gathered + length a + length c ≡ gathered_so (http_of h).gathered + length (a ++ c) = (let e = length-append a c in omega (arith, e)) in
    ap (λ p. with_both (gathered_so (http_of h).gathered + length a + length c) p) (append_assoc (http_of h).payload a c) ∙ ap (λ n. with_both n ((http_of h).payload ++ (a ++ c))) so
  where
    with_both : ℕ → List ℕ → HostState
    with_both n payload = http_at (record (http_of h) { reader = t; whole = is_at_end t; gathered = Some n; payload = payload }) h

pub gathered_at_once : (b : ℕ) (bytes : List ℕ) (s : BodyState) (h : HostState) → gathered_bytes (b ∷ bytes) s h ≡ http_at (with_gathered (b ∷ bytes) (after_bytes (length (b ∷ bytes)) s) (http_of h)) h
gathered_at_once b [] s h = refl
gathered_at_once b (c ∷ bytes) s h =
    gathered_at_once c bytes (after_byte s) (http_at (with_gathered (b ∷ []) (after_byte s) (http_of h)) h)
    ∙ joined (b ∷ []) (c ∷ bytes) (after_byte s) (after_bytes (length (c ∷ bytes)) (after_byte s)) h
