-- A request that was sent on whole is read back as one.
use Rattle.std.proofs.Common.{◌≡◌, refl, sym, ap, subst, ◌∙◌, ℕ, zero, suc, ◌+◌, ◌≤◌, ◌<◌, ◌^◌, Bool, true, false, true≢false, not, cond, ◌&&◌, List, [], ◌∷◌, ◌++◌, append_assoc, append-nil, length, Option, Some, None, arith}
use Rattle.std.specs.Prelude.{is_some}
use Rattle.px_bytes.specs.declared.addr.Side.TheVariants.{Client}
use Rattle.httparse.specs.Grammar.{print_request}
use Rattle.http_heads.specs.Heads.{bare_request}
use Rattle.http_heads.specs.Written.{written_request}
use Rattle.http_heads.specs.declared.request.RequestHead.{RequestHead}
use Rattle.http_heads.proofs.Forwarding.{request_fields}
use Rattle.http_heads.proofs.ReadBack.{request_comes_back}
use Rattle.http_frames.specs.States.{beginning}
use Rattle.http_frames.specs.declared.state.Body.{Body}
use Rattle.http_frames.specs.declared.state.Body.TheVariants as body
use Rattle.http_frames.specs.declared.state.BodyState.{BodyState}
use Rattle.http_frames.specs.declared.state.BodyState.TheVariants as state
use Rattle.irule_http.specs.Payload.{payload_limit}
use Rattle.irule_http.specs.Sent.{changed_length, request_out}
use Rattle.irule_http.specs.declared.state.Http.{Http}
use Rattle.conn_trace.specs.Fronts.{in_chunk}
use Rattle.conn_trace.specs.Host.{http_of}
use Rattle.conn_trace.specs.Item.{Item, to_server}
use Rattle.conn_trace.specs.Messages.{behind_head, head_bytes, heading_next}
use Rattle.conn_trace.specs.SentBodies.{behind_payload, chunk_line, end_of_line, gathered_part, is_chunked, is_cut_chunk, last_line, opens, payload_chunk, payload_part, rest_line}
use Rattle.conn_trace.specs.Setup.{Setup}
use Rattle.conn_trace.specs.State.{Heading, TraceState, Does}
use Rattle.conn_trace.specs.Trace.{counted, next_item, phase_next}
use Rattle.forwarded_requests.specs.Bodies.{IsBody}
use Rattle.forwarded_requests.specs.Forwarded.{ChunksStand, HasShortLength, InChunks, IsFramed, Stands, gathered_text}
use Rattle.forwarded_requests.specs.Requests.{IsRequest}
use Rattle.forwarded_requests.proofs.Going.{is_on, item_of, plain_on, state_of, to_itself}
use Rattle.forwarded_requests.proofs.LineSizes.{IsSize}
use Rattle.forwarded_requests.proofs.OutFraming.{body_out, framed_out, left_of}
use Rattle.forwarded_requests.proofs.Sent.{Fits, IsOpen, Sends, closed, opened}
use Rattle.forwarded_requests.proofs.SentParts.{chunk_bytes, first_line, left_bytes, none_left}

-- ---- what is behind the head, by what comes of the body

-- what is sent behind the payload is due: nothing where the body is whole, else what its reader makes of it
abbrev pub Behind : (whole : Bool) → BodyState → (standing : Bool) → (out bytes rest : List ℕ) → Type 0
Behind true s standing out bytes rest = (out ≡ rest) × (bytes ≡ [])
Behind false s standing out bytes rest = Sends s standing out bytes rest

-- of a body of a told length so much is left
counted_behind : (whole : Bool) (left : ℕ) (standing : Bool) (out bytes rest : List ℕ) → (whole ≡ true → left ≡ 0) → Behind whole (state.Left left) standing out bytes rest
    → IsBody (state.Left left) out false bytes rest
counted_behind true left standing out bytes rest none is =
    subst (λ o. IsBody (state.Left left) o false bytes rest) (sym is.0)
    (subst (λ b. IsBody (state.Left left) rest false b rest) (sym is.1) (subst (λ n. IsBody (state.Left n) rest false [] rest) (sym (none refl)) (none_left rest)))
counted_behind false left standing out bytes rest none is = is

-- ---- a chunked body

small_chunk : (n : ℕ) → InChunks (state.Chunk n) → IsSize n
small_chunk n is = record { some = is.0; small = is.1 }

rest_open : (s : BodyState) (out bytes rest : List ℕ) → InChunks s → Sends s (is_cut_chunk s) out bytes rest → IsOpen (rest_line s ++ out) bytes rest
rest_open state.FirstLine out bytes rest is sends = sends
rest_open state.NextLine out bytes rest is sends = sends
rest_open (state.Chunk n) out bytes rest is sends = opened n out bytes rest (small_chunk n is) sends
rest_open (state.Left n) out bytes rest is sends = absurd is
rest_open state.ToEnd out bytes rest is sends = absurd is

behind_open : (whole : Bool) (n : ℕ) (s : BodyState) (out bytes rest : List ℕ) → ChunksStand whole (Some n) s
    → Behind whole s (not whole && is_cut_chunk s) out bytes rest → IsOpen (behind_payload whole s ++ out) bytes rest
behind_open true n s out bytes rest is sends =
    subst (λ b. IsOpen (last_line false ++ out) b rest) (sym sends.1) (subst (λ o. IsOpen (last_line false ++ o) [] rest) (sym sends.0) (closed rest))
behind_open false n s out bytes rest is sends = rest_open s out bytes rest is sends

payload_size : (n : ℕ) → suc n ≤ payload_limit → suc n < 16 ^ 15
payload_size n few = omega (arith, few)

three : (x y z w : List ℕ) → x ++ (y ++ (z ++ w)) ≡ (x ++ y ++ z) ++ w
three x y z w = simp append_assoc

-- the payload is one chunk
payload_open : (payload out bytes rest : List ℕ) → length payload ≤ payload_limit → IsOpen out bytes rest
    → IsBody state.FirstLine (payload_chunk payload ++ out) false (payload ++ bytes) rest
payload_open [] out bytes rest few is = is.first
payload_open (b ∷ bs) out bytes rest few is =
    let n = length bs in
    let size : suc n ≡ length (b ∷ bs) = omega arith in
    let behind : IsBody (state.Chunk (suc n)) (b ∷ bs ++ 13 ∷ 10 ∷ out) false (b ∷ bs ++ bytes) rest =
    subst (λ k. IsBody (in_chunk k) (b ∷ bs ++ 13 ∷ 10 ∷ out) false (b ∷ bs ++ bytes) rest) (sym size) (chunk_bytes (b ∷ bs) (13 ∷ 10 ∷ out) bytes rest is.next) in
    let line = first_line n (b ∷ bs ++ 13 ∷ 10 ∷ out) (payload_size n (omega (arith, few))) (b ∷ bs ++ bytes) rest behind in
    let text : chunk_line false (suc n) ++ (b ∷ bs ++ 13 ∷ 10 ∷ out) ≡ payload_chunk (b ∷ bs) ++ out =
    ap (λ k. chunk_line false k ++ (b ∷ bs ++ 13 ∷ 10 ∷ out)) size ∙ three (chunk_line false (length (b ∷ bs))) (b ∷ bs) end_of_line out in
    subst (λ t. IsBody state.FirstLine t false (b ∷ bs ++ bytes) rest) text line

-- ---- what goes on behind the head

-- `payload_part` by what it looks at
abbrev part_by : (chunked : Bool) → Option ℕ → (whole : Bool) → BodyState → List ℕ → List ℕ
part_by chunked None whole s payload = []
part_by true (Some n) whole s payload = payload_chunk payload ++ behind_payload whole s
part_by false (Some n) whole s payload = payload

part_is : (h : Http) (gathered : Option ℕ) (chunked : Bool) → cond (is_some gathered) (gathered_part chunked h) [] ≡ part_by chunked gathered h.whole h.reader h.payload
part_is h None chunked = refl
part_is h (Some n) true = refl
part_is h (Some n) false = refl

module _ (whole : Bool) (s : BodyState) (payload out bytes rest : List ℕ) where
  counted_text : (gathered : Option ℕ) → part_by false gathered whole s payload ≡ gathered_text gathered payload
  counted_text None = refl
  counted_text (Some n) = refl

  counted_part : (gathered : Option ℕ) (left : ℕ) (standing : Bool) → s ≡ state.Left left → (whole ≡ true → left ≡ 0) → Behind whole s standing out bytes rest
      → IsBody (state.Left (length (gathered_text gathered payload) + left)) (part_by false gathered whole s payload ++ out) false (gathered_text gathered payload ++ bytes) rest
  counted_part gathered left standing is none behind =
      let text = gathered_text gathered payload in
      subst (λ t. IsBody (state.Left (length text + left)) (t ++ out) false (text ++ bytes) rest) (sym (counted_text gathered))
      (left_bytes text left out bytes rest (counted_behind whole left standing out bytes rest none (subst (λ t. Behind whole t standing out bytes rest) is behind)))

  untold_text : (gathered : Option ℕ) → payload ≡ [] → gathered_text gathered payload ≡ []
  untold_text None none = refl
  untold_text (Some n) none = none

  bodiless_part : (gathered : Option ℕ) (standing : Bool) → payload ≡ [] → s ≡ state.Left 0 → Behind whole s standing out bytes rest
      → IsBody (state.Left 0) (part_by false gathered whole s payload ++ out) false (gathered_text gathered payload ++ bytes) rest
  bodiless_part gathered standing none is behind =
      let size : length (gathered_text gathered payload) + 0 ≡ 0 = (let e = ap (λ t. length t) (untold_text gathered none) in omega (arith, e)) in
      subst (λ k. IsBody (state.Left k) (part_by false gathered whole s payload ++ out) false (gathered_text gathered payload ++ bytes) rest) size
      (counted_part gathered 0 standing is (λ e. refl) behind)

  chunked_part : (gathered : Option ℕ) → length payload ≤ payload_limit → ChunksStand whole gathered s
      → Behind whole s (is_some gathered && (not whole && is_cut_chunk s)) out bytes rest
      → IsBody state.FirstLine (part_by true gathered whole s payload ++ out) false (gathered_text gathered payload ++ bytes) rest
  chunked_part None few stands behind =
      let plain : Sends s false out bytes rest = subst (λ w. Behind w s false out bytes rest) stands.0 behind in
      (subst (λ t. Sends t false out bytes rest) stands.1 plain).first
  chunked_part (Some n) few stands behind =
      subst (λ t. IsBody state.FirstLine t false (payload ++ bytes) rest) (sym (append_assoc (payload_chunk payload) (behind_payload whole s) out))
      (payload_open payload (behind_payload whole s ++ out) bytes rest few (behind_open whole n s out bytes rest stands behind))

-- ---- where the reader stands the body may be sent on

chunk_fits : (s : BodyState) → InChunks s → Fits s (is_cut_chunk s)
chunk_fits state.FirstLine is = tt
chunk_fits state.NextLine is = tt
chunk_fits (state.Chunk zero) is = absurd (omega (arith, is.0))
chunk_fits (state.Chunk (suc n)) is = tt
chunk_fits (state.Left n) is = absurd is
chunk_fits state.ToEnd is = absurd is

chunks_fit : (whole : Bool) (gathered : Option ℕ) (s : BodyState) → whole ≡ false → ChunksStand whole gathered s
    → Fits s (is_some gathered && (not whole && is_cut_chunk s))
chunks_fit whole None s part stands = subst (λ t. Fits t false) (sym stands.1) tt
chunks_fit true (Some n) s part stands = absurd (true≢false part)
chunks_fit false (Some n) s part stands = chunk_fits s stands

-- ---- the request

module _ (h : Http) (head : RequestHead) (is : IsFramed h head) where
  left : ℕ
  left = left_of h.body h is.stands

  fits_by : (b : Body) → Stands b h → h.whole ≡ false → Fits h.reader (opens h)
  fits_by body.None stands part = subst (λ s. Fits s (opens h)) (sym stands.1) tt
  fits_by (body.Length n) stands part = subst (λ s. Fits s (opens h)) (sym stands.1) tt
  fits_by body.Chunked stands part = chunks_fit h.whole h.gathered h.reader part stands
  fits_by body.ToEnd stands part = absurd stands

  pub fits : h.whole ≡ false → Fits h.reader (opens h)
  fits part = fits_by h.body is.stands part

  module _ (out bytes rest : List ℕ) (behind : Behind h.whole h.reader (opens h) out bytes rest) where
    body_by : (b : Body) (stands : Stands b h)
        → IsBody (beginning (body_out b h (left_of b h stands))) (part_by (is_chunked b) h.gathered h.whole h.reader h.payload ++ out) false (gathered_text h.gathered h.payload ++ bytes) rest
    body_by body.None stands = bodiless_part h.whole h.reader h.payload out bytes rest h.gathered (opens h) stands.0 stands.1 behind
    body_by (body.Length n) stands = counted_part h.whole h.reader h.payload out bytes rest h.gathered stands.0 (opens h) stands.1 stands.3 behind
    body_by body.Chunked stands = chunked_part h.whole h.reader h.payload out bytes rest h.gathered is.payload stands behind
    body_by body.ToEnd stands = absurd stands

    body_is : IsBody (beginning (body_out h.body h left)) (payload_part h ++ out) false (gathered_text h.gathered h.payload ++ bytes) rest
    unfolding left
    body_is =
        subst (λ t. IsBody (beginning (body_out h.body h left)) (t ++ out) false (gathered_text h.gathered h.payload ++ bytes) rest)
        (sym (part_is h h.gathered (is_chunked h.body))) (body_by h.body is.stands)

    pub request_is : HasShortLength h
        → IsRequest (written_request (request_out h head) ++ (payload_part h ++ out)) (bare_request (request_out h head))
        (gathered_text h.gathered h.payload ++ bytes) rest
    unfolding left
    request_is short =
        let r = request_out h head in
        let back = request_comes_back r is.is.method is.is.target (request_fields (changed_length h.body h.gathered h.payload) head is.is.fields) in
        record {
          text = back.0;
          behind = payload_part h ++ out;
          framing = body_out h.body h left;
          reads = (back.1.0.0, ap (λ t. t ++ (payload_part h ++ out)) (back.1.0.1 ∙ append-nil (print_request back.0)));
          few = back.1.1;
          sees = back.2;
          framed = framed_out h head is short;
          body = body_is;
        }

-- ---- as it is sent

pub record HeadWent (l : TraceState) (i : Item) (mid : TraceState) (text : List ℕ) : Type 0 where
  pub sends : to_server l.sent.number i ≡ text
  pub phase : mid.phase ≡ behind_head Client l.host (http_of l.host).whole
  pub client : mid.client ≡ l.client
  pub number : mid.sent.number ≡ l.sent.number

module _ (g : Setup) (l : TraceState) (heading : l.phase ≡ Heading Client) where
  abbrev text : List ℕ
  text = head_bytes g Client (http_of l.host)

  pub head_went : (i : Item) (mid : TraceState) → is_on mid.phase ≡ true → next_item g l ≡ Does i mid → HeadWent l i mid text
  head_went i mid on is =
      let o = counted l.sent (heading_next g l Client) in
      let plain : o ≡ Does i mid = sym (ap (λ p. counted l.sent (phase_next g p l)) heading) ∙ plain_on g l i mid on is in
      let sent = sym (ap (λ n. to_server l.sent.number (item_of n)) plain) ∙ to_itself l.sent.number text in
      subst (λ k. HeadWent l i k text) (ap (state_of l) plain) (record { sends = sent; phase = refl; client = refl; number = refl })
