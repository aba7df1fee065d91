-- Of a request that was sent on whole the server connection gets one request.
use Rattle.std.proofs.Common.{◌≡◌, refl, sym, ap, subst, ◌∙◌, ℕ, Bool, true, false, true≢false, List, [], ◌∷◌, ◌++◌, append_assoc, Some}
use Rattle.px_bytes.specs.declared.addr.Side.TheVariants.{Client}
use Rattle.http_heads.specs.Heads.{bare_request}
use Rattle.http_heads.specs.Written.{written_request}
use Rattle.http_heads.specs.declared.request.RequestHead.{RequestHead}
use Rattle.http_frames.specs.declared.state.BodyState.{BodyState}
use Rattle.irule_http.specs.Sent.{request_out, request_text}
use Rattle.irule_http.specs.declared.state.Http.{Http}
use Rattle.conn_trace.specs.Host.{http_of}
use Rattle.conn_trace.specs.Http.{Heads, the_heads}
use Rattle.conn_trace.specs.Item.{Item, server_output, to_server}
use Rattle.conn_trace.specs.Messages.{behind_head, head_bytes}
use Rattle.conn_trace.specs.SentBodies.{opens, payload_part}
use Rattle.conn_trace.specs.Setup.{Setup}
use Rattle.conn_trace.specs.State.{Phase, Forwarding, Heading, AtResponse, Stream, TraceState}
use Rattle.forwarded_requests.specs.Bodies.{IsBody}
use Rattle.forwarded_requests.specs.Forwarded.{Comes, ForwardedIsOne, Forwards, HasShortLength, IsFramed, gathered_text, is_forwarding}
use Rattle.forwarded_requests.specs.Requests.{IsRequest}
use Rattle.forwarded_requests.proofs.Framed.{heads_framed}
use Rattle.forwarded_requests.proofs.Going.{is_on}
use Rattle.forwarded_requests.proofs.Sent.{Passes, passes}
use Rattle.forwarded_requests.proofs.Whole.{Behind, HeadWent, fits, head_went, request_is}

-- ---- by whether the body is whole

comes_whole : (whole : Bool) (s : BodyState) (l m : TraceState) → whole ≡ true → m.client ≡ l.client → Comes whole s l m []
comes_whole true s l m is same = (refl, ap (λ (c : Stream). c.unread) same)
comes_whole false s l m is same = absurd (true≢false (sym is))

comes_part : (whole : Bool) (s : BodyState) (l m : TraceState) (bytes : List ℕ) → whole ≡ false
    → IsBody s l.client.unread l.client.ended bytes m.client.unread → Comes whole s l m bytes
comes_part true s l m bytes is body = absurd (true≢false is)
comes_part false s l m bytes is body = body

behind_whole : (whole : Bool) (s : BodyState) (standing : Bool) (rest : List ℕ) → whole ≡ true → Behind whole s standing rest [] rest
behind_whole true s standing rest is = (refl, refl)
behind_whole false s standing rest is = absurd (true≢false (sym is))

behind_part : (whole : Bool) (s : BodyState) (standing : Bool) (out bytes rest : List ℕ) → whole ≡ false → Behind false s standing out bytes rest
    → Behind whole s standing out bytes rest
behind_part whole s standing out bytes rest is behind = subst (λ w. Behind w s standing out bytes rest) (sym is) behind

is_whole : (l : TraceState) (whole : Bool) → is_forwarding (behind_head Client l.host whole) ≡ false → whole ≡ true
is_whole l true h = refl
is_whole l false h = absurd (true≢false h)

is_part : (l : TraceState) (whole : Bool) → is_forwarding (behind_head Client l.host whole) ≡ true → whole ≡ false
is_part l true h = absurd (true≢false (sym h))
is_part l false h = refl

forwarding_on : (p : Phase) → is_forwarding p ≡ true → is_on p ≡ true
forwarding_on AtResponse is = refl
forwarding_on p is = is

five : (head part out items more : List ℕ) → items ≡ head ++ part → (items ++ out) ++ more ≡ head ++ (part ++ (out ++ more))
five head part out items more is =
    ap (λ t. (t ++ out) ++ more) is ∙ (let same : ((head ++ part) ++ out) ++ more ≡ head ++ (part ++ (out ++ more)) = simp append_assoc in same)

module _ (g : Setup) (l m : TraceState) (head : RequestHead) (heads : g.heads ≡ the_heads) (there : (http_of l.host).request ≡ Some head)
    (framed : IsFramed (http_of l.host) head) (short : HasShortLength (http_of l.host)) (heading : l.phase ≡ Heading Client) where
  abbrev h : Http
  h = http_of l.host

  text_is : head_bytes g Client h ≡ written_request (request_out h head) ++ payload_part h
  text_is = ap (λ (x : Heads). x.sent Client h ++ payload_part h) heads ∙ ap (λ r. request_text h r ++ payload_part h) there

  -- what is sent, with what stands behind it
  output : (i : Item) (items : List Item) (more : List ℕ) → to_server l.sent.number i ≡ head_bytes g Client h
      → server_output l.sent.number (i ∷ items) ++ more ≡ written_request (request_out h head) ++ (payload_part h ++ (server_output l.sent.number items ++ more))
  output i items more sends =
      five (written_request (request_out h head)) (payload_part h) (server_output l.sent.number items) (to_server l.sent.number i) more (sends ∙ text_is)

  abbrev Gives : List Item → List ℕ → Type 0
  Gives items bytes = (more : List ℕ) → IsRequest (server_output l.sent.number items ++ more)
      (bare_request (request_out h head)) (gathered_text h.gathered h.payload ++ bytes) more

  gives : (i : Item) (items : List Item) (bytes : List ℕ) → to_server l.sent.number i ≡ head_bytes g Client h
      → ((more : List ℕ) → Behind h.whole h.reader (opens h) (server_output l.sent.number items ++ more) bytes more) → Gives (i ∷ items) bytes
  gives i items bytes sends behind more =
      subst (λ t. IsRequest t (bare_request (request_out h head)) (gathered_text h.gathered h.payload ++ bytes) more) (sym (output i items more sends))
      (request_is h head framed (server_output l.sent.number items ++ more) bytes more (behind more) short)

  at_once : (i : Item) → m.phase ≡ AtResponse → HeadWent l i m (head_bytes g Client h) → (bytes : List ℕ) × Comes h.whole h.reader l m bytes × Gives (i ∷ []) bytes
  at_once i response went =
      let whole = is_whole l h.whole (sym (ap is_forwarding went.phase) ∙ ap is_forwarding response) in
      ([], comes_whole h.whole h.reader l m whole went.client, gives i [] [] went.sends (λ more. behind_whole h.whole h.reader (opens h) more whole))

  in_parts : (i j : Item) (items : List Item) (mid : TraceState) → is_forwarding mid.phase ≡ true → HeadWent l i mid (head_bytes g Client h)
      → Forwards g mid (j ∷ items) m → (bytes : List ℕ) × Comes h.whole h.reader l m bytes × Gives (i ∷ j ∷ items) bytes
  in_parts i j items mid on went forwards =
      let part = is_part l h.whole (sym (ap is_forwarding went.phase) ∙ on) in
      let phase : mid.phase ≡ Forwarding Client h.reader (opens h) = went.phase ∙ ap (behind_head Client l.host) part in
      let rest : Passes h.reader (opens h) mid m (j ∷ items) = passes g m j items mid h.reader (opens h) phase (fits h head framed part) forwards in
      let body : IsBody h.reader l.client.unread l.client.ended rest.0 m.client.unread =
      subst (λ (c : Stream). IsBody h.reader c.unread c.ended rest.0 m.client.unread) went.client rest.1 in (
        rest.0,
        comes_part h.whole h.reader l m rest.0 part body,
        gives i (j ∷ items) rest.0 went.sends
            (λ more. behind_part h.whole h.reader (opens h) (server_output l.sent.number (j ∷ items) ++ more) rest.0 more part
            (subst (λ k. Behind false h.reader (opens h) (server_output k (j ∷ items) ++ more) rest.0 more) went.number (rest.2 more))),
      )

pub forwarded_one : ForwardedIsOne
forwarded_one g client answers before l m [] head heads is heading there short forwards = absurd forwards
forwarded_one g client answers before l m (i ∷ []) head heads is heading there short forwards =
    let framed = heads_framed g client answers before l head heads is heading there in
    at_once g l m head heads there framed short heading i forwards.1 (head_went g l heading i m (ap is_on forwards.1) forwards.0)
forwarded_one g client answers before l m (i ∷ j ∷ items) head heads is heading there short forwards =
    let framed = heads_framed g client answers before l head heads is heading there in
    in_parts g l m head heads there framed short heading i j items forwards.0 forwards.2
    (head_went g l heading i forwards.0 (forwarding_on forwards.0.phase forwards.2) forwards.1) forwards.3
