-- A request's body as it begins, and as bytes of it are gathered: the reader stands where the head says.
use Rattle.std.proofs.Common.{◌≡◌, refl, sym, ap, subst, ◌∙◌, ℕ, zero, suc, ◌+◌, ◌-◌, ◌^◌, ◌<◌, ◌≤◌, Bool, true, false, true≢false, List, [], ◌∷◌, length, take, min, Option, Some, None, arith}
use Rattle.std.specs.Prelude.{⊤, if◌then◌else◌}
use Rattle.std.proofs.lemmas.List.{length-append, length-take}
use Rattle.http_heads.specs.Fields.{Pair, named}
use Rattle.http_heads.specs.declared.line.Version.{Version}
use Rattle.http_frames.specs.Parts.{Byte, Chunk, End, part_of}
use Rattle.http_frames.specs.States.{beginning}
use Rattle.http_frames.specs.declared.state.Body.{Body}
use Rattle.http_frames.specs.declared.state.Body.TheVariants as kind
use Rattle.http_frames.specs.declared.state.BodyState.{BodyState}
use Rattle.http_frames.specs.declared.state.BodyState.TheVariants as state
use Rattle.irule_http.specs.Payload.{payload_limit}
use Rattle.irule_http.specs.declared.state.Http.{Http}
use Rattle.irule_http.specs.declared.state.Request.{Request}
use Rattle.conn_trace.specs.Fronts.{after_byte, in_chunk, is_at_end, one_less}
use Rattle.conn_trace.specs.Http.{gathered_so, request_begun, wanted_more, with_gathered, with_whole}
use Rattle.conn_trace.proofs.PendingFits.{less_one}
use Rattle.forwarded_requests.specs.Forwarded.{ChunksStand, InChunks, Stands}
use Rattle.forwarded_requests.proofs.Framings.{Said, said}
use Rattle.forwarded_requests.proofs.HostFramed.{Awaits, Framed}
use Rattle.forwarded_requests.proofs.LineSizes.{LinePart, PiecePart, first_lines, left_pieces, line_sized, next_lines}
use Rattle.forwarded_requests.proofs.PassedFields.{coding, size}
use Rattle.forwarded_requests.proofs.ReadHeads.{Tells}

-- ---- a request begins

-- none lasts to the end of its stream
abbrev HasEnd : Body → Type 0
HasEnd kind.ToEnd = ⊥
HasEnd b = ⊤

has_end : (version : Version) (codings sizes : List Pair) (b : Body) → Said codings sizes version b → HasEnd b
has_end version codings sizes kind.None s = tt
has_end version codings sizes (kind.Length n) s = tt
has_end version codings sizes kind.Chunked s = tt
has_end version codings sizes kind.ToEnd s = elim s [ ]

begun_stands : (b : Body) (h : Http) → HasEnd b → h.payload ≡ [] → h.reader ≡ beginning b → h.whole ≡ false → h.gathered ≡ None → Stands b h
begun_stands kind.None h ends empty reader part none = (empty, reader)
begun_stands (kind.Length n) h ends empty reader part none = (
  n,
  reader,
  subst (λ g. gathered_so g + n ≡ n) (sym none) (omega arith),
  λ e. absurd (true≢false (sym e ∙ part)),
)
begun_stands kind.Chunked h ends empty reader part none =
    subst (λ g. ChunksStand h.whole g h.reader) (sym none) (part, reader)
begun_stands kind.ToEnd h ends empty reader part none = absurd ends

pub request_framed : (r : Request) (h : Http) → Tells r.body r.head → Framed (request_begun r h)
request_framed r h t =
    let ends = has_end r.head.version (named coding r.head.fields) (named size r.head.fields) r.body
    (said r.head.version (named coding r.head.fields) (named size r.head.fields) r.body t.framed) in
    record { head = t; payload = omega arith; stands = begun_stands r.body (request_begun r h) ends refl refl refl refl }

-- ---- more of its body is wanted

-- the reader of what is gathered stands there, by how the body's length is known
abbrev pub ReadsOn : Body → BodyState → Http → Type 0
ReadsOn kind.None s h = s ≡ state.Left 0
ReadsOn (kind.Length n) s h = h.reader ≡ s
ReadsOn kind.Chunked s h = InChunks s
ReadsOn kind.ToEnd s h = ⊥

pub record Gathers (wanted : ℕ) (s : BodyState) (h : Http) : Type 0 where
  pub awaits : Awaits h
  pub reads : ReadsOn h.body s h
  pub few : length h.payload + wanted ≤ payload_limit
  pub some : 1 ≤ wanted

chunks_begin : (gathered : Option ℕ) (s : BodyState) → ChunksStand false gathered s → InChunks s
chunks_begin None s stands = subst InChunks (sym stands.1) tt
chunks_begin (Some n) s stands = stands

reads_begin : (b : Body) (h : Http) → Stands b h → h.whole ≡ false → ReadsOn b h.reader h
reads_begin kind.None h stands part = stands.1
reads_begin (kind.Length n) h stands part = refl
reads_begin kind.Chunked h stands part = chunks_begin h.gathered h.reader (subst (λ w. ChunksStand w h.gathered h.reader) part stands)
reads_begin kind.ToEnd h stands part = absurd stands

wanted_part : (whole : Bool) (collect size n : ℕ) → size ≤ payload_limit → (if whole then 0 else min collect (payload_limit - size)) ≡ suc n
    → (whole ≡ false) × (size + suc n ≤ payload_limit)
wanted_part true collect size n few is = absurd (omega (arith, is))
wanted_part false collect size n few is = (refl, omega (arith, few, is))

pub gather_begins : (h : Http) (n : ℕ) → Framed h → Awaits h → wanted_more h ≡ suc n → Gathers (suc n) h.reader h
gather_begins h n f awaits is =
    let part = wanted_part h.whole h.collect (length h.payload) n f.payload is in
    record { awaits = awaits; reads = reads_begin h.body h f.stands part.0; few = part.1; some = omega arith }

-- ---- a byte

module _ (held : List ℕ) (ended : Bool) where
  -- there is one of a body whose length is told
  byte_left : (left : ℕ) (text : List ℕ) (last : Bool) → part_of (state.Left left) text last ≡ Byte
      → (1 ≤ left) × (length (take 1 text) ≡ 1)
  byte_left zero text last is = absurd (cc)
  byte_left (suc n) [] true is = absurd (cc)
  byte_left (suc n) [] false is = absurd (cc)
  byte_left (suc n) (b ∷ text) last is = (omega arith, refl)

  at_end : (left : ℕ) → is_at_end (state.Left left) ≡ true → left ≡ 0
  at_end zero is = refl
  at_end (suc n) is = absurd (true≢false (sym is))

  rest_in : (n : ℕ) → n < 16 ^ 15 → InChunks (in_chunk n)
  rest_in zero small = tt
  rest_in (suc n) small = (omega arith, small)

  byte_in : (s : BodyState) → InChunks s → part_of s held ended ≡ Byte → InChunks (after_byte s)
  byte_in state.FirstLine is part = absurd (subst LinePart part (first_lines held ended))
  byte_in state.NextLine is part = absurd (subst LinePart part (next_lines held ended))
  byte_in (state.Chunk zero) is part = absurd (omega (arith, is.0))
  byte_in (state.Chunk (suc n)) is part = rest_in (suc n - 1) (omega (arith, is.1))
  byte_in (state.Left n) is part = absurd is
  byte_in state.ToEnd is part = absurd is

  chunk_stands : (s : BodyState) (n : ℕ) → InChunks s → ChunksStand (is_at_end s) (Some n) s
  chunk_stands state.FirstLine n is = tt
  chunk_stands state.NextLine n is = tt
  chunk_stands (state.Chunk k) n is = is
  chunk_stands (state.Left k) n is = absurd is
  chunk_stands state.ToEnd n is = absurd is

  module _ (s : BodyState) (h : Http) (part : part_of s held ended ≡ Byte) where
    abbrev pub behind_byte : Http
    behind_byte = with_gathered (take 1 held) (after_byte s) h

    byte_stands : (b : Body) → Stands b h → ReadsOn b s h → Stands b behind_byte
    byte_stands kind.None stands reads =
        absurd (let none = byte_left 0 held ended (subst (λ t. part_of t held ended ≡ Byte) reads part) in omega (arith, none.0))
    byte_stands (kind.Length n) stands reads =
        let left : s ≡ state.Left stands.0 = sym reads ∙ stands.1 in
        let one = byte_left stands.0 held ended (subst (λ t. part_of t held ended ≡ Byte) left part) in (
          stands.0 - 1,
          ap after_byte left,
          omega (arith, one.0, one.1, stands.2),
          λ e. at_end (stands.0 - 1) (sym (ap (λ t. is_at_end (after_byte t)) left) ∙ e),
        )
    byte_stands kind.Chunked stands reads = chunk_stands (after_byte s) _ (byte_in s reads part)
    byte_stands kind.ToEnd stands reads = absurd stands

    byte_reads : (b : Body) → ReadsOn b s h → ReadsOn b (after_byte s) behind_byte
    byte_reads kind.None reads =
        absurd (let none = byte_left 0 held ended (subst (λ t. part_of t held ended ≡ Byte) reads part) in omega (arith, none.0))
    byte_reads (kind.Length n) reads = refl
    byte_reads kind.Chunked reads = byte_in s reads part
    byte_reads kind.ToEnd reads = absurd reads

    byte_few : (wanted : ℕ) → Gathers wanted s h → length behind_byte.payload + one_less wanted ≤ payload_limit
    byte_few wanted k =
        let less = less_one wanted k.some in
        omega (arith, less, k.few, length-append h.payload (take 1 held), length-take 1 held)

    pub byte_framed : (wanted : ℕ) → Framed h → Gathers wanted s h → Framed behind_byte
    byte_framed wanted f k = record {
      head = f.head;
      payload = (let few = byte_few wanted k in omega (arith, few));
      stands = byte_stands h.body f.stands k.reads;
    }

    pub byte_gathers : (wanted n : ℕ) → one_less wanted ≡ suc n → Gathers wanted s h → Gathers (suc n) (after_byte s) behind_byte
    byte_gathers wanted n is k = record {
      awaits = k.awaits;
      reads = byte_reads h.body k.reads;
      few = (let few = byte_few wanted k in omega (arith, few, is));
      some = omega arith;
    }

-- ---- a chunk line, and the end

module _ (held : List ℕ) (ended : Bool) (line : ℕ) where
  no_line : (left chunk : ℕ) → part_of (state.Left left) held ended ≡ Chunk line chunk → ⊥
  no_line zero chunk is = absurd (cc)
  no_line (suc n) chunk is = subst PiecePart is (left_pieces n held ended)

  line_reads : (b : Body) (s : BodyState) (h : Http) (chunk : ℕ) → part_of s held ended ≡ Chunk line chunk → Stands b h → ReadsOn b s h
      → ReadsOn b (state.Chunk chunk) h
  line_reads kind.None s h chunk part stands reads =
      absurd (no_line 0 chunk (subst (λ t. part_of t held ended ≡ Chunk line chunk) reads part))
  line_reads (kind.Length n) s h chunk part stands reads =
      absurd (no_line stands.0 chunk (subst (λ t. part_of t held ended ≡ Chunk line chunk) (sym reads ∙ stands.1) part))
  line_reads kind.Chunked s h chunk part stands reads = let sized = line_sized s held ended line chunk part in (sized.some, sized.small)
  line_reads kind.ToEnd s h chunk part stands reads = absurd stands

  pub line_gathers : (wanted : ℕ) (s : BodyState) (h : Http) (chunk : ℕ) → part_of s held ended ≡ Chunk line chunk → Framed h
      → Gathers wanted s h
      → Gathers wanted (state.Chunk chunk) h
  line_gathers wanted s h chunk part f k =
      record { awaits = k.awaits; reads = line_reads h.body s h chunk part f.stands k.reads; few = k.few; some = k.some }

  none_more : (left : ℕ) → part_of (state.Left left) held ended ≡ End line → left ≡ 0
  none_more zero is = refl
  none_more (suc n) is = absurd (subst PiecePart is (left_pieces n held ended))

  end_stands : (b : Body) (s : BodyState) (h : Http) → part_of s held ended ≡ End line → Stands b h → ReadsOn b s h
      → Stands b (with_whole h)
  end_stands kind.None s h part stands reads = (stands.0, refl)
  end_stands (kind.Length n) s h part stands reads =
      let none = none_more stands.0 (subst (λ t. part_of t held ended ≡ End line) (sym reads ∙ stands.1) part) in
      (0, refl, omega (arith, none, stands.2), λ e. refl)
  end_stands kind.Chunked s h part stands reads = tt
  end_stands kind.ToEnd s h part stands reads = absurd stands

  pub end_framed : (wanted : ℕ) (s : BodyState) (h : Http) → part_of s held ended ≡ End line → Framed h → Gathers wanted s h
      → Framed (with_whole h)
  end_framed wanted s h part f k = record { head = f.head; payload = f.payload; stands = end_stands h.body s h part f.stands k.reads }
