-- What is sent of a body: chunk lines, and what was gathered of it.
use Rattle.std.specs.Prelude.{ℕ, zero, suc, ◌+◌, ◌/◌, ◌%◌, nat_lt, List, [], ◌∷◌, ◌++◌, length, codes}
use Rattle.std.specs.Prelude.{Bool, true, false, ◌&&◌, not, is_some, if◌then◌else◌}
use Rattle.std.specs.Char.{digit_char}
use Rattle.px_bytes.specs.declared.addr.Side.{Side}
use Rattle.px_bytes.specs.declared.addr.Side.TheVariants.{Client, Server}
use Rattle.px_bytes.specs.declared.fault.HttpFault.{HttpFault}
use Rattle.px_bytes.specs.declared.fault.HttpFault.TheVariants as fault
use Rattle.http_frames.specs.declared.state.Body.{Body}
use Rattle.http_frames.specs.declared.state.Body.TheVariants as body
use Rattle.http_frames.specs.declared.state.BodyState.{BodyState}
use Rattle.http_frames.specs.declared.state.BodyState.TheVariants as state
use Rattle.irule_http.specs.declared.state.Http.{Http}

abbrev pub is_chunked : Body → Bool
is_chunked body.Chunked = true
is_chunked b = false

abbrev pub end_of_line : List ℕ
end_of_line = 13 ∷ 10 ∷ []

-- a size in lower-case hexadecimal digits, at most so many
abbrev pub hex_digits : ℕ → ℕ → List ℕ
hex_digits zero size = []
hex_digits (suc n) size =
    if nat_lt size 16 then digit_char size ∷ []
    else hex_digits n (size / 16) ++ digit_char (size % 16) ∷ []

abbrev pub hex : ℕ → List ℕ
hex size = hex_digits 16 size

-- the CRLF that closes a chunk goes with what stands behind it
abbrev pub closing : (standing : Bool) → List ℕ
closing true = end_of_line
closing false = []

abbrev pub chunk_line : (standing : Bool) → (size : ℕ) → List ℕ
chunk_line standing size = closing standing ++ hex size ++ end_of_line

abbrev pub last_line : (standing : Bool) → List ℕ
last_line standing = closing standing ++ codes "0" ++ end_of_line ++ end_of_line

-- a payload in a chunked body is one chunk, unless it is empty
abbrev pub payload_chunk : List ℕ → List ℕ
payload_chunk [] = []
payload_chunk (b ∷ bs) = chunk_line false (length (b ∷ bs)) ++ (b ∷ bs) ++ end_of_line

-- behind a payload the rest of a cut chunk begins with a line of its own
abbrev pub rest_line : BodyState → List ℕ
rest_line (state.Chunk n) = chunk_line false n
rest_line s = []

abbrev pub is_cut_chunk : BodyState → Bool
is_cut_chunk (state.Chunk n) = true
is_cut_chunk s = false

abbrev pub behind_payload : (whole : Bool) → BodyState → List ℕ
behind_payload true s = last_line false
behind_payload false s = rest_line s

abbrev pub gathered_part : (chunked : Bool) → Http → List ℕ
gathered_part true h = payload_chunk h.payload ++ behind_payload h.whole h.reader
gathered_part false h = h.payload

-- what was gathered of a body, as it goes out behind the head
abbrev pub payload_part : Http → List ℕ
payload_part h = if is_some h.gathered then gathered_part (is_chunked h.body) h else []

-- whether a chunk stands standing behind it
abbrev pub opens : Http → Bool
opens h = is_some h.gathered && (not h.whole && is_cut_chunk h.reader)

abbrev pub continue_text : List ℕ
continue_text = codes "HTTP/1.1 100 Continue" ++ end_of_line ++ end_of_line

-- a fault of a request that is answered
abbrev pub is_answered : Side → HttpFault → Bool
is_answered Server f = false
is_answered Client fault.ShortBody = false
is_answered Client fault.Switching = false
is_answered Client f = true
