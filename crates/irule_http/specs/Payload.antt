-- What HTTP commands ask of the message's body, and what they change of what was gathered of it (iRules:
-- HTTP::collect, HTTP::release, HTTP::payload, HTTP::close).
use Rattle.std.specs.Prelude.{ℕ, ℤ, ◌==◌, Bool, true, false, List, [], length, min, nat_le, Result, Ok, Err}
use Rattle.std.specs.Prelude.{if◌then◌else◌}
use Rattle.px_bytes.specs.FaultText.{too_long}
use Rattle.px_bytes.specs.Gives.{with_value}
use Rattle.px_bytes.specs.Host.{Faults}
use Rattle.px_bytes.specs.WholeWord.{number_of}
use Rattle.px_bytes.specs.declared.fault.TclFault.{TclFault}
use Rattle.http_frames.specs.declared.state.Body.{Body}
use Rattle.http_frames.specs.declared.state.Body.TheVariants as body
use Rattle.irule_net.specs.FaultText.{not_here}
use Rattle.irule_net.specs.Requests.{count_in}
use Rattle.irule_net.specs.Steps.{replaced}
use Rattle.irule_http.specs.Edits.{Step, unless_answered}
use Rattle.irule_http.specs.Forms.{word_at}
use Rattle.irule_http.specs.declared.state.Http.{Http}

-- the most bytes that are gathered of a body
abbrev pub payload_limit : ℕ
payload_limit = 1048576

-- a word as a number that isn't negative
abbrev pub count_of : List ℕ → Result ℕ TclFault
count_of word = with_value (number_of word) count_in

-- so many bytes are collected, at most 1,048,576; 0 has no effect
abbrev pub collecting : ℕ → Http → Http
collecting n h = if n == 0 then h else record h { collect = min n payload_limit }

abbrev pub collects : List ℕ → ℕ → Http → Step
collects name n h = unless_answered name h (collecting n h)

abbrev pub collects_by : List ℕ → Result ℕ TclFault → Http → Step
collects_by name (Err f) h = Faults f h []
collects_by name (Ok n) h = collects name n h

-- `HTTP::collect N`
abbrev pub collects_word : List ℕ → List (List ℕ) → Http → Step
collects_word name words h = collects_by name (count_of (word_at words 0)) h

-- `HTTP::release`: what the event collects is taken back
abbrev pub releases : List ℕ → Http → Step
releases name h = unless_answered name h (record h { collect = 0 })

-- `HTTP::close`
abbrev pub closing : Http → Http
closing h = record h { closes = true }

abbrev pub has_body : Body → Bool
has_body body.None = false
has_body other = true

abbrev pub replaces_there : Bool → List ℕ → List ℕ → Http → Step
replaces_there true name payload h = unless_answered name h (record h { payload = payload })
replaces_there false name payload h = Faults (not_here name) h []

-- the payload changed to this one
abbrev pub replaces_by : List ℕ → List ℕ → Http → Step
replaces_by name payload h =
    if nat_le (length payload) payload_limit then replaces_there (has_body h.body) name payload h
    else Faults too_long h []

abbrev pub numbers_of : List ℕ → List ℕ → Result (ℤ × ℤ) TclFault
numbers_of first second =
    with_value (number_of first) (λ n. with_value (number_of second) (λ m. Ok (n, m)))

abbrev pub counts_in : ℤ → ℤ → Result (ℕ × ℕ) TclFault
counts_in first second =
    with_value (count_in first) (λ offset. with_value (count_in second) (λ count. Ok (offset, count)))

-- Both are whole numbers before one is tested for its range.
abbrev pub part_of : List ℕ → List ℕ → Result (ℕ × ℕ) TclFault
part_of first second = with_value (numbers_of first second) (λ both. counts_in both.0 both.1)

abbrev pub replaces_part : List ℕ → Result (ℕ × ℕ) TclFault → List ℕ → Http → Step
replaces_part name (Err f) text h = Faults f h []
replaces_part name (Ok part) text h =
    replaces_by name (replaced part.0 part.1 text h.payload) h

-- `HTTP::payload replace OFFSET LENGTH TEXT`
abbrev pub replaces : List ℕ → List (List ℕ) → Http → Step
replaces name words h =
    replaces_part name (part_of (word_at words 1) (word_at words 2)) (word_at words 3) h
