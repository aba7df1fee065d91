-- What the fields of a message say of the connection on which it came: RFC 9112, 9.3 (persistence), and RFC 9110,
-- 7.6.1 (Connection) and 10.1.1 (Expect).
use Rattle.std.specs.Prelude.{ℕ, Bool, true, false, not, ◌&&◌, ◌||◌, List, codes}
use Rattle.std.specs.List.{list_any}
use Rattle.http_frames.specs.declared.state.Body.{Body}
use Rattle.http_frames.specs.declared.state.Body.TheVariants as body
use Rattle.http_heads.specs.Fields.{Pair, is_named}
use Rattle.http_heads.specs.Passed.{has_option, is_same}
use Rattle.http_heads.specs.declared.line.Version.{Version}
use Rattle.http_heads.specs.declared.line.Version.TheVariants.{Http10, Http11}

-- whether one of the Connection fields has the option
abbrev pub names_option : List ℕ → List Pair → Bool
names_option option fields =
    list_any (λ f. is_named (codes "connection") f && has_option option f.1) fields

abbrev pub is_later : Version → Bool
is_later Http10 = false
is_later Http11 = true

-- its connection persists: one of 1.1 unless it says `close`, one of 1.0 where it says `keep-alive` too
abbrev pub persists : Version → List Pair → Bool
persists version fields =
    not (names_option (codes "close") fields)
    && (is_later version || names_option (codes "keep-alive") fields)

abbrev pub has_body : Body → Bool
has_body body.None = false
has_body (body.Length size) = true
has_body body.Chunked = true
has_body body.ToEnd = true

abbrev pub asks_continue : List Pair → Bool
asks_continue fields =
    list_any (λ f. is_named (codes "expect") f && is_same f.1 (codes "100-continue")) fields

-- its client waits to be told to send the body; of one of 1.0, or without a body, that is passed over
abbrev pub expects : Version → Body → (asks : Bool) → Bool
expects version found asks = is_later version && (has_body found && asks)
