-- Tokens: `{`, `}`, quoted tokens, and runs of other bytes than white space, braces and quotes.
-- White space between them is skipped, and so is a line whose first byte is `#`.
use Rattle.std.specs.Prelude.{ℕ, suc, ◌+◌, ◌==◌, Bool, true, false, not, ◌&&◌, ◌||◌, List, [], ◌∷◌, take, drop}
use Rattle.std.specs.Prelude.{Option, Some, None, if◌then◌else◌}
use Rattle.std.specs.List.{prefix_len}
use Rattle.std.specs.Option.{option_map_or}
use Rattle.std.specs.Str.{is_utf8}
use Rattle.px_bytes.specs.White.{is_space}
use Rattle.tmsh_read.specs.Braced.{braced_len, none_open}
use Rattle.tmsh_read.specs.Quoted as quote
use Rattle.tmsh_read.specs.Quoted.{unquoted}
use Rattle.tmsh_read.specs.declared.gap.Gap.{Gap}
use Rattle.tmsh_read.specs.declared.gap.Gap.TheVariants.{LineStart, Within, Remark}
use Rattle.tmsh_read.specs.declared.quoted.Quote.TheVariants.{Plain}
use Rattle.tmsh_read.specs.declared.token.Found.{Found}
use Rattle.tmsh_read.specs.declared.token.Token.{Token}
use Rattle.tmsh_read.specs.declared.token.Token.TheVariants.{Open, Close, Run, Quoted, Braced, End, Broken}

-- ---- between tokens

abbrev pub spaced : ℕ → Option Gap
spaced byte = if byte == 10 then Some LineStart else (if is_space byte then Some Within else None)

-- where the next byte stands; none where this one begins a token
abbrev pub gap_after : Gap → ℕ → Option Gap
gap_after Remark byte = if byte == 10 then Some LineStart else Some Remark
gap_after LineStart byte = if byte == 35 then Some Remark else spaced byte
gap_after Within byte = spaced byte

-- how many bytes stand before the next token
abbrev pub gap_len : Gap → List ℕ → ℕ
gap_len gap [] = 0
gap_len gap (byte ∷ bytes) = option_map_or (λ next. gap_len next bytes + 1) (gap_after gap byte) 0

-- ---- tokens

-- white space, a brace or a quote
abbrev pub is_mark : ℕ → Bool
is_mark byte = is_space byte || (byte == 123 || (byte == 125 || byte == 34))

abbrev pub run_len : List ℕ → ℕ
run_len bytes = prefix_len (λ byte. not (is_mark byte)) bytes

-- a token of this size at the front
abbrev pub here : Token → ℕ → Found
here token size = record { token = token; start = 0; end = size }

-- what isn't UTF-8 is no token

abbrev pub run_token : List ℕ → Token
run_token bytes = if is_utf8 bytes then Run bytes else Broken

abbrev pub quoted_token : List ℕ → Token
quoted_token bytes = if is_utf8 bytes then Quoted bytes else Broken

abbrev pub braced_token : List ℕ → Token
braced_token bytes = if is_utf8 bytes then Braced bytes else Broken

abbrev pub quoted_found : Option quote.Read → Found
quoted_found None = here Broken 0
quoted_found (Some r) = here (quoted_token r.value) (r.size + 1)

-- a run of no bytes is none
abbrev pub run_of : List ℕ → ℕ → Found
run_of bytes n = if n == 0 then here Broken 0 else here (run_token (take n bytes)) n

abbrev pub run_found : List ℕ → Found
run_found bytes = run_of bytes (run_len bytes)

-- the token that these bytes begin with, before which nothing stands
abbrev pub token_at : List ℕ → Found
token_at [] = here End 0
token_at (byte ∷ bytes) =
    if byte == 123 then here Open 1
    else (if byte == 125 then here Close 1
    else (if byte == 34 then quoted_found (unquoted Plain bytes) else run_found (byte ∷ bytes)))

-- behind so many bytes
abbrev pub shifted : ℕ → Found → Found
shifted n f = record { token = f.token; start = n; end = n + f.end }

abbrev pub plain_found : Gap → List ℕ → Found
plain_found gap bytes = shifted (gap_len gap bytes) (token_at (drop (gap_len gap bytes) bytes))

-- ---- the text of a rule

-- the text behind a blank (a space or a tab) and a brace, up to the brace that closes this one
abbrev pub braced_to : List ℕ → Option ℕ → Found
braced_to text None = record { token = Broken; start = 1; end = 1 }
braced_to text (Some n) = record { token = braced_token (take n text); start = 1; end = n + 3 }

abbrev pub braced_found : List ℕ → Found
braced_found text = braced_to text (braced_len none_open text)

-- a space or a tab
abbrev pub is_blank : ℕ → Bool
is_blank byte = byte == 32 || byte == 9

-- the first token, and the text of a rule where that may stand
abbrev pub found_in : (wants_text : Bool) → Gap → List ℕ → Found
found_in wants gap [] = plain_found gap []
found_in wants gap (a ∷ []) = plain_found gap (a ∷ [])
found_in wants gap (a ∷ (b ∷ text)) =
    if b == 123 && (wants && is_blank a) then braced_found text else plain_found gap (a ∷ (b ∷ text))
