-- The words of `HTTP::respond CODE [-version V] [content TEXT] [noserver] [NAME VALUE ..]` (iRules:
-- HTTP::respond), read from the left: an option stands only in its place, and any other word is a field's name.
use Rattle.std.specs.Prelude.{ℕ, ◌%◌, ◌==◌, Bool, true, false, not, ◌&&◌, List, [], ◌∷◌, length, codes}
use Rattle.std.specs.Prelude.{Option, Some}
use Rattle.std.specs.Prelude.{None, if◌then◌else◌}
use Rattle.std.specs.Str.{bytes_eq}
use Rattle.http_heads.specs.Fields.{Pair}
use Rattle.http_heads.specs.declared.line.Version.{Version}
use Rattle.http_heads.specs.declared.line.Version.TheVariants.{Http10, Http11}

-- the value of an option that the words begin with
abbrev pub option_in : List ℕ → List (List ℕ) → Option (List ℕ)
option_in option (word ∷ value ∷ words) = if bytes_eq word option then Some value else None
option_in option words = None

-- the words behind an option, where they begin with it
abbrev pub behind_option : List ℕ → List (List ℕ) → List (List ℕ)
behind_option option (word ∷ value ∷ words) =
    if bytes_eq word option then words else word ∷ value ∷ words
behind_option option words = words

abbrev pub begins_with : List ℕ → List (List ℕ) → Bool
begins_with text [] = false
begins_with text (word ∷ words) = bytes_eq word text

abbrev pub behind_word : List ℕ → List (List ℕ) → List (List ℕ)
behind_word text [] = []
behind_word text (word ∷ words) = if bytes_eq word text then words else word ∷ words

-- what stands behind the first word
abbrev pub behind_first : List (List ℕ) → List (List ℕ)
behind_first [] = []
behind_first (code ∷ words) = words

abbrev pub content_words : List (List ℕ) → List (List ℕ)
content_words words = behind_option (codes "-version") (behind_first words)

abbrev pub server_words : List (List ℕ) → List (List ℕ)
server_words words = behind_option (codes "content") (content_words words)

-- the names and values
abbrev pub field_words : List (List ℕ) → List (List ℕ)
field_words words = behind_word (codes "noserver") (server_words words)

-- each name has a value
abbrev pub are_pairs : List (List ℕ) → Bool
are_pairs words = length words % 2 == 0

abbrev pub is_some_word : List (List ℕ) → Bool
is_some_word [] = false
is_some_word (word ∷ words) = true

-- there is a code, and what stands behind the options are pairs
abbrev pub is_answer : List (List ℕ) → Bool
is_answer words = is_some_word words && are_pairs (field_words words)

abbrev pub pairs_of : List (List ℕ) → List Pair
pairs_of (name ∷ value ∷ words) = (name, value) ∷ pairs_of words
pairs_of words = []

-- the fields that are given
abbrev pub given_fields : List (List ℕ) → List Pair
given_fields words = pairs_of (field_words words)

abbrev pub content_by : Option (List ℕ) → List ℕ
content_by None = []
content_by (Some content) = content

abbrev pub content_of : List (List ℕ) → List ℕ
content_of words = content_by (option_in (codes "content") (content_words words))

-- `Server: BigIP` is written
abbrev pub has_server : List (List ℕ) → Bool
has_server words = not (begins_with (codes "noserver") (server_words words))

-- 1.0 where none is given
abbrev pub version_by : Option (List ℕ) → Option Version
version_by None = Some Http10
version_by (Some text) =
    if bytes_eq text (codes "1.0") then Some Http10
    else (if bytes_eq text (codes "1.1") then Some Http11 else None)

abbrev pub version_of : List (List ℕ) → Option Version
version_of words = version_by (option_in (codes "-version") (behind_first words))
