-- A word from its parts.
use Rattle.std.specs.Prelude.{ℕ, List, [], Bool, true, false, ◌&&◌, not, nat_eq, Option, Some, None}
use Rattle.std.specs.Prelude.{slice_range, if◌then◌else◌}
use Rattle.std.specs.List.{list_any}
use Rattle.tcl_words.specs.Tree.{Part, plain, Parts, no_parts, and_part, Word, word, from_to}
use Rattle.tcl_words.specs.declared.script.Form.{Form}
use Rattle.tcl_words.specs.declared.script.Form.TheVariants.{Braced}
use Rattle.tcl_words.specs.declared.script.Span.{Span}

abbrev pub is_plain : Part → Bool
is_plain (plain span bytes) = true
is_plain p = false

-- there is no variable and no bracket among the parts, so that they are one at most
abbrev pub only_plain : Parts → Bool
only_plain no_parts = true
only_plain (and_part p no_parts) = is_plain p
only_plain parts = false

-- nothing is replaced in the bytes
unfoldable pub is_literal : List ℕ → Parts → Bool
is_literal inner parts = only_plain parts && not (list_any (λ b. nat_eq b 92) inner)

-- the raw bytes are kept in braces, and where nothing is replaced
abbrev pub raw_of : Form → List ℕ → Parts → Option (List ℕ)
raw_of Braced inner parts = Some inner
raw_of form inner parts = if is_literal inner parts then Some inner else None

-- an empty word has one empty plain part
abbrev pub filled : ℕ → Parts → Parts
filled at no_parts = and_part (plain (from_to at at) []) no_parts
filled at parts = parts

abbrev pub finished : List ℕ → Span → Form → Span → Parts → Word
finished text span form inner parts =
    word span form inner (raw_of form (slice_range text inner.start inner.end) parts)
    (filled inner.start parts)
