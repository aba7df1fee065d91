-- What a text means, and where the first token stands with which no text of the grammar goes on.
use Rattle.std.specs.Prelude.{◌≡◌, ℕ, pos, ◌+◌, ◌<◌, ◌≤◌, ◌==◌, Bool, true, false, List, length, drop, codes, Option, Some, None}
use Rattle.std.specs.Prelude.{Result, Ok, Err, IsUtf8, if◌then◌else◌}
use Rattle.std.specs.Str.Lossy.{utf8_valid_len}
use Rattle.toml.specs.Data.{Data, integer, array, Items, no_items, item, Members}
use Rattle.tmsh_read.specs.Grammar.{step}
use Rattle.tmsh_read.specs.Sketch as sketch
use Rattle.tmsh_read.specs.Sketch.{Sketch}
use Rattle.tmsh_read.specs.Tables.{with_member}
use Rattle.tmsh_read.specs.Tokens.{found_in}
use Rattle.tmsh_read.specs.declared.fault.ReadFault.{ReadFault}
use Rattle.tmsh_read.specs.declared.fault.ReadFault.TheVariants.{NotUtf8, Form, Memory}
use Rattle.tmsh_read.specs.declared.gap.Gap.{Gap}
use Rattle.tmsh_read.specs.declared.gap.Gap.TheVariants.{LineStart, Within}
use Rattle.tmsh_read.specs.declared.next.Next.{Next}
use Rattle.tmsh_read.specs.declared.next.Next.TheVariants as next
use Rattle.tmsh_read.specs.declared.read.Turn.{Turn}
use Rattle.tmsh_read.specs.declared.read.Turn.TheVariants.{Ends, Stops, Goes}
use Rattle.tmsh_read.specs.declared.token.Found.{Found}
use Rattle.tmsh_read.specs.declared.token.Token.{Token}
use Rattle.tmsh_read.specs.declared.token.Token.TheVariants.{Open, Close, Run, Quoted, Braced, End, Broken}

-- nothing was read yet
abbrev pub blank : Sketch
blank = sketch.blank

-- ---- the first token

-- the text ends; or the token behind so many bytes may not stand here; or, behind so many bytes,
-- this is what was read
pub data Move : Type 0 where
  ends : Sketch → Move
  stops : ℕ → Move
  goes : Sketch → ℕ → Move

abbrev pub turned : Turn → Sketch → Move
turned Ends s = ends s
turned (Stops n) s = stops n
turned (Goes n) s = goes s n

abbrev pub may_end : Next → Bool
may_end next.Stanza = true
may_end _ = false

abbrev pub wants_text : Next → Bool
wants_text next.Text = true
wants_text _ = false

abbrev pub is_end : Next → Token → Bool
is_end n End = may_end n
is_end n _ = false

abbrev pub stepped : (start end : ℕ) → Option Sketch → Move
stepped start end None = stops start
stepped start end (Some s) = goes s end

-- a token has one byte or more
abbrev pub moved : Sketch → (start end : ℕ) → Token → Move
moved s start end t =
    if is_end s.next t then ends s
    else (if end == 0 then stops start else stepped start end (step s t))

abbrev pub moved_by : Sketch → Found → Move
moved_by s f = moved s f.start f.end f.token

-- what comes of the first token of these bytes, of which the first stands so in its line
abbrev pub answer : Gap → Sketch → List ℕ → Move
answer gap s bytes = moved_by s (found_in (wants_text s.next) gap bytes)

-- ---- all tokens

-- from this place on the bytes are read behind what was read: to their end, or up to the place of
-- the token that may not stand there
pub data Reads : Gap → Sketch → ℕ → List ℕ → Result Sketch ℕ → Type 0 where
  ended : (gap : Gap) (s : Sketch) (at : ℕ) (bytes : List ℕ) (t : Sketch)
      → answer gap s bytes ≡ ends t → Reads gap s at bytes (Ok t)
  stopped : (gap : Gap) (s : Sketch) (at : ℕ) (bytes : List ℕ) (n : ℕ)
      → answer gap s bytes ≡ stops n → Reads gap s at bytes (Err (at + n))
  gone : (gap : Gap) (s : Sketch) (at : ℕ) (bytes : List ℕ) (t : Sketch) (n : ℕ)
      (r : Result Sketch ℕ) → answer gap s bytes ≡ goes t n
      → Reads Within t (at + n) (drop n bytes) r → Reads gap s at bytes r

-- ---- the table

-- an array at a key, unless it is empty
abbrev pub with_array : List ℕ → Items → Members → Members
with_array k no_items ms = ms
with_array k (item d ds) ms = with_member k (array (item d ds)) ms

abbrev pub finished : Sketch → Members
finished s =
    with_array (codes "group") s.groups
    (with_array (codes "rule") s.rules
    (with_array (codes "pool") s.pools
    (with_array (codes "virtual") s.servers
    (with_member (codes "version") (integer (pos 2)) s.limits))))

pub record Fills (s : Sketch) (text : List ℕ) (table : Members) : Type 0 where
  pub last : Sketch
  pub reads : Reads LineStart s 0 text (Ok last)
  pub table_is : table ≡ finished last

-- the text is one of the grammar, and says this
pub record Means (text : List ℕ) (table : Members) : Type 0 where
  pub utf8 : IsUtf8 text
  pub filled : Fills blank text table

-- ---- faults

-- the token at this place is the first that may not stand there
abbrev pub IsStop : Sketch → List ℕ → ReadFault → Type 0
IsStop s text (Form at) = Reads LineStart s 0 text (Err at)
IsStop s text (NotUtf8 at) = ⊥
IsStop s text Memory = Unit {0}

abbrev pub IsFault : List ℕ → ReadFault → Type 0
IsFault text (NotUtf8 at) = ¬ (IsUtf8 text) × (at ≡ utf8_valid_len text)
IsFault text (Form at) = IsUtf8 text × Reads LineStart blank 0 text (Err at)
IsFault text Memory = Unit {0}

-- ---- how far a token goes

abbrev pub IsBetween : (start end : ℕ) → Turn → Type 0
IsBetween start end Ends = Unit {0}
IsBetween start end (Stops n) = n ≡ start
IsBetween start end (Goes n) = (0 < n) × (n ≡ end)

-- within so many bytes
abbrev pub IsWithin : ℕ → Turn → Type 0
IsWithin most Ends = Unit {0}
IsWithin most (Stops n) = n ≤ most
IsWithin most (Goes n) = (0 < n) × (n ≤ most)
