-- What a side took and no question read yet.
use Rattle.std.specs.Prelude.{ℕ, ◌==◌, ◌&&◌, Bool, true, false, List, [], ◌∷◌, ◌++◌, length, Option, Some, None}
use Rattle.std.specs.Prelude.{slice_get, if◌then◌else◌}
use Rattle.std.specs.List.{list_any}
use Rattle.std.specs.Str.{bytes_eq}
use Rattle.px_bytes.specs.GlobTest.{matches}
use Rattle.px_bytes.specs.declared.addr.Side.{Side}
use Rattle.px_bytes.specs.declared.addr.Side.TheVariants.{Client, Server}
use Rattle.test_past.specs.Standing.{conn_of}
use Rattle.test_past.specs.declared.entry.ClientConn.{ClientConn}
use Rattle.test_past.specs.declared.entry.RunEntry.{RunEntry}
use Rattle.test_past.specs.declared.entry.RunEntry.TheVariants.{Took, Asks}
use Rattle.test_text.specs.declared.expectation.Expectation.{Expectation}
use Rattle.test_text.specs.declared.expectation.Expectation.TheVariants.{Gets, SomeGet}
use Rattle.test_text.specs.declared.expectation.Wished.{Wished}
use Rattle.test_text.specs.declared.expectation.Wished.TheVariants.{Exactly, Like, Nothing}
use Rattle.test_text.specs.declared.test_file.PlacedStep.{PlacedStep}
use Rattle.test_text.specs.declared.test_file.TestStep.{TestStep}
use Rattle.test_text.specs.declared.test_file.TestStep.TheVariants.{Expect}

abbrev pub same_side : Side → Side → Bool
same_side Client Client = true
same_side Server Server = true
same_side side other = false

-- these bytes are what is wished
abbrev pub is_wished : Wished → List ℕ → Bool
is_wished (Exactly text) bytes = bytes_eq text bytes
is_wished (Like pattern) bytes = matches pattern bytes
is_wished Nothing bytes = length bytes == 0

-- ---- questions

abbrev pub question_of : TestStep → Option Expectation
question_of (Expect question) = Some question
question_of other = None

abbrev pub question_in : PlacedStep → Option Expectation
question_in placed = question_of placed.step

abbrev pub question_in_some : Option PlacedStep → Option Expectation
question_in_some None = None
question_in_some (Some placed) = question_in placed

-- the question of a step
abbrev pub question_at : List PlacedStep → ℕ → Option Expectation
question_at steps step = question_in_some (slice_get steps step)

abbrev pub has_client : List ℕ → ℕ → Bool
has_client clients client = list_any (λ other. other == client) clients

-- A question reads what a side of a client got: it asks for it, or it is one of those that got what is wished.
abbrev pub reads : Expectation → Side → ℕ → List ℕ → Bool
reads (Gets of whose what) side client got = same_side of side && (whose == client)
reads (SomeGet count clients what) side client got =
    (same_side side Client && has_client clients client) && is_wished what got
reads other side client got = false

abbrev pub is_read_by : Option Expectation → Side → ℕ → List ℕ → Bool
is_read_by None side client got = false
is_read_by (Some question) side client got = reads question side client got

abbrev pub is_read : List PlacedStep → ℕ → Side → ℕ → List ℕ → Bool
is_read steps step side client got = is_read_by (question_at steps step) side client got

-- ---- what a side took

-- the bytes that a side of a connection takes by an entry
abbrev pub taken : RunEntry → Side → ℕ → Option (List ℕ)
taken (Took c of bytes) side conn = if (c == conn) && same_side of side then Some bytes else None
taken other side conn = None

abbrev pub with_taken : List ℕ → Option (List ℕ) → List ℕ
with_taken got None = got
with_taken got (Some bytes) = got ++ bytes

-- what no question read, behind an entry
abbrev pub got_after : List PlacedStep → Side → ClientConn → RunEntry → List ℕ → List ℕ
got_after steps side one (Asks step) got = if is_read steps step side one.client got then [] else got
got_after steps side one other got = with_taken got (taken other side one.conn)

abbrev pub got_from : List PlacedStep → Side → ClientConn → List ℕ → List RunEntry → List ℕ
got_from steps side one got [] = got
got_from steps side one got (x ∷ xs) = got_from steps side one (got_after steps side one x got) xs

abbrev pub got_of : List PlacedStep → Side → ℕ → Option ℕ → List RunEntry → List ℕ
got_of steps side client None entries = []
got_of steps side client (Some conn) entries =
    got_from steps side (record { client = client; conn = conn }) [] entries

-- what a client, or its server, took since a question read it last
abbrev pub got_by : List PlacedStep → List ClientConn → Side → ℕ → List RunEntry → List ℕ
got_by steps came side client entries = got_of steps side client (conn_of client came) entries
