-- The words of `test` on the command line.
use Rattle.std.specs.Prelude.{◌≡◌, ℕ, ◌==◌, ◌&&◌, ◌||◌, Bool, true, false, not, List, [], ◌∷◌, ◌++◌, codes, length}
use Rattle.std.specs.Prelude.{Option, Some, None, is_none, is_some, if◌then◌else◌}
use Rattle.std.specs.Str.{bytes_eq}
use Rattle.test_words.specs.declared.read_word.Awaited.{Awaited}
use Rattle.test_words.specs.declared.read_word.Awaited.TheVariants.{Any, Cuts, Orders, Only, Schedule}
use Rattle.test_words.specs.declared.read_word.WordsRead.{WordsRead}
use Rattle.test_words.specs.declared.words.ReportForm.{ReportForm}
use Rattle.test_words.specs.declared.words.ReportForm.TheVariants.{Tap, Junit}
use Rattle.test_words.specs.declared.words.TestWords.{TestWords}

-- nothing was said yet
abbrev pub no_words : WordsRead
no_words = record {
  awaited = Any;
  said = record { files = []; cuts = false; orders = false; only = None; shape = None; schedule = None };
}

-- neither empty nor an option
abbrev pub is_name : List ℕ → Bool
is_name [] = false
is_name (first ∷ rest) = not (first == 45)

-- ---- a word

-- the word that must stand behind an option
abbrev pub awaited_by : TestWords → List ℕ → Option Awaited
awaited_by said word =
    if bytes_eq word (codes "--cuts") && not said.cuts then Some Cuts
    else (if bytes_eq word (codes "--orders") && not said.orders then Some Orders
    else (if bytes_eq word (codes "--only") && is_none said.only then Some Only
    else (if bytes_eq word (codes "--schedule") && is_none said.schedule then Some Schedule else None)))

-- the form of a report that an option asks for
abbrev pub shape_by : TestWords → List ℕ → Option ReportForm
shape_by said word =
    if is_some said.shape then None
    else (if bytes_eq word (codes "--tap") then Some Tap
    else (if bytes_eq word (codes "--junit") then Some Junit else None))

abbrev pub file_word : WordsRead → List ℕ → Option WordsRead
file_word read word =
    if is_name word then Some (record read { said = record (read.said) { files = read.said.files ++ word ∷ [] } })
    else None

abbrev pub with_shape : WordsRead → List ℕ → Option ReportForm → Option WordsRead
with_shape read word None = file_word read word
with_shape read word (Some shape) = Some (record read { said = record (read.said) { shape = Some shape } })

abbrev pub with_awaited : WordsRead → List ℕ → Option Awaited → Option WordsRead
with_awaited read word None = with_shape read word (shape_by read.said word)
with_awaited read word (Some awaited) = Some (record read { awaited = awaited })

-- an option, or a file
abbrev pub any_word : WordsRead → List ℕ → Option WordsRead
any_word read word = with_awaited read word (awaited_by read.said word)

abbrev pub cuts_word : WordsRead → List ℕ → Option WordsRead
cuts_word read word =
    if bytes_eq word (codes "all") then Some (record { awaited = Any; said = record (read.said) { cuts = true } })
    else None

abbrev pub orders_word : WordsRead → List ℕ → Option WordsRead
orders_word read word =
    if bytes_eq word (codes "all") then Some (record { awaited = Any; said = record (read.said) { orders = true } })
    else None

abbrev pub only_word : WordsRead → List ℕ → Option WordsRead
only_word read word = Some (record { awaited = Any; said = record (read.said) { only = Some word } })

abbrev pub schedule_word : WordsRead → List ℕ → Option WordsRead
schedule_word read word =
    if is_name word then Some (record { awaited = Any; said = record (read.said) { schedule = Some word } }) else None

abbrev pub by_awaited : Awaited → WordsRead → List ℕ → Option WordsRead
by_awaited Any read word = any_word read word
by_awaited Cuts read word = cuts_word read word
by_awaited Orders read word = orders_word read word
by_awaited Only read word = only_word read word
by_awaited Schedule read word = schedule_word read word

-- what is said with a word more; none, where it can't stand there
abbrev pub read_word : WordsRead → List ℕ → Option WordsRead
read_word read word = by_awaited read.awaited read word

-- a word was read, or couldn't stand there
abbrev pub Reads : Bool → WordsRead → Option WordsRead → Type 0
Reads true new wanted = wanted ≡ Some new
Reads false new wanted = wanted ≡ None

-- ---- all words

abbrev pub if_read : Option WordsRead → (WordsRead → Option WordsRead) → Option WordsRead
if_read None next = None
if_read (Some read) next = next read

abbrev pub read_all : List (List ℕ) → WordsRead → Option WordsRead
read_all [] read = Some read
read_all (word ∷ words) read = if_read (read_word read word) (read_all words)

abbrev pub is_any : Awaited → Bool
is_any Any = true
is_any other = false

-- no option waits for its word, a file is there, and a schedule is of the test of a name
abbrev pub is_whole : WordsRead → Bool
is_whole read =
    (is_any read.awaited && not (length read.said.files == 0)) && (is_none read.said.schedule || is_some read.said.only)

abbrev pub words_in : WordsRead → Option TestWords
words_in read = if is_whole read then Some read.said else None

abbrev pub words_in_some : Option WordsRead → Option TestWords
words_in_some None = None
words_in_some (Some read) = words_in read

abbrev pub begins_test : List (List ℕ) → Bool
begins_test [] = false
begins_test (first ∷ words) = bytes_eq first (codes "test")

-- What the words say: `test FILE.. [--cuts all] [--orders all] [--only NAME] [--tap | --junit] [--schedule FILE]`, in any
-- order, each option once at most; a schedule is of the test of a name.
abbrev pub words_of : List (List ℕ) → Option TestWords
words_of [] = None
words_of (first ∷ words) = if bytes_eq first (codes "test") then words_in_some (read_all words no_words) else None
