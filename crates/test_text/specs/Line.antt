-- The words of a command of a test file, and what each stands for. A word of the language stands bare; in quotes or
-- braces it is a text, so that any text can be told from it.
use Rattle.std.specs.Prelude.{ℕ, ◌&&◌, Bool, false, List, length, map, Option}
use Rattle.std.specs.Prelude.{Some, None, Result, Ok, Err, decimal, is_some, nat_le, slice_get, if◌then◌else◌}
use Rattle.std.specs.Str.{bytes_eq}
use Rattle.std.specs.Str.Parse.{digits_value}
use Rattle.px_bytes.specs.declared.addr.Addr.{Addr}
use Rattle.tcl_encodings.specs.Addr.{addr_of}
use Rattle.tcl_encodings.specs.Addresses.{address_of}
use Rattle.tcl_trees.specs.Pieces.{all_words}
use Rattle.tcl_words.specs.Tree.{Command, command, Part, plain, Parts, no_parts, and_part, Word, word}
use Rattle.tcl_words.specs.View.{command_view, word_view}
use Rattle.tcl_words.specs.declared.script.ScriptCommand as code_command
use Rattle.tcl_words.specs.declared.script.Form.TheVariants.{Bare, Braced}
use Rattle.tcl_words.specs.declared.script.Span.{Span}
use Rattle.test_text.specs.Faults.{fault_at, with_value}
use Rattle.test_text.specs.declared.fault.TestFault.{TestFault}
use Rattle.test_text.specs.declared.fault.TestFaultKind.TheVariants as kind
use Rattle.test_text.specs.declared.line.Line as code

-- the words of a command, and the place behind the last one
pub record Line : Type 0 where
  pub words : List Word
  pub end : ℕ

abbrev pub line_of : Command → Line
line_of (command span words) = record { words = all_words words; end = span.end }

abbrev pub command_line : code_command.ScriptCommand → Line
command_line c = line_of (command_view c)

abbrev pub line_view : code.Line → Line
line_view l = record { words = map word_view l.words.now; end = l.end }

-- the bytes of a word without variable and bracket
abbrev pub plain_text : Part → Option (List ℕ)
plain_text (plain span bytes) = Some bytes
plain_text p = None

abbrev pub text_in : Parts → Option (List ℕ)
text_in (and_part p no_parts) = plain_text p
text_in parts = None

abbrev pub value_of : Word → Option (List ℕ)
value_of (word span form inner raw parts) = text_in parts

abbrev pub bare_value : Word → Option (List ℕ)
bare_value (word span Bare inner raw parts) = text_in parts
bare_value w = None

abbrev pub place_of : Word → ℕ
place_of (word span form inner raw parts) = span.start

abbrev pub is_text : List ℕ → Option (List ℕ) → Bool
is_text text None = false
is_text text (Some bytes) = bytes_eq bytes text

abbrev pub is_key : List ℕ → Option Word → Bool
is_key key None = false
is_key key (Some w) = is_text key (bare_value w)

-- the word at this place, from 0, is this one of the language
abbrev pub has : Line → ℕ → List ℕ → Bool
has l at key = is_key key (slice_get l.words at)

abbrev pub odd_word : Word → TestFault
odd_word w = fault_at (if is_some (value_of w) then kind.Unexpected else kind.Substituted) (place_of w)

-- what is wrong where no form goes on with this word, or with the end
abbrev pub odd : ℕ → Option Word → TestFault
odd end None = fault_at kind.Missing end
odd end (Some w) = odd_word w

abbrev pub odd_at : Line → ℕ → TestFault
odd_at l at = odd l.end (slice_get l.words at)

abbrev pub key_at : Line → ℕ → List ℕ → Result (Unit {0}) TestFault
key_at l at key = if has l at key then Ok tt else Err (odd_at l at)

-- no more words than so many
abbrev pub ends_at : Line → ℕ → Result (Unit {0}) TestFault
ends_at l at = if nat_le (length l.words) at then Ok tt else Err (odd_at l at)

abbrev pub there : ℕ → Option Word → Result Word TestFault
there end None = Err (fault_at kind.Missing end)
there end (Some w) = Ok w

abbrev pub word_at : Line → ℕ → Result Word TestFault
word_at l at = there l.end (slice_get l.words at)

abbrev pub due : {A : Type 0} → Option A → TestFault → Result A TestFault
due (Some a) fault = Ok a
due None fault = Err fault

-- a text
abbrev pub text_of : Word → Result (List ℕ) TestFault
text_of w = due (value_of w) (fault_at kind.Substituted (place_of w))

abbrev pub text_at : Line → ℕ → Result (List ℕ) TestFault
text_at l at = with_value (word_at l at) text_of

-- an address with its port
abbrev pub address_in : Word → Result Addr TestFault
address_in w = with_value (text_of w) (λ text. due (addr_of text) (fault_at kind.NoAddress (place_of w)))

abbrev pub address_at : Line → ℕ → Result Addr TestFault
address_at l at = with_value (word_at l at) address_in

-- the address of a client, which comes from port 40000 where none is said
abbrev pub client_addr : Option Addr → Option ℕ → Option Addr
client_addr (Some addr) ip = Some addr
client_addr None (Some ip) = Some (record { ip = ip; port = 40000 })
client_addr None None = None

abbrev pub source_in : Word → Result Addr TestFault
source_in w = with_value (text_of w)
    (λ text. due (client_addr (addr_of text) (address_of text)) (fault_at kind.NoAddress (place_of w)))

abbrev pub source_at : Line → ℕ → Result Addr TestFault
source_at l at = with_value (word_at l at) source_in

-- a decimal number of at most so much, without needless zeros
abbrev pub number_of : ℕ → List ℕ → Option ℕ
number_of most text =
    if nat_le (digits_value 10 text) most && bytes_eq text (decimal (digits_value 10 text))
    then Some (digits_value 10 text) else None

abbrev pub number_in : ℕ → Word → Result ℕ TestFault
number_in most w = with_value (text_of w) (λ text. due (number_of most text) (fault_at kind.NoNumber (place_of w)))

abbrev pub number_at : ℕ → Line → ℕ → Result ℕ TestFault
number_at most l at = with_value (word_at l at) (number_in most)

-- what stands in the braces of a word
abbrev pub braces_in : Word → Result Span TestFault
braces_in (word span Braced inner raw parts) = Ok inner
braces_in w = Err (fault_at kind.NoBraces (place_of w))

abbrev pub braces_at : Line → ℕ → Result Span TestFault
braces_at l at = with_value (word_at l at) braces_in
