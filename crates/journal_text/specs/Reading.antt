-- Which words stand for which fields, and what fails first where they stand for none.
use Rattle.std.specs.Prelude.{◌≡◌, ℕ, ◌^◌, ◌<◌, ◌≤◌, Bool, true, false, List, [], ◌∷◌, Some}
use Rattle.std.specs.Prelude.{Result, Ok, Err}
use Rattle.std.specs.Fmt.{decimal}
use Rattle.px_bytes.specs.Address.{ip_text, addr_text, IsAddr}
use Rattle.px_bytes.specs.HexRead.{hex_bytes}
use Rattle.journal_text.specs.Form.{Form, Number, Hex, Name, Ip, Member, Health, health_text}
use Rattle.journal_text.specs.Form.{Field, Numbered, Bytes, Named, From, At, Up}
use Rattle.journal_text.specs.declared.line_kind.LineKind.{LineKind}
use Rattle.journal_text.specs.declared.line_kind.LineKind.TheVariants.{LongLine, NoNewline}
use Rattle.journal_text.specs.declared.line_kind.LineKind.TheVariants.{NotEvent, NotNote}
use Rattle.journal_text.specs.declared.line_kind.LineKind.TheVariants.{BadNumber, BadHex, Memory}

-- the word stands for the field; digits in hexadecimal are of either case
abbrev pub Reads : Form → List ℕ → Field → Type 0
Reads (Number most) word (Numbered n) = (word ≡ decimal n) × (n ≤ most)
Reads Hex word (Bytes bytes) = hex_bytes word ≡ Some bytes
Reads Name word (Named name) = word ≡ name
Reads Ip word (From ip) = (word ≡ ip_text ip) × (ip < 2 ^ 32)
Reads Member word (At addr) = (word ≡ addr_text addr) × IsAddr addr
Reads Health word (Up up) = word ≡ health_text up
Reads form word field = ⊥

-- the words stand for the fields, one by one
abbrev pub ReadAs : List Form → List (List ℕ) → List Field → Type 0
ReadAs [] [] [] = Unit {0}
ReadAs (form ∷ forms) (word ∷ words) (field ∷ fields) =
    Reads form word field × ReadAs forms words fields
ReadAs forms words fields = ⊥

-- it is asked for where the condition holds
abbrev pub Where : Bool → Type 0 → Type 0
Where true t = t
Where false t = Unit {0}

-- there are as many words as forms, and each of these forms stands for something
abbrev pub AllRead : (Form → Bool) → List Form → List (List ℕ) → Type 0
AllRead asked [] [] = Unit {0}
AllRead asked (form ∷ forms) (word ∷ words) =
    Where (asked form) ((field : Field) × Reads form word field) × AllRead asked forms words
AllRead asked forms words = ⊥

-- names, addresses and states are judged first, then numbers, then bytes
abbrev pub at_first : Form → Bool
at_first (Number most) = false
at_first Hex = false
at_first form = true

abbrev pub but_bytes : Form → Bool
but_bytes Hex = false
but_bytes form = true

abbrev pub every_form : Form → Bool
every_form form = true

-- what fails first
abbrev pub Fails : List Form → List (List ℕ) → LineKind → Type 0
Fails forms words NotEvent = ¬ AllRead at_first forms words
Fails forms words BadNumber = AllRead at_first forms words × (¬ AllRead but_bytes forms words)
Fails forms words BadHex = AllRead but_bytes forms words × (¬ AllRead every_form forms words)
Fails forms words Memory = Unit {0}
Fails forms words LongLine = ⊥
Fails forms words NoNewline = ⊥
Fails forms words NotNote = ⊥

-- the words were read as what the value shows, or fail
abbrev pub Answered : {A : Type 0} → (A → List Field) → List Form → List (List ℕ)
    → Result A LineKind → Type 0
Answered shown forms words (Ok value) = ReadAs forms words (shown value)
Answered shown forms words (Err kind) = Fails forms words kind
