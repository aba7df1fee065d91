-- What stands at the front of a text, and what stands behind it: the parts of which heads are made (RFC 9112, 2
-- to 5), each as a function. `httparse` has the same parts as relations.
use Rattle.std.specs.Prelude.{ℕ, zero, suc, Bool, ◌&&◌, ◌==◌, List, [], ◌∷◌, Option, Some, None, codes}
use Rattle.std.specs.Prelude.{if◌then◌else◌, ⊤}
use Rattle.std.specs.Char.{is_ascii_digit}
use Rattle.std.specs.Str.{is_utf8}
use Rattle.httparse.specs.Grammar.{Field, LineEnd, crlf, lf, is_token_byte, is_uri_byte, is_value_byte}

abbrev pub Reader : Type 0 → Type 0
Reader A = List ℕ → Option (A × List ℕ)

-- one part, and then another
abbrev pub with_first : {A B : Type 0} → A → Option (B × List ℕ) → Option ((A × B) × List ℕ)
with_first a None = None
with_first a (Some found) = Some ((a, found.0), found.1)

abbrev pub and_then : {A B : Type 0} → Option (A × List ℕ) → Reader B → Option ((A × B) × List ℕ)
and_then None next = None
and_then (Some found) next = with_first found.0 (next found.1)

abbrev pub both : {A B : Type 0} → Reader A → Reader B → Reader (A × B)
both first next text = and_then (first text) next

-- the bytes at the front that pass the test, and those behind them
abbrev pub run : (ℕ → Bool) → List ℕ → List ℕ
run test [] = []
run test (byte ∷ text) = if test byte then byte ∷ run test text else []

abbrev pub past : (ℕ → Bool) → List ℕ → List ℕ
past test [] = []
past test (byte ∷ text) = if test byte then past test text else byte ∷ text

-- one byte or more that pass the test, and the byte that stops them
abbrev pub stopped : (stop : ℕ) → (word rest : List ℕ) → Option (List ℕ × List ℕ)
stopped stop [] rest = None
stopped stop (byte ∷ word) [] = None
stopped stop (byte ∷ word) (x ∷ rest) = if x == stop then Some (byte ∷ word, rest) else None

abbrev pub word : (ℕ → Bool) → ℕ → Reader (List ℕ)
word test stop text = stopped stop (run test text) (past test text)

-- these bytes
abbrev pub after : List ℕ → List ℕ → Option (List ℕ)
after [] text = Some text
after (byte ∷ bytes) [] = None
after (byte ∷ bytes) (x ∷ text) = if x == byte then after bytes text else None

-- CRLF, or LF alone: RFC 9112, 2.2
abbrev pub behind_cr : Reader LineEnd
behind_cr [] = None
behind_cr (byte ∷ rest) = if byte == 10 then Some (crlf, rest) else None

abbrev pub line_end : Reader LineEnd
line_end [] = None
line_end (byte ∷ rest) =
    if byte == 10 then Some (lf, rest) else (if byte == 13 then behind_cr rest else None)

-- the empty lines at the front, all of them: RFC 9112, 2.2
abbrev pub with_line : LineEnd → List LineEnd × List ℕ → List LineEnd × List ℕ
with_line end found = (end ∷ found.0, found.1)

abbrev pub empty_lines : List ℕ → List LineEnd × List ℕ
empty_lines [] = ([], [])
empty_lines (x ∷ []) = if x == 10 then (lf ∷ [], []) else ([], x ∷ [])
empty_lines (x ∷ y ∷ rest) =
    if x == 10 then with_line lf (empty_lines (y ∷ rest))
    else (if x == 13 && y == 10 then with_line crlf (empty_lines rest) else ([], x ∷ y ∷ rest))

abbrev pub blank : Reader (List LineEnd)
blank text = Some (empty_lines text)

-- HTTP-version: RFC 9112, 2.3
abbrev pub minor : Option (List ℕ) → Option (ℕ × List ℕ)
minor None = None
minor (Some []) = None
minor (Some (byte ∷ rest)) =
    if byte == 48 then Some (0, rest) else (if byte == 49 then Some (1, rest) else None)

abbrev pub version : Reader ℕ
version text = minor (after (codes "HTTP/1.") text)

-- method SP, and request-target SP: RFC 9112, 3; a target is in UTF-8
abbrev pub method : Reader (List ℕ)
method = word is_token_byte 32

abbrev pub in_utf8 : Option (List ℕ × List ℕ) → Option (List ℕ × List ℕ)
in_utf8 None = None
in_utf8 (Some found) = if is_utf8 found.0 then Some found else None

abbrev pub target : Reader (List ℕ)
target text = in_utf8 (word is_uri_byte 32 text)

-- status-code = 3DIGIT, and [ SP reason-phrase ] with its line end: RFC 9112, 4
abbrev pub digit : Reader ℕ
digit [] = None
digit (byte ∷ rest) = if is_ascii_digit byte then Some (byte, rest) else None

abbrev pub blank_byte : Option (List ℕ) → Option (⊤ × List ℕ)
blank_byte None = None
blank_byte (Some rest) = Some (tt, rest)

abbrev pub space : Reader ⊤
space text = blank_byte (after (32 ∷ []) text)

abbrev pub line_text : Reader (List ℕ × LineEnd)
line_text text = with_first (run is_value_byte text) (line_end (past is_value_byte text))

abbrev pub phrase : List ℕ × LineEnd → Option (List ℕ) × LineEnd
phrase found = (Some found.0, found.1)

abbrev pub as_phrase : Option ((List ℕ × LineEnd) × List ℕ) → Option ((Option (List ℕ) × LineEnd) × List ℕ)
as_phrase None = None
as_phrase (Some found) = Some (phrase found.0, found.1)

abbrev pub reason_by : Option (List ℕ) → List ℕ → Option ((Option (List ℕ) × LineEnd) × List ℕ)
reason_by None text = with_first None (line_end text)
reason_by (Some rest) text = as_phrase (line_text rest)

abbrev pub reason : Reader (Option (List ℕ) × LineEnd)
reason text = reason_by (after (32 ∷ []) text) text

-- field-line line-end: RFC 9112, 5
abbrev pub FieldParts : Type 0
FieldParts = List ℕ × (List ℕ × LineEnd)

abbrev pub field : Reader FieldParts
field = both (word is_token_byte 58) line_text

abbrev pub field_of : FieldParts → Field
field_of parts = record { name = parts.0; raw = parts.1.0; end = parts.1.1 }

-- the field lines, at most so many, and the empty line that ends them
abbrev pub Lines : Type 0
Lines = List Field × LineEnd

abbrev pub lines_by : Option (LineEnd × List ℕ) → Option ((FieldParts × Lines) × List ℕ) → Option (Lines × List ℕ)
lines_by (Some end) more = Some (([], end.0), end.1)
lines_by None None = None
lines_by None (Some found) = Some ((field_of found.0.0 ∷ found.0.1.0, found.0.1.1), found.1)

abbrev pub lines : (room : ℕ) → Reader Lines
lines zero text = lines_by (line_end text) None
lines (suc room) text = lines_by (line_end text) (and_then (field text) (lines room))

-- nothing stands behind it
abbrev pub if_last : {A : Type 0} → A → List ℕ → Option A
if_last a [] = Some a
if_last a (byte ∷ rest) = None

abbrev pub alone : {A : Type 0} → Option (A × List ℕ) → Option A
alone None = None
alone (Some found) = if_last found.0 found.1
