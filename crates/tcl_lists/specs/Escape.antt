-- Backslashes and what they stand for: Tcl 8.4, Tcl(n), "Backslash substitution". A number counts
-- modulo 256, since a text is a list of bytes; so the last two hexadecimal digits count.
use Rattle.std.specs.Prelude.{ℕ, zero, suc, ◌+◌, ◌%◌, Bool, ◌||◌, List, [], ◌∷◌, length, take, ◌==◌}
use Rattle.std.specs.Prelude.{if◌then◌else◌}
use Rattle.std.specs.Char.{is_digit}
use Rattle.std.specs.List.{prefix_len, take_while}
use Rattle.std.specs.Str.Parse.{digits_value}
use Rattle.tcl_lists.specs.declared.escape.Escape.{Escape}

-- the digits at the front
abbrev pub digits : ℕ → List ℕ → List ℕ
digits radix text = take_while (λ byte. is_digit byte radix) text

-- the byte that digits write
abbrev pub digits_byte : ℕ → List ℕ → ℕ
digits_byte radix ds = digits_value radix ds % 256

-- `\n` and its like
abbrev pub letter_byte : ℕ → ℕ
letter_byte letter =
    if letter == 97 then 7
    else (if letter == 98 then 8
    else (if letter == 102 then 12
    else (if letter == 110 then 10
    else (if letter == 114 then 13
    else (if letter == 116 then 9
    else (if letter == 118 then 11 else letter))))))

-- a letter and hexadecimal digits behind it; where there are none the letter stands for itself
abbrev pub numbered : ℕ → List ℕ → Escape
numbered letter [] = record { byte = letter; taken = 1 }
numbered letter (d ∷ ds) =
    record { byte = digits_byte 16 (d ∷ ds); taken = length (d ∷ ds) + 1 }

-- one to three octal digits
abbrev pub octal : List ℕ → Escape
octal ds = record { byte = digits_byte 8 ds; taken = length ds }

-- a newline and the blanks behind it stand for one blank
abbrev pub is_blank : ℕ → Bool
is_blank byte = byte == 32 || byte == 9

-- The bytes behind a backslash: one to three octal digits, `x` and hexadecimal digits, `u` and one
-- to four, a newline, or any other byte. A last backslash stands for itself.
abbrev pub escape : List ℕ → Escape
escape [] = record { byte = 92; taken = 0 }
escape (b ∷ rest) =
    if is_digit b 8 then octal (digits 8 (take 3 (b ∷ rest)))
    else (if b == 120 then numbered b (digits 16 rest)
    else (if b == 117 then numbered b (digits 16 (take 4 rest))
    else (if b == 10 then record { byte = 32; taken = prefix_len is_blank rest + 1 }
    else record { byte = letter_byte b; taken = 1 })))

-- the bytes behind the first `skip`, each backslash and what it takes replaced
abbrev pub replaced_from : ℕ → List ℕ → List ℕ
replaced_from skip [] = []
replaced_from (suc skip) (b ∷ rest) = replaced_from skip rest
replaced_from zero (b ∷ rest) =
    if b == 92
    then (let e = escape rest in e.byte ∷ replaced_from e.taken rest)
    else b ∷ replaced_from 0 rest

-- all escapes replaced
abbrev pub replaced : List ℕ → List ℕ
replaced text = replaced_from 0 text
