-- Quoted tokens: bytes stand for themselves, but for `\"`, `\\` and `\xHH`.
use Rattle.std.specs.Prelude.{ℕ, ◌+◌, ◌*◌, ◌==◌, nat_lt, ◌&&◌, ◌||◌, List, [], ◌∷◌, ◌++◌, Option, Some, None}
use Rattle.std.specs.Prelude.{option_map, if◌then◌else◌}
use Rattle.std.specs.Char.{digit_value, is_digit}
use Rattle.tmsh_read.specs.declared.quoted.Quote.{Quote}
use Rattle.tmsh_read.specs.declared.quoted.Quote.TheVariants.{Plain, Escape, High, Low}
use Rattle.tmsh_read.specs.declared.quoted.Quoting.{Quoting}
use Rattle.tmsh_read.specs.declared.quoted.Quoting.TheVariants.{Ends, Goes, Adds, Breaks}
use Rattle.tmsh_read.specs.declared.quoted.Inside.{Inside}

abbrev pub plain_after : ℕ → Quoting
plain_after byte =
    if byte == 34 then Ends else (if byte == 92 then Goes Escape else Adds byte)

abbrev pub escape_after : ℕ → Quoting
escape_after byte =
    if byte == 34 || byte == 92 then Adds byte else (if byte == 120 then Goes High else Breaks)

abbrev pub high_after : ℕ → Quoting
high_after byte = if is_digit byte 16 then Goes (Low (digit_value byte)) else Breaks

-- behind a digit of this value
abbrev pub low_after : ℕ → ℕ → Quoting
low_after high byte =
    if is_digit byte 16 && nat_lt high 16 then Adds (16 * high + digit_value byte) else Breaks

abbrev pub quote_after : Quote → ℕ → Quoting
quote_after Plain byte = plain_after byte
quote_after Escape byte = escape_after byte
quote_after High byte = high_after byte
quote_after (Low high) byte = low_after high byte

-- what a quoted token stands for, and how many bytes it has behind its first quote
pub record Read : Type 0 where
  pub value : List ℕ
  pub size : ℕ

abbrev pub unquoted_view : Inside → Read
unquoted_view u = record { value = u.value.items; size = u.size }

-- with these bytes in front
abbrev pub behind : List ℕ → ℕ → Option Read → Option Read
behind value size read =
    option_map (λ r. record { value = value ++ r.value; size = size + r.size }) read

-- by what a byte does, where `more` reads the bytes behind it
abbrev pub by_quoting : Quoting → (more : Quote → Option Read) → Option Read
by_quoting Ends more = Some (record { value = []; size = 1 })
by_quoting (Goes quote) more = behind [] 1 (more quote)
by_quoting (Adds byte) more = behind (byte ∷ []) 1 (more Plain)
by_quoting Breaks more = None

-- the token of these bytes, of which the first stands so within quotes
abbrev pub unquoted : Quote → List ℕ → Option Read
unquoted quote [] = None
unquoted quote (byte ∷ bytes) = by_quoting (quote_after quote byte) (λ next. unquoted next bytes)
