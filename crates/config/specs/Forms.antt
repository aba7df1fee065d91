-- The forms of texts.
use Rattle.std.specs.Prelude.{ℕ, Bool, true, ◌&&◌, ◌||◌, ◌==◌, List, length, is_some, nat_le}
use Rattle.std.specs.Prelude.{nat_lt}
use Rattle.std.specs.List.{list_all}
use Rattle.tcl_encodings.specs.Addr.{addr_of}
use Rattle.config.specs.declared.key.Form.{Form}
use Rattle.config.specs.declared.key.Form.TheVariants.{Any, Name, Address}

-- what a name is made of: ASCII letters and digits, `_`, `-`, `.` and `/`
abbrev pub is_name_byte : ℕ → Bool
is_name_byte b =
    (nat_le 97 b && nat_le b 122) || (nat_le 65 b && nat_le b 90) || (nat_le 48 b && nat_le b 57)
    || (b == 95) || (b == 45) || (b == 46) || (b == 47)

-- 1 to 64 such bytes
abbrev pub is_name : List ℕ → Bool
is_name text = nat_lt 0 (length text) && nat_le (length text) 64 && list_all is_name_byte text

abbrev pub has_form : Form → List ℕ → Bool
has_form Any text = true
has_form Name text = is_name text
has_form Address text = is_some (addr_of text)
