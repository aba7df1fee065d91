-- The parts of a first line: RFC 9112, 3 and 4.
use Rattle.std.specs.Prelude.{ℕ, ◌<◌, Bool, ◌&&◌, List, length, nat_lt, Option, Some, None, IsUtf8}
use Rattle.std.specs.Prelude.{if◌then◌else◌}
use Rattle.std.specs.Char.{is_ascii_graphic}
use Rattle.std.specs.List.{list_all}
use Rattle.httparse.specs.Grammar.{AllPass, is_uri_byte}
use Rattle.http_heads.specs.declared.line.Version.{Version}
use Rattle.http_heads.specs.declared.line.Version.TheVariants.{Http10, Http11}

abbrev pub minor_of : Version → ℕ
minor_of Http10 = 0
minor_of Http11 = 1

-- what a target may be, by the grammar of `httparse`: visible characters, also past ASCII, in UTF-8
pub record IsTarget (text : List ℕ) : Type 0 where
  pub some : 0 < length text
  pub visible : AllPass is_uri_byte text
  pub characters : IsUtf8 text

-- one byte or more, from 21 to 7e
abbrev pub is_visible_target : List ℕ → Bool
is_visible_target text = nat_lt 0 (length text) && list_all is_ascii_graphic text

abbrev pub target_made : List ℕ → Option (List ℕ)
target_made text = if is_visible_target text then Some text else None
