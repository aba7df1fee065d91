-- Examples of the spellings.
use Rattle.std.proofs.Common.{◌≡◌, [], true, false, refl}
use Rattle.std.specs.Prelude.{codes}
use Rattle.std.specs.Fmt.{digits}
use Rattle.px_bytes.specs.Address.{addr_text}
use Rattle.px_bytes.specs.Escapes.{escaped}
use Rattle.px_bytes.specs.GlobTest.{matches}
use Rattle.px_bytes.specs.Hexadecimal.{hex_text}

no_bytes : hex_text [] ≡ codes "-"
no_bytes = refl

hi_7 : hex_text (codes "hi 7") ≡ codes "68692037"
hi_7 = refl

line : escaped (codes "a\n") ≡ codes "a\\x0a"
line = refl

port_80 : addr_text (record { ip = 167772161; port = 80 }) ≡ codes "10.0.0.1:80"
unfolding digits
port_80 = refl

dash_before_bracket : matches (codes "[a-]") (codes "-") ≡ true
dash_before_bracket = refl

no_range_to_bracket : matches (codes "[a-]") (codes "]") ≡ false
no_range_to_bracket = refl

last_backslash : matches (codes "a\\") (codes "a\\") ≡ true
last_backslash = refl
