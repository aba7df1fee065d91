-- What holds of members' cookies.
use Rattle.std.specs.Prelude.{◌≡◌}
use Rattle.px_bytes.specs.declared.addr.Addr.{Addr}
use Rattle.http_cookies.specs.MemberCookie.{IsAddr, bigip_text}

-- no two members have the same value, so what is printed of one reads back as that one
abbrev pub ValuesAreApart : Type 0
ValuesAreApart = (a b : Addr) → IsAddr a → IsAddr b → bigip_text a ≡ bigip_text b → a ≡ b
