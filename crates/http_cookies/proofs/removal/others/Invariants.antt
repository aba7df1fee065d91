use Rattle.std.proofs.Common.{◌≡◌, drop, None}
use Rattle.http_cookies.specs.MessageCookies.{joined_onto, others}
use Rattle.http_cookies.proofs.removal.others.Given as goal

abbrev pub invariant-loop-cookie : goal.invariant-loop-cookie
invariant-loop-cookie l =
    joined_onto l.value (others l.name (drop l.cookie-index l.found))
    ≡ joined_onto None (others l.name l.found)
