use Rattle.std.proofs.Common.{◌≡◌, map, take}
use Rattle.http_cookies.proofs.message.cookie_names.Given as goal

abbrev pub invariant-loop-cookie : goal.invariant-loop-cookie
invariant-loop-cookie l = l.names ≡ map (λ c. c.0) (take l.cookie-index l.found)
