use Rattle.std.proofs.Common.{◌≡◌, ◌++◌, drop}
use Rattle.http_cookies.specs.MessageCookies.{without_cookie}
use Rattle.http_cookies.proofs.removal.without_cookie.Given as goal

abbrev pub invariant-loop-field : goal.invariant-loop-field
invariant-loop-field l =
    l.left.items ++ without_cookie l.response l.name (drop l.field-index l.fields)
    ≡ without_cookie l.response l.name l.fields
