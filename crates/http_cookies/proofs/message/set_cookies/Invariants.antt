use Rattle.std.proofs.Common.{◌≡◌, ◌++◌, drop}
use Rattle.http_cookies.specs.MessageCookies.{set_cookies}
use Rattle.http_cookies.proofs.message.set_cookies.Given as goal

abbrev pub invariant-loop-field : goal.invariant-loop-field
invariant-loop-field l = l.found ++ set_cookies (drop l.field-index l.fields) ≡ set_cookies l.fields
