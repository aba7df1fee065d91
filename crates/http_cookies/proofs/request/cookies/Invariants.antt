use Rattle.std.proofs.Common.{◌≡◌, ◌++◌, drop}
use Rattle.http_cookies.specs.Cookies.{cookies}
use Rattle.http_cookies.proofs.request.cookies.Given as goal

abbrev pub invariant-loop-field : goal.invariant-loop-field
invariant-loop-field l = l.pairs ++ cookies (drop l.field-index l.fields) ≡ cookies l.fields
