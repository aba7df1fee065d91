-- What holds of messages that were read.
use Rattle.std.specs.Prelude.{◌≡◌, ℕ, ◌+◌, List, length, Option, Some, Ok}
use Rattle.http_heads.specs.Laws.{growth}
use Rattle.http_messages.specs.Messages.{request_of, response_of}
use Rattle.irule_http.specs.Laws.{RequestWithin, ResponseWithin}
use Rattle.irule_http.specs.declared.state.Request.{Request}
use Rattle.irule_http.specs.declared.state.Response.{Response}

-- A request's head has at most 100 fields, and is hardly longer as it is written than as it came.
abbrev pub RequestsAreShort : Type 0
RequestsAreShort = (bytes : List ℕ) (r : Request) → request_of bytes ≡ Ok r
    → RequestWithin (length bytes + growth) (Some r.head)

-- The same of responses.
abbrev pub ResponsesAreShort : Type 0
ResponsesAreShort = (asked : Option Request) (bytes : List ℕ) (r : Response)
    → response_of asked bytes ≡ Ok r → ResponseWithin (length bytes + growth) (Some r.head)
