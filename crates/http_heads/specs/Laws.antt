-- What holds of heads.
use Rattle.std.specs.Prelude.{◌≡◌, ℕ, ◌+◌, ◌^◌, ◌<◌, ◌≤◌, true, List, length, Option, Some, None, Ok, ⊤}
use Rattle.std.specs.List.{list_all}
use Rattle.httparse.specs.Grammar.{is_token, is_value_byte}
use Rattle.http_heads.specs.Fields.{AreFields, are_trimmed}
use Rattle.http_heads.specs.Forwarded.{forwarded_request, forwarded_response}
use Rattle.http_heads.specs.Heads.{GivesRequest, GivesResponse}
use Rattle.http_heads.specs.Lines.{IsTarget}
use Rattle.http_heads.specs.Received.{received_request, received_response}
use Rattle.http_heads.specs.Written.{written_request, written_response}
use Rattle.http_heads.specs.declared.forwarded.ConnectionOption.{ConnectionOption}
use Rattle.http_heads.specs.declared.request.RequestHead.{RequestHead}
use Rattle.http_heads.specs.declared.response.ResponseHead.{ResponseHead}

-- bytes are at most one request head, so what is written of a head is read as that one and no other
abbrev pub RequestIsOne : Type 0
RequestIsOne = (bytes : List ℕ) (a b : RequestHead)
    → GivesRequest (Ok a) bytes → GivesRequest (Ok b) bytes → a ≡ b

-- the same of responses
abbrev pub ResponseIsOne : Type 0
ResponseIsOne = (bytes : List ℕ) (a b : ResponseHead)
    → GivesResponse (Ok a) bytes → GivesResponse (Ok b) bytes → a ≡ b

-- heads as the types hold them
pub record IsRequestHead (head : RequestHead) : Type 0 where
  pub method : is_token head.method ≡ true
  pub target : IsTarget head.target
  pub fields : AreFields head.fields

pub record IsResponseHead (head : ResponseHead) : Type 0 where
  pub status : head.status < 1000
  pub reason : list_all is_value_byte head.reason ≡ true
  pub fields : AreFields head.fields

-- What is written of a head whose values have no white space around them is read as that very head.
abbrev pub RequestComesBack : Type 0
RequestComesBack = (head : RequestHead) → IsRequestHead head → are_trimmed head.fields ≡ true
    → GivesRequest (Ok head) (written_request head)

abbrev pub ResponseComesBack : Type 0
ResponseComesBack = (head : ResponseHead) → IsResponseHead head → are_trimmed head.fields ≡ true
    → GivesResponse (Ok head) (written_response head)

-- A head that was read has no other values.
abbrev pub RequestIsTrimmed : Type 0
RequestIsTrimmed = (bytes : List ℕ) (head : RequestHead) → GivesRequest (Ok head) bytes
    → are_trimmed head.fields ≡ true

abbrev pub ResponseIsTrimmed : Type 0
ResponseIsTrimmed = (bytes : List ℕ) (head : ResponseHead) → GivesResponse (Ok head) bytes
    → are_trimmed head.fields ≡ true

-- how much longer a head may be as it is written, with its line ends and blanks, than as it came
abbrev pub growth : ℕ
growth = 212

-- A head that was received has at most 100 fields, and is hardly longer as it is written than as it came.
abbrev pub RequestStaysShort : Type 0
RequestStaysShort = (bytes : List ℕ) (head seen : RequestHead) → GivesRequest (Ok head) bytes
    → received_request head ≡ Ok seen
    → (length seen.fields ≤ 100) × (length (written_request seen) ≤ length bytes + growth)

abbrev pub ResponseStaysShort : Type 0
ResponseStaysShort = (bytes : List ℕ) (head : ResponseHead) → GivesResponse (Ok head) bytes
    → (length (received_response head).fields ≤ 100)
    × (length (written_response (received_response head)) ≤ length bytes + growth)

-- how much longer a head may be forwarded: by the digits of a length, and by a Connection field
abbrev pub forwarded_growth : ℕ
forwarded_growth = 44

abbrev pub FitsWord : Option ℕ → Type 0
FitsWord None = ⊤
FitsWord (Some n) = n < 2 ^ 64

-- A head is hardly longer as it is forwarded.
abbrev pub ForwardedRequestIsShort : Type 0
ForwardedRequestIsShort = (size : Option ℕ) (head : RequestHead) → FitsWord size
    → length (written_request (forwarded_request size head)) ≤ length (written_request head) + forwarded_growth

abbrev pub ForwardedResponseIsShort : Type 0
ForwardedResponseIsShort = (size : Option ℕ) (option : Option ConnectionOption) (head : ResponseHead)
    → FitsWord size → length (written_response (forwarded_response size option head))
    ≤ length (written_response head) + forwarded_growth
