-- What holds of answers.
use Rattle.std.specs.Prelude.{◌≡◌, ℕ, ◌≤◌, true, List, [], ◌++◌, length, Option, Some, None, Result, Ok}
use Rattle.std.specs.List.{list_all}
use Rattle.px_bytes.specs.declared.fault.HttpFault.{HttpFault}
use Rattle.http_frames.specs.Bodies.{response_body}
use Rattle.http_frames.specs.declared.state.Body.{Body}
use Rattle.http_frames.specs.declared.state.Body.TheVariants as body
use Rattle.http_heads.specs.Fields.{is_field}
use Rattle.http_heads.specs.Heads.{GivesResponse, bare_response}
use Rattle.http_heads.specs.Written.{written_response}
use Rattle.http_heads.specs.declared.line.Version.{Version}
use Rattle.http_heads.specs.declared.request.RequestHead.{RequestHead}
use Rattle.http_heads.specs.declared.response.ResponseHead.{ResponseHead}
use Rattle.http_answers.specs.Answers.{Answer, composed}

-- the content that follows, by how the length of a body is known
abbrev pub HasContent : Result Body HttpFault → List ℕ → Type 0
HasContent (Ok (body.Length n)) content = n ≡ length content
HasContent (Ok body.None) content = content ≡ []
HasContent other content = ⊥

abbrev pub method_of : Option RequestHead → List ℕ
method_of None = []
method_of (Some head) = head.method

-- Bytes are a response's head, which is read back, and its content, whose length the head tells to who asked by
-- this request.
pub record IsAnswer (request : Option RequestHead) (bytes : List ℕ) : Type 0 where
  pub head : ResponseHead
  pub content : List ℕ
  pub bytes_are : bytes ≡ written_response head ++ content
  pub reads : GivesResponse (Ok (bare_response head)) (written_response head)
  pub body : (version : Version)
      → HasContent (response_body (bare_response head) (method_of request) version) content

-- an answer as commands make it: names and values that are fields, a code from 200 to 599, and a content of at most
-- 1,048,576 bytes
pub record Made (a : Answer) : Type 0 where
  pub given : list_all is_field a.given ≡ true
  pub least : 200 ≤ a.code
  pub most : a.code ≤ 599
  pub few : length a.content ≤ 1048576

-- What is sent of it is a head that is read back, and a content of the length that the head tells.
abbrev pub AnswersAreRead : Type 0
AnswersAreRead = (request : Option RequestHead) (a : Answer) (text : List ℕ) → Made a
    → composed request a ≡ Some text → IsAnswer request text
