-- What holds of HTTP commands, one after another.
use Rattle.std.specs.Prelude.{◌≡◌, ◌⊎◌, ℕ, ◌+◌, ◌≤◌, true, false, List, [], ◌∷◌, ◌++◌, length, Option, Some, None}
use Rattle.std.specs.Prelude.{is_some, sum_by, ⊤}
use Rattle.px_bytes.specs.Host.{Effect, Gives, Faults, Asks, Logged, Sent}
use Rattle.px_bytes.specs.declared.addr.Side.TheVariants.{Client, Server}
use Rattle.px_bytes.specs.Limit.{text_limit}
use Rattle.event_order.specs.declared.event.EventName.{EventName}
use Rattle.http_heads.specs.Written.{written_request, written_response}
use Rattle.http_heads.specs.declared.request.RequestHead.{RequestHead}
use Rattle.http_heads.specs.declared.response.ResponseHead.{ResponseHead}
use Rattle.event_order.specs.declared.command.HostCommand.TheVariants.{HttpRespond}
use Rattle.irule_net.specs.Checks.{allows}
use Rattle.irule_net.specs.Laws.{sent_to}
use Rattle.http_answers.specs.Laws.{IsAnswer}
use Rattle.irule_http.specs.Answers.{answer_limit}
use Rattle.irule_http.specs.Commands.{http_step}
use Rattle.irule_http.specs.Edits.{Step}
use Rattle.http_answers.specs.Limits.{head_limit}
use Rattle.irule_http.specs.Payload.{payload_limit}
use Rattle.irule_http.specs.State.{begun}
use Rattle.irule_http.specs.declared.state.Http.{Http}

-- the state that a step leaves, and its effects
abbrev pub left : Step → Http
left (Gives v h effects) = h
left (Faults f h effects) = h
left (Asks call h) = h

abbrev pub made : Step → List Effect
made (Gives v h effects) = effects
made (Faults f h effects) = effects
made (Asks call h) = []

-- commands, each by its words, that the bodies of an event call one after another
abbrev pub Calls : Type 0
Calls = List (List (List ℕ))

abbrev pub made_behind : EventName → Http → Calls → List Effect
made_behind event h [] = []
made_behind event h (words ∷ calls) =
    made (http_step event h words) ++ made_behind event (left (http_step event h words)) calls

-- The bodies of one event never send more than 1,114,112 bytes to the client, and none to a server.
abbrev pub AnswersAreBounded : Type 0
AnswersAreBounded = (event : EventName) (h : Http) (calls : Calls)
    → (sent_to Client (made_behind event (begun h) calls) ≤ answer_limit)
    × (sent_to Server (made_behind event (begun h) calls) ≡ 0)

-- What a command sends to the client is counted, and it sends nothing to a server.
pub record Counts (h : Http) (step : Step) : Type 0 where
  pub client : (left step).made ≡ h.made + sent_to Client (made step)
  pub server : sent_to Server (made step) ≡ 0
  pub within : h.made ≤ answer_limit → (left step).made ≤ answer_limit

abbrev pub AnswersAreCounted : Type 0
AnswersAreCounted = (event : EventName) (h : Http) (words : List (List ℕ))
    → Counts h (http_step event h words)

-- A payload of at most 1,048,576 bytes stays so.
abbrev pub PayloadFits : Type 0
PayloadFits = (event : EventName) (h : Http) (words : List (List ℕ))
    → length h.payload ≤ payload_limit → length (left (http_step event h words)).payload ≤ payload_limit

-- A head of at most 100 fields, and of at most so many bytes as it is written.
abbrev pub RequestWithin : ℕ → Option RequestHead → Type 0
RequestWithin most None = ⊤
RequestWithin most (Some head) =
    (length head.fields ≤ 100) × (length (written_request head) ≤ most)

abbrev pub ResponseWithin : ℕ → Option ResponseHead → Type 0
ResponseWithin most None = ⊤
ResponseWithin most (Some head) =
    (length head.fields ≤ 100) × (length (written_response head) ≤ most)

pub record HeadsWithin (most : ℕ) (h : Http) : Type 0 where
  pub request : RequestWithin most h.request
  pub response : ResponseWithin most h.response

-- Heads of at most so many bytes stay so, from 65,536 on.
abbrev pub HeadsFit : Type 0
HeadsFit = (most : ℕ) (event : EventName) (h : Http) (words : List (List ℕ)) → head_limit ≤ most
    → HeadsWithin most h → HeadsWithin most (left (http_step event h words))

-- What is known of the messages as they came, of the body at hand, and of the server's connection.
pub record Keeps (h t : Http) : Type 0 where
  pub number : t.number ≡ h.number
  pub came : t.came ≡ h.came
  pub answered_by : t.answered_by ≡ h.answered_by
  pub body : t.body ≡ h.body
  pub reader : t.reader ≡ h.reader
  pub whole : t.whole ≡ h.whole
  pub gathered : t.gathered ≡ h.gathered
  pub detaches : t.detaches ≡ h.detaches
  pub serves : t.serves ≡ h.serves

-- No command changes it.
abbrev pub KeepsMessage : Type 0
KeepsMessage = (event : EventName) (h : Http) (words : List (List ℕ))
    → Keeps h (left (http_step event h words))

-- a fault leaves the state and sends nothing; no shared call is asked
abbrev pub LeavesState : Http → Step → Type 0
LeavesState h (Gives v t effects) = ⊤
LeavesState h (Faults f t effects) = (t ≡ h) × (effects ≡ [])
LeavesState h (Asks call t) = ⊥

abbrev pub FaultsChangeNothing : Type 0
FaultsChangeNothing = (event : EventName) (h : Http) (words : List (List ℕ))
    → LeavesState h (http_step event h words)

-- nothing is sent, and all is left but whether a rule closes the client's connection
pub record OnlyCloses (h : Http) (step : Step) : Type 0 where
  pub sent : made step ≡ []
  pub left : left step ≡ record h { closes = (left step).closes }

-- Behind an answer no command does more than that: it edits, collects, releases and answers nothing.
abbrev pub AnsweredOnce : Type 0
AnsweredOnce = (event : EventName) (h : Http) (words : List (List ℕ)) → is_some h.answer ≡ true
    → OnlyCloses h (http_step event h words)

-- In an event in which no rule may answer no command sends.
abbrev pub Silent : Type 0
Silent = (event : EventName) (h : Http) (words : List (List ℕ)) → allows HttpRespond event ≡ false
    → made (http_step event h words) ≡ []

-- all that is sent is an answer to the client
abbrev pub SendsAnswers : Option RequestHead → List Effect → Type 0
SendsAnswers request [] = ⊤
SendsAnswers request (Logged line ∷ effects) = SendsAnswers request effects
SendsAnswers request (Sent Client bytes ∷ effects) = IsAnswer request bytes × SendsAnswers request effects
SendsAnswers request (Sent Server bytes ∷ effects) = ⊥

-- What a command of at most 1,048,576 bytes sends is such an answer.
abbrev pub AnswersReadBack : Type 0
AnswersReadBack = (event : EventName) (h : Http) (words : List (List ℕ)) → sum_by length words ≤ text_limit
    → SendsAnswers h.request (made (http_step event h words))

-- nothing is sent, and whether a rule has answered is as before
pub record SendsNothing (h : Http) (step : Step) : Type 0 where
  pub sent : made step ≡ []
  pub same : is_some (left step).answer ≡ is_some h.answer

-- the answer is sent, where no rule has answered before
pub record SendsAnswer (h : Http) (step : Step) : Type 0 where
  pub bytes : List ℕ
  pub sent : made step ≡ Sent Client bytes ∷ []
  pub before : is_some h.answer ≡ false
  pub after : is_some (left step).answer ≡ true

abbrev pub Once : Http → Step → Type 0
Once h step = SendsNothing h step ⊎ SendsAnswer h step

-- A command sends nothing, or it is the one answer of a rule to the request at hand.
abbrev pub AnswersGoAlone : Type 0
AnswersGoAlone = (event : EventName) (h : Http) (words : List (List ℕ)) → Once h (http_step event h words)
