-- Heads are read as the grammar has them.
use Rattle.std.proofs.Common.{◌≡◌, ℕ, zero, suc, ◌≤◌, List, [], ◌∷◌, ◌++◌, length, refl, sym, ap, subst, ◌∙◌, arith, Option, Some, None, Result, Ok, Err}
use Rattle.std.specs.Prelude.{⊤}
use Rattle.httparse.specs.Grammar as grammar
use Rattle.httparse.specs.Grammar.{Field, LineEnd, ReadsRequest, ReadsResponse}
use Rattle.httparse.specs.Pieces.{Blank, BlankLines, Bytes, Code, Digit, Method, Newline, Piece, Reason, RequestStart, ResponseStart, SectionOfAtMost, Stops, Target, Then, Version, is_newline}
use Rattle.httparse.proofs.GrammarLemmas.{request_from_pieces, request_head, request_pieces, request_tree, response_from_pieces, response_head, response_pieces}
use Rattle.httparse.proofs.PieceLemmas.{Stops_token}
use Rattle.px_bytes.specs.declared.fault.HttpFault.{HttpFault}
use Rattle.http_heads.specs.Heads.{GivesRequest, GivesResponse, IsRequestText, IsResponseText}
use Rattle.http_heads.specs.Lines.{minor_of}
use Rattle.http_heads.specs.Readers.{Reader, alone, blank, both, digit, if_last, line_end, lines, method, reason, space, target, version}
use Rattle.http_heads.specs.Reading.{IsTold, RequestIsRead, RequestParts, ResponseIsRead, ResponseParts, read_request, read_response, request, request_seen, response, response_seen, seen_by, told, version_of}
use Rattle.http_heads.specs.declared.fault.HeadFault.{HeadFault}
use Rattle.http_heads.specs.declared.fault.HeadFault.TheVariants.{Fault, Memory}
use Rattle.http_heads.specs.declared.request.RequestHead.{RequestHead}
use Rattle.http_heads.specs.declared.response.ResponseHead.{ResponseHead}
use Rattle.http_heads.proofs.OneHead.{request_one, response_one}
use Rattle.http_heads.proofs.Readers.{Reads, both_read, none_there, same_some}
use Rattle.http_heads.proofs.LineEnds.{blank_read, line_end_read}
use Rattle.http_heads.proofs.StartLines.{digit_read, method_read, reason_read, space_read, target_read, version_read}
use Rattle.http_heads.proofs.Sections.{lines_read}

-- nothing stands behind it
alone_by : {A : Type 0} (a : A) (rest : List ℕ) (b : A) → if_last a rest ≡ Some b → (a ≡ b) × (rest ≡ [])
alone_by a [] b is = (same_some a b is, refl)
alone_by a (x ∷ rest) b is = none_there b is

alone_is : {A : Type 0} (found : Option (A × List ℕ)) (a : A) → alone found ≡ Some a → found ≡ Some (a, [])
alone_is None a is = none_there a is
alone_is (Some f) a is = let both = alone_by f.0 f.1 a is in λ i. Some (both.0 i, both.1 i)

minor_back : (n : ℕ) → n ≤ 1 → minor_of (version_of n) ≡ n
minor_back zero few = refl
minor_back (suc zero) few = refl
minor_back (suc (suc n)) few = absurd (omega (arith, few))

-- ---- requests

abbrev Start : Piece (List LineEnd × (List ℕ × (List ℕ × (ℕ × LineEnd))))
Start = Then BlankLines (Then Method (Then Target (Then Version Newline)))

line_read : Reads (both version line_end) (Then Version Newline) (Then Version Newline)
line_read = both_read version line_end Version Version Newline Newline version_read line_end_read

targets_read : Reads (both target (both version line_end)) (Then Target (Then Version Newline)) (Then Target (Then Version Newline))
targets_read = both_read target (both version line_end) Target Target (Then Version Newline) (Then Version Newline) target_read line_read

methods_read : Reads (both method (both target (both version line_end))) (Then Method (Then Target (Then Version Newline))) (Then Method (Then Target (Then Version Newline)))
methods_read = both_read method (both target (both version line_end)) Method Method (Then Target (Then Version Newline)) (Then Target (Then Version Newline)) method_read targets_read

start_read : Reads (both blank (both method (both target (both version line_end)))) Start RequestStart
start_read =
    both_read blank (both method (both target (both version line_end))) BlankLines Blank (Then Method (Then Target (Then Version Newline))) (Then Method (Then Target (Then Version Newline)))
    blank_read methods_read

request_read : Reads request (Then Start (SectionOfAtMost 100)) (Then RequestStart (SectionOfAtMost 100))
request_read = both_read (both blank (both method (both target (both version line_end)))) (lines 100) Start RequestStart (SectionOfAtMost 100) (SectionOfAtMost 100) start_read (lines_read 100)

-- the empty lines are all of them, since a method follows
full_start : (t : List LineEnd × (List ℕ × (List ℕ × (ℕ × LineEnd)))) (text rest : List ℕ) → Start t text rest → RequestStart t text rest
full_start t text rest is =
    let word = is.2.1 in
    (is.0, (is.1, subst (Stops is_newline) (sym word.2) (Stops_token t.1.0 _ word.0 word.1)), is.2)

request_there : (bytes : List ℕ) (parts : RequestParts) → request bytes ≡ Some (parts, []) → IsRequestText bytes (request_head parts)
request_there bytes parts is =
    let found = request_read.sound bytes parts [] is in
    let start = full_start parts.0 bytes found.0 found.1 in
    (request_from_pieces bytes parts [] (found.0, start, found.2.0), found.2.1)

gives_request : (bytes : List ℕ) (found : Option RequestParts) → alone (request bytes) ≡ found → GivesRequest (told (seen_by request_seen found)) bytes
gives_request bytes (Some parts) is =
    let text = request_there bytes parts (alone_is (request bytes) parts is) in
    (request_head parts, text, record { method = refl; target = refl; version = minor_back parts.0.1.1.1.0 text.0.0.minor; fields = refl })
gives_request bytes None is = (
  refl,
  λ h text.
      let pieces = request_pieces bytes h [] text.0 in
      let found = request_read.whole (request_tree h) bytes [] (pieces.0, pieces.1, (pieces.2, text.1)) in
      none_there (request_tree h) (sym is ∙ ap alone found),
)

request_by : (bytes : List ℕ) (r : Result RequestHead HttpFault) → GivesRequest (told r) bytes → (given : Result RequestHead HeadFault) → GivesRequest given bytes → IsTold given r
request_by bytes r is (Err Memory) there = tt
request_by bytes (Ok a) is (Ok b) there = ap Ok (request_one bytes b a there is)
request_by bytes (Ok a) is (Err (Fault f)) there = absurd (there.1 is.0 is.1)
request_by bytes (Err g) is (Ok b) there = absurd (is.1 there.0 there.1)
request_by bytes (Err g) is (Err (Fault f)) there = ap (λ x. Err (Fault x)) (there.0 ∙ sym is.0)

pub request_told : (bytes : List ℕ) (r : Result RequestHead HeadFault) → GivesRequest r bytes → IsTold r (read_request bytes)
request_told bytes r there = request_by bytes (read_request bytes) (gives_request bytes (alone (request bytes)) refl) r there

pub request_is_read : RequestIsRead
request_is_read bytes = (gives_request bytes (alone (request bytes)) refl, request_told bytes)

-- ---- responses

abbrev Digits : Reader (ℕ × (ℕ × ℕ))
Digits = both digit (both digit digit)

abbrev Behind : Piece (⊤ × ((ℕ × (ℕ × ℕ)) × (Option (List ℕ) × LineEnd)))
Behind = Then (Bytes (32 ∷ [])) (Then Code Reason)

abbrev Status : Piece (List LineEnd × (ℕ × (⊤ × ((ℕ × (ℕ × ℕ)) × (Option (List ℕ) × LineEnd)))))
Status = Then BlankLines (Then Version Behind)

code_read : Reads Digits Code Code
code_read = both_read digit (both digit digit) Digit Digit (Then Digit Digit) (Then Digit Digit) digit_read (both_read digit digit Digit Digit Digit Digit digit_read digit_read)

behind_read : Reads (both space (both Digits reason)) Behind Behind
behind_read =
    both_read space (both Digits reason) (Bytes (32 ∷ [])) (Bytes (32 ∷ [])) (Then Code Reason) (Then Code Reason) space_read
    (both_read Digits reason Code Code Reason Reason code_read reason_read)

status_read : Reads (both blank (both version (both space (both Digits reason)))) Status ResponseStart
status_read =
    both_read blank (both version (both space (both Digits reason))) BlankLines Blank (Then Version Behind) (Then Version Behind) blank_read
    (both_read version (both space (both Digits reason)) Version Version Behind Behind version_read behind_read)

response_read : Reads response (Then Status (SectionOfAtMost 100)) (Then ResponseStart (SectionOfAtMost 100))
response_read = both_read (both blank (both version (both space (both Digits reason)))) (lines 100) Status ResponseStart (SectionOfAtMost 100) (SectionOfAtMost 100) status_read (lines_read 100)

full_status : (t : List LineEnd × (ℕ × (⊤ × ((ℕ × (ℕ × ℕ)) × (Option (List ℕ) × LineEnd))))) (text rest : List ℕ) → Status t text rest → ResponseStart t text rest
full_status t text rest is =
    let first = is.2.1 in
    (is.0, (is.1, subst (Stops is_newline) (sym first.1) (begins t.1.0 is.2.0)), is.2)
  where
    begins : (n : ℕ) (after : List ℕ) → Stops is_newline (grammar.print_version n ++ after)
    begins n after = refl

response_there : (bytes : List ℕ) (parts : ResponseParts) → response bytes ≡ Some (parts, []) → IsResponseText bytes (response_head parts)
response_there bytes parts is =
    let found = response_read.sound bytes parts [] is in
    let start = full_status parts.0 bytes found.0 found.1 in
    (response_from_pieces bytes parts [] (found.0, start, found.2.0), found.2.1)

gives_response : (bytes : List ℕ) (found : Option ResponseParts) → alone (response bytes) ≡ found → GivesResponse (told (seen_by response_seen found)) bytes
gives_response bytes (Some parts) is =
    let text = response_there bytes parts (alone_is (response bytes) parts is) in
    (response_head parts, text, record { version = minor_back parts.0.1.0 text.0.0.minor; status = refl; reason = refl; fields = refl })
gives_response bytes None is = (
  refl,
  λ h text.
      let tree = response_pieces bytes h [] text.0 in
      let few = subst (λ (k : grammar.ResponseHead). length k.fields ≤ 100) (sym tree.1) text.1 in
      let found = response_read.whole tree.0 bytes [] (tree.2.0, tree.2.1, (tree.2.2, few)) in
      none_there tree.0 (sym is ∙ ap alone found),
)

response_by : (bytes : List ℕ) (r : Result ResponseHead HttpFault) → GivesResponse (told r) bytes → (given : Result ResponseHead HeadFault) → GivesResponse given bytes → IsTold given r
response_by bytes r is (Err Memory) there = tt
response_by bytes (Ok a) is (Ok b) there = ap Ok (response_one bytes b a there is)
response_by bytes (Ok a) is (Err (Fault f)) there = absurd (there.1 is.0 is.1)
response_by bytes (Err g) is (Ok b) there = absurd (is.1 there.0 there.1)
response_by bytes (Err g) is (Err (Fault f)) there = ap (λ x. Err (Fault x)) (there.0 ∙ sym is.0)

pub response_told : (bytes : List ℕ) (r : Result ResponseHead HeadFault) → GivesResponse r bytes → IsTold r (read_response bytes)
response_told bytes r there = response_by bytes (read_response bytes) (gives_response bytes (alone (response bytes)) refl) r there

pub response_is_read : ResponseIsRead
response_is_read bytes = (gives_response bytes (alone (response bytes)) refl, response_told bytes)
